-- The bytes are zeros.
use Rattle.states.proofs.Loading.{cleared}
use Rattle.states.proofs.clear.Goals as goal

pub returns : goal.returns
returns c = cleared _ _ (c.fill.ensures.after (λ y e. e))
