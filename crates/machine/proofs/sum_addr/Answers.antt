use Rattle.machine.proofs.Laws.{no_addr}
use Rattle.machine.proofs.sum_addr.Goals as goal

pub returns-in_err-value : goal.returns-in_err-value
returns-in_err-value c = no_addr _ _ _ _ _ c.in_err-value.ensures.err.0 c.in_err-value.ensures.err.1 c.from_residual.ensures.1
