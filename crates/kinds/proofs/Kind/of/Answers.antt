use Rattle.std.proofs.Common.{arith}
use Rattle.kinds.proofs.Live.{entry}
use Rattle.kinds.proofs.Kind.of.Goals as goal

pub returns : goal.returns
returns c = entry c.args.code (omega arith)
