use Rattle.std.proofs.Common.{rules}
use Rattle.accept.proofs.Walks.{ends}
use Rattle.accept.proofs.instructions.instructions.Goals as goal

pub returns-in_err-instructions : goal.returns-in_err-instructions
returns-in_err-instructions c = search (ends, rules)

pub returns : goal.returns
returns c = search (ends, rules)
