use Rattle.std.proofs.Common.{rules}
use Rattle.piton_run.proofs.Lines.{told_of}
use Rattle.piton_run.proofs.put_run.Goals as goal

pub returns-then-ran : goal.returns-then-ran
returns-then-ran c = search (told_of, rules)

pub returns-else-ran : goal.returns-else-ran
returns-else-ran c = search (told_of, rules)
