use Rattle.std.proofs.Common.{rules}
use Rattle.lines.proofs.Laws.{rows}
use Rattle.lines.proofs.put_numbers.Goals as goal
use Rattle.lines.proofs.put_numbers.Goals.{then-i-numbers, else-i-numbers}

pub loop-i-preserved : goal.loop-i-preserved
loop-i-preserved c = elim c.if-i-numbers.branch [ then-i-numbers w ↦ search (rows, rules) | else-i-numbers w ↦ search (rows, rules) ]

pub returns : goal.returns
returns c = search (rows, rules)
