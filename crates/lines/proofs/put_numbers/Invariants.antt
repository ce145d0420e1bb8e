-- The invariant: i numbers stand behind `at`.
use Rattle.std.proofs.Common.{◌+◌, ◌*◌, ◌≤◌}
use Rattle.lines.specs.Written.{Wrote}
use Rattle.lines.proofs.Laws.{front}
use Rattle.lines.proofs.put_numbers.Given as goal

abbrev pub invariant-loop-i : goal.invariant-loop-i
invariant-loop-i l = Wrote l.initial.out l.at (front l.i l.numbers l.after) l.out l.end × (l.end ≤ l.at + 11 * l.i)
