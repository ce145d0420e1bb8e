use Rattle.std.proofs.Common.{◌≡◌, ◌*◌, ◌≤◌}
use Rattle.scope.specs.Image.{instruction_count}
use Rattle.scope.specs.Checks.{sum}
use Rattle.accept.specs.Facts.{Passed, each, program_test}
use Rattle.accept.proofs.records.programs.Given as goal

abbrev pub invariant-loop-p : goal.invariant-loop-p
invariant-loop-p l =
    Passed (each (program_test l.layout.bytes.now)) l.p
    × (l.earlier ≡ sum (instruction_count l.layout.bytes.now) l.p)
    × (l.earlier ≤ 65535 * l.p)
