use Rattle.std.proofs.Common.{◌≡◌, ◌*◌, ◌≤◌}
use Rattle.scope.specs.Image.{area_length}
use Rattle.scope.specs.Checks.{sum}
use Rattle.accept.specs.Facts.{Passed, each, area_test}
use Rattle.accept.proofs.records.areas.Given as goal

abbrev pub invariant-loop-a : goal.invariant-loop-a
invariant-loop-a l =
    Passed (each (area_test l.layout.bytes.now)) l.a
    × (l.earlier ≡ sum (area_length l.layout.bytes.now) l.a)
    × (l.earlier ≤ 65535 * l.a)
