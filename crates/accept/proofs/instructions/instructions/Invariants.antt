use Rattle.scope.specs.Checks.{code_tests}
use Rattle.accept.specs.Facts.{Passed}
use Rattle.accept.proofs.instructions.instructions.Given as goal

abbrev pub invariant-loop-p : goal.invariant-loop-p
invariant-loop-p l = Passed (code_tests l.layout.bytes.now) l.p
