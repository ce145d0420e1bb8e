use Rattle.accept.specs.Facts.{Passed, each, code_test}
use Rattle.accept.proofs.instructions.Code.instructions.Given as goal

abbrev pub invariant-loop-o : goal.invariant-loop-o
invariant-loop-o l = Passed (each (code_test l.self.layout.bytes.now l.self.number)) l.o
