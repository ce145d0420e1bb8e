use Rattle.accept.specs.Facts.{Passed, each, constant_test, data_test}
use Rattle.accept.proofs.contents.contents.Given as goal

abbrev pub invariant-loop-k : goal.invariant-loop-k
invariant-loop-k l = Passed (each (constant_test l.layout.bytes.now)) l.k

abbrev pub invariant-loop-k-2 : goal.invariant-loop-k-2
invariant-loop-k-2 l = Passed (each (data_test l.layout.bytes.now)) l.k
