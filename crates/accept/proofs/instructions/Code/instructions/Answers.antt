use Rattle.std.proofs.Common.{rules}
use Rattle.scope.specs.Checks.{code_tests}
use Rattle.accept.proofs.Walks.{ends}
use Rattle.accept.proofs.instructions.Code.instructions.Goals as goal

pub returns-in_err-require : goal.returns-in_err-require
unfolding code_tests
returns-in_err-require c = search (ends, rules)

pub returns : goal.returns
unfolding code_tests
returns c = search (ends, rules)
