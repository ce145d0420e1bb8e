use Rattle.std.proofs.Common.{rules}
use Rattle.scope.specs.Checks.{cell_tests}
use Rattle.accept.proofs.Walks.{ends}
use Rattle.accept.proofs.contents.contents.Goals as goal

pub returns-in_err-require : goal.returns-in_err-require
unfolding cell_tests
returns-in_err-require c = search (ends, rules)

pub returns-in_err-require-2 : goal.returns-in_err-require-2
unfolding cell_tests
returns-in_err-require-2 c = search (ends, rules)

pub returns : goal.returns
unfolding cell_tests
returns c = search (ends, rules)
