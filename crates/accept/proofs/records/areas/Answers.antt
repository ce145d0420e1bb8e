use Rattle.std.proofs.Common.{rules}
use Rattle.scope.specs.Checks.{area_tests}
use Rattle.accept.proofs.Walks.{ends}
use Rattle.accept.proofs.records.areas.Goals as goal

pub returns-in_err-require : goal.returns-in_err-require
unfolding area_tests
returns-in_err-require c = search (ends, rules)

pub returns : goal.returns
unfolding area_tests
returns c = search (ends, rules)
