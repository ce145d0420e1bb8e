use Rattle.std.proofs.Common.{rules}
use Rattle.scope.specs.Checks.{program_tests}
use Rattle.accept.proofs.Walks.{ends}
use Rattle.accept.proofs.records.programs.Goals as goal

pub returns-in_err-require : goal.returns-in_err-require
unfolding program_tests
returns-in_err-require c = search (ends, rules)

pub returns : goal.returns
unfolding program_tests
returns c = search (ends, rules)
