-- No test of those that were passed holds.
use Rattle.std.proofs.Common.{◌≡◌, [], take, drop}
use Rattle.ivy_check.specs.Tests.{first_of, walked}
use Rattle.ivy_check.specs.TypeFault.{contract_tests}
use Rattle.ivy_check.proofs.contract.contracts.Given as goal

abbrev pub invariant-loop-k : goal.invariant-loop-k
invariant-loop-k l =
    first_of (walked contract_tests (take l.k l.contracts) (drop l.k l.contracts)) ≡ first_of (walked contract_tests [] l.contracts)
