-- No test of those that were passed holds.
use Rattle.std.proofs.Common.{◌≡◌, [], take, drop}
use Rattle.ivy_check.specs.Tests.{first_of, walked}
use Rattle.ivy_check.specs.TypeFault.{req_tests}
use Rattle.ivy_check.specs.Scope.{scope_of}
use Rattle.ivy_check.proofs.contract.requirements.Given as goal

abbrev pub invariant-loop-k : goal.invariant-loop-k
invariant-loop-k l =
    first_of (walked (req_tests (scope_of l.scope)) (take l.k l.reqs) (drop l.k l.reqs)) ≡ first_of (walked (req_tests (scope_of l.scope)) [] l.reqs)
