-- No test of those that were passed holds.
use Rattle.std.proofs.Common.{◌≡◌, [], take, drop}
use Rattle.ivy_check.specs.Tests.{first_of, walked}
use Rattle.ivy_check.specs.TypeFault.{clause_tests}
use Rattle.ivy_check.proofs.contract.clauses.Given as goal

abbrev pub invariant-loop-k : goal.invariant-loop-k
invariant-loop-k l =
    first_of (walked (clause_tests l.contract) (take l.k l.clauses) (drop l.k l.clauses)) ≡ first_of (walked (clause_tests l.contract) [] l.clauses)
