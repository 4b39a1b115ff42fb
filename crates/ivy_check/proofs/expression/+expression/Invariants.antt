use Rattle.std.proofs.Common.{◌≡◌, map, drop}
use Rattle.ivy_check.specs.Tests.{first_of}
use Rattle.ivy_check.specs.Expressions.{typing, list_tests}
use Rattle.ivy_check.specs.Scope.{scope_of}
use Rattle.ivy_check.proofs.expression.+expression.Given as goal

-- no test of the members that were passed holds
abbrev pub invariant-list-loop-e : goal.invariant-list-loop-e
invariant-list-loop-e l =
    first_of (list_tests l.each (map (typing (scope_of l.scope)) (drop l.e-index l.members)))
    ≡ first_of (list_tests l.each (map (typing (scope_of l.scope)) l.members))
