-- Each parameter of the groups that were passed is used.
use Rattle.std.proofs.Common.{◌≡◌, drop}
use Rattle.ivy_check.specs.Tests.{first_of}
use Rattle.ivy_check.specs.Uses.{unused_tests}
use Rattle.ivy_check.proofs.uses.all_used.Given as goal

abbrev pub invariant-loop-group : goal.invariant-loop-group
invariant-loop-group l =
    first_of (unused_tests l.clauses (drop l.group-index l.params)) ≡ first_of (unused_tests l.clauses l.params)
