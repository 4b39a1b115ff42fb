-- The first group with a fault is reported, with its first.
use Rattle.std.proofs.Common.{◌∙◌}
use Rattle.std.specs.Option.{option_copied}
use Rattle.ivy_check.specs.Declarations.{group_tests}
use Rattle.ivy_check.proofs.TestLemmas.{passed, walked_here, walked_on}
use Rattle.ivy_check.proofs.declare.params.Goals as goal

pub returns-in_err-group : goal.returns-in_err-group
returns-in_err-group c =
    passed _ _ c.from_residual.ensures.1
    ∙ walked_here (group_tests (option_copied c.args.enclosing)) c.args.groups.now c.loop-k.k _ c.loop-k-test.true
    c.index-groups-k.is _ c.in_err-group.ensures
    ∙ c.loop-k.invariant

pub loop-k-preserved : goal.loop-k-preserved
loop-k-preserved c =
    walked_on (group_tests (option_copied c.args.enclosing)) c.args.groups.now c.loop-k.k _ c.loop-k-test.true
    c.index-groups-k.is c.in_ok-group.ensures
    ∙ c.loop-k.invariant
