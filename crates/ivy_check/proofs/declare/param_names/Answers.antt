-- The first name with a fault is reported.
use Rattle.std.proofs.Common.{◌∙◌}
use Rattle.std.specs.Option.{option_copied}
use Rattle.ivy_check.specs.Declarations.{param_name_tests}
use Rattle.ivy_check.proofs.TestLemmas.{passed, walked_here, walked_on}
use Rattle.ivy_check.proofs.declare.param_names.Goals as goal

pub returns-in_err-param_name : goal.returns-in_err-param_name
returns-in_err-param_name c =
    passed _ _ c.from_residual.ensures.1
    ∙ walked_here (param_name_tests (option_copied c.args.enclosing) c.args.groups.now) c.args.names.now c.loop-k.k _
    c.loop-k-test.true c.index-names-k.is _ c.in_err-param_name.ensures
    ∙ c.loop-k.invariant

pub loop-k-preserved : goal.loop-k-preserved
loop-k-preserved c =
    walked_on (param_name_tests (option_copied c.args.enclosing) c.args.groups.now) c.args.names.now c.loop-k.k _
    c.loop-k-test.true c.index-names-k.is c.in_ok-param_name.ensures
    ∙ c.loop-k.invariant
