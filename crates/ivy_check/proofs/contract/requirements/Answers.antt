-- The first with a fault is reported, with its first.
use Rattle.std.proofs.Common.{◌∙◌}
use Rattle.ivy_check.specs.TypeFault.{req_tests}
use Rattle.ivy_check.specs.Scope.{scope_of}
use Rattle.ivy_check.proofs.TestLemmas.{passed, walked_here, walked_on}
use Rattle.ivy_check.proofs.contract.requirements.Goals as goal

pub returns-in_err-requirement : goal.returns-in_err-requirement
returns-in_err-requirement c =
    passed _ _ c.from_residual.ensures.1
    ∙ walked_here (req_tests (scope_of c.args.scope)) c.args.reqs.now c.loop-k.k _ c.loop-k-test.true c.index-reqs-k.is _ c.in_err-requirement.ensures
    ∙ c.loop-k.invariant

pub loop-k-preserved : goal.loop-k-preserved
loop-k-preserved c =
    walked_on (req_tests (scope_of c.args.scope)) c.args.reqs.now c.loop-k.k _ c.loop-k-test.true c.index-reqs-k.is c.in_ok-requirement.ensures
    ∙ c.loop-k.invariant
