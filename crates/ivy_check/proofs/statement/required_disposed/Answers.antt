-- The first required value that is left is reported.
use Rattle.std.proofs.Common.{◌∙◌}
use Rattle.ivy_syntax.specs.declared.tree.Req.{Req}
use Rattle.ivy_check.specs.Statements.{left}
use Rattle.ivy_check.proofs.TestLemmas.{passed, flat_here, flat_on}
use Rattle.ivy_check.proofs.statement.required_disposed.Goals as goal

pub returns-in_err-disposed : goal.returns-in_err-disposed
returns-in_err-disposed c =
    passed _ _ c.from_residual.ensures.1
    ∙ flat_here (λ (req : Req). left c.args.stmts.now req.name) c.args.reqs.now c.loop-req.req-index _
    c.loop-req-test.true c.req-item.is _ c.in_err-disposed.ensures
    ∙ c.loop-req.invariant

pub loop-req-preserved : goal.loop-req-preserved
loop-req-preserved c =
    flat_on (λ (req : Req). left c.args.stmts.now req.name) c.args.reqs.now c.loop-req.req-index _
    c.loop-req-test.true c.req-item.is c.in_ok-disposed.ensures
    ∙ c.loop-req.invariant
