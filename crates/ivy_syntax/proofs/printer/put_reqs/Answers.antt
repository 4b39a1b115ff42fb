use Rattle.ivy_syntax.specs.Shown.{req_tokens}
use Rattle.ivy_syntax.proofs.PrintedParts.{next_separated}
use Rattle.ivy_syntax.proofs.printer.put_reqs.Goals as goal

pub loop-at-preserved : goal.loop-at-preserved
loop-at-preserved c =
    next_separated req_tokens c.args.reqs.now c.loop-at.at _ c.args.text.now c.loop-at.text _ _ c.loop-at-test.true
    c.index-reqs-at.is c.loop-at.invariant c.in_ok-put_sign_if.ensures c.in_ok-put_req.ensures
