use Rattle.ivy_syntax.specs.declared.level.Level.TheVariants.{Or}
use Rattle.ivy_syntax.specs.Shown.{tokens_at}
use Rattle.ivy_syntax.proofs.PrintedParts.{next_separated}
use Rattle.ivy_syntax.proofs.printer.+expressions.Goals as goal

pub put_exprs-loop-at-preserved : goal.put_exprs-loop-at-preserved
put_exprs-loop-at-preserved t c =
    next_separated (tokens_at Or) c.args.exprs.now c.loop-at.at _ c.args.text.now c.loop-at.text _ _
    c.loop-at-test.true c.index-exprs-at.is c.loop-at.invariant c.in_ok-put_sign_if.ensures
    c.in_ok-put_expr.ensures
