use Rattle.std.proofs.Common.{refl}
use Rattle.ivy_syntax.specs.Lexeme.{placed}
use Rattle.ivy_syntax.proofs.Shorter.{stmt_shortens}
use Rattle.ivy_syntax.proofs.Turns.{list_opens, turn_ends, turn_fewer, turn_next, turn_passes}
use Rattle.ivy_syntax.proofs.parser.stmts.Goals as goal

pub loop-keyword-init : goal.loop-keyword-init
loop-keyword-init c =
    list_opens refl c.in_ok-keyword.ensures c.in_ok-first.ensures c.new-items.ensures c.in_ok-push.ensures.ok

pub returns-in_err-item : goal.returns-in_err-item
returns-in_err-item c =
    turn_passes c.loop-keyword.invariant c.in_err-item.field-0.0 c.from_residual-in_err-item.result
    c.in-Some.ensures c.in_err-item.ensures c.from_residual-in_err-item.ensures.1

pub loop-keyword-smaller : goal.loop-keyword-smaller
loop-keyword-smaller c =
    turn_fewer c.loop-keyword.rest.now c.in_ok-item.left_over.now c.in-Some.ensures
    (stmt_shortens c.args.depth (placed c.in-Some.keyword) c.in-Some.ensures.goes) c.in_ok-item.ensures

pub loop-keyword-preserved : goal.loop-keyword-preserved
loop-keyword-preserved c =
    turn_next c.loop-keyword.invariant c.in-Some.ensures
    (stmt_shortens c.args.depth (placed c.in-Some.keyword) c.in-Some.ensures.goes) c.in_ok-item.ensures
    c.in_ok-push-2.ensures.ok

pub returns : goal.returns
returns c =
    turn_ends c.loop-keyword.invariant c.in_default.ensures
