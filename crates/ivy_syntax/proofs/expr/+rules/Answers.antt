use Rattle.std.proofs.Common.{sym, subst, refl, ap, ◌∙◌, Err}
use Rattle.ivy_syntax.specs.declared.reading.Head.TheVariants as heads
use Rattle.ivy_syntax.specs.declared.level.Level.TheVariants.{Or}
use Rattle.ivy_syntax.specs.Grammar.{below}
use Rattle.ivy_syntax.specs.Lexeme.{placed, tokens}
use Rattle.ivy_syntax.specs.Descent.{level_by, unary_at}
use Rattle.ivy_syntax.specs.Agreement.{Agrees, start_of}
use Rattle.ivy_syntax.proofs.Shorter.{level_shortens}
use Rattle.ivy_syntax.proofs.Turns.{turn_fewer, turn_next, turn_passes, list_begins}
use Rattle.ivy_syntax.proofs.Nested.{nested_is}
use Rattle.ivy_syntax.proofs.expr.+rules.Goals as goal

pub chain-returns-in_err-right : goal.chain-returns-in_err-right
chain-returns-in_err-right t c =
    turn_passes c.loop-operator.invariant c.in_err-right.field-0.0 c.from_residual-in_err-right.result
    c.in-Some.ensures
    (subst (λ l. Agrees (Err c.in_err-right.field-0.0) (level_by l (unary_at c.args.depth) (tokens c.in-Some.behind.now)))
    c.below-in-Some.ensures c.in_err-right.ensures)
    c.from_residual-in_err-right.ensures.1

pub chain-loop-operator-smaller : goal.chain-loop-operator-smaller
chain-loop-operator-smaller t c =
    turn_fewer c.loop-operator.rest.now c.in_ok-right.left_over.now c.in-Some.ensures
    (level_shortens c.args.depth c.below-in-Some.result) c.in_ok-right.ensures

pub chain-loop-operator-preserved : goal.chain-loop-operator-preserved
chain-loop-operator-preserved t c =
    turn_next c.loop-operator.invariant c.in-Some.ensures
    (level_shortens c.args.depth (below c.args.joins))
    (ap (λ l. level_by l (unary_at c.args.depth) (tokens c.in-Some.behind.now)) (sym c.below-in-Some.ensures)
    ∙ c.in_ok-right.ensures) c.in_ok-left-2.ensures

pub members-loop-behind-init : goal.members-loop-behind-init
members-loop-behind-init t c =
    list_begins refl c.in_ok-first.ensures c.new-items.ensures c.in_ok-push.ensures.ok

pub members-returns-in_err-item : goal.members-returns-in_err-item
members-returns-in_err-item t c =
    turn_passes c.loop-behind.invariant c.in_err-item.field-0.0 c.from_residual-in_err-item.result
    c.in-Some.ensures c.in_err-item.ensures c.from_residual-in_err-item.ensures.1

pub members-loop-behind-smaller : goal.members-loop-behind-smaller
members-loop-behind-smaller t c =
    turn_fewer c.loop-behind.rest.now c.in_ok-item.left_over.now c.in-Some.ensures
    (level_shortens c.args.depth Or) c.in_ok-item.ensures

pub members-loop-behind-preserved : goal.members-loop-behind-preserved
members-loop-behind-preserved t c =
    turn_next c.loop-behind.invariant c.in-Some.ensures (level_shortens c.args.depth Or) c.in_ok-item.ensures
    c.in_ok-push-2.ensures.ok

pub unary-returns-in-Named-head : goal.unary-returns-in-Named-head
unary-returns-in-Named-head t c = subst (Agrees c.named.result)
    (sym (nested_is (tokens c.args.rest.now) (placed c.in-Some.first) (tokens c.in-Some.behind.now) c.args.depth
    (heads.Named c.in-Named-head.name) (ap tokens c.in-Some.ensures) c.if-depth-eq0.false
    (ap start_of (sym c.in-Named-head.is) ∙ c.in_ok-head.ensures))) c.named.ensures

pub unary-returns-in-Paren-head : goal.unary-returns-in-Paren-head
unary-returns-in-Paren-head t c = subst (Agrees c.paren.result)
    (sym (nested_is (tokens c.args.rest.now) (placed c.in-Some.first) (tokens c.in-Some.behind.now) c.args.depth
    heads.Paren (ap tokens c.in-Some.ensures) c.if-depth-eq0.false
    (ap start_of (sym c.in-Paren-head.is) ∙ c.in_ok-head.ensures))) c.paren.ensures

pub unary-returns-in-Bracket-head : goal.unary-returns-in-Bracket-head
unary-returns-in-Bracket-head t c = subst (Agrees c.bracket.result)
    (sym (nested_is (tokens c.args.rest.now) (placed c.in-Some.first) (tokens c.in-Some.behind.now) c.args.depth
    heads.Bracket (ap tokens c.in-Some.ensures) c.if-depth-eq0.false
    (ap start_of (sym c.in-Bracket-head.is) ∙ c.in_ok-head.ensures))) c.bracket.ensures

pub unary-returns-in-Prefix-head : goal.unary-returns-in-Prefix-head
unary-returns-in-Prefix-head t c = subst (Agrees c.prefix.result)
    (sym (nested_is (tokens c.args.rest.now) (placed c.in-Some.first) (tokens c.in-Some.behind.now) c.args.depth
    (heads.Prefix c.in-Prefix-head.op) (ap tokens c.in-Some.ensures) c.if-depth-eq0.false
    (ap start_of (sym c.in-Prefix-head.is) ∙ c.in_ok-head.ensures))) c.prefix.ensures
