use Rattle.std.proofs.Common.{refl}
use Rattle.grammars.specs.Heads.{expect}
use Rattle.grammars.specs.Examples.{chosen}
use Rattle.grammars.specs.Gathered.{repeated}
use Rattle.ivy_syntax.specs.declared.reading.Wanted.TheVariants as wanted
use Rattle.ivy_syntax.specs.Lexeme.{placed, tokens}
use Rattle.ivy_syntax.specs.Descent.{is_word}
use Rattle.ivy_syntax.specs.Agreement.{test}
use Rattle.ivy_syntax.proofs.Turns.{list_opens, turn_ends, fewer_next, next_turn, turn_passes}
use Rattle.ivy_syntax.proofs.lists.repeated.Goals as goal

pub loop-behind-init : goal.loop-behind-init
loop-behind-init g c =
    list_opens {on = is_word c.args.keyword} {read = λ t. g.P.Part.rule c.args.part.now}
    {all = repeated (is_word c.args.keyword) (λ t. g.P.Part.rule c.args.part.now) (tokens c.args.rest.now)}
    {opened = expect (chosen (test (wanted.Word c.args.keyword))) (tokens c.args.rest.now)}
    {t = placed c.in_ok-behind.field-0-0} {behind = tokens c.in_ok-behind.behind.now}
    {v = c.in_ok-first.first} {rest = tokens c.in_ok-first.rest.now}
    refl c.in_ok-behind.ensures c.in_ok-first.ensures.agrees c.new-items.ensures c.in_ok-push.ensures.ok

pub returns-in_err-item : goal.returns-in_err-item
returns-in_err-item g c =
    turn_passes c.loop-behind.invariant c.in_err-item.field-0.0 c.from_residual-in_err-item.result
    c.in-Some.ensures c.in_err-item.ensures.agrees c.from_residual-in_err-item.ensures.1

pub loop-behind-smaller : goal.loop-behind-smaller
loop-behind-smaller g c =
    fewer_next c.loop-behind.rest.now c.in-Some.behind.now c.in_ok-item.left_over.now c.in-Some.ensures
    c.in_ok-item.ensures.shorter

pub loop-behind-preserved : goal.loop-behind-preserved
loop-behind-preserved g c =
    next_turn c.loop-behind.invariant c.in-Some.behind.now c.in_ok-item.left_over.now c.in-Some.ensures
    c.in_ok-item.ensures.shorter c.in_ok-item.ensures.agrees c.in_ok-push-2.ensures.ok

pub returns : goal.returns
returns g c = turn_ends c.loop-behind.invariant c.in_default.ensures
