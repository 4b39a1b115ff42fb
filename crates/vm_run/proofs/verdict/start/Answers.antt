use Rattle.std.proofs.Common.{List, [], reverse, ap, ◌∙◌, arith}
use Rattle.vm_num.specs.Item.{Item}
use Rattle.vm_stack.specs.Stacks.{Stacks, held_cost}
use Rattle.vm_run.proofs.Runs.{cost-reverse}
use Rattle.vm_run.proofs.Outcomes.{from_run}
use Rattle.vm_run.proofs.verdict.start.Goals as goal

pub run-requires-clause-small : goal.run-requires-clause-small
run-requires-clause-small g c =
    let on_data : List Item → Stacks = λ items. record { items = items; alt = [] } in
    let piled = ap held_cost (c.in_ok-pile.ensures ∙ ap (λ items. on_data (reverse items)) c.as_slice.ensures) in
    omega (arith, piled, cost-reverse c.args.args.now)

pub returns : goal.returns
returns g c =
    let on_data : List Item → Stacks = λ items. record { items = items; alt = [] } in
    let piled = c.in_ok-pile.ensures ∙ ap (λ items. on_data (reverse items)) c.as_slice.ensures in
    from_run c.args.ctx.now (g.C.SigCheck.good_of c.args.sigs.now) c.args.program.now (reverse c.args.args.now) c.args.left c.in_ok-pile.field-0 c.run.new.machine c.in_ok-end.end c.verdict_on.result piled c.in_ok-end.ensures c.verdict_on.ensures
