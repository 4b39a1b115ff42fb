use Rattle.std.proofs.Common.{◌≡◌, ◌-◌, [], take, drop, refl, sym, ◌∙◌, ap, arith}
use Rattle.vm_stack.specs.Stacks.{Stacks}
use Rattle.vm_run.specs.Run.{child_limit}
use Rattle.vm_run.proofs.Opened.{opens}
use Rattle.vm_run.specs.Moves.{all-of-it, as-asked}
use Rattle.vm_run.proofs.Runs.{falls, repaid}
use Rattle.vm_run.proofs.machine.Machine.open.Goals as goal
use Rattle.vm_run.proofs.machine.Machine.open.Goals.{then-asked-eq0, else-asked-eq0}

pub returns-clause-opened : goal.returns-clause-opened
returns-clause-opened c =
    let m = c.args.self.now in
    let call = c.in_ok-count.ensures in
    let given : c.if-asked-eq0.limit ≡ child_limit c.in_ok-count.asked (m.left - 256) = elim c.if-asked-eq0.branch [
      | then-asked-eq0 w ↦ w.limit-is ∙ sym (all-of-it c.in_ok-count.asked (m.left - 256) w.if-asked-eq0.true)
      | else-asked-eq0 w ↦ w.limit-is ∙ sym (as-asked c.in_ok-count.asked (m.left - 256) w.if-asked-eq0.false)
    ] in
    let below : Stacks → Stacks = λ s. record s { items = drop c.in_ok-count.count s.items } in
    let taken : Stacks → Stacks = λ s. record { items = take c.in_ok-count.count s.items; alt = [] } in
    let first = c.in-Ok.ensures in
    let second = c.in-Ok-split_top.ensures in
    opens m _ c.in-Ok-split_top.moved c.in-Ok.popped c.in_ok-count.count c.in_ok-count.asked c.if-asked-eq0.limit (call.1 m.stack.alt) call.0 c.if-self-lt256.false c.if-self-asked.false given first.top (second.top ∙ ap taken first.left) (second.left ∙ ap below first.left) refl (omega (arith, c.held.ensures))

pub returns-clause-falls : goal.returns-clause-falls
returns-clause-falls c = falls c.args.self.now (record { child = record { stack = c.in-Ok-split_top.moved; left = c.if-asked-eq0.limit; at = 0 }; popped = c.in-Ok.popped }) _ (returns-clause-opened c)

pub returns-clause-repaid : goal.returns-clause-repaid
returns-clause-repaid c = repaid c.args.self.now (record { child = record { stack = c.in-Ok-split_top.moved; left = c.if-asked-eq0.limit; at = 0 }; popped = c.in-Ok.popped }) _ (returns-clause-opened c)
