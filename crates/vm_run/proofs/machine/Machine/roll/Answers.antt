use Rattle.std.proofs.Common.{Ok, refl, sym, ap, ◌∙◌, subst, arith, length-drop}
use Rattle.vm_stack.specs.Stacks.{Stacks, rolled}
use Rattle.vm_run.specs.Effect.{Row}
use Rattle.vm_run.specs.Follows.{Follows}
use Rattle.vm_run.specs.Moving.{roll_row}
use Rattle.vm_run.proofs.Brought.{rolls}
use Rattle.vm_run.proofs.machine.Machine.roll.Goals as goal

pub returns-in-Ok : goal.returns-in-Ok
returns-in-Ok c =
    let m = c.args.self.now in
    let m' = record c.pop.new.self { stack = c.roll.new.self } in
    let popped = c.in_ok-pop.ensures.popped in
    let again : Stacks → Stacks = λ s. record s { items = rolled c.in_ok-n.n s.items } in
    let row = c.in_ok-n.ensures.1 roll_row m.stack.alt in
    subst (λ (r : Row). Follows m r (Ok tt) m') (sym row)
    (rolls m c.pop.new.self m' c.in_ok-n.n (simp length-drop (omega arith)) popped.0 (omega (arith, popped.3)) (c.in-Ok.ensures.ok ∙ ap again popped.1) popped.2 refl)
