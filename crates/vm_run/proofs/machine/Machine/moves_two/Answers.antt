use Rattle.std.proofs.Common.{◌+◌, ◌-◌, List, refl, ap, ◌∙◌, arith}
use Rattle.vm_num.specs.Item.{Item}
use Rattle.vm_stack.specs.Stacks.{Stacks, rolled}
use Rattle.vm_run.proofs.Brought.{moved, roll-two}
use Rattle.vm_run.proofs.machine.Machine.moves_two.Goals as goal

pub returns-in-Ok-roll : goal.returns-in-Ok-roll
returns-in-Ok-roll c =
    let m = c.args.self.now in
    let on_top : List Item → Stacks = λ items. record m.stack { items = items } in
    let again : Stacks → Stacks = λ s. record s { items = rolled (c.args.under + 1) s.items } in
    moved m (record m { stack = c.roll-in-Ok.new.self; left = m.left - c.args.base }) c.args.under 2 c.args.base (omega arith) c.if-self-base.false (omega arith) (c.in-Ok-roll.ensures.ok ∙ ap again c.in-Ok.ensures.ok ∙ ap on_top (roll-two c.args.under m.stack.items (omega arith))) refl
