use Rattle.std.proofs.Common.{◌-◌, List, refl, ap, ◌∙◌, arith}
use Rattle.vm_num.specs.Item.{Item}
use Rattle.vm_stack.specs.Stacks.{Stacks}
use Rattle.vm_run.proofs.Brought.{moved, roll-one}
use Rattle.vm_run.proofs.machine.Machine.moves_one.Goals as goal

pub returns-in-Ok : goal.returns-in-Ok
returns-in-Ok c =
    let m = c.args.self.now in
    let on_top : List Item → Stacks = λ items. record m.stack { items = items } in
    moved m (record m { stack = c.roll.new.self; left = m.left - c.args.base }) c.args.under 1 c.args.base (omega arith) c.if-self-base.false (omega arith) (c.in-Ok.ensures.ok ∙ ap on_top (roll-one c.args.under m.stack.items (omega arith))) refl
