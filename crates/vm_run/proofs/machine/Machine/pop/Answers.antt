use Rattle.std.proofs.Common.{◌≡◌, ◌+◌, [], drop, refl, ap, arith}
use Rattle.vm_num.specs.Item.{total_cost}
use Rattle.vm_stack.specs.Stacks.{held_cost}
use Rattle.vm_run.specs.Moves.{cost-split}
use Rattle.vm_run.proofs.Payment.{done}
use Rattle.vm_run.proofs.machine.Machine.pop.Goals as goal

pub overflow_sub-self-in-Ok : goal.overflow_sub-self-in-Ok
overflow_sub-self-in-Ok c =
    let kept : held_cost c.drop_top.new.self ≡ total_cost (drop c.args.n c.args.self.now.stack.items) + total_cost c.args.self.now.stack.alt = ap held_cost c.in-Ok.ensures.ok in
    omega (arith, cost-split c.args.n c.args.self.now.stack.items)

pub returns-in-Ok-clause-popped : goal.returns-in-Ok-clause-popped
returns-in-Ok-clause-popped c =
    let kept : held_cost c.drop_top.new.self ≡ total_cost (drop c.args.n c.args.self.now.stack.items) + total_cost c.args.self.now.stack.alt = ap held_cost c.in-Ok.ensures.ok in
    let split = cost-split c.args.n c.args.self.now.stack.items in
    (c.if-self-base.false, c.in-Ok.ensures.ok, refl, omega arith)

pub returns-in-Ok-clause-follows : goal.returns-in-Ok-clause-follows
returns-in-Ok-clause-follows c =
    let popped = returns-in-Ok-clause-popped c in
    done c.args.self.now _ c.args.n [] c.args.base popped.0 (omega (arith, popped.3)) popped.1 popped.2
