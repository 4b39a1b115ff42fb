use Rattle.std.proofs.Common.{ℕ, ◌+◌, ◌≤◌, length}
use Rattle.vm_stack.specs.Stacks.{held_cost}
use Rattle.vm_run.specs.Stretch.{Steps}
use Rattle.vm_run.specs.Follows.{state_of}
use Rattle.vm_run.proofs.run.+run.Given as goal

-- a child has less than its parent had
abbrev pub decreases-run : goal.decreases-run
decreases-run g l = l.machine.now.left + held_cost l.machine.now.stack

abbrev pub decreases-loop-machine : goal.decreases-loop-machine
decreases-loop-machine g l = l.machine.left + held_cost l.machine.stack

-- completed instructions have led to where the machine stands
abbrev pub invariant-loop-machine : goal.invariant-loop-machine
invariant-loop-machine g l = record {
  place : l.machine.at ≤ length l.program;
  within : l.machine.left + held_cost l.machine.stack ≤ l.fn.machine.left + held_cost l.fn.machine.stack;
  steps : (count spent lost : ℕ) × Steps l.ctx (g.C.SigCheck.good_of l.sigs) l.program (state_of l.fn.machine) count spent lost (state_of l.machine);
}
