use Rattle.std.proofs.Common.{◌≡◌, ◌+◌, ◌≤◌, ◌++◌, drop}
use Rattle.vm_num.specs.Item.{total_cost}
use Rattle.vm_run.proofs.Items.{chunk}
use Rattle.vm_run.proofs.machine.Machine.copy_all.Given as goal

abbrev pub decreases-loop-wanted : goal.decreases-loop-wanted
decreases-loop-wanted l = l.wanted

-- those from there on are on top, and paid for
abbrev pub invariant-loop-wanted : goal.invariant-loop-wanted
invariant-loop-wanted l =
    let copies = drop l.wanted (chunk l.under l.n l.fn.self.stack.items) in
    record {
      within : l.wanted ≤ l.n;
      stack : l.self.stack ≡ record l.fn.self.stack { items = copies ++ l.fn.self.stack.items };
      place : l.self.at ≡ l.fn.self.at;
      spent : l.self.left + total_cost copies ≡ l.fn.self.left;
    }
