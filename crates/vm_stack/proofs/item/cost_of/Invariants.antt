use Rattle.std.proofs.Common.{◌≡◌, take}
use Rattle.vm_num.specs.Item.{total_cost}
use Rattle.vm_stack.proofs.item.cost_of.Given as goal

abbrev pub invariant-loop-item : goal.invariant-loop-item
invariant-loop-item l = l.total ≡ total_cost (take l.item-index l.items)
