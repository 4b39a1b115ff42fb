use Rattle.std.proofs.Common.{◌≡◌, ◌^◌, ◌-◌, min, take}
use Rattle.vm_num.specs.Item.{total_cost}
use Rattle.vm_run.proofs.verdict.cost_of.Given as goal

abbrev pub invariant-loop-item : goal.invariant-loop-item
invariant-loop-item l = l.total ≡ min (total_cost (take l.item-index l.items)) (2 ^ 64 - 1)
