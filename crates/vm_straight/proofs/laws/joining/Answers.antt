use Rattle.vm_straight.proofs.Straight.{joined_bytes, joined_stacks, joined_needs, held_needed, same_cost}
use Rattle.vm_straight.proofs.laws.joining.Goals as goal

pub returns : goal.returns
returns c = λ context check. record {
  bytes = joined_bytes;
  stacks = joined_stacks context check;
  needs = joined_needs context check;
  held = held_needed context check;
  costs = same_cost;
}
