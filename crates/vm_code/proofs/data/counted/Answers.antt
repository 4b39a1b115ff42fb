use Rattle.std.proofs.Common.{arith, length-take}
use Rattle.vm_code.proofs.Powers.{four_bytes}
use Rattle.vm_code.proofs.data.counted.Goals as goal

pub counted_data-requires-clause-count : goal.counted_data-requires-clause-count
counted_data-requires-clause-count c = four_bytes _ _ c.low_first.ensures.bound (simp length-take (omega arith))
