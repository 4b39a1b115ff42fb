use Rattle.std.proofs.Common.{◌≡◌, slice_index, ℕ, ◌<◌}
use Rattle.vm_ops.specs.Operators.{bit_operation}
use Rattle.vm_ops.proofs.bits.fill.Given as goal

-- the bytes so far are made
abbrev pub invariant-loop-i : goal.invariant-loop-i
invariant-loop-i l = (k : ℕ) → k < l.i → slice_index l.bytes k ≡ bit_operation l.op (slice_index l.a k) (slice_index l.b k)
