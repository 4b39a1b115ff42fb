use Rattle.std.proofs.Common.{◌≡◌, ◌++◌, take, drop, map}
use Rattle.std.specs.Int.{w8, bit_not}
use Rattle.vm_ops.proofs.bits.invert.Given as goal

-- the bytes so far are flipped
abbrev pub invariant-loop-x : goal.invariant-loop-x
invariant-loop-x l = l.bytes ≡ map (bit_not w8) (take l.x-index l.initial.bytes) ++ drop l.x-index l.initial.bytes
