use Rattle.std.proofs.Common.{length, slice_index, arith}
use Rattle.std.proofs.lemmas.List.FromFn.{fill_by_all}
use Rattle.vm_ops.specs.Operators.{bit_operation}
use Rattle.vm_ops.proofs.bits.fill.Goals as goal

pub returns : goal.returns
returns c =
    fill_by_all (λ k. bit_operation c.args.op (slice_index c.args.a.now k) (slice_index c.args.b.now k)) c.loop-i.bytes (length c.args.bytes.now) 0 c.loop-i.auto.bytes (λ k h. c.loop-i.invariant k (omega arith))
