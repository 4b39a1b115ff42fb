use Rattle.std.proofs.Common.{get_or, sym, arith}
use Rattle.std.proofs.lemmas.Grind.{get_or_default_zero}
use Rattle.std.proofs.lemmas.List.Edits.{map_over_more}
use Rattle.std.specs.Int.{w8, bit_not}
use Rattle.vm_ops.proofs.bits.invert.Goals as goal

pub loop-x-preserved : goal.loop-x-preserved
loop-x-preserved c =
    let x = get_or c.loop-x.bytes c.loop-x.x-index 0 in
    map_over_more (bit_not w8) c.args.bytes.now c.loop-x.bytes c.loop-x.x-index x (omega arith) c.loop-x.invariant
    (sym (get_or_default_zero c.loop-x.bytes c.loop-x.x-index x (omega arith)))
