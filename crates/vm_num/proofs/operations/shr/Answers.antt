use Rattle.std.proofs.Common.{pos, ap, ◌∙◌, Some, arith}
use Rattle.std.proofs.lemmas.Int.{ints, to_z-of_z}
use Rattle.std.specs.Int.{w64, cast_signed, cast_unsigned, int_shr, int_min}
use Rattle.vm_num.proofs.Shifts.{right_shift_is}
use Rattle.vm_num.proofs.operations.shr.Goals as goal

pub returns-else-count-lt0 : goal.returns-else-count-lt0
returns-else-count-lt0 c =
    let m = c.min.result in
    ap (λ z. Some (cast_signed w64 (cast_unsigned w64 (int_shr z (cast_unsigned w64 m))))) (to_z-of_z w64 c.args.a c.ranges.a)
    ∙ right_shift_is c.args.a c.args.count m c.ranges.a (omega (arith, ints))
    (c.min.ensures.value ∙ ap (λ z. int_min z (pos 63)) (to_z-of_z w64 c.args.count c.ranges.count))
