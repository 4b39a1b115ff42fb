use Rattle.std.proofs.Common.{◌≡◌, pos, negsuc, ◌<ℤ◌, ap, ◌∙◌, arith}
use Rattle.std.proofs.lemmas.Int.{ints, to_z-of_z}
use Rattle.std.specs.Int.{w64, cast_signed as to_z, cast_unsigned as of_z}
use Rattle.std.specs.Int.RustNames.{unsigned_abs}
use Rattle.std.proofs.lemmas.Grind.{common_steps}
use Rattle.vm_num.specs.Item.{num_bytes}
use Rattle.vm_num.specs.Push.{push_of, push_int_of}
use Rattle.vm_num.specs.PushLaws.{push_of_minus_one, push_of_zero, push_within, push_above, push_below}
use Rattle.vm_num.proofs.push.push_int.Goals as goal
use Rattle.vm_num.proofs.push.push_int.Goals.{in_default-via-then-n-ltminus1, in_default-via-else-n-ltminus1+else-n-lt17}

pub returns-in-minus1-clause-ok : goal.returns-in-minus1-clause-ok
returns-in-minus1-clause-ok c =
    let is : c.args.n ≡ negsuc 0 = omega (arith, ints) in
    let same = ap push_int_of is ∙ push_of_minus_one in
    grind (arith, common_steps)

pub returns-in-0-clause-ok : goal.returns-in-0-clause-ok
returns-in-0-clause-ok c =
    let is : c.args.n ≡ pos 0 = omega (arith, ints) in
    let same = ap push_int_of is ∙ push_of_zero in
    grind (arith, common_steps)

pub returns-in-1-to-16-clause-ok : goal.returns-in-1-to-16-clause-ok
returns-in-1-to-16-clause-ok c =
    let low : pos 0 <ℤ c.args.n = omega (arith, ints) in
    let high : c.args.n <ℤ pos 17 = omega (arith, ints) in
    let same = push_within c.args.n low high in
    let read : unsigned_abs (to_z w64 (of_z w64 c.args.n)) ≡ unsigned_abs c.args.n = ap unsigned_abs (to_z-of_z w64 c.args.n c.ranges.n) in
    grind (arith, common_steps)

pub returns-in_default-clause-ok : goal.returns-in_default-clause-ok
returns-in_default-clause-ok c =
    let other : push_int_of c.args.n ≡ push_of (num_bytes c.args.n) = elim c.in_default.branch [
      | in_default-via-then-n-ltminus1 w ↦ push_below c.args.n (omega (arith, ints))
      | in_default-via-else-n-ltminus1+else-n-lt17 w ↦ push_above c.args.n (omega (arith, ints))
    ] in
    grind (arith, common_steps)
