use Rattle.std.proofs.Common.{◌≡◌, ◌≢◌, pos, negsuc, ◌<ℤ◌, arith}
use Rattle.std.proofs.lemmas.Int.{ints}
use Rattle.vm_num.proofs.Shifts.{left_shift_is, left_shift_far}
use Rattle.vm_num.proofs.operations.shl.Goals as goal
use Rattle.vm_num.proofs.operations.shl.Goals.{else-a-eqminus1-via-then-a-eqminus1+else-count-eq63, else-a-eqminus1-via-else-a-eqminus1}

pub returns-then-count-lt63 : goal.returns-then-count-lt63
returns-then-count-lt63 c = left_shift_is c.args.a c.args.count c.mul.result c.ranges.a (omega (arith, ints)) (omega (arith, ints)) c.mul.ensures

pub returns-else-a-eqminus1 : goal.returns-else-a-eqminus1
returns-else-a-eqminus1 c =
    let some : c.args.a ≢ pos 0 = λ e. omega (arith, ints, e) in
    let not : c.args.a ≡ negsuc 0 → pos 63 <ℤ c.args.count = λ e. elim c.else-a-eqminus1.branch [
      | else-a-eqminus1-via-then-a-eqminus1+else-count-eq63 w ↦ omega (arith, ints)
      | else-a-eqminus1-via-else-a-eqminus1 w ↦ absurd (omega (arith, ints, e))
    ] in
    left_shift_far c.args.a c.args.count some (omega (arith, ints)) not
