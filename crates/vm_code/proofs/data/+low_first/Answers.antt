use Rattle.std.proofs.Common.{◌<◌, ◌^◌, arith, length-take, length-drop}
use Rattle.vm_code.proofs.Powers.{three_bytes}
use Rattle.vm_code.proofs.data.+low_first.Goals as goal

pub overflow_mul-result : goal.overflow_mul-result
overflow_mul-result t c =
    let small : c.low_first.result < 2 ^ 24 = three_bytes _ _ c.low_first.ensures.bound (simp (length-take, length-drop) (omega arith)) in
    omega arith

pub overflow_add-result : goal.overflow_add-result
overflow_add-result t c =
    let small : c.low_first.result < 2 ^ 24 = three_bytes _ _ c.low_first.ensures.bound (simp (length-take, length-drop) (omega arith)) in
    omega (arith, c.type_inv.bytes 0)
