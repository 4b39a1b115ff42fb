use Rattle.std.proofs.Common.{◌+◌, ◌*◌, ◌<◌, ◌∙◌, sym, arith}
use Rattle.wire.proofs.Digits.{too_large}
use Rattle.wire.proofs.decimals.value_within.Goals as goal

pub returns-in_err-checked_mul : goal.returns-in_err-checked_mul
returns-in_err-checked_mul c =
    let past : c.loop-digit.value * 10 < 18446744073709551616 → ⊥ = c.in_err-checked_mul.ensures in
    c.from_residual.ensures
    ∙ sym (too_large c.args.digits.now c.args.most c.loop-digit.digit-index c.loop-digit.value (omega arith) c.requires
    (omega arith) c.loop-digit.invariant (omega (arith, past)))

pub returns-in_err-value : goal.returns-in_err-value
returns-in_err-value c =
    let past : c.in_ok-checked_mul.field-0 + c.from.result < 18446744073709551616 → ⊥ = c.in_err-value.ensures in
    let digit = c.from.ensures in
    let ten = c.in_ok-checked_mul.ensures in
    c.from_residual-in_err-value.ensures
    ∙ sym (too_large c.args.digits.now c.args.most c.loop-digit.digit-index c.loop-digit.value (omega arith) c.requires
    (omega arith) c.loop-digit.invariant (omega (arith, past, digit)))
