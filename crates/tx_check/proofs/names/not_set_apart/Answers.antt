use Rattle.std.proofs.Common.{refl}
use Rattle.tx_check.specs.Table.{TellsApart}
use Rattle.wire.specs.Decisions.{failed}
use Rattle.tx_check.proofs.Everywhere.{not_more, not_along, got_along}
use Rattle.tx_check.proofs.names.not_set_apart.Goals as goal

pub returns-then-sets_apart : goal.returns-then-sets_apart
returns-then-sets_apart c =
    λ reported h. h.0 c.loop-input.input-index c.input-item.result
    (got_along c.as_slice-inputs.ensures (record { there = c.loop-input-test.true; is = c.input-item.is }))
    (c.if-sets_apart.ensures.0 refl)

pub loop-input-preserved : goal.loop-input-preserved
loop-input-preserved c =
    not_more TellsApart _ c.loop-input.input-index c.input-item.result c.loop-input.invariant
    (record { there = c.loop-input-test.true; is = c.input-item.is })
    (λ h. failed (c.if-sets_apart.ensures.1 h))

pub returns : goal.returns
returns c =
    (not_along TellsApart c.as_slice-inputs.ensures c.loop-input.input-index c.loop-input-test.false c.loop-input.invariant, refl)
