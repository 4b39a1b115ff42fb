use Rattle.std.proofs.Common.{refl}
use Rattle.tx_check.specs.FirstPlaces.{none_more, found_along, nowhere_along}
use Rattle.wire.specs.Decisions.{failed}
use Rattle.tx_check.proofs.names.endless_nonce.Goals as goal

pub returns-then-is_endless : goal.returns-then-is_endless
returns-then-is_endless c =
    found_along _ _ _ c.as_slice-inputs.ensures c.loop-k.k c.index-inputs-k.result _ c.loop-k.invariant
    (record { there = c.loop-k-test.true; is = c.index-inputs-k.is })
    (c.if-is_endless.ensures.0 refl, refl)

pub loop-k-preserved : goal.loop-k-preserved
loop-k-preserved c =
    none_more _ _ c.loop-k.k c.index-inputs-k.result c.loop-k.invariant
    (record { there = c.loop-k-test.true; is = c.index-inputs-k.is })
    (λ reported h. failed (c.if-is_endless.ensures.1 h.0))

pub returns : goal.returns
returns c = nowhere_along _ _ _ c.as_slice-inputs.ensures c.loop-k.k c.loop-k-test.false c.loop-k.invariant
