use Rattle.std.proofs.Common.{◌∙◌, sym, refl}
use Rattle.tx_check.specs.FirstPlaces.{none_more, found_along, nowhere_along}
use Rattle.wire.specs.Decisions.{failed}
use Rattle.tx_check.proofs.assets.another_asset.Goals as goal

pub returns-then-branch : goal.returns-then-branch
returns-then-branch g c =
    found_along _ _ _ c.as_slice-inputs.ensures c.loop-k.k c.index-inputs-k.result _ c.loop-k.invariant
    (record { there = c.loop-k-test.true; is = c.index-inputs-k.is })
    (c.in_ok-issues_another.ensures.0 c.if-branch.true, refl)

pub loop-k-preserved : goal.loop-k-preserved
loop-k-preserved g c =
    none_more _ _ c.loop-k.k c.index-inputs-k.result c.loop-k.invariant
    (record { there = c.loop-k-test.true; is = c.index-inputs-k.is })
    (λ reported h. failed (sym c.if-branch.false ∙ c.in_ok-issues_another.ensures.1 h.0))

pub returns : goal.returns
returns g c = nowhere_along _ _ _ c.as_slice-inputs.ensures c.loop-k.k c.loop-k-test.false c.loop-k.invariant
