use Rattle.std.proofs.Common.{◌≡◌, ◌∙◌, sym, refl}
use Rattle.tx_check.specs.Parts.{asset_in}
use Rattle.wire.specs.Decisions.{same_bytes, other_bytes, failed}
use Rattle.tx_check.proofs.Everywhere.{not_more, not_in_map, in_map}
use Rattle.tx_check.proofs.assets.appears_in.Goals as goal

pub returns-then-eq : goal.returns-then-eq
returns-then-eq c = (
  λ _. in_map asset_in c.args.inputs.now c.loop-input.input-index c.args.asset.now c.input-item.result
      (record { there = c.loop-input-test.true; is = c.input-item.is })
      (sym c.asset_in.ensures ∙ same_bytes _ c.args.asset.now c.eq.result c.eq.ensures c.if-eq.true),
  λ _. refl,
)

pub loop-input-preserved : goal.loop-input-preserved
loop-input-preserved c =
    not_more (λ input. asset_in input ≡ c.args.asset.now) c.args.inputs.now c.loop-input.input-index c.input-item.result c.loop-input.invariant
    (record { there = c.loop-input-test.true; is = c.input-item.is })
    (λ e. other_bytes _ c.args.asset.now c.eq.result c.eq.ensures c.if-eq.false (c.asset_in.ensures ∙ e))

pub returns : goal.returns
returns c =
    (λ e. absurd (failed e), λ h. absurd (not_in_map asset_in c.args.inputs.now c.args.asset.now c.loop-input.input-index c.loop-input-test.false c.loop-input.invariant h))
