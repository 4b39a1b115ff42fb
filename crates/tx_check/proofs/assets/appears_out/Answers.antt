use Rattle.std.proofs.Common.{◌≡◌, ◌∙◌, sym, refl}
use Rattle.tx_check.specs.Table.{asset_out}
use Rattle.wire.specs.Decisions.{same_bytes, other_bytes, failed}
use Rattle.tx_check.proofs.Everywhere.{not_more, not_in_map, in_map}
use Rattle.tx_check.proofs.assets.appears_out.Goals as goal

pub returns-then-eq : goal.returns-then-eq
returns-then-eq c = (
  λ _. in_map asset_out c.args.outputs.now c.loop-output.output-index c.args.asset.now c.output-item.result
      (record { there = c.loop-output-test.true; is = c.output-item.is })
      (sym c.asset_out.ensures ∙ same_bytes _ c.args.asset.now c.eq.result c.eq.ensures c.if-eq.true),
  λ _. refl,
)

pub loop-output-preserved : goal.loop-output-preserved
loop-output-preserved c =
    not_more (λ output. asset_out output ≡ c.args.asset.now) c.args.outputs.now c.loop-output.output-index c.output-item.result c.loop-output.invariant
    (record { there = c.loop-output-test.true; is = c.output-item.is })
    (λ e. other_bytes _ c.args.asset.now c.eq.result c.eq.ensures c.if-eq.false (c.asset_out.ensures ∙ e))

pub returns : goal.returns
returns c =
    (λ e. absurd (failed e), λ h. absurd (not_in_map asset_out c.args.outputs.now c.args.asset.now c.loop-output.output-index c.loop-output-test.false c.loop-output.invariant h))
