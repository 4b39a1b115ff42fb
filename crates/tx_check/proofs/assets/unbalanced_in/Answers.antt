use Rattle.std.proofs.Common.{refl}
use Rattle.std.specs.Prelude.{map}
use Rattle.tx_check.specs.Parts.{asset_in}
use Rattle.tx_check.specs.Table.{IsUnbalanced}
use Rattle.tx_check.specs.FirstPlaces.{none_more_at, found_at, nowhere}
use Rattle.tx_check.proofs.Everywhere.{known, map_along, map_long}
use Rattle.tx_check.proofs.assets.unbalanced_in.Goals as goal

pub loop-k-preserved-then-appears_in : goal.loop-k-preserved-then-appears_in
loop-k-preserved-then-appears_in c =
    let tx = c.args.tx.now in
    none_more_at (λ n asset. IsUnbalanced tx asset) (map asset_in tx.inputs) c.loop-k.k c.asset_in-asset.result.now c.loop-k.invariant
    (map_along asset_in c.as_slice-inputs.ensures (record { there = c.loop-k-test.true; is = c.index-inputs-k.is }) c.asset_in-asset.ensures)
    (known (IsUnbalanced tx) asset_in tx.inputs c.as_slice-inputs.result.now c.loop-k.k c.asset_in-asset.result.now c.as_slice-inputs.ensures c.loop-k.invariant (c.if-appears_in.ensures.0 refl))

pub loop-k-preserved : goal.loop-k-preserved
loop-k-preserved c =
    let tx = c.args.tx.now in
    none_more_at (λ n asset. IsUnbalanced tx asset) (map asset_in tx.inputs) c.loop-k.k c.asset_in-asset.result.now c.loop-k.invariant
    (map_along asset_in c.as_slice-inputs.ensures (record { there = c.loop-k-test.true; is = c.index-inputs-k.is }) c.asset_in-asset.ensures)
    c.in_default.ensures

pub returns-in-Some : goal.returns-in-Some
returns-in-Some c =
    let tx = c.args.tx.now in
    found_at (λ n asset. IsUnbalanced tx asset) (map asset_in tx.inputs) c.loop-k.k c.asset_in-asset.result.now c.in-Some.cause c.loop-k.invariant
    (map_along asset_in c.as_slice-inputs.ensures (record { there = c.loop-k-test.true; is = c.index-inputs-k.is }) c.asset_in-asset.ensures)
    c.in-Some.ensures

pub returns : goal.returns
returns c =
    let tx = c.args.tx.now in
    nowhere (λ n asset. IsUnbalanced tx asset) (map asset_in tx.inputs) c.loop-k.k (map_long asset_in c.loop-k.k c.as_slice-inputs.ensures c.loop-k-test.false) c.loop-k.invariant
