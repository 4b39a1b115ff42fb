use Rattle.std.proofs.Common.{List, ℕ, inl, inr, refl}
use Rattle.std.specs.Prelude.{◌⊎◌, map, take, Contains}
use Rattle.data_model.specs.declared.tx.Tx.{Tx}
use Rattle.tx_check.specs.FirstPlace.{AtFirst}
use Rattle.tx_check.specs.Parts.{asset_in}
use Rattle.wire.specs.Tables.{HoldsNot}
use Rattle.tx_check.specs.Table.{asset_out}
use Rattle.tx_check.specs.Table.{IsUnbalanced}
use Rattle.tx_check.specs.FirstPlaces.{NoneBelow, none_more_at, found_at, nowhere, everywhere}
use Rattle.tx_check.proofs.Everywhere.{known, map_along, map_long, place_of}
use Rattle.tx_check.proofs.assets.unbalanced_out.Goals as goal

-- an asset that appeared is one of the inputs, or was found to be balanced before
appeared : (tx : Tx) → HoldsNot (AtFirst (λ n asset. IsUnbalanced tx asset) (map asset_in tx.inputs)) → (k : ℕ) (asset : List ℕ) → NoneBelow (λ n a. IsUnbalanced tx a) (map asset_out tx.outputs) k → Contains (map asset_in tx.inputs) asset ⊎ Contains (map asset_out (take k tx.outputs)) asset → HoldsNot (IsUnbalanced tx asset)
appeared tx none k asset below (inl h) =
    let at = place_of (map asset_in tx.inputs) asset h in
    everywhere (λ n a. IsUnbalanced tx a) (map asset_in tx.inputs) none at.0 asset at.1
appeared tx none k asset below (inr h) = known (IsUnbalanced tx) asset_out tx.outputs tx.outputs k asset refl below h

pub loop-k-preserved-then-appears : goal.loop-k-preserved-then-appears
loop-k-preserved-then-appears c =
    let tx = c.args.tx.now in
    none_more_at (λ n asset. IsUnbalanced tx asset) (map asset_out tx.outputs) c.loop-k.k c.asset_out-asset.result.now c.loop-k.invariant
    (map_along asset_out c.as_slice-outputs.ensures (record { there = c.loop-k-test.true; is = c.index-outputs-k.is }) c.asset_out-asset.ensures)
    (appeared tx c.requires c.loop-k.k c.asset_out-asset.result.now c.loop-k.invariant (c.if-appears.ensures.0 refl))

pub loop-k-preserved : goal.loop-k-preserved
loop-k-preserved c =
    let tx = c.args.tx.now in
    none_more_at (λ n asset. IsUnbalanced tx asset) (map asset_out tx.outputs) c.loop-k.k c.asset_out-asset.result.now c.loop-k.invariant
    (map_along asset_out c.as_slice-outputs.ensures (record { there = c.loop-k-test.true; is = c.index-outputs-k.is }) c.asset_out-asset.ensures)
    c.in_default.ensures

pub returns-in-Some : goal.returns-in-Some
returns-in-Some c =
    let tx = c.args.tx.now in
    found_at (λ n asset. IsUnbalanced tx asset) (map asset_out tx.outputs) c.loop-k.k c.asset_out-asset.result.now c.in-Some.cause c.loop-k.invariant
    (map_along asset_out c.as_slice-outputs.ensures (record { there = c.loop-k-test.true; is = c.index-outputs-k.is }) c.asset_out-asset.ensures)
    c.in-Some.ensures

pub returns : goal.returns
returns c =
    let tx = c.args.tx.now in
    nowhere (λ n asset. IsUnbalanced tx asset) (map asset_out tx.outputs) c.loop-k.k (map_long asset_out c.loop-k.k c.as_slice-outputs.ensures c.loop-k-test.false) c.loop-k.invariant
