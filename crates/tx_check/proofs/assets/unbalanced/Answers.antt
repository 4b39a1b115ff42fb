use Rattle.std.proofs.Common.{Option, Some, None}
use Rattle.std.specs.Prelude.{map}
use Rattle.wire.specs.Tables.{HoldsNot}
use Rattle.data_model.specs.declared.tx.Tx.{Tx}
use Rattle.tx_check.specs.declared.refusal.TxRefusal.{TxRefusal}
use Rattle.tx_check.specs.FirstPlace.{AtFirst, Found}
use Rattle.tx_check.specs.Parts.{asset_in}
use Rattle.tx_check.specs.Table.{IsUnbalanced, HasUnbalanced, asset_out}
use Rattle.tx_check.specs.FirstPlaces.{first_of_left, first_of_right, nowhere_in_both}
use Rattle.tx_check.proofs.assets.unbalanced.Goals as goal

joined : (tx : Tx) → HoldsNot (AtFirst (λ k asset. IsUnbalanced tx asset) (map asset_in tx.inputs)) → (answer : Option TxRefusal) → Found (AtFirst (λ k asset. IsUnbalanced tx asset) (map asset_out tx.outputs)) answer → Found (HasUnbalanced tx) answer
joined tx none None others = nowhere_in_both (IsUnbalanced tx) (map asset_in tx.inputs) (map asset_out tx.outputs) none others
joined tx none (Some reported) first = first_of_right (IsUnbalanced tx) (map asset_in tx.inputs) (map asset_out tx.outputs) reported none first

pub returns-in-Some : goal.returns-in-Some
returns-in-Some c =
    let tx = c.args.tx.now in
    first_of_left (IsUnbalanced tx) (map asset_in tx.inputs) (map asset_out tx.outputs) c.in-Some.cause c.in-Some.ensures

pub returns : goal.returns
returns c = joined c.args.tx.now c.in_default.ensures c.unbalanced_out.result c.unbalanced_out.ensures
