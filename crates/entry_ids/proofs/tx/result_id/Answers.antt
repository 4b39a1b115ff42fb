use Rattle.std.proofs.Common.{◌∙◌, List, ℕ, Some, sym, ap}
use Rattle.entry_ids.specs.Ids.{mux_id, result_id}
use Rattle.wire.specs.Lists.{got}
use Rattle.data_model.specs.Members.{output_within}
use Rattle.entry_ids.proofs.Elements.{counted_at}
use Rattle.entry_ids.proofs.tx.result_id.Goals as goal

pub ids_of_result-requires-clause-output : goal.ids_of_result-requires-clause-output
ids_of_result-requires-clause-output g c =
    output_within c.args.tx.now c.args.k c.index-as_slice-k.result c.requires.tx (got _ _ _ (record { there = c.requires.there; is = rw c.as_slice.ensures at c.index-as_slice-k.is }))

pub returns : goal.returns
returns g c =
    let hash = g.H.IdHash.hash_of c.args.hash.now in
    let tx = c.args.tx.now in
    let output = c.index-as_slice-k.result in
    counted_at (result_id hash (mux_id hash tx)) tx.outputs c.args.k output (record { there = c.requires.there; is = rw c.as_slice.ensures at c.index-as_slice-k.is })
    ∙ ap (λ (mux : List ℕ). Some (result_id hash mux c.args.k output)) (sym c.in_ok-mux.ensures)
    ∙ ap (λ (id : List ℕ). Some id) (sym c.in_ok-ids.ensures.entry)
