use Rattle.std.proofs.Common.{◌∙◌, List, ℕ, Some, sym, ap}
use Rattle.entry_ids.specs.Ids.{input_id}
use Rattle.wire.specs.Lists.{got}
use Rattle.data_model.specs.Members.{input_within}
use Rattle.entry_ids.proofs.Elements.{mapped_at}
use Rattle.entry_ids.proofs.tx.input_id.Goals as goal

pub ids_of_input-requires-clause-input : goal.ids_of_input-requires-clause-input
ids_of_input-requires-clause-input g c =
    input_within c.args.tx.now c.args.k c.index-as_slice-k.result c.requires.tx (got _ _ _ (record { there = c.requires.there; is = rw c.as_slice.ensures at c.index-as_slice-k.is }))

pub returns : goal.returns
returns g c =
    let hash = g.H.IdHash.hash_of c.args.hash.now in
    let tx = c.args.tx.now in
    mapped_at (input_id hash tx) tx.inputs c.args.k c.index-as_slice-k.result (record { there = c.requires.there; is = rw c.as_slice.ensures at c.index-as_slice-k.is })
    ∙ ap (λ (id : List ℕ). Some id) (sym c.in_ok-ids.ensures.entry)
