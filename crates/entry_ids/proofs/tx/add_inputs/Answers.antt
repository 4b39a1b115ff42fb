use Rattle.std.proofs.Common.{List, ℕ, ◌∙◌, ap, arith}
use Rattle.std.proofs.lemmas.Grind.{common_steps}
use Rattle.std.specs.Prelude.{codes}
use Rattle.entry_ids.specs.Entry.{entry}
use Rattle.entry_ids.specs.Ids.{mux_id}
use Rattle.wire.specs.Lists.{got}
use Rattle.data_model.specs.Members.{input_within}
use Rattle.entry_ids.proofs.tx.add_inputs.Goals as goal

pub ids_of_input-requires-clause-input : goal.ids_of_input-requires-clause-input
ids_of_input-requires-clause-input g c =
    input_within c.args.tx.now c.loop-input.input-index c.input-item.result c.requires.tx (got _ _ _ (record { there = rw c.as_slice-inputs.ensures at c.loop-input-test.true; is = rw c.as_slice-inputs.ensures at c.input-item.is }))

pub put_value-requires : goal.put_value-requires
put_value-requires g c =
    input_within c.args.tx.now c.loop-input.input-index c.input-item.result c.requires.tx (got _ _ _ (record { there = rw c.as_slice-inputs.ensures at c.loop-input-test.true; is = rw c.as_slice-inputs.ensures at c.input-item.is }))

pub returns-clause-mux : goal.returns-clause-mux
unfolding mux_id
returns-clause-mux g c =
    c.entry_id.ensures
    ∙ ap (λ (body : List ℕ). entry (g.H.IdHash.hash_of c.args.hash.now) (codes "mux1") body) (c.as_slice.ensures ∙ grind (arith, common_steps))
