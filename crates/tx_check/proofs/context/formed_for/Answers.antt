use Rattle.std.proofs.Common.{◌≡◌, ◌∙◌, List, ap}
use Rattle.std.specs.Prelude.{slice_get, map, option_map}
use Rattle.std.proofs.lemmas.Option.{slice_get-map, get_or_from_slice_get}
use Rattle.entry_ids.specs.declared.input.Named.{Named}
use Rattle.entry_ids.specs.Ids.{names}
use Rattle.tx_check.specs.Parts.{named_output}
use Rattle.tx_check.proofs.Named.{spent_is_named}
use Rattle.tx_check.proofs.context.formed_for.Goals as goal

pub returns-clause-output : goal.returns-clause-output
returns-clause-output c hash input ids e =
    let tx = c.args.tx.now in
    let place = c.args.place in
    let named : c.as_slice-3.result.now ≡ map (names hash tx) tx.inputs = c.as_slice-3.ensures ∙ ids.named in
    let there = ap (λ (xs : List Named). slice_get xs place) named ∙ slice_get-map (names hash tx) tx.inputs place ∙ ap (option_map (names hash tx)) e in
    c.named_output-output_id.ensures
    ∙ ap named_output (get_or_from_slice_get c.as_slice-3.result.now place (names hash tx input) Named.Nothing there)
    ∙ spent_is_named hash tx input
