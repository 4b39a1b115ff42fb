use Rattle.std.proofs.Common.{◌≡◌, ◌++◌, length, take}
use Rattle.std.specs.Prelude.{map}
use Rattle.std.specs.List.{flat_map}
use Rattle.wire.specs.Spelling.{varint}
use Rattle.entry_ids.specs.Ids.{input_data, input_id, names, value_of}
use Rattle.entry_ids.proofs.tx.add_inputs.Given as goal

abbrev pub invariant-loop-input : goal.invariant-loop-input
invariant-loop-input g l =
    let hash = g.H.IdHash.hash_of l.hash in
    let id = input_id hash l.tx in
    let before = take l.input-index l.inputs in
    record {
      entries : l.lists.entries ≡ map id before;
      named : l.lists.named ≡ map (names hash l.tx) before;
      data_hashes : l.lists.data_hashes ≡ map (input_data hash) before;
      body : l.body ≡ varint (length l.inputs) ++ flat_map (λ input. id input ++ value_of input) before;
    }
