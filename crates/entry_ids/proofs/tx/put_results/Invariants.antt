use Rattle.std.proofs.Common.{◌≡◌, ◌++◌, length, take}
use Rattle.std.specs.Prelude.{map}
use Rattle.std.specs.List.{concat}
use Rattle.wire.specs.Spelling.{varint}
use Rattle.entry_ids.specs.Ids.{result_data, results_of}
use Rattle.entry_ids.proofs.tx.put_results.Given as goal

abbrev pub invariant-loop-position : goal.invariant-loop-position
invariant-loop-position g l =
    let hash = g.H.IdHash.hash_of l.hash in
    let before = take l.position l.outputs in
    record {
      entries : l.lists.entries ≡ results_of hash l.mux before;
      data_hashes : l.lists.data_hashes ≡ map (result_data hash) before;
      body : l.body ≡ varint l.tx.version ++ varint (length l.outputs) ++ concat l.lists.entries;
    }
