-- The two roots that a block names.
use Rattle.std.specs.Prelude.{ℕ, List, [], map, ◌++◌}
use Rattle.keyed.specs.Functions.{Hash}
use Rattle.data_model.specs.declared.block.Block.{Block}
use Rattle.entry_ids.specs.Ids.{tx_id}
use Rattle.merkle.specs.Roots.{list_root, set_root}
use Rattle.tx_check.specs.View.{Unspent}
use Rattle.ledger_core.specs.Blocks.{txs_of}
use Rattle.ledger_core.specs.Unspent.{unspent_after}

-- the root of no ids, as a list and as a set
abbrev pub root_of_none : Hash → List ℕ
root_of_none hash = hash []

-- the root of the ids of a block's transactions, in order
abbrev pub tx_root : Hash → Block → List ℕ
tx_root hash block = list_root hash (map (tx_id hash) block.txs)

-- the ids of outputs
abbrev pub output_ids : List Unspent → List (List ℕ)
output_ids outputs = map (λ output. output.id) outputs

-- the root of the set of the ids of the outputs that are unspent after these blocks and then this one
abbrev pub unspent_root : Hash → List Block → Block → List ℕ
unspent_root hash blocks block = set_root hash (output_ids (unspent_after hash (txs_of blocks ++ block.txs)))
