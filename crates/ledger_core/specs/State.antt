-- What a chain and some transactions of an unfinished block show to the rules of transactions.
use Rattle.std.specs.Prelude.{ℕ, List, [], ◌++◌, map, slice_get, Option, Some, None}
use Rattle.data_model.specs.declared.block.Block.{Block}
use Rattle.data_model.specs.declared.tx.Tx.{Tx}
use Rattle.entry_ids.specs.Entry.{header_id}
use Rattle.keyed.specs.Functions.{Hash}
use Rattle.tx_check.specs.View.{State}
use Rattle.ledger_core.specs.Blocks.{tip_of, txs_of, time_of}
use Rattle.ledger_core.specs.Unspent.{unspent_after, used, live_at}
use Rattle.ledger_core.specs.declared.unfinished.LiveNonce.{LiveNonce}

-- the id of a block, where there is one
abbrev pub id_of : Hash → Option Block → List ℕ
id_of hash None = []
id_of hash (Some block) = header_id hash block.header

-- the ids of nonces
abbrev pub ids_of : List LiveNonce → List (List ℕ)
ids_of nonces = map (λ nonce. nonce.id) nonces

-- The initial block's id; the outputs that are unspent after the blocks and then these transactions; and the nonces
-- that are live: those of the blocks whose maxtime is not below the last block's time, and all of these transactions.
abbrev pub state_after : Hash → List Block → List Tx → State
state_after hash blocks txs = record {
  initial = id_of hash (slice_get blocks 0);
  unspent = unspent_after hash (txs_of blocks ++ txs);
  live = ids_of (live_at (time_of (tip_of blocks)) (used hash (txs_of blocks))) ++ ids_of (used hash txs);
}
