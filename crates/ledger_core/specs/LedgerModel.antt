-- What a ledger is seen as.
use Rattle.std.specs.Prelude.{ℕ, List, ◌++◌}
use Rattle.data_model.specs.declared.block.Block.{Block}
use Rattle.data_model.specs.Spelling.{IsHeader, AreTxs}
use Rattle.tx_check.specs.View.{State, Unspent}
use Rattle.ledger_core.specs.State.{ids_of}
use Rattle.ledger_core.specs.Unspent.{left_of}
use Rattle.ledger_core.specs.declared.unfinished.LiveNonce.{LiveNonce}

-- a block within the limits of spelling, but for its arguments, which the run limit bounds
pub record IsSpellable (block : Block) : Type 0 where
  pub header : IsHeader block.header
  pub txs : AreTxs block.txs

-- Its blocks, the initial one first; the ids that it keeps for the initial block and for the last one, and the root of
-- no ids; the outputs that are unspent, in the order in which they were made; and the nonces that are live.
pub record LedgerModel : Type 0 where
  pub blocks : List Block
  pub initial : List ℕ
  pub tip_id : List ℕ
  pub empty_root : List ℕ
  pub unspent : List Unspent
  pub live : List LiveNonce

-- what it shows to the rules of transactions
abbrev pub shown : LedgerModel → State
shown model = record { initial = model.initial; unspent = model.unspent; live = ids_of model.live }

-- the same after some transactions, which have made and left unspent these outputs, have spent these ids and have used
-- these nonces
abbrev pub shown_with : LedgerModel → (made : List Unspent) → (spent : List (List ℕ)) → (used : List LiveNonce) → State
shown_with model made spent used = record {
  initial = model.initial;
  unspent = left_of spent model.unspent ++ made;
  live = ids_of model.live ++ ids_of used;
}
