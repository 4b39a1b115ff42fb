-- How records are spelled in bytes, and which of them have a spelling.
use Rattle.std.specs.Prelude.{◌≡◌, ℕ, ◌^◌, ◌≤◌, ◌<◌, List, ◌++◌, length}
use Rattle.std.specs.List.{flat_map, AllByRecursion}
use Rattle.wire.specs.Spelling.{varint, varstring}
use Rattle.wire.specs.Layout.{fields_spelling}
use Rattle.data_model.specs.declared.header.Header.{Header}
use Rattle.data_model.specs.declared.block.Block.{Block}
use Rattle.data_model.specs.declared.tx.Tx.{Tx}
use Rattle.data_model.specs.Limits.{IsString, AreArgs}
use Rattle.data_model.specs.Layout.{most_txs, most_tx_bytes, header_fields}
use Rattle.data_model.specs.Transaction.{IsTx, tx_spelling}

-- ---- within the limits

pub record IsHeader (header : Header) : Type 0 where
  pub version : header.version < 2 ^ 63
  pub height : header.height < 2 ^ 63
  pub previous : length header.previous ≡ 32
  pub time : header.time < 2 ^ 63
  pub tx_root : length header.tx_root ≡ 32
  pub unspent_root : length header.unspent_root ≡ 32
  pub next_program : IsString header.next_program

-- not too many transactions, each within its limits, and not too many bytes of them together
pub record AreTxs (txs : List Tx) : Type 0 where
  pub count : length txs ≤ most_txs
  pub each : AllByRecursion IsTx txs
  pub within : length (flat_map tx_spelling txs) ≤ most_tx_bytes

pub record IsBlock (block : Block) : Type 0 where
  pub header : IsHeader block.header
  pub args : AreArgs block.args
  pub txs : AreTxs block.txs

-- ---- the spellings

-- how many arguments there are, and the arguments
abbrev pub args_spelling : List (List ℕ) → List ℕ
args_spelling args = varint (length args) ++ flat_map varstring args

unfoldable pub header_spelling : Header → List ℕ
header_spelling = fields_spelling header_fields

-- how many transactions there are, and the transactions
abbrev pub txs_spelling : List Tx → List ℕ
txs_spelling txs = varint (length txs) ++ flat_map tx_spelling txs

-- the header, the arguments, and the transactions
unfoldable pub block_spelling : Block → List ℕ
block_spelling block = header_spelling block.header ++ args_spelling block.args ++ txs_spelling block.txs
