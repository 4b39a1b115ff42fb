-- Reading from left to right, with the first fault that is met.
use Rattle.std.specs.Prelude.{ℕ, List, Some, Result}
use Rattle.wire.specs.Layout.{Value, read_at}
use Rattle.wire.specs.Places.{many_at}
use Rattle.data_model.specs.declared.header.Header.{Header}
use Rattle.data_model.specs.declared.block.Block.{Block}
use Rattle.data_model.specs.declared.tx.Tx.{Tx}
use Rattle.data_model.specs.Limits.{args_layout}
use Rattle.data_model.specs.Layout.{header_layout, most_txs, most_tx_bytes}
use Rattle.data_model.specs.TransactionReading.{next_tx_at}
pub use Rattle.wire.specs.Places.{Place, Fault, Reading, mapped, then_at, number_at, start, whole_at, Fails, Gives}
pub use Rattle.wire.specs.Places.{Reads}

abbrev pub args_at : Place → Reading (List (List ℕ))
args_at place = read_at args_layout place

-- the header of these values
abbrev pub header_made : Value header_layout → Header
header_made (version, (height, (previous, (time, (tx_root, (unspent_root, next_program)))))) = record {
  version = version;
  height = height;
  previous = previous;
  time = time;
  tx_root = tx_root;
  unspent_root = unspent_root;
  next_program = next_program;
}

abbrev pub header_at : Place → Reading Header
header_at place = mapped header_made (read_at header_layout place)

abbrev pub txs_at : Place → Reading (List Tx)
txs_at place = many_at most_txs (Some most_tx_bytes) next_tx_at place

abbrev pub block_of : Header × (List (List ℕ) × List Tx) → Block
block_of v = record { header = v.0; args = v.1.0; txs = v.1.1 }

abbrev pub next_block_at : Place → Reading Block
next_block_at place = mapped block_of (then_at header_at (then_at args_at txs_at) place)

-- the block that all of the bytes spell
unfoldable pub block_at : List ℕ → Result Block Fault
block_at bytes = whole_at next_block_at (start bytes)
