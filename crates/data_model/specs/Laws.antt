-- What holds of the reading of blocks and of transactions.
use Rattle.std.specs.Prelude.{◌≡◌, ◌≤◌, ℕ, ◌↔◌, ◌++◌, List, length, Ok, Err}
use Rattle.wire.specs.Spelling.{AreBytes}
use Rattle.wire.specs.declared.fault.DataKind.{DataKind}
use Rattle.data_model.specs.declared.header.Header.{Header}
use Rattle.data_model.specs.declared.block.Block.{Block}
use Rattle.wire.specs.FirstFault.{FirstFaultOfAll}
use Rattle.data_model.specs.Layout.{block_layout}
use Rattle.data_model.specs.Spelling.{IsHeader, IsBlock, header_spelling, block_spelling}
use Rattle.data_model.specs.Reading.{Fault, block_at}
use Rattle.wire.specs.LayoutLaws.{RecordLaws}
use Rattle.data_model.specs.Transaction.{tx_layout, IsTx, tx_spelling}
use Rattle.data_model.specs.TransactionReading.{tx_at}

pub record BlockLaws : Type 0 where
  -- what is read is spelled so
  pub spelled :
      (bytes : List ℕ) (block : Block)
      → AreBytes bytes
      → block_at bytes ≡ Ok block
      → IsBlock block × (bytes ≡ block_spelling block)
  -- what is spelled is read again
  pub again : (block : Block) → IsBlock block → block_at (block_spelling block) ≡ Ok block
  -- no two blocks have one spelling
  pub one_form : (a b : Block) → IsBlock a → IsBlock b → block_spelling a ≡ block_spelling b → a ≡ b
  -- no header's spelling begins another's
  pub one_header :
      (a b : Header) (x y : List ℕ)
      → IsHeader a
      → IsHeader b
      → header_spelling a ++ x ≡ header_spelling b ++ y
      → (a ≡ b) × (x ≡ y)
  -- what is reported of other bytes is their first fault
  pub fault :
      (bytes : List ℕ) (f : Fault)
      → AreBytes bytes
      → (block_at bytes ≡ Err f) ↔ FirstFaultOfAll block_layout bytes f.at f.kind
  -- bytes have at most one first fault
  pub one_fault :
      (bytes : List ℕ) (f g : Fault)
      → AreBytes bytes
      → FirstFaultOfAll block_layout bytes f.at f.kind
      → FirstFaultOfAll block_layout bytes g.at g.kind
      → f ≡ g
  -- a fault stands at one of the bytes, or at their end
  pub within : (bytes : List ℕ) (at : ℕ) (kind : DataKind) → FirstFaultOfAll block_layout bytes at kind
      → at ≤ length bytes

-- all bytes spell one transaction or have one first fault, and no spelling begins another
abbrev pub TxLaws : Type 0
TxLaws = RecordLaws tx_layout IsTx tx_spelling tx_at
