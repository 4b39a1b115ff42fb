-- What blocks owe that are offered to a ledger.
use Rattle.std.specs.Prelude.{List, [], ◌∷◌, ◌++◌, Some}
use Rattle.data_model.specs.declared.block.Block.{Block}
use Rattle.entry_ids.specs.Entry.{header_id}
use Rattle.keyed.specs.Functions.{Check}
use Rattle.ledger_core.specs.declared.refusal.BlockRefusal.{BlockRefusal}
use Rattle.ledger_core.specs.Refusal.{Refusal, ValidNext}
use Rattle.keyed.specs.Functions.{Hash}
use Rattle.outside.specs.Files.{Append}
use Rattle.outside.specs.Steps.{Step, Write, Print}
use Rattle.data_model.specs.Files.{block_frame}
use Rattle.command_lines.specs.Line.{accepted_line, refused_block}
use Rattle.word_lines.specs.Word.{Word}

-- What one block owes that is offered after these blocks, and the blocks after it: an accepted one is appended to the
-- ledger and then reported; a refused one is reported.
pub data OfferOwes (hash : Hash) (check : Check) (ledger : Word) (blocks : List Block) (block : Block)
    : List Block → List Step → Type 0 where
  accepted :
      ValidNext hash check blocks block
      → OfferOwes hash check ledger blocks block (blocks ++ block ∷ [])
      (Write Append ledger (block_frame block)
      ∷ Print (accepted_line block.header.height (header_id hash block.header))
      ∷ [])
  refused :
      {why : BlockRefusal}
      → Refusal hash check blocks block (Some why)
      → OfferOwes hash check ledger blocks block blocks (Print (refused_block why) ∷ [])

-- what several owe, one after the other
pub data OffersOwe (hash : Hash) (check : Check) (ledger : Word) : List Block → List Block → List Step → Type 0 where
  none : {blocks : List Block} → OffersOwe hash check ledger blocks [] []
  next :
      {blocks : List Block} (after : List Block) {offers : List Block} {block : Block} (steps later : List Step)
      → OfferOwes hash check ledger blocks block after steps
      → OffersOwe hash check ledger after offers later
      → OffersOwe hash check ledger blocks (block ∷ offers) (steps ++ later)
