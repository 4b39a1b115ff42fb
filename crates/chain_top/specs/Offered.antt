-- What the functions answer that offer blocks, against the model. Only contracts of private functions name it.
use Rattle.std.specs.Prelude.{◌≡◌, List, OnOk, Result}
use Rattle.data_model.specs.declared.block.Block.{Block}
use Rattle.keyed.specs.Functions.{Check, Hash}
use Rattle.outside.specs.Steps.{Step}
use Rattle.outside.specs.World.{Io}
use Rattle.chain_top.specs.Offers.{OfferOwes, OffersOwe}
use Rattle.replies.specs.Plan.{done, stop_of, Does}
use Rattle.replies.specs.Runs.{MayStop}
use Rattle.word_lines.specs.Word.{Word}
use Rattle.replies.specs.declared.stop.Stop.{Stop}

-- One block was offered, and what it owes was done up to some step. Where it was all done, the ledger then has the
-- blocks that the model says.
pub record OfferDone {T : Type 0} (hash : Hash) (check : Check) (ledger : Word) (blocks : List Block) (block : Block)
    (later : List Block) (before after : Io) (result : Result T Stop) : Type 0 where
  pub left : List Block
  pub steps : List Step
  pub owes : OfferOwes hash check ledger blocks block left steps
  pub does : Does (done steps) before after result
  pub kept : OnOk result (later ≡ left)

-- so were several
pub record OffersDone {T : Type 0} (hash : Hash) (check : Check) (ledger : Word) (blocks offers : List Block)
    (before after : Io) (result : Result T Stop) : Type 0 where
  pub steps : List Step
  pub owe : OffersOwe hash check ledger blocks offers steps
  -- where they stopped, there is something to do
  pub may : MayStop steps (stop_of result)
  pub does : Does (done steps) before after result
