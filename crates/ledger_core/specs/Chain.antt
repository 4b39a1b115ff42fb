-- Chains, and what a list of offers makes of one.
use Rattle.std.specs.Prelude.{◌≡◌, List, [], ◌∷◌, ◌++◌, slice_get, Option, Some, None}
use Rattle.std.specs.List.{AllByRecursion}
use Rattle.data_model.specs.declared.block.Block.{Block}
use Rattle.entry_ids.specs.Entry.{header_id}
use Rattle.keyed.specs.Functions.{Check}
use Rattle.ledger_core.specs.declared.refusal.BlockRefusal.{BlockRefusal}
use Rattle.ledger_core.specs.LedgerModel.{LedgerModel, IsSpellable}
use Rattle.ledger_core.specs.Roots.{root_of_none}
use Rattle.keyed.specs.Functions.{Hash}
use Rattle.ledger_core.specs.Start.{StartRefusal}
use Rattle.ledger_core.specs.Blocks.{tip_of, txs_of, time_of}
use Rattle.ledger_core.specs.Refusal.{Refusal, ValidNext}
use Rattle.ledger_core.specs.State.{id_of}
use Rattle.ledger_core.specs.Unspent.{unspent_after, used, live_at}

-- each of the later blocks extends those before it
abbrev pub GoesOn : Hash → Check → List Block → List Block → Type 0
GoesOn hash check before [] = Unit {0}
GoesOn hash check before (block ∷ later) =
    ValidNext hash check before block × GoesOn hash check (before ++ block ∷ []) later

-- the first block starts a chain, and each later one extends those before it
abbrev pub Chain : Hash → Check → List Block → Type 0
Chain hash check [] = ⊥
Chain hash check (initial ∷ later) = StartRefusal hash initial None × GoesOn hash check (initial ∷ []) later

-- ---- offers

-- An offer with no refusal is added at the end, and another one is dropped.
abbrev pub after_offer : List Block → Block → Option BlockRefusal → List Block
after_offer blocks offer None = blocks ++ offer ∷ []
after_offer blocks offer (Some cause) = blocks

-- The offers one after the other, each with its verdict: its refusal after the blocks that there are then, or none. The
-- final blocks are those after the last of them.
abbrev pub Accepted : Hash → Check → List Block → List Block → List Block → List (Option BlockRefusal) → Type 0
Accepted hash check blocks [] final [] = final ≡ blocks
Accepted hash check blocks [] final (verdict ∷ verdicts) = ⊥
Accepted hash check blocks (offer ∷ offers) final [] = ⊥
Accepted hash check blocks (offer ∷ offers) final (verdict ∷ verdicts) =
    Refusal hash check blocks offer verdict
    × Accepted hash check (after_offer blocks offer verdict) offers final verdicts

-- ---- ledgers

-- A ledger stands for a hash and a check of signatures: its blocks are a chain under them, each within the limits of
-- spelling, and what it keeps is what they show.
pub record StandsFor (hash : Hash) (check : Check) (ledger : LedgerModel) : Type 0 where
  pub chain : Chain hash check ledger.blocks
  pub within : AllByRecursion IsSpellable ledger.blocks
  pub tip_id : (tip : Block) → tip_of ledger.blocks ≡ Some tip → ledger.tip_id ≡ header_id hash tip.header
  pub empty_root : ledger.empty_root ≡ root_of_none hash
  pub initial : ledger.initial ≡ id_of hash (slice_get ledger.blocks 0)
  pub unspent : ledger.unspent ≡ unspent_after hash (txs_of ledger.blocks)
  pub live : ledger.live ≡ live_at (time_of (tip_of ledger.blocks)) (used hash (txs_of ledger.blocks))
