-- What holds of refusals, chains and offers.
use Rattle.std.specs.Prelude.{◌≡◌, ◌<◌, ◌↔◌, List, [], ◌∷◌, ◌++◌, length, Option, Some, None}
use Rattle.data_model.specs.declared.block.Block.{Block}
use Rattle.keyed.specs.Functions.{Check}
use Rattle.ledger_core.specs.declared.refusal.BlockRefusal.{BlockRefusal}
use Rattle.wire.specs.Tables.{OneAnswer}
use Rattle.ledger_core.specs.Roots.{root_of_none}
use Rattle.keyed.specs.Functions.{Hash}
use Rattle.ledger_core.specs.Start.{start_causes, StartRefusal}
use Rattle.ledger_core.specs.Refusal.{block_causes, unsealed_causes, Refusal, UnsealedRefusal, ValidNext, tip_of}
use Rattle.ledger_core.specs.Valid.{IsInitial, Extends}
use Rattle.ledger_core.specs.Chain.{Chain, Accepted, after_offer}

-- of each table there is one answer
pub record TableLaws (hash : Hash) (check : Check) : Type 0 where
  pub start : (block : Block) → OneAnswer (start_causes (root_of_none hash) block)
  pub next : (blocks : List Block) (tip block : Block) → OneAnswer (block_causes hash check blocks tip.header block)
  pub unsealed :
      (blocks : List Block) (tip block : Block)
      → OneAnswer (unsealed_causes hash check blocks tip.header block)

-- a block that is offered after some blocks has a refusal or none, and no two; sealed, and not sealed as yet
pub record RefusalLaws (hash : Hash) (check : Check) : Type 0 where
  pub some :
      (blocks : List Block) (block : Block)
      → 0 < length blocks
      → (cause : Option BlockRefusal) × Refusal hash check blocks block cause
  pub one :
      (blocks : List Block) (block : Block) (a b : Option BlockRefusal)
      → Refusal hash check blocks block a
      → Refusal hash check blocks block b
      → a ≡ b
  pub unsealed_some :
      (blocks : List Block) (block : Block)
      → 0 < length blocks
      → (cause : Option BlockRefusal) × UnsealedRefusal hash check blocks block cause
  pub unsealed_one :
      (blocks : List Block) (block : Block) (a b : Option BlockRefusal)
      → UnsealedRefusal hash check blocks block a
      → UnsealedRefusal hash check blocks block b
      → a ≡ b

pub record ValidLaws (hash : Hash) (check : Check) : Type 0 where
  -- a block without a fault is an initial block
  pub initial : (block : Block) → StartRefusal hash block None ↔ IsInitial hash block
  -- a block without a refusal extends the last block
  pub next :
      (blocks : List Block) (block : Block)
      → ValidNext hash check blocks block
      ↔ ((tip : Block) × (tip_of blocks ≡ Some tip) × Extends hash check blocks tip block)

pub record ChainLaws (hash : Hash) (check : Check) : Type 0 where
  -- a chain has an initial block
  pub not_empty : (blocks : List Block) → Chain hash check blocks → 0 < length blocks
  -- heights count from 1
  pub heights :
      (blocks : List Block) (tip : Block)
      → Chain hash check blocks
      → tip_of blocks ≡ Some tip
      → tip.header.height ≡ length blocks
  -- a valid next block makes a longer chain
  pub grows :
      (blocks : List Block) (block : Block)
      → Chain hash check blocks
      → ValidNext hash check blocks block
      → Chain hash check (blocks ++ block ∷ [])
  -- and there is no other way to one
  pub only :
      (blocks : List Block) (block : Block)
      → 0 < length blocks
      → Chain hash check (blocks ++ block ∷ [])
      → Chain hash check blocks × ValidNext hash check blocks block
  -- offers keep a chain
  pub kept :
      (start offers final : List Block) (verdicts : List (Option BlockRefusal))
      → Chain hash check start
      → Accepted hash check start offers final verdicts
      → Chain hash check final

pub record OfferLaws (hash : Hash) (check : Check) : Type 0 where
  -- each list of offers has final blocks and verdicts
  pub some :
      (start offers : List Block)
      → 0 < length start
      → (final : List Block) × (verdicts : List (Option BlockRefusal)) × Accepted hash check start offers final verdicts
  -- and no two
  pub one :
      (start offers a b : List Block) (u v : List (Option BlockRefusal))
      → Accepted hash check start offers a u
      → Accepted hash check start offers b v
      → (a ≡ b) × (u ≡ v)
  -- one offer more
  pub more :
      (start offers final : List Block) (verdicts : List (Option BlockRefusal)) (offer : Block)
      (verdict : Option BlockRefusal)
      → Accepted hash check start offers final verdicts
      → Refusal hash check final offer verdict
      → Accepted hash check start (offers ++ offer ∷ []) (after_offer final offer verdict) (verdicts ++ verdict ∷ [])
