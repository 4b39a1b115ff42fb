-- Which blocks extend a chain: the table of refusals, B1 to B9.
use Rattle.std.specs.Prelude.{◌≡◌, ◌≢◌, ◌≤◌, ℕ, ◌+◌, List, [], ◌∷◌, ◌++◌, take, Option, Some, None}
use Rattle.wire.specs.Tables.{Free, First, Cause, Reports}
use Rattle.data_model.specs.declared.header.Header.{Header}
use Rattle.data_model.specs.declared.block.Block.{Block}
use Rattle.data_model.specs.declared.tx.Tx.{Tx}
use Rattle.entry_ids.specs.Entry.{header_id}
use Rattle.vm_num.specs.declared.failure.Failure.{Failure}
use Rattle.vm_run.specs.declared.verdict.Verdict.{Verdict}
use Rattle.vm_run.specs.declared.verdict.Verdict.TheVariants.{Failed}
use Rattle.vm_run.specs.declared.context.Context.{Context}
use Rattle.keyed.specs.Functions.{Check}
use Rattle.vm_run.specs.declared.context.Context.TheVariants as contexts
use Rattle.vm_run.specs.Verdict.{HasVerdict}
use Rattle.ledger_core.specs.declared.refusal.BlockRefusal.{BlockRefusal}
use Rattle.ledger_core.specs.declared.refusal.BlockRefusal.TheVariants.{B1, B2, B3, B4, B6, B7, B8, B9}
use Rattle.ledger_core.specs.declared.refusal.OfferFault.{OfferFault}
use Rattle.ledger_core.specs.declared.refusal.OfferFault.TheVariants.{Refused, NoMemory}
use Rattle.tx_check.specs.declared.refusal.TxRefusal.{TxRefusal}
use Rattle.keyed.specs.Functions.{Hash}
use Rattle.tx_check.specs.Contexts.{run_limit}
use Rattle.tx_check.specs.FirstPlace.{AtFirst}
use Rattle.tx_check.specs.Table as table
use Rattle.ledger_core.specs.Roots.{tx_root, unspent_root}
pub use Rattle.ledger_core.specs.Blocks.{tip_of}
use Rattle.ledger_core.specs.State.{state_after}

-- ---- the program that a block has to satisfy

-- what the tip's next program is run in
abbrev pub context_after : Hash → Header → Header → Context
context_after hash tip header =
    contexts.Block
    (record {
      block_id = header_id hash header;
      program = tip.next_program;
      next_program = header.next_program;
      time = header.time;
    })

-- the verdict on the tip's next program
abbrev pub HasVerdictAfter : Hash → Check → (tip header : Header) → List (List ℕ) → Verdict → Type 0
HasVerdictAfter hash check tip header args verdict =
    HasVerdict (context_after hash tip header) check tip.next_program args run_limit verdict

-- it does not succeed on the block's arguments: it fails with this kind at this place
abbrev pub ProgramFails : Hash → Check → Header → Block → Cause BlockRefusal
ProgramFails hash check tip block reported =
    (kind : Failure) × (at : ℕ)
    × HasVerdictAfter hash check tip block.header block.args (Failed kind at)
    × (reported ≡ B7 kind at)

-- ---- the transactions

-- The transaction at a place is refused, in a block of this time, on what the blocks and the transactions before it
-- show.
abbrev pub IsRefusedTx : Hash → Check → List Block → (time : ℕ) → List Tx → (place : ℕ) → Tx → Cause BlockRefusal
IsRefusedTx hash check blocks time txs place tx reported =
    (cause : TxRefusal)
    × table.Refusal hash check (state_after hash blocks (take place txs)) time tx (Some cause)
    × (reported ≡ B8 place cause)

-- the first transaction that is refused
abbrev pub HasRefusedTx : Hash → Check → List Block → (time : ℕ) → List Tx → Cause BlockRefusal
HasRefusedTx hash check blocks time txs = AtFirst (IsRefusedTx hash check blocks time txs) txs

-- the root of the ids of what is unspent after the block is another one
abbrev pub HasAnotherRoot : Hash → List Block → Block → Cause BlockRefusal
HasAnotherRoot hash blocks block =
    Reports
    (block.header.unspent_root ≢ unspent_root hash blocks block)
    (B9 (unspent_root hash blocks block) block.header.unspent_root)

-- ---- the table

-- B1 to B5, by the tip and its id
abbrev pub chain_causes : (tip_id : List ℕ) → (tip header : Header) → List (Cause BlockRefusal)
chain_causes tip_id tip header =
    Reports (header.previous ≢ tip_id) (B1 tip_id header.previous)
    ∷ Reports (header.height ≢ tip.height + 1) (B2 (tip.height + 1) header.height)
    ∷ Reports (header.time ≤ tip.time) (B3 tip.time header.time)
    ∷ Reports (header.version ≢ 1) (B4 header.version)
    -- B5, that the version falls, is kept free: there is no version but 1
    ∷ Free
    ∷ []

-- B6: the root of the ids of the transactions is another one
abbrev pub HasAnotherTxRoot : (computed : List ℕ) → Header → Cause BlockRefusal
HasAnotherTxRoot computed header = Reports (header.tx_root ≢ computed) (B6 computed header.tx_root)

-- B1 to B6, by the root that is computed of the ids of the block's transactions
abbrev pub header_causes : (tip_id computed : List ℕ) → (tip header : Header) → List (Cause BlockRefusal)
header_causes tip_id computed tip header =
    chain_causes tip_id tip header ++ (HasAnotherTxRoot computed header ∷ [])

-- B8 and B9
abbrev pub state_causes : Hash → Check → List Block → Block → List (Cause BlockRefusal)
state_causes hash check blocks block =
    HasRefusedTx hash check blocks block.header.time block.txs ∷ HasAnotherRoot hash blocks block ∷ []

-- of a block that is offered after these blocks, the last of which has this header
abbrev pub block_causes : Hash → Check → List Block → Header → Block → List (Cause BlockRefusal)
block_causes hash check blocks tip block =
    header_causes (header_id hash tip) (tx_root hash block) tip block.header
    ++ (ProgramFails hash check tip block ∷ state_causes hash check blocks block)

-- the same of a block whose arguments are not there as yet: B7 is left out
abbrev pub unsealed_causes : Hash → Check → List Block → Header → Block → List (Cause BlockRefusal)
unsealed_causes hash check blocks tip block =
    header_causes (header_id hash tip) (tx_root hash block) tip block.header ++ state_causes hash check blocks block

-- The first cause of the table that holds of a block which is offered after these blocks, or none.
pub record Refusal (hash : Hash) (check : Check) (blocks : List Block) (block : Block) (cause : Option BlockRefusal)
    : Type 0 where
  pub tip : Block
  pub is_tip : tip_of blocks ≡ Some tip
  pub first : First (block_causes hash check blocks tip.header block) cause

-- no cause holds: the block extends these
abbrev pub ValidNext : Hash → Check → List Block → Block → Type 0
ValidNext hash check blocks block = Refusal hash check blocks block None

-- The same without B7.
pub record UnsealedRefusal (hash : Hash) (check : Check) (blocks : List Block) (block : Block)
    (cause : Option BlockRefusal) : Type 0 where
  pub tip : Block
  pub is_tip : tip_of blocks ≡ Some tip
  pub first : First (unsealed_causes hash check blocks tip.header block) cause

-- an offer's fault is the first cause that holds; out of memory is free
abbrev pub Refuses : Hash → Check → List Block → Block → OfferFault → Type 0
Refuses hash check blocks block (Refused cause) = Refusal hash check blocks block (Some cause)
Refuses hash check blocks block NoMemory = Unit {0}

-- the same of a block that is not sealed
abbrev pub RefusesUnsealed : Hash → Check → List Block → Block → OfferFault → Type 0
RefusesUnsealed hash check blocks block (Refused cause) = UnsealedRefusal hash check blocks block (Some cause)
RefusesUnsealed hash check blocks block NoMemory = Unit {0}
