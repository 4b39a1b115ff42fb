-- Which blocks start a chain: the table of what may be wrong with one, I1 to I5.
use Rattle.std.specs.Prelude.{◌≢◌, ◌⊎◌, ℕ, List, [], ◌∷◌, replicate, Option, Some}
use Rattle.wire.specs.Tables.{First, Cause, Reports}
use Rattle.data_model.specs.declared.block.Block.{Block}
use Rattle.ledger_core.specs.declared.refusal.StartFault.{StartFault}
use Rattle.ledger_core.specs.declared.refusal.StartFault.TheVariants.{HeightNotOne, PreviousNotZero, VersionNotOne}
use Rattle.ledger_core.specs.declared.refusal.StartFault.TheVariants.{NotEmpty, RootsNotEmpty}
use Rattle.ledger_core.specs.declared.refusal.StartFault.TheVariants as starts
use Rattle.ledger_core.specs.Roots.{root_of_none}
use Rattle.keyed.specs.Functions.{Hash}

-- of a block, where this is the root of no ids
abbrev pub start_causes : List ℕ → Block → List (Cause StartFault)
start_causes root block =
    -- I1
    Reports (block.header.height ≢ 1) HeightNotOne
    -- I2
    ∷ Reports (block.header.previous ≢ replicate 32 0) PreviousNotZero
    -- I3
    ∷ Reports (block.header.version ≢ 1) VersionNotOne
    -- I4
    ∷ Reports ((block.txs ≢ []) ⊎ (block.args ≢ [])) NotEmpty
    -- I5
    ∷ Reports ((block.header.tx_root ≢ root) ⊎ (block.header.unspent_root ≢ root)) RootsNotEmpty
    ∷ []

-- The first cause of the table that holds of a block which is to start a chain, or none.
pub record StartRefusal (hash : Hash) (block : Block) (fault : Option StartFault) : Type 0 where
  pub first : First (start_causes (root_of_none hash) block) fault

-- a start's fault is the first cause that holds; out of memory is free
abbrev pub RefusesStart : Hash → Block → StartFault → Type 0
RefusesStart hash block starts.NoMemory = Unit {0}
RefusesStart hash block fault = StartRefusal hash block (Some fault)
