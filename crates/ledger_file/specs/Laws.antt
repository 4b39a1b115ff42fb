-- What holds of files of blocks, and of those of ledgers.
use Rattle.std.specs.Prelude.{◌≡◌, ℕ, ◌+◌, ◌≤◌, List, length, Result, Ok}
use Rattle.wire.specs.Spelling.{AreBytes}
use Rattle.data_model.specs.declared.block.Block.{Block}
use Rattle.data_model.specs.Files.{BlocksReadAs}
use Rattle.keyed.specs.Functions.{Check}
use Rattle.ledger_core.specs.Blocks.{txs_of}
use Rattle.ledger_core.specs.Conservation.{held_units, issued, retired}
use Rattle.keyed.specs.Functions.{Hash}
use Rattle.ledger_core.specs.Unspent.{unspent_after}
use Rattle.ledger_file.specs.Loading.{LoadsAs}
use Rattle.ledger_file.specs.declared.fault.LoadFault.{LoadFault}

-- a file has no more blocks than bytes
abbrev pub FewBlocks : Type 0
FewBlocks = (bytes : List ℕ) (blocks : List Block) → BlocksReadAs bytes (Ok blocks) → length blocks ≤ length bytes

pub record LoadLaws (hash : Hash) (check : Check) : Type 0 where
  -- all bytes are the file of a ledger, or have a first fault
  pub some :
      (bytes : List ℕ)
      → AreBytes bytes
      → (answer : Result (List Block) LoadFault) × LoadsAs hash check bytes answer
  -- and no two
  pub one :
      (bytes : List ℕ) (a b : Result (List Block) LoadFault)
      → AreBytes bytes
      → LoadsAs hash check bytes a
      → LoadsAs hash check bytes b
      → a ≡ b

-- Of each asset, what is unspent after the blocks of a ledger's file and what they retire is together what they issue.
abbrev pub KeepsUnits : Hash → Check → Type 0
KeepsUnits hash check =
    (bytes : List ℕ) (blocks : List Block) (asset : List ℕ)
    → LoadsAs hash check bytes (Ok blocks)
    → held_units asset (unspent_after hash (txs_of blocks)) + retired asset (txs_of blocks)
    ≡ issued asset (txs_of blocks)
