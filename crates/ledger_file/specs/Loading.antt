-- What the bytes of a file are as a ledger.
use Rattle.std.specs.Prelude.{◌≡◌, ℕ, List, [], ◌∷◌, ◌++◌, length, Some, Result, Ok, Err}
use Rattle.wire.specs.declared.fault.DataKind.TheVariants.{Count}
use Rattle.wire.specs.Files.{FileFault}
use Rattle.data_model.specs.declared.block.Block.{Block}
use Rattle.data_model.specs.Files.{BlocksReadAs}
use Rattle.keyed.specs.Functions.{Check}
use Rattle.ledger_core.specs.declared.refusal.BlockRefusal.{BlockRefusal}
use Rattle.ledger_core.specs.declared.refusal.StartFault.{StartFault}
use Rattle.ledger_core.specs.Refusal.{Refusal}
use Rattle.keyed.specs.Functions.{Hash}
use Rattle.ledger_core.specs.Start.{StartRefusal}
use Rattle.ledger_core.specs.Chain.{Chain}
use Rattle.ledger_file.specs.declared.fault.LoadFault.{LoadFault}
use Rattle.ledger_file.specs.declared.fault.LoadFault.TheVariants as faults

-- The blocks of a ledger's file, which are a chain, or the file's fault: of its frames, of its first block, or of the
-- first later block that does not extend those before it.
pub data LoadsAs (hash : Hash) (check : Check) (bytes : List ℕ) : Result (List Block) LoadFault → Type 0 where
  -- it has no frame
  empty : bytes ≡ [] → LoadsAs hash check bytes (Err (faults.Frame 0 0 Count))
  -- it does not read as frames
  no_frames :
      {fault : FileFault}
      → BlocksReadAs bytes (Err fault)
      → LoadsAs hash check bytes (Err (faults.Frame fault.index fault.at fault.kind))
  -- the first block starts no chain
  no_start :
      (initial : Block) (later : List Block) {why : StartFault}
      → BlocksReadAs bytes (Ok (initial ∷ later))
      → StartRefusal hash initial (Some why)
      → LoadsAs hash check bytes (Err (faults.Start why))
  -- a later one does not extend those before it
  no_next :
      (before : List Block) (block : Block) (later : List Block) {why : BlockRefusal}
      → BlocksReadAs bytes (Ok (before ++ block ∷ later))
      → Chain hash check before
      → Refusal hash check before block (Some why)
      → LoadsAs hash check bytes (Err (faults.Block (length before) why))
  chain :
      {blocks : List Block}
      → BlocksReadAs bytes (Ok blocks)
      → Chain hash check blocks
      → LoadsAs hash check bytes (Ok blocks)
