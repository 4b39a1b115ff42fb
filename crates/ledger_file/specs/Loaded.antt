-- What loading a ledger answers, against the definitions.
use Rattle.std.specs.Prelude.{◌≡◌, ℕ, List, Result, Ok, Err}
use Rattle.wire.specs.declared.files.FramesFault.{FramesFault}
use Rattle.wire.specs.declared.files.FramesFault.TheVariants as frames
use Rattle.data_model.specs.declared.block.Block.{Block}
use Rattle.keyed.specs.Functions.{Check}
use Rattle.ledger_core.specs.LedgerModel.{LedgerModel}
use Rattle.keyed.specs.Functions.{Hash}
use Rattle.ledger_core.specs.declared.refusal.StartFault.{StartFault}
use Rattle.ledger_core.specs.declared.refusal.StartFault.TheVariants as starts
use Rattle.ledger_file.specs.Loading.{LoadsAs}
use Rattle.ledger_file.specs.declared.fault.LoadFault.{LoadFault}
use Rattle.ledger_file.specs.declared.fault.LoadFault.TheVariants as faults

abbrev pub of_frames : FramesFault → LoadFault
of_frames (frames.At index at kind) = faults.Frame index at kind
of_frames frames.NoMemory = faults.NoMemory

abbrev pub of_start : StartFault → LoadFault
of_start starts.NoMemory = faults.NoMemory
of_start why = faults.Start why

-- the blocks of the ledger, or the fault of its file; out of memory is free
abbrev pub Loads : Hash → Check → List ℕ → Result LedgerModel LoadFault → Type 0
Loads hash check bytes (Ok ledger) = LoadsAs hash check bytes (Ok ledger.blocks)
Loads hash check bytes (Err faults.NoMemory) = Unit {0}
Loads hash check bytes (Err fault) = LoadsAs hash check bytes (Err fault)

-- this is answered; out of memory is free
abbrev pub LoadGives : Result LedgerModel LoadFault → Result (List Block) LoadFault → Type 0
LoadGives (Ok ledger) answer = answer ≡ Ok ledger.blocks
LoadGives (Err faults.NoMemory) answer = Unit {0}
LoadGives (Err fault) answer = answer ≡ Err fault
