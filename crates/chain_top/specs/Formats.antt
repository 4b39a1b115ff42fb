-- The files that commands read, and what their bytes are read as.
use Rattle.std.specs.Prelude.{◌≡◌, ℕ, List, [], length, Result, Ok, Err}
use Rattle.data_model.specs.declared.block.Block.{Block}
use Rattle.data_model.specs.Files.{BlocksReadAs}
use Rattle.keyed.specs.Functions.{Check}
use Rattle.wire.specs.Files.{FileFault}
use Rattle.keyed.specs.Functions.{Hash}
use Rattle.ledger_file.specs.Loading.{LoadsAs}
use Rattle.ledger_file.specs.declared.fault.LoadFault.{LoadFault}
use Rattle.ledger_file.specs.declared.fault.LoadFault.TheVariants as faults
use Rattle.command_lines.specs.Line.{refused_file, refused_ledger, start_words, refusal_words}
use Rattle.replies.specs.Asking.{lined, most_bytes}
use Rattle.replies.specs.Recipe.{Format, File}
use Rattle.word_lines.specs.Word.{Word}

-- what a file of blocks gives: how many bytes it has, and its blocks
pub record BlocksIn : Type 0 where
  pub size : ℕ
  pub blocks : List Block

-- a reading of blocks, with the size of what is read
abbrev pub Sized : {F : Type 0} → List ℕ → (Result (List Block) F → Type 0) → Result BlocksIn F → Type 0
Sized bytes reading (Ok file) = reading (Ok file.blocks) × (file.size ≡ length bytes)
Sized bytes reading (Err fault) = reading (Err fault)

-- ---- files of blocks

-- how a fault is reported of the file of blocks that the word at this place names
abbrev pub file_line : ℕ → FileFault → List ℕ
file_line place fault = refused_file place fault.index fault.at fault.kind

-- its blocks, or the line of its first fault
abbrev pub blocks_format : Format BlocksIn
blocks_format place bytes = lined (file_line place) (Sized bytes (BlocksReadAs bytes))

-- the file of blocks of this name, which the word at this place says
abbrev pub blocks_file : Word → ℕ → File BlocksIn
blocks_file name place = record { name = name; place = place; most = most_bytes; format = blocks_format }

-- ---- files of ledgers

-- how a fault is reported of the ledger that the word at this place names; out of memory is not
abbrev pub load_line : ℕ → LoadFault → List ℕ
load_line place (faults.Frame index at kind) = refused_file place index at kind
load_line place (faults.Start why) = refused_ledger 0 (start_words why)
load_line place (faults.Block index why) = refused_ledger index (refusal_words why)
load_line place faults.NoMemory = []

-- its blocks, which are a chain, or the line of its first fault
abbrev pub ledger_format : Hash → Check → Format BlocksIn
ledger_format hash check place bytes = lined (load_line place) (Sized bytes (LoadsAs hash check bytes))

-- the ledger of this name, which the word at this place says
abbrev pub ledger_file : Hash → Check → Word → ℕ → File BlocksIn
ledger_file hash check name place =
    record { name = name; place = place; most = most_bytes; format = ledger_format hash check }
