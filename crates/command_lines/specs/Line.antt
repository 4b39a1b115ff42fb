-- Printed lines, each with its newline.
use Rattle.std.specs.Prelude.{ℕ, List, [], ◌++◌, codes, decimal}
use Rattle.hex.specs.Hex.{encode_lower}
use Rattle.wire.specs.declared.fault.DataKind.{DataKind}
use Rattle.vm_num.specs.Failure.{failure_name}
use Rattle.vm_run.specs.declared.verdict.Verdict.{Verdict}
use Rattle.vm_run.specs.declared.verdict.Verdict.TheVariants.{Succeeded, Failed}
use Rattle.ledger_core.specs.declared.refusal.StartFault.{StartFault}
use Rattle.ledger_core.specs.declared.refusal.StartFault.TheVariants.{HeightNotOne, PreviousNotZero, VersionNotOne}
use Rattle.ledger_core.specs.declared.refusal.StartFault.TheVariants.{NotEmpty, RootsNotEmpty}
use Rattle.ledger_core.specs.declared.refusal.StartFault.TheVariants as starts
use Rattle.ledger_core.specs.declared.refusal.BlockRefusal.{BlockRefusal}
use Rattle.ledger_core.specs.declared.refusal.BlockRefusal.TheVariants.{B1, B2, B3, B4, B5, B6, B7, B8, B9}
use Rattle.tx_check.specs.declared.refusal.TxRefusal.{TxRefusal}
use Rattle.tx_check.specs.declared.refusal.TxRefusal.TheVariants.{X1, X2, X3, X4, X5, X6, X7, X8, X9, X10, X11}
use Rattle.tx_check.specs.declared.refusal.TxRefusal.TheVariants.{X12, X13, X14}
use Rattle.wire.specs.Kinds.{kind_name}
use Rattle.word_lines.specs.Piece.{newline}

-- `refused hex K`
abbrev pub refused_hex : ℕ → List ℕ
refused_hex place = codes "refused hex " ++ decimal place ++ newline

-- `succeeded left N`, `failed KIND at PLACE`
abbrev pub verdict_line : Verdict → List ℕ
verdict_line (Succeeded left) = codes "succeeded left " ++ decimal left ++ newline
verdict_line (Failed kind at) = codes "failed " ++ failure_name kind ++ codes " at " ++ decimal at ++ newline

-- `block HEIGHT ID`, with the id in hex
abbrev pub block_line_of : ℕ → List ℕ → List ℕ
block_line_of height hex = codes "block " ++ (decimal height ++ (codes " " ++ (hex ++ newline)))

abbrev pub block_line : ℕ → List ℕ → List ℕ
block_line height id = block_line_of height (encode_lower id)

-- `accepted HEIGHT ID`, with the id in hex
abbrev pub accepted_line_of : ℕ → List ℕ → List ℕ
accepted_line_of height hex = codes "accepted " ++ (decimal height ++ (codes " " ++ (hex ++ newline)))

abbrev pub accepted_line : ℕ → List ℕ → List ℕ
accepted_line height id = accepted_line_of height (encode_lower id)

-- `program HEX`, the program in hex, of any length
abbrev pub program_line_of : List ℕ → List ℕ
program_line_of hex = codes "program " ++ (hex ++ newline)

abbrev pub program_line : List ℕ → List ℕ
program_line program = program_line_of (encode_lower program)

-- ---- refusals

-- `refused file K I AT KIND`
abbrev pub refused_file : ℕ → ℕ → ℕ → DataKind → List ℕ
refused_file place index at kind =
    codes "refused file "
    ++ (decimal place
    ++ (codes " " ++ (decimal index ++ (codes " " ++ (decimal at ++ (codes " " ++ (kind_name kind ++ newline)))))))

-- why a block starts no chain
abbrev pub start_words : StartFault → List ℕ
start_words HeightNotOne = codes "I1"
start_words PreviousNotZero = codes "I2"
start_words VersionNotOne = codes "I3"
start_words NotEmpty = codes "I4"
start_words RootsNotEmpty = codes "I5"
start_words starts.NoMemory = []

-- a name and two numbers
abbrev pub number_words : List ℕ → ℕ → ℕ → List ℕ
number_words name first second = name ++ (codes " " ++ (decimal first ++ (codes " " ++ decimal second)))

-- a name and two ids in hex
abbrev pub id_words_of : List ℕ → List ℕ → List ℕ → List ℕ
id_words_of name first second = name ++ (codes " " ++ (first ++ (codes " " ++ second)))

abbrev pub id_words : List ℕ → List ℕ → List ℕ → List ℕ
id_words name first second = id_words_of name (encode_lower first) (encode_lower second)

-- a name and a number
abbrev pub number_word : List ℕ → ℕ → List ℕ
number_word name number = name ++ (codes " " ++ decimal number)

-- why a transaction is refused, with the values
abbrev pub tx_words : TxRefusal → List ℕ
tx_words (X1 version) = number_word (codes "X1") version
tx_words (X2 mintime maxtime) = number_words (codes "X2") mintime maxtime
tx_words (X3 mintime time) = number_words (codes "X3") mintime time
tx_words (X4 maxtime time) = number_words (codes "X4") maxtime time
tx_words (X5 input) = number_word (codes "X5") input
tx_words X6 = codes "X6"
tx_words (X7 input) = number_word (codes "X7") input
tx_words (X8 input) = number_word (codes "X8") input
tx_words (X9 input) = number_word (codes "X9") input
tx_words (X10 asset sum_in sum_out) =
    codes "X10 " ++ (encode_lower asset ++ (codes " " ++ (decimal sum_in ++ (codes " " ++ decimal sum_out))))
tx_words (X11 input) = number_word (codes "X11") input
tx_words (X12 input) = number_word (codes "X12") input
tx_words (X13 output id) = codes "X13 " ++ (decimal output ++ (codes " " ++ encode_lower id))
tx_words (X14 input kind at) =
    codes "X14 " ++ (decimal input ++ (codes " " ++ (failure_name kind ++ (codes " " ++ decimal at))))

-- that after its place in a block
abbrev pub tx_in_block : ℕ → List ℕ → List ℕ
tx_in_block place words = codes "B8 " ++ (decimal place ++ (codes " " ++ words))

-- why a block does not extend a chain, with the values
abbrev pub refusal_words : BlockRefusal → List ℕ
refusal_words (B1 tip given) = id_words (codes "B1") tip given
refusal_words (B2 wanted given) = number_words (codes "B2") wanted given
refusal_words (B3 tip_time given) = number_words (codes "B3") tip_time given
refusal_words (B4 given) = codes "B4 " ++ decimal given
refusal_words (B5 tip_version given) = number_words (codes "B5") tip_version given
refusal_words (B6 computed given) = id_words (codes "B6") computed given
refusal_words (B7 kind at) = codes "B7 " ++ (failure_name kind ++ (codes " " ++ decimal at))
refusal_words (B8 place refusal) = tx_in_block place (tx_words refusal)
refusal_words (B9 computed given) = id_words (codes "B9") computed given

-- `refused REFUSAL`
abbrev pub refused_words : List ℕ → List ℕ
refused_words words = codes "refused " ++ (words ++ newline)

abbrev pub refused_block : BlockRefusal → List ℕ
refused_block refusal = refused_words (refusal_words refusal)

-- `refused ledger I REFUSAL`
abbrev pub refused_ledger : ℕ → List ℕ → List ℕ
refused_ledger index words = codes "refused ledger " ++ (decimal index ++ (codes " " ++ (words ++ newline)))
