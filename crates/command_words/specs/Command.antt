-- The grammar of words.
use Rattle.std.specs.Prelude.{ℕ, ◌&&◌, List, [], ◌∷◌, length, Option, Some, None}
use Rattle.std.specs.Prelude.{if◌then◌else◌, bytes_eq, codes, nat_le}
use Rattle.std.specs.Option.{option_map}
use Rattle.word_lines.specs.Word.{Word}
use Rattle.wire.specs.Decimal.{decimal_within}
use Rattle.wire.specs.Spelling.{greatest}

-- a command with the words that it takes
pub data Command : Type 0 where
  -- the limit, the program and its arguments
  Vm : (limit : ℕ) (program : Word) (args : List Word) → Command
  -- the ledger's name, the time of its initial block and that block's next program
  Init : (ledger : Word) (time : ℕ) (program : Word) → Command
  -- the ledger's name and that of the file of offers
  Apply : (ledger offers : Word) → Command
  -- how many of the keys are asked for, and the keys
  Quorum : (m : ℕ) (keys : List Word) → Command

-- until predicates run in frames of their own, a limit is at most 100,000
abbrev pub limit_most : ℕ
limit_most = 100000

-- `vm LIMIT PROGRAM [ARG]...`
abbrev pub vm_words : List Word → Option Command
vm_words (limit ∷ program ∷ args) = option_map (λ n. Vm n program args) (decimal_within limit_most limit)
vm_words (limit ∷ []) = None
vm_words [] = None

-- `init LEDGER TIME PROGRAM`
abbrev pub init_words : List Word → Option Command
init_words (ledger ∷ time ∷ program ∷ []) = option_map (λ n. Init ledger n program) (decimal_within greatest time)
init_words words = None

-- `apply LEDGER OFFERS`
abbrev pub apply_words : List Word → Option Command
apply_words (ledger ∷ offers ∷ []) = Some (Apply ledger offers)
apply_words words = None

-- from 1 to 16 keys, and from 1 to their number of them asked for
abbrev pub quorum_asked : List Word → Option ℕ → Option Command
quorum_asked keys None = None
quorum_asked keys (Some m) =
    if nat_le 1 m && (nat_le m (length keys) && nat_le (length keys) 16) then Some (Quorum m keys) else None

-- `quorum M KEY [KEY]...`
abbrev pub quorum_words : List Word → Option Command
quorum_words [] = None
quorum_words (m ∷ keys) = quorum_asked keys (decimal_within greatest m)

-- a command's name, and what reads the words after it
pub record Named : Type 0 where
  pub name : Word
  pub read : List Word → Option Command

abbrev pub commands : List Named
commands =
    record { name = codes "vm"; read = vm_words }
    ∷ record { name = codes "init"; read = init_words }
    ∷ record { name = codes "apply"; read = apply_words }
    ∷ record { name = codes "quorum"; read = quorum_words }
    ∷ []

-- the words after a name, as the first line of a table that has the name reads them
abbrev pub read_by : List Named → Word → List Word → Option Command
read_by [] name words = None
read_by (line ∷ lines) name words = if bytes_eq name line.name then line.read words else read_by lines name words

-- the command that words say; there is none where they are outside the grammar
abbrev pub command_of : List Word → Option Command
command_of [] = None
command_of (name ∷ words) = read_by commands name words
