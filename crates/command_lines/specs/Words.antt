-- Words that are read as hex, each in its place.
use Rattle.std.specs.Prelude.{ℕ, suc, List, [], ◌∷◌, Option, Some, None, Result, Ok, Err}
use Rattle.command_lines.specs.Line.{refused_hex}
use Rattle.word_lines.specs.Word.{Word, hex_of}

-- the bytes of a word, or the line that refuses it in its place
abbrev pub or_refused : ℕ → Option (List ℕ) → Result (List ℕ) (List ℕ)
or_refused place None = Err (refused_hex place)
or_refused place (Some bytes) = Ok bytes

abbrev pub hex_at : ℕ → Word → Result (List ℕ) (List ℕ)
hex_at place word = or_refused place (hex_of word)

-- the bytes of one word before those of others, or the first line that refuses one
abbrev pub with_first : List ℕ → Result (List (List ℕ)) (List ℕ) → Result (List (List ℕ)) (List ℕ)
with_first bytes (Ok rest) = Ok (bytes ∷ rest)
with_first bytes (Err line) = Err line

abbrev pub and_then : Result (List ℕ) (List ℕ) → Result (List (List ℕ)) (List ℕ) → Result (List (List ℕ)) (List ℕ)
and_then (Ok bytes) rest = with_first bytes rest
and_then (Err line) rest = Err line

-- the same of words in order, of which the first has this place
abbrev pub hex_all : ℕ → List Word → Result (List (List ℕ)) (List ℕ)
hex_all place [] = Ok []
hex_all place (word ∷ words) = and_then (hex_at place word) (hex_all (suc place) words)
