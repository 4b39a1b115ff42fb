-- The words that a line is made of.
use Rattle.std.specs.Prelude.{ℕ, List, [], ◌∷◌, ◌++◌, decimal}
use Rattle.hex.specs.Hex.{encode_lower}
use Rattle.vm_num.specs.Failure.{failure_name}
use Rattle.wire.specs.Kinds.{kind_name}
use Rattle.word_lines.specs.declared.lines.Piece.{Piece}
use Rattle.word_lines.specs.declared.lines.Piece.TheVariants.{Nothing, Word, Number, Sum, Hex, Kind, Why}

abbrev pub newline : List ℕ
newline = 10 ∷ []

abbrev pub word_of : Piece → List ℕ
word_of Nothing = []
word_of (Word word) = word.now
word_of (Number number) = decimal number
word_of (Sum sum) = decimal sum
word_of (Hex id) = encode_lower id.now
word_of (Kind kind) = kind_name kind
word_of (Why failure) = failure_name failure

-- a word after a space, or nothing
abbrev pub text_of : Piece → List ℕ
text_of Nothing = []
text_of piece = 32 ∷ word_of piece

-- all of them, joined
abbrev pub joined : List Piece → List ℕ
joined [] = []
joined (piece ∷ pieces) = text_of piece ++ joined pieces

-- after a head, and ended
abbrev pub text_of_line : List ℕ → List Piece → List ℕ
text_of_line head pieces = head ++ (joined pieces ++ newline)
