-- What words are read as.
use Rattle.std.specs.Prelude.{ℕ, List, length, Option, None, if◌then◌else◌, nat_le}
use Rattle.std.specs.Result.{result_ok}
use Rattle.hex.specs.Hex.{decode_of}

-- a word, as its bytes
abbrev pub Word : Type 0
Word = List ℕ

-- the digits that a hex word has at most
abbrev pub hex_most : ℕ
hex_most = 131072

-- an even number of digits 0-9, a-f, A-F, at most 131,072 of them, as the bytes that they say
unfoldable pub hex_of : Word → Option (List ℕ)
hex_of word = if nat_le (length word) hex_most then result_ok (decode_of word) else None
