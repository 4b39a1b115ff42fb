-- How the assembler reads a word. It stands between the contracts of the assembler's parts and what `assemble` says of
-- texts, which does not name it: that it reads exactly the texts of instructions is proved.
use Rattle.std.specs.Prelude.{ℕ, ◌+◌, ◌-◌, ◌^◌, ◌==◌, ◌&&◌, ◌||◌, Bool, List, [], ◌∷◌, length, Option, Some}
use Rattle.std.specs.Prelude.{None, if◌then◌else◌, nat_lt, option_map}
use Rattle.std.specs.List.{list_all}
use Rattle.std.specs.Option.{option_and_then}
use Rattle.std.specs.Result.{result_ok}
use Rattle.hex.specs.Hex.{decode_of}
use Rattle.wire.specs.Decimal.{decimal_within}
use Rattle.vm_code.specs.Instruction.{Decoded, is_within, is_data, is_jump, is_plain, plain, jump}
use Rattle.vm_code.specs.Names.{code_of}
use Rattle.vm_code.specs.Text.{is_counted, field_len}

-- 0 to 9 and a to f
abbrev pub is_lower_digit : ℕ → Bool
is_lower_digit c = is_within 48 57 c || is_within 97 102 c

-- the bytes of hex in lower case
unfoldable pub hex_read : List ℕ → Option (List ℕ)
hex_read digits = if list_all is_lower_digit digits then result_ok (decode_of digits) else None

-- the place that a decimal number below 2^32 says
abbrev pub place_read : List ℕ → Option ℕ
place_read digits = decimal_within (2 ^ 32 - 1) digits

-- so many bytes or less under a code that counts them
abbrev pub counted : ℕ → List ℕ → Option Decoded
counted code pushed =
    if nat_lt (length pushed) (256 ^ field_len code)
    then Some (record { code = code; pushed = pushed; target = 0; len = 1 + field_len code + length pushed })
    else None

-- bytes whose number is their code
abbrev pub data_of : List ℕ → Option Decoded
data_of pushed =
    if is_data (length pushed)
    then Some (record { code = length pushed; pushed = pushed; target = 0; len = 1 + length pushed })
    else None

-- a word of a name, a colon and an argument
abbrev pub with_argument : Option ℕ → List ℕ → Option Decoded
with_argument None argument = None
with_argument (Some code) argument =
    if is_counted code then option_and_then (counted code) (hex_read argument)
    else (if is_jump code then option_map (jump code) (place_read argument)
    else None)

-- a word that is a name
abbrev pub named : Option ℕ → Option Decoded
named None = None
named (Some code) = if is_plain code then Some (plain code) else None

-- what stands after `0x`
abbrev pub rest_after_0x : List ℕ → Option (List ℕ)
rest_after_0x [] = None
rest_after_0x (b ∷ []) = None
rest_after_0x (b ∷ c ∷ digits) = if b == 48 && c == 120 then Some digits else None

abbrev pub without_argument : Option (List ℕ) → List ℕ → Option Decoded
without_argument None word = named (code_of word)
without_argument (Some digits) word = option_and_then data_of (hex_read digits)

-- what stands before the first colon and after it
abbrev pub at_colon : List ℕ → Option (List ℕ × List ℕ)
at_colon [] = None
at_colon (b ∷ bs) =
    if b == 58 then Some ([], bs) else option_map (λ parts. (b ∷ parts.0, parts.1)) (at_colon bs)

abbrev pub parts_read : Option (List ℕ × List ℕ) → List ℕ → Option Decoded
parts_read None word = without_argument (rest_after_0x word) word
parts_read (Some parts) word = with_argument (code_of parts.0) parts.1

-- the instruction whose text a word is, or none
unfoldable pub word_read : List ℕ → Option Decoded
word_read word = parts_read (at_colon word) word
