-- The instruction that stands at a place of a program.
use Rattle.std.specs.Prelude.{ℕ, ◌+◌, ◌*◌, ◌==◌, ◌||◌, ◌&&◌, Bool, List, [], ◌∷◌, length, take, drop, Result, Ok, Err}
use Rattle.std.specs.Prelude.{if◌then◌else◌, nat_le}

-- its code, the bytes that it pushes if it is a data code, where it jumps if it is a jump, and how many bytes it takes
pub record Decoded : Type 0 where
  pub code : ℕ
  pub pushed : List ℕ
  pub target : ℕ
  pub len : ℕ

-- why no instruction stands at a place: the program ends inside it, or no instruction has the code
pub data Misread : Type 0 where
  Short : Misread
  BadOpcode : Misread

-- a number whose lowest byte comes first
abbrev pub little_endian : List ℕ → ℕ
little_endian [] = 0
little_endian (b ∷ bs) = b + 256 * little_endian bs

-- from one code up to another
abbrev pub is_within : ℕ → ℕ → ℕ → Bool
is_within from to code = nat_le from code && nat_le code to

-- The codes with nothing after them: FALSE; 1NEGATE; 1 to 16 and NOP; VERIFY to CATPUSHDATA; 1ADD to WITHIN; SHA256;
-- CHECKSIG to BLOCKHASH; CHECKPREDICATE to OUTPUTID; NEXTPROGRAM and BLOCKTIME.
abbrev pub is_plain : ℕ → Bool
is_plain code =
    code == 0x00 || code == 0x4f || is_within 0x51 0x61 code || is_within 0x69 0x89 code || is_within 0x8b 0xa5 code
    || code == 0xa8 || is_within 0xac 0xaf code || is_within 0xc0 0xcb code || is_within 0xcd 0xce code

-- JUMP and JUMPIF
abbrev pub is_jump : ℕ → Bool
is_jump code = is_within 0x63 0x64 code

-- the code is the number of data bytes
abbrev pub is_data : ℕ → Bool
is_data code = is_within 0x01 0x4b code

abbrev pub plain : ℕ → Decoded
plain code = record { code = code; pushed = []; target = 0; len = 1 }

-- the jump of a code to a place
abbrev pub jump : ℕ → ℕ → Decoded
jump code place = record { code = code; pushed = []; target = place; len = 5 }

-- count data bytes after the code and its field of a length
abbrev pub data_at : ℕ → ℕ → ℕ → List ℕ → Result Decoded Misread
data_at code field count behind =
    if nat_le (field + count) (length behind)
    then Ok (record { code = code; pushed = take count (drop field behind); target = 0; len = 1 + field + count })
    else Err Short

-- the same where the field says the count, little-endian
abbrev pub counted_at : ℕ → ℕ → List ℕ → Result Decoded Misread
counted_at code field behind =
    if nat_le field (length behind) then data_at code field (little_endian (take field behind)) behind else Err Short

-- the place that a jump leads to, in four bytes, little-endian
abbrev pub jump_at : ℕ → List ℕ → Result Decoded Misread
jump_at code behind =
    if nat_le 4 (length behind)
    then Ok (jump code (little_endian (take 4 behind)))
    else Err Short

-- A code and the bytes after it. PUSHDATA1, PUSHDATA2 and PUSHDATA4 are 4c, 4d and 4e.
abbrev pub decoded : ℕ → List ℕ → Result Decoded Misread
decoded code behind =
    if is_data code then data_at code 0 code behind
    else (if code == 0x4c then counted_at code 1 behind
    else (if code == 0x4d then counted_at code 2 behind
    else (if code == 0x4e then counted_at code 4 behind
    else (if is_jump code then jump_at code behind
    else (if is_plain code then Ok (plain code) else Err BadOpcode)))))

-- the first byte is the code
abbrev pub decoded_front : List ℕ → Result Decoded Misread
decoded_front [] = Err Short
decoded_front (code ∷ behind) = decoded code behind

-- the instruction at a place
unfoldable pub instruction_at : List ℕ → ℕ → Result Decoded Misread
instruction_at program place = decoded_front (drop place program)
