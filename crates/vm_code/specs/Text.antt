-- The bytes of an instruction, and its assembler text.
use Rattle.std.specs.Prelude.{◌≡◌, ℕ, ◌==◌, ◌||◌, Bool, List, ◌∷◌, ◌++◌, length, take, Ok, if◌then◌else◌}
use Rattle.std.specs.Prelude.{codes, decimal}
use Rattle.std.specs.Int.{w32, to_le_bytes}
use Rattle.hex.specs.Hex.{encode_lower, IsBytes}
use Rattle.vm_code.specs.Instruction.{Decoded, decoded_front, is_within, is_data, is_jump}
use Rattle.vm_code.specs.Names.{name_of}

-- PUSHDATA1, PUSHDATA2, PUSHDATA4
abbrev pub is_counted : ℕ → Bool
is_counted code = is_within 0x4c 0x4e code

-- in how many bytes the count of data bytes or the place of a jump stands
abbrev pub field_len : ℕ → ℕ
field_len code =
    if code == 0x4c then 1
    else (if code == 0x4d then 2
    else (if code == 0x4e || is_jump code then 4
    else 0))

-- what stands in that field
abbrev pub field_value : Decoded → ℕ
field_value d = if is_jump d.code then d.target else length d.pushed

-- the code, the field, little-endian, and the data
unfoldable pub bytes_of : Decoded → List ℕ
bytes_of d = d.code ∷ take (field_len d.code) (to_le_bytes w32 (field_value d)) ++ d.pushed

-- an instruction is what is read of its own bytes
pub record IsInstruction (d : Decoded) : Type 0 where
  pub bytes : IsBytes (bytes_of d)
  pub read : decoded_front (bytes_of d) ≡ Ok d

-- `0xHEX`; `PUSHDATA1:HEX` and so on; `JUMP:N` and `JUMPIF:N`; else the name. Hex is in lower case, a place in decimal.
unfoldable pub text_of : Decoded → List ℕ
text_of d =
    if is_data d.code then codes "0x" ++ encode_lower d.pushed
    else (if is_counted d.code then name_of d.code ++ codes ":" ++ encode_lower d.pushed
    else (if is_jump d.code then name_of d.code ++ codes ":" ++ decimal d.target
    else name_of d.code))
