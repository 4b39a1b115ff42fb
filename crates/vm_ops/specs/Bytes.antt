-- The lines of the code table that take strings of bytes, the deeper first.
use Rattle.std.specs.Prelude.{refl, ◌≡◌, ◌≢◌, ◌≤◌, ◌⊎◌, ℕ, ◌+◌, ◌-◌, ◌^◌, List, [], ◌∷◌, ◌++◌, length, map, take}
use Rattle.std.specs.Prelude.{drop, min, max, Ok, Err, if◌then◌else◌, nat_le, nat_lt, ℤ, pos, negsuc, bytes_eq}
use Rattle.std.specs.Prelude.{bit_and, bit_or, bit_xor}
use Rattle.std.specs.Int.{w8, bit_not}
use Rattle.sha2.specs.Sha256.{sha256}
use Rattle.vm_num.specs.Item.{Item}
use Rattle.vm_num.specs.Push.{push_of}
use Rattle.vm_num.specs.declared.failure.Failure.TheVariants.{BadOpcode, BadValue}
use Rattle.vm_ops.specs.declared.fault.RowFault.{RowFault}
use Rattle.vm_ops.specs.declared.fault.RowFault.TheVariants.{Row, NoMemory}
use Rattle.vm_ops.specs.Bits.{each_of}
use Rattle.vm_ops.specs.Results.{ItemResult, truth_item, entry_at}

-- the codes of these lines: 7e to 81, 83 to 87, 89 and a8
pub record IsBytesCode (code : ℕ) : Type 0 where
  pub from_cat : 0x7e ≤ code
  pub no_size : code ≢ 0x82
  pub no_equalverify : code ≢ 0x88
  pub to_sha256 : (code ≤ 0x89) ⊎ (code ≡ 0xa8)

-- so many bytes from a place on
abbrev pub part_result : Item → ℤ → ℤ → ItemResult
part_result a (pos from) (pos size) =
    if nat_le (from + size) (length a) then Ok (take size (drop from a)) else Err BadValue
part_result a (pos from) (negsuc size) = Err BadValue
part_result a (negsuc from) size = Err BadValue

-- so many bytes at the end
abbrev pub end_result : Item → ℤ → ItemResult
end_result a (pos size) = if nat_le size (length a) then Ok (drop (length a - size) a) else Err BadValue
end_result a (negsuc size) = Err BadValue

-- a, and the push of b
abbrev pub push_result : Item → Item → ItemResult
push_result a b = if nat_lt (length b) (2 ^ 32) then Ok (a ++ push_of b) else Err BadValue

-- CAT, SUBSTR, LEFT, RIGHT, INVERT, AND, OR, XOR, EQUAL, CATPUSHDATA, SHA256
unfoldable pub bytes_result : ℕ → Item → Item → ℤ → ℤ → ItemResult
bytes_result code a b from size = entry_at (Err BadOpcode) (
    (0x7e, Ok (a ++ b))
    ∷ (0x7f, part_result a from size)
    ∷ (0x80, part_result a (pos 0) size)
    ∷ (0x81, end_result a size)
    ∷ (0x83, Ok (map (bit_not w8) a))
    ∷ (0x84, Ok (each_of bit_and a b (min (length a) (length b))))
    ∷ (0x85, Ok (each_of bit_or a b (max (length a) (length b))))
    ∷ (0x86, Ok (each_of bit_xor a b (max (length a) (length b))))
    ∷ (0x87, Ok (truth_item (bytes_eq a b)))
    ∷ (0x89, push_result a b)
    ∷ (0xa8, Ok (sha256 a))
    ∷ []) code

-- the base cost of a line with this result
abbrev pub bytes_base : ℕ → Item → Item → Item → ℕ
bytes_base code a b item = entry_at (4 + length item) (
    (0x83, 1 + length a)
    ∷ (0x84, 1 + min (length a) (length b))
    ∷ (0x85, 1 + max (length a) (length b))
    ∷ (0x86, 1 + max (length a) (length b))
    ∷ (0x87, 1 + min (length a) (length b))
    ∷ (0xa8, max 64 (length a))
    ∷ []) code

-- the item was added at the end
abbrev pub AddsItem : List ℕ → List ℕ → ItemResult → Type 0
AddsItem before after (Ok item) = after ≡ before ++ item
AddsItem before after (Err kind) = ⊥

-- a fault is this failure; out of memory is free
abbrev pub IsFailureOf : ItemResult → RowFault → Type 0
IsFailureOf made (Row kind) = made ≡ Err kind
IsFailureOf made NoMemory = Unit {0}

-- so there is such an item
pub item_of_result : (before after : List ℕ) (made : ItemResult) → AddsItem before after made
    → (item : Item) × (made ≡ Ok item) × (after ≡ before ++ item)
item_of_result before after (Ok item) adds = (item, refl, adds)
item_of_result before after (Err kind) adds = absurd adds
