-- The kinds of instructions, and the bytes of each.
use Rattle.std.proofs.Common.{◌≡◌, ℕ, ◌+◌, ◌*◌, ◌/◌, ◌%◌, ◌^◌, ◌<◌, ◌≤◌, List, [], ◌∷◌, ◌++◌, length, take, true, refl, ap, inl, inr, arith}
use Rattle.std.specs.Int.{w32, to_le_bytes}
use Rattle.std.proofs.lemmas.List.{append-nil}
use Rattle.std.proofs.lemmas.Nat.{le_bytes_4}
use Rattle.std.proofs.lemmas.Bool.Decides.{nat_tests}
use Rattle.hex.specs.Hex.{IsBytes}
use Rattle.vm_code.specs.Instruction.{Decoded, little_endian, plain, is_jump, is_plain}
use Rattle.vm_code.specs.Text.{field_len, bytes_of}
use Rattle.vm_code.specs.Readings.{is_alone, jump_cases}
use Rattle.vm_code.proofs.Hexes.{is_bytes_nil, is_bytes_cons}

abbrev pub pushing : ℕ → List ℕ → ℕ → Decoded
pushing code p field = record { code = code; pushed = p; target = 0; len = 1 + field + length p }

abbrev pub jumping : ℕ → ℕ → Decoded
jumping code place = record { code = code; pushed = []; target = place; len = 5 }

pub data Kind : Decoded → Type 0 where
  by_length : (p : List ℕ) → 0 < length p → length p ≤ 75 → Kind (pushing (length p) p 0)
  counted_1 : (p : List ℕ) → length p < 256 ^ 1 → Kind (pushing 0x4c p 1)
  counted_2 : (p : List ℕ) → length p < 256 ^ 2 → Kind (pushing 0x4d p 2)
  counted_4 : (p : List ℕ) → length p < 256 ^ 4 → Kind (pushing 0x4e p 4)
  jump : (code place : ℕ) → is_jump code ≡ true → place < 2 ^ 32 → Kind (jumping code place)
  alone : (code : ℕ) → is_plain code ≡ true → Kind (plain code)

-- ---- fields of one, two and four bytes

four : (a b c d n : ℕ) → a < 256 → b < 256 → c < 256 → d < 256 → n ≡ a + 256 * (b + 256 * (c + 256 * d)) → to_le_bytes w32 n ≡ a ∷ b ∷ c ∷ d ∷ []
four a b c d n sa sb sc sd is =
    le_bytes_4 (a ∷ b ∷ c ∷ d ∷ []) n refl (is_bytes_cons a (b ∷ c ∷ d ∷ []) sa (is_bytes_cons b (c ∷ d ∷ []) sb (is_bytes_cons c (d ∷ []) sc (is_bytes_cons d [] sd is_bytes_nil)))) (omega arith)

pub one_byte : (n : ℕ) → n < 256 ^ 1 → take 1 (to_le_bytes w32 n) ≡ n ∷ []
one_byte n small = ap (take 1) (four n 0 0 0 n (omega arith) (omega arith) (omega arith) (omega arith) (omega arith))

pub two_bytes : (n : ℕ) → n < 256 ^ 2 → take 2 (to_le_bytes w32 n) ≡ n % 256 ∷ n / 256 ∷ []
two_bytes n small = ap (take 2) (four (n % 256) (n / 256) 0 0 n (omega arith) (omega arith) (omega arith) (omega arith) (omega arith))

pub four_bytes : (n : ℕ) → n < 256 ^ 4 → take 4 (to_le_bytes w32 n) ≡ n % 256 ∷ n / 256 % 256 ∷ n / 256 / 256 % 256 ∷ n / 256 / 256 / 256 ∷ []
four_bytes n small = ap (take 4) (four (n % 256) (n / 256 % 256) (n / 256 / 256 % 256) (n / 256 / 256 / 256) n (omega arith) (omega arith) (omega arith) (omega arith) (omega arith))

-- a field says its number: it is the field of the number that it says
pub record Field (k : ℕ) (n : ℕ) (f : List ℕ) : Type 0 where
  pub len : length f ≡ k
  pub says : little_endian f ≡ n
  pub bytes : IsBytes f
  pub is : take k (to_le_bytes w32 n) ≡ f

pub field_1 : (n : ℕ) → n < 256 ^ 1 → Field 1 n (n ∷ [])
field_1 n small = record { len = refl; says = omega arith; bytes = is_bytes_cons n [] (omega arith) is_bytes_nil; is = one_byte n small }

pub field_2 : (n : ℕ) → n < 256 ^ 2 → Field 2 n (n % 256 ∷ n / 256 ∷ [])
field_2 n small = record { len = refl; says = omega arith; bytes = is_bytes_cons (n % 256) (n / 256 ∷ []) (omega arith) (is_bytes_cons (n / 256) [] (omega arith) is_bytes_nil); is = two_bytes n small }

pub field_4 : (n : ℕ) → n < 256 ^ 4 → Field 4 n (n % 256 ∷ n / 256 % 256 ∷ n / 256 / 256 % 256 ∷ n / 256 / 256 / 256 ∷ [])
field_4 n small =
    let c = n / 256 / 256 % 256 in
    let d = n / 256 / 256 / 256 in
    let last : IsBytes (c ∷ d ∷ []) = is_bytes_cons c (d ∷ []) (omega arith) (is_bytes_cons d [] (omega arith) is_bytes_nil) in
    record {
      len = refl;
      says = omega arith;
      bytes = is_bytes_cons (n % 256) (n / 256 % 256 ∷ c ∷ d ∷ []) (omega arith) (is_bytes_cons (n / 256 % 256) (c ∷ d ∷ []) (omega arith) last);
      is = four_bytes n small;
    }

-- bytes that stand in a field of this length
pub read_1 : (f : List ℕ) → length f ≡ 1 → IsBytes f → (little_endian f < 256 ^ 1) × Field 1 (little_endian f) f
read_1 [] len all = absurd (omega arith)
read_1 (a ∷ []) len all =
    let sa : a < 256 = all 0 in
    (omega arith, record { len = refl; says = refl; bytes = all; is = ap (take 1) (four a 0 0 0 (a + 256 * 0) sa (omega arith) (omega arith) (omega arith) (omega arith)) })
read_1 (a ∷ b ∷ f) len all = absurd (omega arith)

pub read_2 : (f : List ℕ) → length f ≡ 2 → IsBytes f → (little_endian f < 256 ^ 2) × Field 2 (little_endian f) f
read_2 [] len all = absurd (omega arith)
read_2 (a ∷ []) len all = absurd (omega arith)
read_2 (a ∷ b ∷ []) len all =
    let sa : a < 256 = all 0 in
    let sb : b < 256 = all 1 in
    (omega arith, record { len = refl; says = refl; bytes = all; is = ap (take 2) (four a b 0 0 (a + 256 * (b + 256 * 0)) sa sb (omega arith) (omega arith) (omega arith)) })
read_2 (a ∷ b ∷ c ∷ f) len all = absurd (omega arith)

pub read_4 : (f : List ℕ) → length f ≡ 4 → IsBytes f → (little_endian f < 256 ^ 4) × Field 4 (little_endian f) f
read_4 [] len all = absurd (omega arith)
read_4 (a ∷ []) len all = absurd (omega arith)
read_4 (a ∷ b ∷ []) len all = absurd (omega arith)
read_4 (a ∷ b ∷ c ∷ []) len all = absurd (omega arith)
read_4 (a ∷ b ∷ c ∷ d ∷ []) len all =
    let sa : a < 256 = all 0 in
    let sb : b < 256 = all 1 in
    let sc : c < 256 = all 2 in
    let sd : d < 256 = all 3 in
    (omega arith, record { len = refl; says = refl; bytes = all; is = ap (take 4) (four a b c d (a + 256 * (b + 256 * (c + 256 * (d + 256 * 0)))) sa sb sc sd (omega arith)) })
read_4 (a ∷ b ∷ c ∷ d ∷ e ∷ f) len all = absurd (omega arith)

-- ---- the bytes of each kind

pub bytes_by_length : (p : List ℕ) → length p ≤ 75 → bytes_of (pushing (length p) p 0) ≡ length p ∷ p
unfolding bytes_of
bytes_by_length p short =
    let none : field_len (length p) ≡ 0 = grind (arith, nat_tests) in
    rw none refl

pub bytes_1 : (p : List ℕ) → bytes_of (pushing 0x4c p 1) ≡ 0x4c ∷ take 1 (to_le_bytes w32 (length p)) ++ p
unfolding bytes_of
bytes_1 p = refl

pub bytes_2 : (p : List ℕ) → bytes_of (pushing 0x4d p 2) ≡ 0x4d ∷ take 2 (to_le_bytes w32 (length p)) ++ p
unfolding bytes_of
bytes_2 p = refl

pub bytes_4 : (p : List ℕ) → bytes_of (pushing 0x4e p 4) ≡ 0x4e ∷ take 4 (to_le_bytes w32 (length p)) ++ p
unfolding bytes_of
bytes_4 p = refl

pub bytes_jump : (c place : ℕ) → is_jump c ≡ true → bytes_of (jumping c place) ≡ c ∷ take 4 (to_le_bytes w32 place)
unfolding bytes_of
bytes_jump c place is = elim (jump_cases c is) [
  | inl e ↦ rw e (append-nil (0x63 ∷ take 4 (to_le_bytes w32 place)))
  | inr e ↦ rw e (append-nil (0x64 ∷ take 4 (to_le_bytes w32 place)))
]

pub bytes_alone : (c : ℕ) → is_plain c ≡ true → bytes_of (plain c) ≡ c ∷ []
unfolding bytes_of
bytes_alone c is = let a = is_alone c is in rw a.no_field refl
