-- Bits of ids, and the order of ids.
use Rattle.std.proofs.Common.{◌≡◌, ◌≢◌, ℕ, zero, suc, ◌+◌, ◌-◌, ◌/◌, ◌%◌, ◌<◌, ◌≤◌, ◌^◌, true, List, [], ◌∷◌, ◌++◌, length, take, refl, inl, inr, sym, ◌∙◌, ap, subst, arith}
use Rattle.std.specs.Prelude.{◌==◌, slice_index}
use Rattle.std.specs.Ordering.{nat_cmp, ordering_then}
use Rattle.std.specs.declared.cmp.Ordering.{Ordering}
use Rattle.std.specs.declared.cmp.Ordering.TheVariants.{Less, Equal, Greater}
use Rattle.std.specs.Cmp.Lexicographic.{slice_cmp}
use Rattle.std.proofs.Math.Pow.{pow_pos}
use Rattle.std.proofs.Math.Nat.{div-mul-le_self}
use Rattle.std.proofs.lemmas.Nat.{le-div, shr-shr}
use Rattle.std.proofs.lemmas.Bool.{cases_lt}
use Rattle.std.proofs.lemmas.Bool.Decides.{nat_tests}
use Rattle.std.proofs.lemmas.List.{take_all, take_more}
use Rattle.merkle.specs.Agreeing.{AreSameUpTo}
use Rattle.merkle.specs.Roots.{has_bit}

-- ---- bytes

div_mono : (x y k : ℕ) → 0 < k → x ≤ y → x / k ≤ y / k
div_mono x y k h le = le-div (x / k) y k h (omega (arith, div-mul-le_self x k))

halves : (x n : ℕ) → x / 2 ^ suc n ≡ x / 2 ^ n / 2
halves x n =
    let one : n + 1 ≡ suc n = omega arith in
    ap (λ (k : ℕ). x / 2 ^ k) (sym one) ∙ sym (shr-shr x n 1)

odd_same : (u v : ℕ) → u / 2 ≡ v / 2 → (u % 2 == 1) ≡ (v % 2 == 1) → u ≡ v
odd_same u v half bit = grind (arith, nat_tests, half, bit)

odd_more : (u v : ℕ) → u / 2 ≡ v / 2 → u ≤ v → (u % 2 == 1) ≡ true → (v % 2 == 1) ≡ true
odd_more u v half le bit = grind (arith, nat_tests, half, bit, le)

-- the bits of a byte so far, and one more
next_high : (x y n : ℕ) → x / 2 ^ suc n ≡ y / 2 ^ suc n → ((x / 2 ^ n) % 2 == 1) ≡ ((y / 2 ^ n) % 2 == 1) → x / 2 ^ n ≡ y / 2 ^ n
next_high x y n high bit = odd_same (x / 2 ^ n) (y / 2 ^ n) (sym (halves x n) ∙ high ∙ halves y n) bit

later_bit : (x y n : ℕ) → x / 2 ^ suc n ≡ y / 2 ^ suc n → x ≤ y → ((x / 2 ^ n) % 2 == 1) ≡ true → ((y / 2 ^ n) % 2 == 1) ≡ true
later_bit x y n high le bit =
    odd_more (x / 2 ^ n) (y / 2 ^ n) (sym (halves x n) ∙ high ∙ halves y n) (div_mono x y (2 ^ n) (pow_pos n) le) bit

-- ---- the order

nat_order : (x y : ℕ) (o : Ordering) → nat_cmp x y ≡ o → (o ≢ Greater) → x ≤ y
nat_order x y o e not = grind (arith, nat_tests, e, not)

first_order : (x y : ℕ) (o r : Ordering) → nat_cmp x y ≡ o → ordering_then o r ≡ Less → x ≤ y
first_order x y Less r e h = nat_order x y Less e (λ bad. cc)
first_order x y Equal r e h = nat_order x y Equal e (λ bad. cc)
first_order x y Greater r e h = absurd (cc)

nat_same : (x : ℕ) → nat_cmp x x ≡ Equal
nat_same x = grind (arith, nat_tests)

-- where the bytes before a place are the same, the byte at the place of what is less is not greater
pub byte_order : (q : ℕ) (a b : List ℕ) → take q a ≡ take q b → q < length a → q < length b → slice_cmp nat_cmp a b ≡ Less → slice_index a q ≤ slice_index b q
byte_order q [] b same la lb h = absurd (omega (arith, la))
byte_order q (x ∷ a) [] same la lb h = absurd (omega (arith, lb))
byte_order zero (x ∷ a) (y ∷ b) same la lb h = first_order x y (nat_cmp x y) (slice_cmp nat_cmp a b) refl h
byte_order (suc q) (x ∷ a) (y ∷ b) same la lb h =
    let first : x ≡ y = cc in
    let rest : take q a ≡ take q b = cc in
    let equal : nat_cmp x y ≡ Equal = ap (nat_cmp x) (sym first) ∙ nat_same x in
    byte_order q a b rest (omega (arith, la)) (omega (arith, lb)) (sym (ap (λ (o : Ordering). ordering_then o (slice_cmp nat_cmp a b)) equal) ∙ h)

pub not_before_itself : (a : List ℕ) → slice_cmp nat_cmp a a ≡ Less → ⊥
not_before_itself [] h = cc
not_before_itself (x ∷ a) h = not_before_itself a (sym (ap (λ (o : Ordering). ordering_then o (slice_cmp nat_cmp a a)) (nat_same x)) ∙ h)

-- ---- ids that are the same up to a bit

pub same_at_start : (a b : List ℕ) → AreSameUpTo 0 a b
same_at_start a b = record {
  bytes = refl;
  high = small (slice_index a 0) ∙ sym (small (slice_index b 0));
}
  where
    small : (x : ℕ) → x % 256 / 256 ≡ 0
    small x = omega arith

plain_high : (x y m : ℕ) → x < 256 → y < 256 → m ≤ 7 → x % 256 / 2 ^ (8 - m) ≡ y % 256 / 2 ^ (8 - m) → x / 2 ^ suc (7 - m) ≡ y / 2 ^ suc (7 - m)
plain_high x y m hx hy hm h =
    let ex : x % 256 ≡ x = omega arith in
    let ey : y % 256 ≡ y = omega arith in
    let em : 8 - m ≡ suc (7 - m) = omega arith in
    sym (λ i. ex i / 2 ^ em i) ∙ h ∙ (λ i. ey i / 2 ^ em i)

-- an id of 32 bytes, of which one byte is known to be a byte
pub record IsRead (q : ℕ) (id : List ℕ) : Type 0 where
  pub long : length id ≡ 32
  pub byte : slice_index id q < 256

-- the bits in the byte, the last of them too
same_high : (place : ℕ) (a b : List ℕ) → IsRead (place / 8) a → IsRead (place / 8) b → has_bit place a ≡ has_bit place b → AreSameUpTo place a b → slice_index a (place / 8) / 2 ^ (7 - place % 8) ≡ slice_index b (place / 8) / 2 ^ (7 - place % 8)
unfolding has_bit
same_high place a b ra rb bits s =
    let x = slice_index a (place / 8) in
    let y = slice_index b (place / 8) in
    next_high x y (7 - place % 8) (plain_high x y (place % 8) ra.byte rb.byte (omega arith) s.high) bits

within_byte : (place : ℕ) (a b : List ℕ) → place % 8 < 7 → IsRead (place / 8) a → IsRead (place / 8) b → has_bit place a ≡ has_bit place b → AreSameUpTo place a b → AreSameUpTo (place + 1) a b
within_byte place a b h ra rb bits s =
    let q : (place + 1) / 8 ≡ place / 8 = omega arith in
    let m : 8 - (place + 1) % 8 ≡ 7 - place % 8 = omega arith in
    let x : slice_index a (place / 8) % 256 ≡ slice_index a (place / 8) = small (slice_index a (place / 8)) ra.byte in
    let y : slice_index b (place / 8) % 256 ≡ slice_index b (place / 8) = small (slice_index b (place / 8)) rb.byte in
    record {
      bytes = ap (λ (n : ℕ). take n a) q ∙ s.bytes ∙ sym (ap (λ (n : ℕ). take n b) q);
      high = (λ i. slice_index a (q i) % 256 / 2 ^ m i)
          ∙ ap (λ (n : ℕ). n / 2 ^ (7 - place % 8)) x
          ∙ same_high place a b ra rb bits s
          ∙ sym (ap (λ (n : ℕ). n / 2 ^ (7 - place % 8)) y)
          ∙ sym (λ i. slice_index b (q i) % 256 / 2 ^ m i);
    }
  where
    small : (x : ℕ) → x < 256 → x % 256 ≡ x
    small x h = omega arith

more_bytes : (q : ℕ) (a b : List ℕ) → q < length a → q < length b → take q a ≡ take q b → slice_index a q ≡ slice_index b q → take (q + 1) a ≡ take (q + 1) b
more_bytes q a b ha hb bytes e =
    take_more a q 0 ha ∙ (λ i. bytes i ++ e i ∷ []) ∙ sym (take_more b q 0 hb)

behind_byte : (place : ℕ) (a b : List ℕ) → place < 256 → place % 8 ≡ 7 → IsRead (place / 8) a → IsRead (place / 8) b → has_bit place a ≡ has_bit place b → AreSameUpTo place a b → AreSameUpTo (place + 1) a b
behind_byte place a b inside h ra rb bits s =
    let q : (place + 1) / 8 ≡ place / 8 + 1 = omega arith in
    let m : 8 - (place + 1) % 8 ≡ 8 = omega arith in
    let last : 7 - place % 8 ≡ 0 = omega arith in
    let here : place / 8 < 32 = omega arith in
    let la : place / 8 < length a = subst (λ (n : ℕ). place / 8 < n) (sym ra.long) here in
    let lb : place / 8 < length b = subst (λ (n : ℕ). place / 8 < n) (sym rb.long) here in
    let same = whole (slice_index a (place / 8)) (slice_index b (place / 8)) (7 - place % 8) last (same_high place a b ra rb bits s) in
    record {
      bytes = ap (λ (n : ℕ). take n a) q ∙ more_bytes (place / 8) a b la lb s.bytes same ∙ sym (ap (λ (n : ℕ). take n b) q);
      high = none (slice_index a ((place + 1) / 8)) (8 - (place + 1) % 8) m ∙ sym (none (slice_index b ((place + 1) / 8)) (8 - (place + 1) % 8) m);
    }
  where
    whole : (x y n : ℕ) → n ≡ 0 → x / 2 ^ n ≡ y / 2 ^ n → x ≡ y
    whole x y n e h = (let same : x / 1 ≡ y / 1 = subst (λ (k : ℕ). x / 2 ^ k ≡ y / 2 ^ k) e h in omega arith)

    none : (x n : ℕ) → n ≡ 8 → x % 256 / 2 ^ n ≡ 0
    none x n e = (let all : x % 256 / 256 ≡ 0 = omega arith in ap (λ (k : ℕ). x % 256 / 2 ^ k) e ∙ all)

pub same_more : (place : ℕ) (a b : List ℕ) → place < 256 → IsRead (place / 8) a → IsRead (place / 8) b → has_bit place a ≡ has_bit place b → AreSameUpTo place a b → AreSameUpTo (place + 1) a b
same_more place a b inside ra rb bits s = elim (cases_lt (place % 8) 7) [
  | inl less ↦ within_byte place a b less ra rb bits s
  | inr le ↦ behind_byte place a b inside (omega arith) ra rb bits s
]

-- of two ids that are the same up to a bit, the greater one has the bit where the other has it
pub bit_order : (place : ℕ) (a b : List ℕ) → place < 256 → IsRead (place / 8) a → IsRead (place / 8) b → AreSameUpTo place a b → slice_cmp nat_cmp a b ≡ Less → has_bit place a ≡ true → has_bit place b ≡ true
unfolding has_bit
bit_order place a b inside ra rb s less bit =
    let x = slice_index a (place / 8) in
    let y = slice_index b (place / 8) in
    let here : place / 8 < 32 = omega arith in
    let la : place / 8 < length a = subst (λ (n : ℕ). place / 8 < n) (sym ra.long) here in
    let lb : place / 8 < length b = subst (λ (n : ℕ). place / 8 < n) (sym rb.long) here in
    later_bit x y (7 - place % 8) (plain_high x y (place % 8) ra.byte rb.byte (omega arith) s.high) (byte_order (place / 8) a b s.bytes la lb less) bit

-- ids that are the same up to their end are one id
pub one_id : (a b : List ℕ) → length a ≡ 32 → length b ≡ 32 → AreSameUpTo 256 a b → a ≡ b
one_id a b la lb s = sym (take_all 32 a (omega (arith, la))) ∙ s.bytes ∙ take_all 32 b (omega (arith, lb))
