-- The shortest spelling of a number, and how zeros are dropped from its end.
use Rattle.std.proofs.Common.{◌≡◌, ◌≢◌, ℕ, zero, suc, ◌+◌, ◌-◌, ◌<◌, ◌≤◌, List, [], ◌∷◌, ◌++◌, length, get_or, take}
use Rattle.std.proofs.Common.{replicate, Some, ℤ, refl, sym, ap, inl, inr, ◌∙◌, arith}
use Rattle.std.proofs.lemmas.List.{take_more}
use Rattle.std.proofs.lemmas.Nat.{le_bytes_8}
use Rattle.std.proofs.lemmas.Int.{of_z-to_z}
use Rattle.std.proofs.lemmas.Bool.{cases_lt}
use Rattle.std.proofs.lemmas.Bool.Decides.{nat_tests}
use Rattle.std.proofs.lemmas.Grind.{common_steps}
use Rattle.std.specs.Int.{w64, to_le_bytes, from_le_bytes, cast_signed, cast_unsigned}
use Rattle.vm_num.specs.Item.{Item, AreBytes, num, num_bytes, without_high_zeros, onto}
use Rattle.vm_num.specs.Numbers.{length-without_high_zeros, filled, length-filled, filled-bytes, below_top, num_past, num_is}

-- ---- zeros at the end

-- zeros alone are nothing
without_high_zeros-replicate : (k : ℕ) → without_high_zeros (replicate k 0) ≡ []
without_high_zeros-replicate zero = refl
without_high_zeros-replicate (suc k) = ap (onto 0) (without_high_zeros-replicate k)

-- zeros that are added at the end are dropped
without_high_zeros-filled : (bs : List ℕ) (k : ℕ) → without_high_zeros (bs ++ replicate k 0) ≡ without_high_zeros bs
without_high_zeros-filled [] k = without_high_zeros-replicate k
without_high_zeros-filled (b ∷ bs) k = ap (onto b) (without_high_zeros-filled bs k)

pub without_high_zeros-zero : (bs : List ℕ) → without_high_zeros (bs ++ 0 ∷ []) ≡ without_high_zeros bs
without_high_zeros-zero bs = without_high_zeros-filled bs 1

-- `onto` where something follows, or where b is not zero
onto-nonzero : (b : ℕ) → b ≢ 0 → onto b [] ≡ b ∷ []
onto-nonzero b h = grind (arith, common_steps, nat_tests)

onto-end : (b y : ℕ) (bs : List ℕ) → onto b (bs ++ y ∷ []) ≡ b ∷ bs ++ y ∷ []
onto-end b y [] = refl
onto-end b y (c ∷ cs) = refl

-- a list that ends in another byte than zero stays
pub without_high_zeros-whole : (bs : List ℕ) (y : ℕ) → y ≢ 0 → without_high_zeros (bs ++ y ∷ []) ≡ bs ++ y ∷ []
without_high_zeros-whole [] y h = onto-nonzero y h
without_high_zeros-whole (b ∷ bs) y h = ap (onto b) (without_high_zeros-whole bs y h) ∙ onto-end b y bs

-- ---- the shortest spelling

-- the spelling of what a short item is read as: the item without its high zeros
num_bytes-filled : (n : ℤ) (b : Item) → AreBytes b → num b ≡ Some n → length b ≤ 8 → num_bytes n ≡ without_high_zeros (filled b)
unfolding num_bytes
num_bytes-filled n b are e within =
    let bits = from_le_bytes w64 (filled b) in
    let is : n ≡ cast_signed w64 bits = cc (num_is b within) in
    ap (λ z. without_high_zeros (to_le_bytes w64 (cast_unsigned w64 z))) is
    ∙ ap (λ m. without_high_zeros (to_le_bytes w64 m)) (of_z-to_z w64 bits (below_top (filled b) (filled-bytes b are)))
    ∙ ap without_high_zeros (le_bytes_8 (filled b) bits (length-filled b within) (filled-bytes b are) refl)

length-num_bytes_within : (n : ℤ) (b : Item) → AreBytes b → num b ≡ Some n → length b ≤ 8 → length (num_bytes n) ≤ length b
length-num_bytes_within n b are e within =
    let same : length (num_bytes n) ≡ length (without_high_zeros b) = ap length (num_bytes-filled n b are e within ∙ without_high_zeros-filled b (8 - length b)) in
    omega (arith, length-without_high_zeros b)

-- no item that is read as a number is shorter than its spelling
pub length-num_bytes_least : (n : ℤ) (b : Item) → AreBytes b → num b ≡ Some n → length (num_bytes n) ≤ length b
length-num_bytes_least n b are e = elim (cases_lt 8 (length b)) [ inl over ↦ cc (num_past b over) | inr within ↦ length-num_bytes_within n b are e within ]

-- ---- dropping the zeros one by one, from the end

last_of_front : (bs : List ℕ) (n : ℕ) → 0 < n → n ≤ length bs → take n bs ≡ take (n - 1) bs ++ get_or bs (n - 1) 0 ∷ []
last_of_front bs n some within =
    let same : n ≡ n - 1 + 1 = omega arith in
    ap (λ k. take k bs) same ∙ take_more bs (n - 1) 0 (omega arith)

-- a zero at the end of the front does not count
pub one_less : (bs : List ℕ) (n : ℕ) → 0 < n → n ≤ length bs → get_or bs (n - 1) 0 ≡ 0 → without_high_zeros (take (n - 1) bs) ≡ without_high_zeros (take n bs)
one_less bs n some within zeroed =
    sym (ap without_high_zeros (last_of_front bs n some within ∙ ap (λ y. take (n - 1) bs ++ y ∷ []) zeroed) ∙ without_high_zeros-zero (take (n - 1) bs))

-- a front that ends in another byte is whole
pub none_less : (bs : List ℕ) (n : ℕ) → 0 < n → n ≤ length bs → get_or bs (n - 1) 0 ≢ 0 → without_high_zeros (take n bs) ≡ take n bs
none_less bs n some within nonzero =
    rw (last_of_front bs n some within) (without_high_zeros-whole (take (n - 1) bs) _ nonzero)
