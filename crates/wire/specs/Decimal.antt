-- Numbers as words of decimal digits. What is read is written so, and what is written is read again.
use Rattle.std.specs.Prelude.{◌≡◌, ℕ, zero, suc, ◌^◌, ◌==◌, ◌&&◌, ◌||◌, ◌<◌, ◌≤◌, Bool, true, false, cond, List, []}
use Rattle.std.specs.Prelude.{◌∷◌}
use Rattle.std.specs.Prelude.{length, get_or, Option, Some, None, if◌then◌else◌, nat_le, decimal, refl}
use Rattle.std.specs.List.{list_all}
use Rattle.std.specs.Char.{is_ascii_digit}
use Rattle.std.specs.Str.Parse.{digits_value}
use Rattle.std.proofs.Common.{ap, sym, ◌∙◌, arith, rules, leb}
use Rattle.std.proofs.lemmas.Str.Parse.{IsNumeralModel, numerals_by_value}
use Rattle.std.proofs.lemmas.Fmt.{digits_decimal, digits_value-decimal, decimal-digits_value, decimal_nonempty}
use Rattle.std.proofs.lemmas.Fmt.{decimal_digit, first_decimal}
use Rattle.std.proofs.lemmas.Bool.{and_parts, le-leb, leb-true, cond-true}
use Rattle.std.proofs.lemmas.Bool.Decides.{nat_tests}

abbrev pub is_empty : {X : Type 0} → List X → Bool
is_empty [] = true
is_empty (x ∷ xs) = false

-- `0`, or digits that begin with 1 to 9
abbrev pub is_decimal : List ℕ → Bool
is_decimal [] = false
is_decimal (d ∷ ds) = ((d == 48) && is_empty ds) || (nat_le 49 d && nat_le d 57 && list_all is_ascii_digit ds)

-- the number of a decimal word, where it is at most so much
unfoldable pub decimal_within : ℕ → List ℕ → Option ℕ
decimal_within most word =
    if is_decimal word && nat_le (digits_value 10 word) most then Some (digits_value 10 word) else None

-- ---- laws

own : IsNumeralModel (λ ds. list_all is_ascii_digit ds ≡ true) (digits_value 10)
own = numerals_by_value _ (search rules)

pub are_digits : (bs : List ℕ) → is_decimal bs ≡ true → list_all is_ascii_digit bs ≡ true
are_digits [] is = refl
are_digits (d ∷ []) is = grind (arith, nat_tests)
are_digits (d ∷ e ∷ ds) is = grind (arith, nat_tests)

some : (bs : List ℕ) → is_decimal bs ≡ true → 0 < length bs
some [] is = cc
some (d ∷ ds) is = omega arith

-- a leading zero stands alone
zero_alone : (bs : List ℕ) → is_decimal bs ≡ true → get_or bs 0 0 ≡ 48 → length bs ≡ 1
zero_alone [] is first = cc
zero_alone (d ∷ []) is first = refl
zero_alone (d ∷ e ∷ ds) is first = grind (arith, nat_tests)

by_test : (b : Bool) (x y : ℕ) → cond b (Some x) None ≡ Some y → (b ≡ true) × (x ≡ y)
by_test true x y is = (refl, cc)
by_test false x y is = cc

-- a number that is read is at most so much, and the word is its digits
pub decimal_read : (most : ℕ) (bs : List ℕ) (n : ℕ) → most < 2 ^ 64 → decimal_within most bs ≡ Some n
    → (n ≤ most) × (decimal n ≡ bs)
unfolding decimal_within
decimal_read most bs n low is =
    let tests = by_test (is_decimal bs && nat_le (digits_value 10 bs) most) (digits_value 10 bs) n is in
    let both = and_parts (is_decimal bs) (nat_le (digits_value 10 bs) most) tests.0 in
    let small : digits_value 10 bs ≤ most = leb-true _ _ both.1 in
    let same : decimal (digits_value 10 bs) ≡ bs
    = decimal-digits_value own bs (are_digits bs both.0) (some bs both.0) (zero_alone bs both.0) (omega arith) in
    (omega (arith, small, tests.1), ap decimal (sym tests.1) ∙ same)

first_digit : (bs : List ℕ) → list_all is_ascii_digit bs ≡ true → 0 < length bs → 48 < get_or bs 0 0
    → is_decimal bs ≡ true
first_digit [] are some first = absurd (omega arith)
first_digit (d ∷ ds) are some first =
    let parts = and_parts (is_ascii_digit d) (list_all is_ascii_digit ds) are in
    let low : leb 49 d ≡ true = le-leb 49 d (omega arith) in
    let high : leb d 57 ≡ true = (and_parts (leb 48 d) (leb d 57) parts.0).1 in
    grind (arith, nat_tests, low, high, parts.1)

-- the digits of a number are a decimal word
pub is_decimal-decimal : (n : ℕ) → n < 2 ^ 64 → is_decimal (decimal n) ≡ true
is_decimal-decimal zero low = ap is_decimal (decimal_digit 0 (omega arith))
is_decimal-decimal (suc n) low =
    first_digit (decimal (suc n)) (digits_decimal own (suc n) low) (decimal_nonempty (suc n) low)
    (first_decimal (suc n) (omega arith) low)

-- a number that is written is read again
pub decimal_again : (most n : ℕ) → n ≤ most → n < 2 ^ 64 → decimal_within most (decimal n) ≡ Some n
unfolding decimal_within
decimal_again most n small low =
    let is = is_decimal-decimal n low in
    let value : digits_value 10 (decimal n) ≡ n = digits_value-decimal own n low in
    let test : nat_le n most ≡ true = le-leb n most small in
    ap (λ (b : Bool).
    cond (b && nat_le (digits_value 10 (decimal n)) most) (Some (digits_value 10 (decimal n))) None) is
    ∙ ap (λ (m : ℕ). cond (nat_le m most) (Some m) None) value
    ∙ cond-true (nat_le n most) (Some n) None test

-- the digits of a number are digits
pub digits_written : (n : ℕ) → n < 2 ^ 64 → list_all is_ascii_digit (decimal n) ≡ true
digits_written n small = digits_decimal own n small
