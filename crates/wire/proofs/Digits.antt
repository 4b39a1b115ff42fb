-- What digits are worth, digit by digit.
use Rattle.std.proofs.Common.{◌≡◌, ℕ, ◌+◌, ◌-◌, ◌*◌, ◌<◌, ◌≤◌, true, List, [], ◌∷◌, length, get_or, take, suc, zero}
use Rattle.std.proofs.Common.{◌^◌, leb, Some, None, arith}
use Rattle.std.specs.Prelude.{cond}
use Rattle.std.specs.Str.Parse.{digits_value}
use Rattle.std.proofs.lemmas.Int.Digits.{digits_value_more}
use Rattle.std.proofs.lemmas.Str.Parse.{digits_value-take-le}
use Rattle.std.proofs.lemmas.Bool.{and_parts, cond-false, lt-leb}
use Rattle.std.proofs.lemmas.Bool.Decides.{nat_tests}
use Rattle.std.specs.List.{list_all}
use Rattle.std.specs.Char.{is_ascii_digit, digit_value}

digit_is : (c : ℕ) → is_ascii_digit c ≡ true → (48 ≤ c) × (c ≤ 57) × (digit_value c ≡ c - 48)
digit_is c is = grind (arith, nat_tests)

pub digit_there : (ds : List ℕ) (i : ℕ) → list_all is_ascii_digit ds ≡ true → i < length ds
    → (48 ≤ get_or ds i 0) × (get_or ds i 0 ≤ 57) × (digit_value (get_or ds i 0) ≡ get_or ds i 0 - 48)
digit_there [] i are within = absurd (omega arith)
digit_there (d ∷ ds) zero are within = digit_is d (and_parts (is_ascii_digit d) (list_all is_ascii_digit ds) are).0
digit_there (d ∷ ds) (suc i) are within = digit_there ds i
    (and_parts (is_ascii_digit d) (list_all is_ascii_digit ds) are).1 (omega arith)

-- digits whose prefix and next digit are worth more than 64 bits hold are worth more than any limit of 64 bits
pub too_large : (ds : List ℕ) (most i value : ℕ) → most < 2 ^ 64 → list_all is_ascii_digit ds ≡ true → i < length ds
    → value ≡ digits_value 10 (take i ds)
    → 2 ^ 64 ≤ value * 10 + (get_or ds i 0 - 48)
    → cond (leb (digits_value 10 ds) most) (Some (digits_value 10 ds)) None ≡ None
too_large ds most i value low are within is large =
    let digit = (digit_there ds i are within).2 in
    let next = digits_value_more 10 ds i within in
    let least = digits_value-take-le 10 ds (i + 1) (omega arith) in
    let past : most < digits_value 10 ds = omega (arith, digit, next, least, is, large) in
    cond-false (leb (digits_value 10 ds) most) (Some (digits_value 10 ds)) None (lt-leb (digits_value 10 ds) most past)

pub ruleset digits = (digit_there, digits_value_more, digits_value-take-le)
