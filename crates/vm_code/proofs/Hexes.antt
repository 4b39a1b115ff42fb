-- Hex in lower case: what is read is written so, and what is written is read again.
use Rattle.std.proofs.Common.{◌≡◌, ℕ, zero, suc, ◌+◌, ◌*◌, ◌/◌, ◌%◌, ◌<◌, ◌≤◌, Bool, true, false, cond, List, [], ◌∷◌, length, get_or, Result, Ok, Err, Option, Some, None, ap, subst, sym, ◌∙◌, refl, arith}
use Rattle.std.specs.Prelude.{◌&&◌, ◌||◌, ◌==◌, nat_le, not}
use Rattle.std.proofs.lemmas.Bool.{agree_below_at, and_parts, and_from, eqb-true, leb-true}
use Rattle.std.proofs.lemmas.Bool.Decides.{nat_tests}
use Rattle.std.specs.List.{list_all}
use Rattle.std.specs.Result.{result_ok}
use Rattle.hex.specs.Hex.{decode_of, decode_pairs, hex_digit_value, encode_with, encode_lower, lower_digits, IsBytes, ◌>>=◌}
use Rattle.hex.specs.declared.error.FromHexError.{FromHexError}
use Rattle.hex.specs.declared.error.FromHexError.TheVariants.{OddLength}
use Rattle.hex.proofs.HexLemmas.{decode_of-encode_lower}
use Rattle.vm_code.specs.Word.{is_lower_digit, hex_read}

-- ---- one digit

-- a lower-case digit is the one of its value
abbrev digit_back : ℕ → Option ℕ → Bool
digit_back c None = false
digit_back c (Some v) = (get_or lower_digits v 0 == c) && nat_le v 15

abbrev digit_good : ℕ → Bool
digit_good c = not (is_lower_digit c) || digit_back c (hex_digit_value c)

digits_good : (c : ℕ) → c < 128 → digit_good c ≡ true
digits_good c small = agree_below_at digit_good (λ c. true) 128 c refl small

record Digit (c : ℕ) : Type 0 where
  value : ℕ
  is : hex_digit_value c ≡ Some value
  small : value ≤ 15
  back : get_or lower_digits value 0 ≡ c

digit_from : (c : ℕ) (o : Option ℕ) → hex_digit_value c ≡ o → digit_back c o ≡ true → Digit c
digit_from c None is good = cc
digit_from c (Some v) is good =
    let both = and_parts (get_or lower_digits v 0 == c) (nat_le v 15) good in
    record { value = v; is = is; small = leb-true _ _ both.1; back = eqb-true _ _ both.0 }

digit_of : (c : ℕ) → is_lower_digit c ≡ true → Digit c
digit_of c lower =
    let small : c < 128 = grind (arith, nat_tests) in
    let good : not true || digit_back c (hex_digit_value c) ≡ true = subst (λ t. not t || digit_back c (hex_digit_value c) ≡ true) lower (digits_good c small) in
    digit_from c (hex_digit_value c) refl good

value_good : (v : ℕ) → v < 16 → is_lower_digit (get_or lower_digits v 0) ≡ true
value_good v small = agree_below_at (λ v. is_lower_digit (get_or lower_digits v 0)) (λ v. true) 16 v refl small

-- ---- bytes one by one

pub is_bytes_nil : IsBytes []
is_bytes_nil i = omega arith

pub is_bytes_cons : (b : ℕ) (bs : List ℕ) → b < 256 → IsBytes bs → IsBytes (b ∷ bs)
is_bytes_cons b bs small rest zero = small
is_bytes_cons b bs small rest (suc i) = rest i

pub is_bytes_tail : (b : ℕ) (bs : List ℕ) → IsBytes (b ∷ bs) → IsBytes bs
is_bytes_tail b bs all i = all (suc i)

pub is_bytes_head : (b : ℕ) (bs : List ℕ) → IsBytes (b ∷ bs) → b < 256
is_bytes_head b bs all = all 0

-- ---- what is read is written so

abbrev Written : List ℕ → List ℕ → Type 0
Written s b = (encode_with lower_digits b ≡ s) × IsBytes b

pair_step : (x y i : ℕ) (rest : List ℕ) (h l : ℕ) → hex_digit_value x ≡ Some h → hex_digit_value y ≡ Some l → decode_pairs i (x ∷ y ∷ rest) ≡ (decode_pairs (i + 2) rest >>= (λ bytes. Ok ((h * 16 + l) ∷ bytes)))
unfolding decode_pairs
pair_step x y i rest h l hx hy = rw hx (rw hy refl)

pair_written : (x y : ℕ) (rest : List ℕ) (dx : Digit x) (dy : Digit y) (r : Result (List ℕ) FromHexError) (b : List ℕ) → ((bs : List ℕ) → r ≡ Ok bs → Written rest bs) → (r >>= (λ bytes. Ok ((dx.value * 16 + dy.value) ∷ bytes))) ≡ Ok b → Written (x ∷ y ∷ rest) b
unfolding encode_with
pair_written x y rest dx dy (Ok bs) b more h =
    let v = dx.value * 16 + dy.value in
    let tail = more bs refl in
    let high : v / 16 ≡ dx.value = let a = dx.small in let c = dy.small in omega arith in
    let low : v % 16 ≡ dy.value = let a = dx.small in let c = dy.small in omega arith in
    let byte : v < 256 = let a = dx.small in let c = dy.small in omega arith in
    let same : v ∷ bs ≡ b = cc in
    let text : get_or lower_digits (v / 16) 0 ∷ get_or lower_digits (v % 16) 0 ∷ encode_with lower_digits bs ≡ x ∷ y ∷ rest =
    rw high (rw low (rw dx.back (rw dy.back (ap (λ s. x ∷ y ∷ s) tail.0)))) in
    subst (Written (x ∷ y ∷ rest)) same (text, is_bytes_cons v bs byte tail.1)
pair_written x y rest dx dy (Err e) b more h = cc

none_written : (b : List ℕ) (r : Result (List ℕ) FromHexError) → r ≡ Ok [] → r ≡ Ok b → Written [] b
unfolding encode_with
none_written b r is h = let same : [] ≡ b = cc in subst (Written []) same (refl, is_bytes_nil)

pairs_written : (i : ℕ) (s b : List ℕ) → list_all is_lower_digit s ≡ true → decode_pairs i s ≡ Ok b → Written s b
unfolding decode_pairs
pairs_written i [] b all h = none_written b (Ok []) refl h
pairs_written i (x ∷ []) b all h = cc
pairs_written i (x ∷ y ∷ rest) b all h =
    let first = and_parts (is_lower_digit x) (is_lower_digit y && list_all is_lower_digit rest) all in
    let second = and_parts (is_lower_digit y) (list_all is_lower_digit rest) first.1 in
    let dx = digit_of x first.0 in
    let dy = digit_of y second.0 in
    pair_written x y rest dx dy (decode_pairs (i + 2) rest) b (λ bs e. pairs_written (i + 2) rest bs second.1 e) (sym (pair_step x y i rest dx.value dy.value dx.is dy.is) ∙ h)

decoded_written : (t : Bool) (s b : List ℕ) → list_all is_lower_digit s ≡ true → cond t (Err OddLength) (decode_pairs 0 s) ≡ Ok b → Written s b
decoded_written true s b all h = cc
decoded_written false s b all h = pairs_written 0 s b all h

result_from : (r : Result (List ℕ) FromHexError) (b : List ℕ) → result_ok r ≡ Some b → r ≡ Ok b
result_from (Ok x) b h = cc
result_from (Err e) b h = cc

read_written : (t : Bool) (s b : List ℕ) → list_all is_lower_digit s ≡ t → cond t (result_ok (decode_of s)) None ≡ Some b → Written s b
read_written true s b all h = decoded_written (length s % 2 == 1) s b all (result_from (decode_of s) b h)
read_written false s b all h = cc

-- bytes that are read of hex are written so
pub hex_written : (s b : List ℕ) → hex_read s ≡ Some b → (encode_lower b ≡ s) × IsBytes b
unfolding hex_read
hex_written s b h = read_written (list_all is_lower_digit s) s b refl h

-- ---- what is written is read again

pub lower_written : (b : List ℕ) → IsBytes b → list_all is_lower_digit (encode_lower b) ≡ true
unfolding encode_with
lower_written [] all = refl
lower_written (b ∷ bs) all =
    let byte : b < 256 = all 0 in
    and_from _ _ (value_good (b / 16) (omega arith)) (and_from _ _ (value_good (b % 16) (omega arith)) (lower_written bs (is_bytes_tail b bs all)))

pub hex_back : (b : List ℕ) → IsBytes b → hex_read (encode_lower b) ≡ Some b
unfolding hex_read
hex_back b all = rw (lower_written b all) (ap result_ok (decode_of-encode_lower b all))
