-- What a hex word says.
use Rattle.std.proofs.Common.{◌≡◌, ℕ, ◌<◌, ◌≤◌, Bool, true, false, cond, List, length, Result, Ok, Err, Option, Some, None, nat_le, ap, refl, ◌∙◌, arith}
use Rattle.std.proofs.lemmas.Bool.Decides.{nat_tests}
use Rattle.std.specs.Result.{result_ok}
use Rattle.word_lines.specs.Word.{hex_of}
use Rattle.hex.specs.Hex.{decode_of}
use Rattle.hex.specs.declared.FromHexError.{FromHexError}
use Rattle.hex.proofs.HexLemmas.{decode_of-ok}

by_test : {X : Type 0} (b : Bool) (o : Option X) (x : X) → cond b o None ≡ Some x → (b ≡ true) × (o ≡ Some x)
by_test true o x is = (refl, is)
by_test false o x is = cc

decoded_short : (word bytes : List ℕ) (r : Result (List ℕ) FromHexError) → decode_of word ≡ r → result_ok r ≡ Some bytes → length word ≤ 131072 → length bytes ≤ 65536
decoded_short word bytes (Ok decoded) is some short =
    let twice = decode_of-ok word decoded is in
    let same : decoded ≡ bytes = cc in
    let long = ap length same in
    omega (arith, twice.2)
decoded_short word bytes (Err e) is some short = cc

-- a hex word says at most 65,536 bytes
pub hex_short : (word bytes : List ℕ) → hex_of word ≡ Some bytes → length bytes ≤ 65536
unfolding hex_of
hex_short word bytes is =
    let tests = by_test (nat_le (length word) 131072) (result_ok (decode_of word)) bytes is in
    let short : length word ≤ 131072 = grind (arith, nat_tests, tests.0) in
    decoded_short word bytes (decode_of word) refl tests.1 short

-- a word that is too long says none
pub hex_long : (word : List ℕ) → 131072 < length word → hex_of word ≡ None
unfolding hex_of
hex_long word past = grind (arith, nat_tests)

-- the bytes of a word that is decoded
pub hex_decoded : (word bytes : List ℕ) → length word ≤ 131072 → decode_of word ≡ Ok bytes → hex_of word ≡ Some bytes
unfolding hex_of
hex_decoded word bytes short is =
    let test : nat_le (length word) 131072 ≡ true = grind (arith, nat_tests) in
    ap (λ (t : Bool). cond t (result_ok (decode_of word)) None) test ∙ ap result_ok is

-- a word that is no hex
pub hex_none : (word : List ℕ) (e : FromHexError) → decode_of word ≡ Err e → hex_of word ≡ None
unfolding hex_of
hex_none word e is = by_length (nat_le (length word) 131072)
  where
    by_length : (t : Bool) → cond t (result_ok (decode_of word)) None ≡ None
    by_length true = ap result_ok is
    by_length false = refl
