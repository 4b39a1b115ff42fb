-- Tokens with a space before each are a space and what is written of them, and what is written is text.
use Rattle.std.proofs.Common.{◌≡◌, ℕ, ◌<◌, true, List, [], ◌∷◌, ◌++◌, drop, refl}
use Rattle.std.proofs.Common.{arith}
use Rattle.std.specs.Prelude.{codes, decimal}
use Rattle.std.specs.List.{AllByRecursion, list_all}
use Rattle.std.specs.Str.{IsAscii, IsUtf8}
use Rattle.std.proofs.lemmas.Bool.{and_parts}
use Rattle.std.proofs.lemmas.Bool.Decides.{nat_tests}
use Rattle.std.proofs.lemmas.Str.Ascii.{IsAscii-nil, IsAscii-cons}
use Rattle.std.proofs.lemmas.Str.{IsAscii-append, IsUtf8-from_ascii}
use Rattle.std.proofs.lemmas.Fmt.{IsAscii-decimal}
use Rattle.grammars.specs.Written.{all_ascii, written_ascii}
use Rattle.filter_syntax.specs.Spelling.{begins_name, is_name_byte, is_word, is_quotable}
use Rattle.filter_syntax.specs.Token.{Token, Open, Close, Equals, And, Or, Inputs, Outputs, Name, Quoted, Number, Param}
use Rattle.filter_syntax.specs.Token.{End, Bad, CanBeWritten, spelling, spaced, written}

pub drop_first : (ts : List Token) → drop 1 (spaced ts) ≡ written ts
drop_first [] = refl
drop_first (t ∷ ts) = refl

-- ---- what can be written is text

name_low : (b : ℕ) → is_name_byte b ≡ true → b < 128
name_low b is = grind (arith, nat_tests)

quotable_low : (b : ℕ) → is_quotable b ≡ true → b < 128
quotable_low b is = grind (arith, nat_tests)

first_low : (b : ℕ) → begins_name b ≡ true → b < 128
first_low b is = grind (arith, nat_tests)

word_ascii : (bs : List ℕ) → is_word bs ≡ true → IsAscii bs
word_ascii [] is = IsAscii-nil
word_ascii (b ∷ bs) is =
    let parts = and_parts (begins_name b) (list_all is_name_byte bs) is in
    IsAscii-cons b bs (first_low b parts.0) (all_ascii is_name_byte name_low bs parts.1)

spelling_ascii : (t : Token) → CanBeWritten t → IsAscii (spelling t)
spelling_ascii Open can = IsAscii-cons 40 [] (omega arith) IsAscii-nil
spelling_ascii Close can = IsAscii-cons 41 [] (omega arith) IsAscii-nil
spelling_ascii Equals can = IsAscii-cons 61 [] (omega arith) IsAscii-nil
spelling_ascii And can = word_ascii (codes "AND") refl
spelling_ascii Or can = word_ascii (codes "OR") refl
spelling_ascii Inputs can = word_ascii (codes "inputs") refl
spelling_ascii Outputs can = word_ascii (codes "outputs") refl
spelling_ascii (Name word) can = word_ascii word can.formed
spelling_ascii (Quoted text) can =
    IsAscii-cons 39 (text ++ 39 ∷ []) (omega arith)
    (IsAscii-append text (39 ∷ []) (all_ascii is_quotable quotable_low text can) (IsAscii-cons 39 [] (omega arith) IsAscii-nil))
spelling_ascii (Number n) can = IsAscii-decimal n (omega (arith, can))
spelling_ascii (Param n) can = IsAscii-cons 36 (decimal n) (omega arith) (IsAscii-decimal n (omega (arith, can.1)))
spelling_ascii End can = absurd can
spelling_ascii Bad can = absurd can

pub written_text : (ts : List Token) → AllByRecursion CanBeWritten ts → IsUtf8 (written ts)
written_text ts can = IsUtf8-from_ascii (written ts) (written_ascii spelling CanBeWritten spelling_ascii ts can)
