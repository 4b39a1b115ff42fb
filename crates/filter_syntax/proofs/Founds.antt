-- What the code finds at the first byte of a text is what is read there.
use Rattle.std.proofs.Common.{◌≡◌, ◌≢◌, ℕ, ◌+◌, ◌-◌, ◌<◌, ◌≤◌, true, false, eqb, List, [], ◌∷◌, length, take, drop}
use Rattle.std.proofs.Common.{get_or, Option, Some, None, suc, arith, refl, sym, ap, ◌∙◌, length-append, length-take}
use Rattle.std.proofs.Common.{length-drop, add-zero}
use Rattle.std.specs.Prelude.{decimal, option_and_then}
use Rattle.std.proofs.lemmas.Fmt.{decimal_nonempty}
use Rattle.std.proofs.lemmas.Bool.{cond-true, cond-false, eq-eqb, ne_eqb}
use Rattle.std.proofs.lemmas.Bool.Decides.{nat_tests}
use Rattle.std.proofs.lemmas.List.{get_or-drop, take-take}
use Rattle.std.specs.List.{prefix_len}
use Rattle.wire.specs.Spelling.{greatest}
use Rattle.wire.specs.Decimal.{decimal_within}
use Rattle.filter_syntax.specs.Spelling.{is_name_byte, is_word, is_quotable}
use Rattle.filter_syntax.specs.Token.{Token, Quoted, Param, spelling}
use Rattle.filter_syntax.specs.Lexing.{run_of, word_token, run_token, numbered, param_token, closed}
use Rattle.filter_syntax.specs.Lexing.{quoted_token, between, token_of, IsFound}
use Rattle.filter_syntax.specs.declared.tokens.Kind.{Kind}
use Rattle.filter_syntax.specs.declared.tokens.Kind.TheVariants as kinds
use Rattle.filter_syntax.proofs.Numbers.{number_is}
use Rattle.filter_syntax.proofs.WordTokens.{word_spelled, word_some, word_run, number_run, no_run}

-- ---- words and numbers

pub word_found : (text : List ℕ) (kind : Kind) (len : ℕ) → len ≡ prefix_len is_name_byte text → len ≤ length text
    → is_word (take len text) ≡ true
    → token_of kind (take len text) ≡ word_token (take len text)
    → IsFound text kind len (run_token (run_of text))
word_found text kind len is within word token =
    let long : length (take len text) ≡ len = omega (arith, length-take len text) in
    let some : 0 < length (take len text) = word_some (take len text) word in
    record {
      is = ap (λ (n : ℕ). run_token (take n text)) (sym is) ∙ word_run (take len text) word ∙ ap Some (sym token);
      takes = sym (ap (λ (t : Token). length (spelling t)) token
          ∙ ap (λ (l : List ℕ). length l) (word_spelled (take len text)) ∙ long);
      some = omega (arith, long, some);
      within = within;
    }

pub number_found : (text : List ℕ) (n len : ℕ) → len ≡ prefix_len is_name_byte text → len ≤ length text
    → is_word (take len text) ≡ false
    → decimal_within greatest (take len text) ≡ Some n
    → IsFound text (kinds.Number n) len (run_token (run_of text))
number_found text n len is within word number =
    let long : length (take len text) ≡ len = omega (arith, length-take len text) in
    let found = number_is (take len text) n number in
    let digits = ap (λ (l : List ℕ). length l) found.1 in
    let some : 0 < length (decimal n) = decimal_nonempty n (omega (arith, found.0)) in
    record {
      is = ap (λ (n : ℕ). run_token (take n text)) (sym is) ∙ number_run (take len text) n word number;
      takes = omega (arith, digits, long);
      some = omega (arith, digits, long, some);
      within = within;
    }

pub run_none : (text : List ℕ) (len : ℕ) → len ≡ prefix_len is_name_byte text
    → is_word (take len text) ≡ false
    → decimal_within greatest (take len text) ≡ None
    → run_token (run_of text) ≡ None
run_none text len is word number = ap (λ (n : ℕ). run_token (take n text)) (sym is) ∙ no_run (take len text) word number

-- ---- parameters

numbered_is : (n : ℕ) → 1 ≤ n → n ≤ 99 → numbered n ≡ Some (Param n)
numbered_is n low high = grind (arith, nat_tests)

numbered_none : (n : ℕ) → (1 ≤ n → n ≤ 99 → ⊥) → numbered n ≡ None
numbered_none n past = grind (arith, nat_tests)

pub param_found : (tail : List ℕ) (n len : ℕ) → len ≡ prefix_len is_name_byte tail → len ≤ length tail
    → decimal_within greatest (take len tail) ≡ Some n → 1 ≤ n → n ≤ 99
    → IsFound (36 ∷ tail) (kinds.Param n) (len + 1) (param_token (run_of tail))
unfolding param_token
param_found tail n len is within number low high =
    let long : length (take len tail) ≡ len = omega (arith, length-take len tail) in
    let digits = ap (λ (l : List ℕ). length l) (number_is (take len tail) n number).1 in
    record {
      is = ap (λ (n : ℕ). option_and_then numbered (decimal_within greatest (take n tail))) (sym is)
          ∙ ap (λ (o : Option ℕ). option_and_then numbered o) number ∙ numbered_is n low high;
      takes = omega (arith, digits, long);
      some = omega arith;
      within = omega arith;
    }

pub param_past : (tail : List ℕ) (n len : ℕ) → len ≡ prefix_len is_name_byte tail
    → decimal_within greatest (take len tail) ≡ Some n → (1 ≤ n → n ≤ 99 → ⊥)
    → param_token (run_of tail) ≡ None
unfolding param_token
param_past tail n len is number past =
    ap (λ (n : ℕ). option_and_then numbered (decimal_within greatest (take n tail))) (sym is)
    ∙ ap (λ (o : Option ℕ). option_and_then numbered o) number ∙ numbered_none n past

pub param_none : (tail : List ℕ) (len : ℕ) → len ≡ prefix_len is_name_byte tail
    → decimal_within greatest (take len tail) ≡ None
    → param_token (run_of tail) ≡ None
unfolding param_token
param_none tail len is number =
    ap (λ (n : ℕ). option_and_then numbered (decimal_within greatest (take n tail))) (sym is)
    ∙ ap (λ (o : Option ℕ). option_and_then numbered o) number

-- ---- quoted texts

closed_some : (text behind : List ℕ) → 0 < length behind → get_or behind 0 0 ≡ 39
    → closed text behind ≡ Some (Quoted text)
closed_some text [] some is = absurd (omega arith)
closed_some text (b ∷ behind) some is = cond-true (eqb b 39) (Some (Quoted text)) None (eq-eqb b 39 is)

closed_none : (text behind : List ℕ) → (0 < length behind → get_or behind 0 0 ≢ 39) → closed text behind ≡ None
closed_none text [] past = refl
closed_none text (b ∷ behind) past = cond-false (eqb b 39) (Some (Quoted text)) None (ne_eqb b 39 (past (omega arith)))

-- the bytes between the first and the last
between_is : (b : ℕ) (tail : List ℕ) (len : ℕ) → len + 1 ≤ length tail
    → between (take (len + 2) (b ∷ tail)) ≡ take len tail
between_is b tail len within =
    let two : len + 2 ≡ suc (suc len) = omega arith in
    let count : length (b ∷ take (suc len) tail) - 2 ≡ len = omega (arith, length-take (suc len) tail) in
    let front : take len (take (suc len) tail) ≡ take len tail = grind (arith, take-take) in
    ap (λ (n : ℕ). between (take n (b ∷ tail))) two ∙ ap (λ (n : ℕ). take n (take (suc len) tail)) count ∙ front

pub quoted_found : (tail : List ℕ) (len : ℕ) → len ≡ prefix_len is_quotable tail → len < length tail
    → get_or tail len 0 ≡ 39
    → IsFound (39 ∷ tail) kinds.Quoted (len + 2) (quoted_token tail)
unfolding quoted_token
quoted_found tail len is within there =
    let inner = between_is 39 tail len (omega arith) in
    let long : length (take len tail) ≡ len = omega (arith, length-take len tail) in
    let first : get_or (drop len tail) 0 0 ≡ 39 = get_or-drop len tail 0 0
    ∙ ap (λ (n : ℕ). get_or tail n 0) (add-zero len) ∙ there in
    record {
      is = ap (λ (n : ℕ). closed (take n tail) (drop n tail)) (sym is)
          ∙ closed_some (take len tail) (drop len tail) (omega (arith, length-drop len tail)) first
          ∙ ap (λ (l : List ℕ). Some (Quoted l)) (sym inner);
      takes = sym (ap (λ (l : List ℕ). length (spelling (Quoted l))) inner ∙ quoted_length (take len tail) len long);
      some = omega arith;
      within = omega arith;
    }
  where
    quoted_length : (q : List ℕ) (n : ℕ) → length q ≡ n → length (spelling (Quoted q)) ≡ n + 2
    quoted_length q n is = omega (arith, is, length-append q (39 ∷ []))

pub quoted_none : (tail : List ℕ) (len : ℕ) → len ≡ prefix_len is_quotable tail
    → (len < length tail → get_or tail len 0 ≢ 39)
    → quoted_token tail ≡ None
unfolding quoted_token
quoted_none tail len is past =
    ap (λ (n : ℕ). closed (take n tail) (drop n tail)) (sym is)
    ∙ closed_none (take len tail) (drop len tail) (λ some e. past (omega (arith, length-drop len tail))
    (ap (λ (n : ℕ). get_or tail n 0) (sym (add-zero len)) ∙ sym (get_or-drop len tail 0 0) ∙ e))
