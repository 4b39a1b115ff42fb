-- What is found at the front of a text is spelled so.
use Rattle.std.proofs.Common.{◌≡◌, ◌≤◌, ◌<◌, ◌+◌, ◌-◌, ◌*◌, ◌/◌, ◌%◌, ◌^◌, ◌&&◌, ◌==◌, ℕ, zero, suc, Bool, true}
use Rattle.std.proofs.Common.{false}
use Rattle.std.proofs.Common.{List, [], ◌∷◌, ◌++◌, inl, inr, length, take, drop, slice_index, cond, refl, ap, sym, ◌∙◌}
use Rattle.std.proofs.Common.{subst}
use Rattle.std.proofs.Common.{arith, Option, Some, None, bytes_eq}
use Rattle.std.proofs.lemmas.Bool.{cond_both}
use Rattle.std.proofs.lemmas.List.{length-take-le, length-append, take_at, take_more}
use Rattle.std.specs.Prelude.{codes, decimal, option_map}
use Rattle.std.specs.List.{list_all, prefix_len}
use Rattle.std.specs.Char.{is_ascii_digit, is_ascii_hexdigit, digit_value}
use Rattle.std.proofs.lemmas.Bool.{cases_Bool, cond-true, cond-false, and_parts, eqb-true}
use Rattle.std.proofs.lemmas.Bool.Decides.{nat_tests}
use Rattle.std.proofs.lemmas.Slice.Eq.{bytes_eq-Decides}
use Rattle.std.proofs.lemmas.Grind.{common_steps}
use Rattle.std.proofs.lemmas.List.Sums.{prefix_len-le-length}
use Rattle.ivy_syntax.specs.declared.lexeme.Keyword.{Keyword}
use Rattle.ivy_syntax.specs.declared.lexeme.Keyword.TheVariants as keyword
use Rattle.ivy_syntax.specs.declared.lexeme.Symbol.{Symbol}
use Rattle.ivy_syntax.specs.declared.lexeme.Operator.{Operator}
use Rattle.ivy_syntax.specs.declared.lexeme.Kind.{Kind}
use Rattle.ivy_syntax.specs.declared.lexeme.Kind.TheVariants as kind
use Rattle.ivy_syntax.specs.Token.{Number, Hex, Quoted}
use Rattle.ivy_syntax.specs.Token.{letters, sign, mark, begins_name, goes_on, is_quotable, IsName, StandFor, Spells}
use Rattle.ivy_syntax.specs.Tokens.{EndsBefore}
use Rattle.ivy_syntax.specs.Lexeme.{value_of, token_of}
use Rattle.ivy_syntax.specs.Cutting.{Cut, keyword_among, all_keywords, keyword_of, word_kind, word_at}
use Rattle.wire.specs.Decimal.{decimal_within, decimal_read}
use Rattle.wire.specs.Spelling.{greatest}
use Rattle.ivy_syntax.specs.Cutting.{number_at, hex_at, quoted_at, pair_of}
use Rattle.ivy_syntax.specs.Cutting.{symbol_of}
use Rattle.ivy_syntax.specs.Cutting.{operator_of, single_cut, sign_cut, sign_at, token_at}
use Rattle.grammars.specs.Tokens.{StopsAt}
use Rattle.grammars.specs.Runs.{prefix_yes, run_passes, run_stops, all_front}

-- ---- keywords

pub name_goes_on : (b : ℕ) → begins_name b ≡ true → goes_on b ≡ true
name_goes_on b e = grind (arith, nat_tests)

pub digit_goes_on : (b : ℕ) → is_ascii_digit b ≡ true → goes_on b ≡ true
digit_goes_on b e = grind (arith, nat_tests)

keyword_sound : (ks : List Keyword) (word : List ℕ) (k : Keyword) → keyword_among ks word ≡ Some k → word ≡ letters k
keyword_sound [] word k e = (let f : None ≡ Some k = e in cc)
keyword_sound (j ∷ ks) word k e =
    elim (cases_Bool (bytes_eq (letters j) word)) [
      | inl t ↦ (let same : Some j ≡ Some k = sym (cond-true _ _ _ t) ∙ e in
          let is : j ≡ k = cc in
          sym ((bytes_eq-Decides (letters j) word).0 t) ∙ ap letters is)
      | inr f ↦ keyword_sound ks word k (sym (cond-false _ _ _ f) ∙ e)
    ]

pub keyword_is : (word : List ℕ) (k : Keyword) → keyword_of word ≡ Some k → word ≡ letters k
unfolding keyword_of
keyword_is word k e = keyword_sound all_keywords word k e

pub keyword_found : (k : Keyword) → keyword_of (letters k) ≡ Some k
unfolding keyword_of
keyword_found keyword.Contract = refl
keyword_found keyword.Clause = refl
keyword_found keyword.Locks = refl
keyword_found keyword.Requires = refl
keyword_found keyword.Of = refl
keyword_found keyword.Verify = refl
keyword_found keyword.Lock = refl
keyword_found keyword.Unlock = refl
keyword_found keyword.With = refl
keyword_found keyword.True = refl
keyword_found keyword.False = refl

abbrev pub IsWordText : List ℕ → Type 0
IsWordText [] = ⊥
IsWordText (b ∷ bytes) = (begins_name b ≡ true) × (list_all goes_on bytes ≡ true)

pub letters_are : (k : Keyword) → IsWordText (letters k)
letters_are keyword.Contract = (refl, refl)
letters_are keyword.Clause = (refl, refl)
letters_are keyword.Locks = (refl, refl)
letters_are keyword.Requires = (refl, refl)
letters_are keyword.Of = (refl, refl)
letters_are keyword.Verify = (refl, refl)
letters_are keyword.Lock = (refl, refl)
letters_are keyword.Unlock = (refl, refl)
letters_are keyword.With = (refl, refl)
letters_are keyword.True = (refl, refl)
letters_are keyword.False = (refl, refl)

-- ---- signs

pair_is : (b next : ℕ) (o : Operator) → pair_of b next ≡ Some o → mark o ≡ b ∷ next ∷ []
unfolding pair_of
pair_is b next o e = grind (arith, nat_tests)

symbol_is : (b : ℕ) (s : Symbol) → symbol_of b ≡ Some s → sign s ≡ b ∷ []
unfolding symbol_of
symbol_is b s e = grind (arith, nat_tests)

operator_is : (b : ℕ) (o : Operator) → operator_of b ≡ Some o → mark o ≡ b ∷ []
unfolding operator_of
operator_is b o e = grind (arith, nat_tests)

-- ---- what is found is spelled so

pub record Sound (k : Kind) (n : ℕ) (text : List ℕ) : Type 0 where
  pub some : 0 < n
  pub within : n ≤ length text
  pub spelled : Spells (token_of k (take n text)) (take n text)
  pub ends : EndsBefore (token_of k (take n text)) (drop n text)

pub SoundCut : List ℕ → Cut → Type 0
SoundCut text None = Unit {0}
SoundCut text (Some cut) = Sound cut.0 cut.1 text

name_is : (word : List ℕ) (b : ℕ) (rest : List ℕ) → word ≡ b ∷ rest → begins_name b ≡ true
    → list_all goes_on rest ≡ true → keyword_of word ≡ None → IsName word
name_is word b rest e first more none =
    let no : (k : Keyword) → b ∷ rest ≡ letters k → ⊥
    = λ k f. (let g : keyword_of word ≡ Some k = ap keyword_of (e ∙ f) ∙ keyword_found k in
    let h : None ≡ Some k = sym none ∙ g in cc) in
    subst IsName (sym e) (first, more, no)

word_spelled : (word : List ℕ) (b : ℕ) (rest : List ℕ) (found : Option Keyword) → word ≡ b ∷ rest
    → begins_name b ≡ true → list_all goes_on rest ≡ true → keyword_of word ≡ found
    → Spells (token_of (word_kind found) word) word
word_spelled word b rest None e first more is = (refl, name_is word b rest e first more is)
word_spelled word b rest (Some k) e first more is = keyword_is word k is

no_number : (k : Option Keyword) (word rest : List ℕ) → EndsBefore (token_of (word_kind k) word) rest
no_number None word rest = tt
no_number (Some k) word rest = tt

word_sound : (b : ℕ) (rest : List ℕ) → begins_name b ≡ true → SoundCut (b ∷ rest) (word_at (b ∷ rest))
unfolding word_at SoundCut
word_sound b rest e =
    let len : prefix_len goes_on (b ∷ rest) ≡ suc (prefix_len goes_on rest)
    = prefix_yes goes_on b rest (name_goes_on b e) in
    let word : take (prefix_len goes_on (b ∷ rest)) (b ∷ rest) ≡ b ∷ take (prefix_len goes_on rest) rest
    = ap (λ n. take n (b ∷ rest)) len in
    record {
      some = omega (arith, len);
      within = prefix_len-le-length goes_on (b ∷ rest);
      spelled = word_spelled _ b _ _ word e (run_passes goes_on rest) refl;
      ends = no_number (keyword_of (take (prefix_len goes_on (b ∷ rest)) (b ∷ rest))) _ _;
    }

-- ---- numbers

number_is : (digits : List ℕ) (n : ℕ) → decimal_within greatest digits ≡ Some n → (digits ≡ decimal n) × (n < 2 ^ 63)
number_is digits n e =
    let read = decimal_read greatest digits n (omega arith) e in (sym read.1, omega (arith, read.0))

ends_there : (n : ℕ) (rest : List ℕ) → StopsAt goes_on rest → EndsBefore (Number n) rest
ends_there n [] h = tt
ends_there n (b ∷ rest) h = h

number_cut_sound : (text : List ℕ) (found : Option ℕ) → 0 < prefix_len goes_on text
    → decimal_within greatest (take (prefix_len goes_on text) text) ≡ found
    → SoundCut text (option_map (λ n. (kind.Number n, prefix_len goes_on text)) found)
unfolding SoundCut
number_cut_sound text None p e = tt
number_cut_sound text (Some n) p e = record {
  some = p;
  within = prefix_len-le-length goes_on text;
  spelled = number_is (take (prefix_len goes_on text) text) n e;
  ends = ends_there n (drop (prefix_len goes_on text) text) (run_stops goes_on text);
}

number_sound : (b : ℕ) (rest : List ℕ) → is_ascii_digit b ≡ true → SoundCut (b ∷ rest) (number_at (b ∷ rest))
unfolding number_at
number_sound b rest e =
    let len : prefix_len goes_on (b ∷ rest) ≡ suc (prefix_len goes_on rest)
    = prefix_yes goes_on b rest (digit_goes_on b e) in
    number_cut_sound (b ∷ rest) (decimal_within greatest (take (prefix_len goes_on (b ∷ rest)) (b ∷ rest))) (omega (arith, len)) refl

-- ---- hex

pub hex_below : (d : ℕ) → is_ascii_hexdigit d ≡ true → digit_value d < 16
hex_below d h = grind (arith, nat_tests)

-- two digits stand for a byte
pub pair_fits : (high low : ℕ) → is_ascii_hexdigit high ≡ true → is_ascii_hexdigit low ≡ true
    → (16 * digit_value high + digit_value low) % 256 ≡ 16 * digit_value high + digit_value low
pair_fits high low first second = omega (arith, hex_below high first, hex_below low second)

stand_for : (k : ℕ) (digits : List ℕ) → length digits ≡ 2 * k → list_all is_ascii_hexdigit digits ≡ true
    → StandFor digits (value_of digits)
stand_for k [] e h = tt
stand_for k (d ∷ []) e h = absurd (omega arith)
stand_for zero (high ∷ low ∷ digits) e h = absurd (omega arith)
stand_for (suc k) (high ∷ low ∷ digits) e h =
    let first = and_parts _ _ h in
    let second = and_parts _ _ first.1 in
    let short : length digits ≡ 2 * k = omega arith in
    (first.0, second.0, pair_fits high low first.0 second.0, stand_for k digits short second.1)

hex_sound : (rest : List ℕ) → SoundCut (48 ∷ 120 ∷ rest) (hex_at (48 ∷ 120 ∷ rest))
unfolding hex_at SoundCut
hex_sound rest =
    let all : ℕ = prefix_len is_ascii_hexdigit rest in
    let n : ℕ = 2 * (all / 2) in
    let most : all ≤ length rest = prefix_len-le-length is_ascii_hexdigit rest in
    let even : n ≤ all = omega arith in
    let len : length (take n rest) ≡ 2 * (all / 2) = length-take-le n rest (omega arith) in
    let add : 2 + n ≡ suc (suc n) = omega arith in
    let digits : list_all is_ascii_hexdigit (take n rest) ≡ true
    = all_front is_ascii_hexdigit n all rest even (run_passes is_ascii_hexdigit rest) in
    let stands : StandFor (take n rest) (value_of (take n rest)) = stand_for (all / 2) (take n rest) len digits in
    let spelled : Spells (Hex (value_of (take n rest))) (48 ∷ 120 ∷ take n rest) = (take n rest, refl, stands) in
    record {
      some = omega arith;
      within = omega arith;
      spelled = subst (λ k. Spells (token_of kind.Hex (take k (48 ∷ 120 ∷ rest))) (take k (48 ∷ 120 ∷ rest)))
          (sym add) spelled;
      ends = tt;
    }

-- ---- text between quotes

pub quoted_value : (text : List ℕ) → token_of kind.Quoted (39 ∷ (text ++ codes "'")) ≡ Quoted text
quoted_value text =
    let len : length (39 ∷ (text ++ codes "'")) - 2 ≡ length text = omega (arith, length-append text (39 ∷ [])) in
    ap (λ n. Quoted (take n (text ++ 39 ∷ []))) len ∙ ap Quoted (take_at text (39 ∷ []) (length text) refl)

pub at_index : (n : ℕ) (rest : List ℕ) → slice_index (39 ∷ rest) (1 + n) ≡ slice_index rest n
at_index n rest = let e : 1 + n ≡ suc n = omega arith in ap (λ k. slice_index (39 ∷ rest) k) e

one_further : (n : ℕ) (rest : List ℕ) → n < length rest → slice_index rest n ≡ 39
    → take (suc n) rest ≡ take n rest ++ 39 ∷ []
one_further n rest h e =
    let k : n + 1 ≡ suc n = omega arith in
    ap (λ i. take i rest) (sym k) ∙ take_more rest n 0 h ∙ ap (λ b. take n rest ++ b ∷ []) e

quoted_sound : (rest : List ℕ) → SoundCut (39 ∷ rest) (quoted_at (39 ∷ rest))
unfolding quoted_at SoundCut
quoted_sound rest =
    let n : ℕ = prefix_len is_quotable rest in
    elim (cases_Bool (slice_index (39 ∷ rest) (1 + n) == 39)) [
      | inr f ↦ subst (SoundCut (39 ∷ rest)) (sym (cond-false _ _ _ f)) tt
      | inl t ↦
          (let at : slice_index rest n ≡ 39 = sym (at_index n rest) ∙ eqb-true _ _ t in
          let short : n < length rest = grind (arith, common_steps, at, prefix_len-le-length is_quotable rest) in
          let add : 2 + n ≡ suc (suc n) = omega arith in
          let bytes : take (2 + n) (39 ∷ rest) ≡ 39 ∷ (take n rest ++ codes "'")
          = ap (λ k. take k (39 ∷ rest)) add ∙ ap (λ more. 39 ∷ more) (one_further n rest short at) in
          let spelled : Spells (Quoted (take n rest)) (39 ∷ (take n rest ++ codes "'"))
          = (refl, run_passes is_quotable rest) in
          let valued : Spells (token_of kind.Quoted (39 ∷ (take n rest ++ codes "'"))) (39 ∷ (take n rest ++ codes "'"))
          = subst (λ t. Spells t (39 ∷ (take n rest ++ codes "'"))) (sym (quoted_value (take n rest))) spelled in
          let sound : Sound kind.Quoted (2 + n) (39 ∷ rest) = record {
            some = omega arith;
            within = omega arith;
            spelled = subst (λ s. Spells (token_of kind.Quoted s) s) (sym bytes) valued;
            ends = tt;
          } in
          subst (SoundCut (39 ∷ rest)) (sym (cond-true _ _ _ t)) sound)
    ]

-- ---- signs

single_sound : (b : ℕ) (rest : List ℕ) (s : Option Symbol) (o : Option Operator) → symbol_of b ≡ s → operator_of b ≡ o
    → SoundCut (b ∷ rest) (single_cut s o)
unfolding SoundCut
single_sound b rest (Some s) o e f =
    record { some = omega arith; within = omega arith; spelled = sym (symbol_is b s e); ends = tt }
single_sound b rest None (Some o) e f =
    record { some = omega arith; within = omega arith; spelled = sym (operator_is b o f); ends = tt }
single_sound b rest None None e f = tt

no_pair_at_end : (b : ℕ) → pair_of b 0 ≡ None
unfolding pair_of
no_pair_at_end b = grind (arith, nat_tests)

pair_sound : (b next : ℕ) (rest : List ℕ) (o : Option Operator) → pair_of b next ≡ o
    → SoundCut (b ∷ next ∷ rest) (sign_cut o b)
unfolding SoundCut
pair_sound b next rest (Some o) e =
    record { some = omega arith; within = omega arith; spelled = sym (pair_is b next o e); ends = tt }
pair_sound b next rest None e = single_sound b (next ∷ rest) (symbol_of b) (operator_of b) refl refl

sign_sound : (text : List ℕ) → SoundCut text (sign_at text)
unfolding sign_at SoundCut symbol_of operator_of pair_of
sign_sound [] = tt
sign_sound (b ∷ []) =
    subst (λ o. SoundCut (b ∷ []) (sign_cut o b)) (sym (no_pair_at_end b))
    (single_sound b [] (symbol_of b) (operator_of b) refl refl)
sign_sound (b ∷ next ∷ rest) = pair_sound b next rest (pair_of b next) refl

-- ---- the token at the front

hex_front_sound : (b : ℕ) (rest : List ℕ) → (b == 48 && slice_index rest 0 == 120) ≡ true
    → SoundCut (b ∷ rest) (hex_at (b ∷ rest))
hex_front_sound b [] e = (let f : false ≡ true = (and_parts _ _ e).1 in cc)
hex_front_sound b (x ∷ rest) e =
    let parts = and_parts _ _ e in
    let first : b ≡ 48 = eqb-true b 48 parts.0 in
    let second : x ≡ 120 = eqb-true x 120 parts.1 in
    let here : SoundCut (48 ∷ 120 ∷ rest) (hex_at (48 ∷ 120 ∷ rest)) = hex_sound rest in
    subst (λ c. SoundCut (c ∷ x ∷ rest) (hex_at (c ∷ x ∷ rest))) (sym first)
    (subst (λ c. SoundCut (48 ∷ c ∷ rest) (hex_at (48 ∷ c ∷ rest))) (sym second) here)

quoted_front_sound : (b : ℕ) (rest : List ℕ) → (b == 39) ≡ true → SoundCut (b ∷ rest) (quoted_at (b ∷ rest))
quoted_front_sound b rest e =
    subst (λ c. SoundCut (c ∷ rest) (quoted_at (c ∷ rest))) (sym (eqb-true b 39 e)) (quoted_sound rest)

choice : (text : List ℕ) (test : Bool) (x y : Cut) → (test ≡ true → SoundCut text x)
    → (test ≡ false → SoundCut text y) → SoundCut text (cond test x y)
choice text test x y = cond_both test x y (SoundCut text)

pub token_sound : (text : List ℕ) → SoundCut text (token_at text)
unfolding token_at
token_sound [] = sign_sound []
token_sound (b ∷ rest) =
    choice (b ∷ rest) _ _ _ (word_sound b rest)
    (λ _. choice (b ∷ rest) _ _ _ (hex_front_sound b rest)
    (λ _. choice (b ∷ rest) _ _ _ (number_sound b rest)
    (λ _. choice (b ∷ rest) _ _ _ (quoted_front_sound b rest)
    (λ _. sign_sound (b ∷ rest)))))

pub found_sound : (text : List ℕ) (k : Kind) (n : ℕ) → token_at text ≡ Some (k, n) → Sound k n text
unfolding SoundCut
found_sound text k n e = let at : SoundCut text (Some (k, n)) = subst (SoundCut text) e (token_sound text) in at
