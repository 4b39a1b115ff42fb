-- The longest token of a text is what is found from its first byte on.
use Rattle.std.proofs.Common.{◌≡◌, ℕ, ◌<◌, ◌≤◌, ◌^◌, ◌&&◌, Bool, true, false, cond, eqb, leb, List, [], ◌∷◌, ◌++◌}
use Rattle.std.proofs.Common.{length, take, drop, Option, Some, None, arith, refl, sym, ap, ◌∙◌, subst, ◌⊎◌, inl}
use Rattle.std.proofs.Common.{inr, append_assoc, length-append}
use Rattle.std.specs.Prelude.{codes, decimal, option_and_then}
use Rattle.std.specs.Option.{option_map}
use Rattle.std.proofs.lemmas.Option.{none-some, same_Some}
use Rattle.std.proofs.lemmas.List.{take-append-drop, append-nil}
use Rattle.std.proofs.Math.Seq.{drop-append_seam}
use Rattle.std.proofs.lemmas.Fmt.{decimal_nonempty}
use Rattle.std.proofs.lemmas.Bool.Decides.{nat_tests}
use Rattle.std.proofs.lemmas.List.Sums.{take_while-cons}
use Rattle.std.proofs.lemmas.List.Folds.{length-prefix_len, list_all-append}
use Rattle.std.proofs.lemmas.Bool.{leb-true, cond-true, cond-false, and_parts, and_from, and_left, false≢true}
use Rattle.std.proofs.lemmas.Bool.{eqb-true, ne_eqb}
use Rattle.std.specs.List.{list_all, prefix_len, take_while}
use Rattle.std.specs.Char.{is_ascii_digit}
use Rattle.wire.specs.Spelling.{greatest}
use Rattle.wire.specs.Decimal.{decimal_within, digits_written}
use Rattle.grammars.specs.Tokens.{Begins}
use Rattle.grammars.specs.Scanner.{Reaches, IsToken}
use Rattle.grammars.specs.Runs.{run_passes, run_stops, run_ends}
use Rattle.filter_syntax.specs.Spelling.{begins_name, is_name_byte, is_word, is_quotable}
use Rattle.filter_syntax.specs.Token.{Token, Open, Close, Equals, And, Or, Inputs, Outputs, Name, Quoted, Number}
use Rattle.filter_syntax.specs.Token.{Param, End, Bad, spelling, CanBeWritten}
use Rattle.filter_syntax.specs.Tokens.{IsApart, EndsBefore, lexicon}
use Rattle.filter_syntax.specs.Lexing.{run_of, word_token, run_token, numbered, param_token, closed}
use Rattle.filter_syntax.specs.Lexing.{quoted_token, first_token}
use Rattle.filter_syntax.proofs.Numbers.{chosen, when, number_is, number_again}
use Rattle.filter_syntax.proofs.WordTokens.{word_spelled, word_bytes, word_some, name_again, and_again, or_again}
use Rattle.filter_syntax.proofs.WordTokens.{inputs_again, outputs_again, run_is, word_run, number_run}

-- the text is this token and then the rest
abbrev BeginsWith : List ℕ → Token → List ℕ → Type 0
BeginsWith text token rest = Begins lexicon text token (spelling token) rest

-- ---- the prefix that passes a test

module _ (p : ℕ → Bool) where
  pub front_onto : (w more : List ℕ) → list_all p w ≡ true → take_while p (w ++ more) ≡ w ++ take_while p more
  front_onto [] more are = refl
  front_onto (b ∷ w) more are =
      let parts = and_parts (p b) (list_all p w) are in
      take_while-cons p b (w ++ more) ∙ cond-true (p b) (b ∷ take_while p (w ++ more)) [] parts.0
      ∙ ap (λ (l : List ℕ). b ∷ l) (front_onto w more parts.1)

  pub front_split : (text : List ℕ) → text ≡ take_while p text ++ drop (prefix_len p text) text
  front_split text = sym (take-append-drop (prefix_len p text) text)

-- ---- runs

pub run_apart : (more : List ℕ) → IsApart more → run_of more ≡ []
run_apart more apart = ap (λ (n : ℕ). take n more) (run_ends is_name_byte more apart)

pub apart_any : (token : Token) (rest : List ℕ) → IsApart rest → EndsBefore token rest
apart_any (Number n) rest apart = apart
apart_any (Param n) rest apart = apart
apart_any _ rest apart = tt

-- a byte of a name begins none of the other tokens
not_byte : (b k : ℕ) → is_name_byte k ≡ false → is_name_byte b ≡ true → eqb b k ≡ false
not_byte b k other is = ne_eqb b k (λ e. false≢true (sym other ∙ ap is_name_byte (sym e) ∙ is))

pub name_first : (b : ℕ) (tail : List ℕ) → is_name_byte b ≡ true
    → first_token (b ∷ tail) ≡ run_token (run_of (b ∷ tail))
unfolding first_token
name_first b tail is =
    cond-false (eqb b 40) _ _ (not_byte b 40 refl is)
    ∙ cond-false (eqb b 41) _ _ (not_byte b 41 refl is)
    ∙ cond-false (eqb b 61) _ _ (not_byte b 61 refl is)
    ∙ cond-false (eqb b 39) _ _ (not_byte b 39 refl is)
    ∙ cond-false (eqb b 36) _ _ (not_byte b 36 refl is)

pub run_first : (run more : List ℕ) → 0 < length run → list_all is_name_byte run ≡ true
    → first_token (run ++ more) ≡ run_token (run ++ run_of more)
run_first [] more some are = absurd (omega arith)
run_first (b ∷ run) more some are =
    name_first b (run ++ more) (and_parts (is_name_byte b) (list_all is_name_byte run) are).0
    ∙ ap run_token (front_onto is_name_byte (b ∷ run) more are)

-- ---- what is found where a token begins a text

pub record Leads (other : Token) (more text : List ℕ) : Type 0 where
  pub token : Token
  pub is : first_token text ≡ Some token
  pub longer : (length (spelling other) < length (spelling token)) ⊎ (other ≡ token)
  pub only : IsApart more → other ≡ token

word_onto : (w more : List ℕ) → is_word w ≡ true → list_all is_name_byte more ≡ true → is_word (w ++ more) ≡ true
word_onto [] more is are = cc
word_onto (b ∷ w) more is are =
    let parts = and_parts (begins_name b) (list_all is_name_byte w) is in
    and_from _ _ parts.0 (list_all-append is_name_byte w more ∙ and_from _ _ parts.1 are)

some_is_none : (b : ℕ) (run : List ℕ) → [] ≡ b ∷ run → ⊥
some_is_none b run e = cc

leads_word : (w : List ℕ) (other : Token) (more : List ℕ) → is_word w ≡ true → word_token w ≡ other
    → Leads other more (w ++ more)
leads_word w other more word is = by (run_of more) refl
  where
    found : first_token (w ++ more) ≡ Some (word_token (w ++ run_of more))
    found = run_first w more (word_some w word) (word_bytes w word)
        ∙ word_run (w ++ run_of more) (word_onto w (run_of more) word (run_passes is_name_byte more))

    by : (run : List ℕ) → run_of more ≡ run → Leads other more (w ++ more)
    by [] e =
        let same : word_token (w ++ run_of more) ≡ other = ap (λ (r : List ℕ). word_token (w ++ r)) e
        ∙ ap word_token (append-nil w) ∙ is in
        record {
          token = other;
          is = found ∙ ap Some same;
          longer = inr refl;
          only = λ _. refl;
        }
    by (b ∷ run) e =
        let long = ap (λ (l : List ℕ). length l) (word_spelled (w ++ run_of more)) in
        let short = ap (λ (t : Token). length (spelling t)) is in
        let own = ap (λ (l : List ℕ). length l) (word_spelled w) in
        let more_run = ap (λ (l : List ℕ). length l) e in
        record {
          token = word_token (w ++ run_of more);
          is = found;
          longer = inl (omega (arith, long, short, own, more_run, length-append w (run_of more)));
          only = λ apart. absurd (some_is_none b run (sym (run_apart more apart) ∙ e));
        }

-- digits
digit_no_start : (b : ℕ) → is_ascii_digit b ≡ true → begins_name b ≡ false
digit_no_start b is = grind (arith, nat_tests)

digit_byte : (b : ℕ) → is_ascii_digit b ≡ true → is_name_byte b ≡ true
digit_byte b is = grind (arith, nat_tests)

digits_bytes : (ds : List ℕ) → list_all is_ascii_digit ds ≡ true → list_all is_name_byte ds ≡ true
digits_bytes [] are = refl
digits_bytes (d ∷ ds) are =
    let parts = and_parts (is_ascii_digit d) (list_all is_ascii_digit ds) are in
    and_from _ _ (digit_byte d parts.0) (digits_bytes ds parts.1)

digits_no_word : (ds : List ℕ) → list_all is_ascii_digit ds ≡ true → is_word ds ≡ false
digits_no_word [] are = refl
digits_no_word (d ∷ ds) are =
    and_left (begins_name d) (list_all is_name_byte ds)
    (digit_no_start d (and_parts (is_ascii_digit d) (list_all is_ascii_digit ds) are).0)

number_front : (n : ℕ) (more : List ℕ) → n < 2 ^ 64 → IsApart more → decimal n ++ run_of more ≡ decimal n
number_front n more low apart = ap (λ (l : List ℕ). decimal n ++ l) (run_apart more apart) ∙ append-nil (decimal n)

leads_number : (n : ℕ) (more : List ℕ) → n < 2 ^ 63 → IsApart more → Leads (Number n) more (decimal n ++ more)
leads_number n more low apart =
    let wide : n < 2 ^ 64 = omega arith in
    let digits = digits_written n wide in
    record {
      token = Number n;
      is = run_first (decimal n) more (decimal_nonempty n wide) (digits_bytes (decimal n) digits)
          ∙ ap run_token (number_front n more wide apart)
          ∙ number_run (decimal n) n (digits_no_word (decimal n) digits) (number_again n low);
      longer = inr refl;
      only = λ _. refl;
    }

param_first : (tail : List ℕ) → first_token (36 ∷ tail) ≡ param_token (run_of tail)
unfolding first_token
param_first tail = refl

numbered_is : (n : ℕ) → 1 ≤ n → n ≤ 99 → numbered n ≡ Some (Param n)
numbered_is n low high = grind (arith, nat_tests)

param_again : (n : ℕ) → 1 ≤ n → n ≤ 99 → param_token (decimal n) ≡ Some (Param n)
unfolding param_token
param_again n low high = ap (λ (o : Option ℕ). option_and_then numbered o) (number_again n (omega arith))
    ∙ numbered_is n low high

leads_param : (n : ℕ) (more : List ℕ) → 1 ≤ n → n ≤ 99 → IsApart more → Leads (Param n) more (36 ∷ (decimal n ++ more))
leads_param n more low high apart =
    let wide : n < 2 ^ 64 = omega arith in
    let digits = digits_written n wide in
    record {
      token = Param n;
      is = param_first (decimal n ++ more)
          ∙ ap param_token (front_onto is_name_byte (decimal n) more (digits_bytes (decimal n) digits)
          ∙ number_front n more wide apart)
          ∙ param_again n low high;
      longer = inr refl;
      only = λ _. refl;
    }

-- quoted texts
quoted_first : (tail : List ℕ) → first_token (39 ∷ tail) ≡ quoted_token tail
unfolding first_token
quoted_first tail = refl

quote_stops : (q more : List ℕ) → list_all is_quotable q ≡ true → take_while is_quotable (q ++ (39 ∷ more)) ≡ q
quote_stops q more are =
    front_onto is_quotable q (39 ∷ more) are ∙ ap (λ (l : List ℕ). q ++ l) (take_while-cons is_quotable 39 more)
    ∙ append-nil q

quoted_again : (q more : List ℕ) → list_all is_quotable q ≡ true → quoted_token (q ++ (39 ∷ more)) ≡ Some (Quoted q)
unfolding quoted_token
quoted_again q more are =
    let front = quote_stops q more are in
    let long : prefix_len is_quotable (q ++ (39 ∷ more)) ≡ length q =
    sym (length-prefix_len is_quotable (q ++ (39 ∷ more))) ∙ ap (λ (l : List ℕ). length l) front in
    let behind : drop (prefix_len is_quotable (q ++ (39 ∷ more))) (q ++ (39 ∷ more)) ≡ 39 ∷ more =
    ap (λ (n : ℕ). drop n (q ++ (39 ∷ more))) long ∙ drop-append_seam q (39 ∷ more) in
    ap (λ (l : List ℕ). closed l (drop (prefix_len is_quotable (q ++ (39 ∷ more))) (q ++ (39 ∷ more)))) front
    ∙ ap (closed q) behind

leads_quoted : (q more : List ℕ) → list_all is_quotable q ≡ true → Leads (Quoted q) more ((39 ∷ (q ++ 39 ∷ [])) ++ more)
leads_quoted q more are =
    record {
      token = Quoted q;
      is = ap (λ (l : List ℕ). first_token (39 ∷ l)) (append_assoc q (39 ∷ []) more) ∙ quoted_first (q ++ (39 ∷ more))
          ∙ quoted_again q more are;
      longer = inr refl;
      only = λ _. refl;
    }

leads_sign : (token : Token) (more text : List ℕ) → first_token text ≡ Some token → Leads token more text
leads_sign token more text is = record { token = token; is = is; longer = inr refl; only = λ _. refl }

open_first : (more : List ℕ) → first_token (40 ∷ more) ≡ Some Open
unfolding first_token
open_first more = refl

close_first : (more : List ℕ) → first_token (41 ∷ more) ≡ Some Close
unfolding first_token
close_first more = refl

equals_first : (more : List ℕ) → first_token (61 ∷ more) ≡ Some Equals
unfolding first_token
equals_first more = refl

leads_at : (other : Token) (more : List ℕ) → CanBeWritten other → EndsBefore other more
    → Leads other more (spelling other ++ more)
leads_at Open more formed apart = leads_sign Open more (40 ∷ more) (open_first more)
leads_at Close more formed apart = leads_sign Close more (41 ∷ more) (close_first more)
leads_at Equals more formed apart = leads_sign Equals more (61 ∷ more) (equals_first more)
leads_at And more formed apart = leads_word (codes "AND") And more refl and_again
leads_at Or more formed apart = leads_word (codes "OR") Or more refl or_again
leads_at Inputs more formed apart = leads_word (codes "inputs") Inputs more refl inputs_again
leads_at Outputs more formed apart = leads_word (codes "outputs") Outputs more refl outputs_again
leads_at (Name w) more formed apart = leads_word w (Name w) more formed.formed (name_again w formed)
leads_at (Quoted q) more formed apart = leads_quoted q more formed
leads_at (Number n) more formed apart = leads_number n more formed apart
leads_at (Param n) more formed apart = leads_param n more formed.0 formed.1 apart
leads_at End more formed apart = absurd formed
leads_at Bad more formed apart = absurd formed

pub leads : (text : List ℕ) (other : Token) (bytes more : List ℕ) → Begins lexicon text other bytes more
    → Leads other more text
leads text other bytes more begins =
    subst (λ (t : List ℕ). Leads other more t)
    (ap (λ (l : List ℕ). l ++ more) (sym begins.spelled.1) ∙ sym begins.whole)
    (leads_at other more begins.spelled.0 begins.ends)

-- ---- what is found begins the text

behind_spelling : (run text : List ℕ) (token : Token) → spelling token ≡ run → run ≡ run_of text
    → (text ≡ spelling token ++ drop (length (spelling token)) text) × IsApart (drop (length (spelling token)) text)
behind_spelling run text token spelled is =
    let whole : spelling token ≡ run_of text = spelled ∙ is in
    let long : length (spelling token) ≡ prefix_len is_name_byte text =
    ap (λ (l : List ℕ). length l) whole ∙ length-prefix_len is_name_byte text in (
      front_split is_name_byte text ∙ ap (λ (l : List ℕ). l ++ drop (prefix_len is_name_byte text) text) (sym whole)
          ∙ ap (λ (n : ℕ). spelling token ++ drop n text) (sym long),
      subst (λ (n : ℕ). IsApart (drop n text)) (sym long) (run_stops is_name_byte text),
    )

run_begins : (text : List ℕ) (token : Token) → run_token (run_of text) ≡ Some token
    → BeginsWith text token (drop (length (spelling token)) text)
run_begins text token is =
    let run = run_is (run_of text) token is in
    let behind = behind_spelling (run_of text) text token run.spelled refl in
    record {
      whole = behind.0;
      spelled = (run.formed, refl);
      ends =
          apart_any token (drop (length (spelling token)) text) behind.1;
    }

option_then_some : {X Y : Type 0} (f : X → Option Y) (o : Option X) (y : Y) → option_and_then f o ≡ Some y
    → (x : X) × (o ≡ Some x) × (f x ≡ Some y)
option_then_some f (Some x) y is = (x, refl, is)
option_then_some f None y is = cc

numbered_some : (n : ℕ) (token : Token) → numbered n ≡ Some token → (1 ≤ n) × (n ≤ 99) × (Param n ≡ token)
numbered_some n token is =
    let test = when (leb 1 n && leb n 99) (Param n) token is in
    let parts = and_parts (leb 1 n) (leb n 99) test.0 in
    (leb-true 1 n parts.0, leb-true n 99 parts.1, test.1)

-- what a run after a `$` is read as
pub param_is : (run : List ℕ) (token : Token) → param_token run ≡ Some token
    → (n : ℕ) × (1 ≤ n) × (n ≤ 99) × (Param n ≡ token) × (decimal n ≡ run)
unfolding param_token
param_is run token is =
    let found = option_then_some numbered (decimal_within greatest run) token is in
    let small = numbered_some found.0 token found.2 in
    let number = number_is run found.0 found.1 in
    (found.0, small.0, small.1, small.2, number.1)

param_begins : (tail : List ℕ) (token : Token) → param_token (run_of tail) ≡ Some token
    → BeginsWith (36 ∷ tail) token (drop (length (spelling token)) (36 ∷ tail))
param_begins tail token is =
    let found = param_is (run_of tail) token is in
    subst (λ (t : Token). BeginsWith (36 ∷ tail) t (drop (length (spelling t)) (36 ∷ tail))) found.3
    (at found.0 found.1 found.2 found.4)
  where
    at : (n : ℕ) → 1 ≤ n → n ≤ 99 → decimal n ≡ run_of tail
        → BeginsWith (36 ∷ tail) (Param n) (drop (length (36 ∷ decimal n)) (36 ∷ tail))
    at n low high same =
        let behind = behind_spelling (run_of tail) tail (Number n) same refl in
        record { whole = ap (λ (l : List ℕ). 36 ∷ l) behind.0; spelled = ((low, high), refl); ends = behind.1 }

closed_is : (text rest : List ℕ) (token : Token) → closed text rest ≡ Some token
    → (more : List ℕ) × (rest ≡ 39 ∷ more) × (Quoted text ≡ token)
closed_is text [] token is = cc
closed_is text (b ∷ rest) token is =
    let test = when (eqb b 39) (Quoted text) token is in
    (rest, ap (λ (k : ℕ). k ∷ rest) (eqb-true b 39 test.0), test.1)

pub quoted_is : (tail : List ℕ) (token : Token) → quoted_token tail ≡ Some token
    → (q : List ℕ) × (more : List ℕ) × (q ≡ take_while is_quotable tail) × (Quoted q ≡ token) ×
    (tail ≡ q ++ (39 ∷ more))
unfolding quoted_token
quoted_is tail token is =
    let found = closed_is (take_while is_quotable tail) (drop (prefix_len is_quotable tail) tail) token is in (
      take_while is_quotable tail,
      found.0,
      refl,
      found.2,
      front_split is_quotable tail ∙ ap (λ (l : List ℕ). take_while is_quotable tail ++ l) found.1,
    )

quoted_begins : (tail : List ℕ) (token : Token) → quoted_token tail ≡ Some token
    → BeginsWith (39 ∷ tail) token (drop (length (spelling token)) (39 ∷ tail))
quoted_begins tail token is =
    let found = quoted_is tail token is in
    subst (λ (t : Token). BeginsWith (39 ∷ tail) t (drop (length (spelling t)) (39 ∷ tail))) found.3
    (at found.0 found.1 found.2 found.4)
  where
    at : (q more : List ℕ) → q ≡ take_while is_quotable tail → tail ≡ q ++ (39 ∷ more)
        → BeginsWith (39 ∷ tail) (Quoted q) (drop (length (39 ∷ (q ++ 39 ∷ []))) (39 ∷ tail))
    at q more front split =
        let whole : 39 ∷ tail ≡ (39 ∷ (q ++ 39 ∷ [])) ++ more =
        ap (λ (l : List ℕ). 39 ∷ l) (split ∙ sym (append_assoc q (39 ∷ []) more)) in
        let rest : drop (length (39 ∷ (q ++ 39 ∷ []))) (39 ∷ tail) ≡ more =
        ap (λ (l : List ℕ). drop (length (39 ∷ (q ++ 39 ∷ []))) l) whole
        ∙ drop-append_seam (39 ∷ (q ++ 39 ∷ [])) more in
        record {
          spelled = (ap (list_all is_quotable) front ∙ run_passes is_quotable tail, refl);
          whole = whole ∙ ap (λ (l : List ℕ). (39 ∷ (q ++ 39 ∷ [])) ++ l) (sym rest);
          ends = tt;
        }

sign_begins : (b k : ℕ) (tail : List ℕ) (sign token : Token) → spelling sign ≡ k ∷ [] → CanBeWritten sign
    → ((rest : List ℕ) → EndsBefore sign rest)
    → eqb b k ≡ true → Some sign ≡ Some token → BeginsWith (b ∷ tail) token (drop (length (spelling token)) (b ∷ tail))
sign_begins b k tail sign token spelled formed free is same =
    let one : sign ≡ token = cc in
    subst (λ (t : Token). BeginsWith (b ∷ tail) t (drop (length (spelling t)) (b ∷ tail))) one (record {
      whole = rest;
      spelled = (formed, refl);
      ends = free (drop (length (spelling sign)) (b ∷ tail));
    })
  where
    rest : b ∷ tail ≡ spelling sign ++ drop (length (spelling sign)) (b ∷ tail)
    rest = subst (λ (l : List ℕ). b ∷ tail ≡ l ++ drop (length l) (b ∷ tail)) (sym spelled)
        (ap (λ (n : ℕ). n ∷ tail) (eqb-true b k is))

pub begins : (text : List ℕ) (token : Token) → first_token text ≡ Some token
    → BeginsWith text token (drop (length (spelling token)) text)
unfolding first_token
begins [] token is = cc
begins (b ∷ tail) token is = one (chosen (eqb b 40) _ _ _ is)
  where
    five : ((eqb b 36 ≡ true) × (param_token (run_of tail) ≡ Some token)) ⊎
        ((eqb b 36 ≡ false) × (run_token (run_of (b ∷ tail)) ≡ Some token))
        → BeginsWith (b ∷ tail) token (drop (length (spelling token)) (b ∷ tail))
    five (inl h) = subst (λ (k : ℕ). BeginsWith (k ∷ tail) token (drop (length (spelling token)) (k ∷ tail)))
        (sym (eqb-true b 36 h.0)) (param_begins tail token h.1)
    five (inr h) = run_begins (b ∷ tail) token h.1

    four : ((eqb b 39 ≡ true) × (quoted_token tail ≡ Some token)) ⊎
        ((eqb b 39 ≡ false) × (cond (eqb b 36) (param_token (run_of tail))
        (run_token (run_of (b ∷ tail))) ≡ Some token))
        → BeginsWith (b ∷ tail) token (drop (length (spelling token)) (b ∷ tail))
    four (inl h) = subst (λ (k : ℕ). BeginsWith (k ∷ tail) token (drop (length (spelling token)) (k ∷ tail)))
        (sym (eqb-true b 39 h.0)) (quoted_begins tail token h.1)
    four (inr h) = five (chosen (eqb b 36) _ _ _ h.1)

    three : ((eqb b 61 ≡ true) × (Some Equals ≡ Some token)) ⊎
        ((eqb b 61 ≡ false) × (cond (eqb b 39) (quoted_token tail)
        (cond (eqb b 36) (param_token (run_of tail)) (run_token (run_of (b ∷ tail)))) ≡ Some token))
        → BeginsWith (b ∷ tail) token (drop (length (spelling token)) (b ∷ tail))
    three (inl h) = sign_begins b 61 tail Equals token refl tt (λ _. tt) h.0 h.1
    three (inr h) = four (chosen (eqb b 39) _ _ _ h.1)

    two : ((eqb b 41 ≡ true) × (Some Close ≡ Some token)) ⊎
        ((eqb b 41 ≡ false) × (cond (eqb b 61) (Some Equals)
        (cond (eqb b 39) (quoted_token tail) (cond (eqb b 36) (param_token (run_of tail))
        (run_token (run_of (b ∷ tail))))) ≡ Some token))
        → BeginsWith (b ∷ tail) token (drop (length (spelling token)) (b ∷ tail))
    two (inl h) = sign_begins b 41 tail Close token refl tt (λ _. tt) h.0 h.1
    two (inr h) = three (chosen (eqb b 61) _ _ _ h.1)

    one : ((eqb b 40 ≡ true) × (Some Open ≡ Some token)) ⊎
        ((eqb b 40 ≡ false) × (cond (eqb b 41) (Some Close)
        (cond (eqb b 61) (Some Equals) (cond (eqb b 39) (quoted_token tail)
        (cond (eqb b 36) (param_token (run_of tail)) (run_token (run_of (b ∷ tail)))))) ≡ Some token))
        → BeginsWith (b ∷ tail) token (drop (length (spelling token)) (b ∷ tail))
    one (inl h) = sign_begins b 40 tail Open token refl tt (λ _. tt) h.0 h.1
    one (inr h) = two (chosen (eqb b 41) _ _ _ h.1)

-- a token is written with some bytes
pub spelling_some : (token : Token) → CanBeWritten token → 0 < length (spelling token)
spelling_some Open formed = omega arith
spelling_some Close formed = omega arith
spelling_some Equals formed = omega arith
spelling_some And formed = omega arith
spelling_some Or formed = omega arith
spelling_some Inputs formed = omega arith
spelling_some Outputs formed = omega arith
spelling_some (Name w) formed = word_some w formed.formed
spelling_some (Quoted q) formed = omega arith
spelling_some (Number n) formed = decimal_nonempty n (omega arith)
spelling_some (Param n) formed = omega arith
spelling_some End formed = absurd formed
spelling_some Bad formed = absurd formed

-- ---- what is found, and how many bytes it takes

abbrev pub measured : Token → Token × ℕ
measured token = (token, length (spelling token))

abbrev pub found : List ℕ → Option (Token × ℕ)
found text = option_map measured (first_token text)

pub reaches : (text : List ℕ) (other : Token) (bytes more : List ℕ) → Begins lexicon text other bytes more
    → Reaches IsApart (found text) other bytes more
reaches text other bytes more begins =
    let lead = leads text other bytes more begins in
    let size : length bytes ≡ length (spelling other) = ap (λ (l : List ℕ). length l) begins.spelled.1 in
    record {
      other = lead.token;
      len = length (spelling lead.token);
      is = ap (option_map measured) lead.is;
      within = by_length lead.longer size;
      same = λ equal. by_token lead.longer (sym size ∙ equal);
      exact = λ apart. sym (size ∙ ap (λ (t : Token). length (spelling t)) (lead.only apart));
    }
  where
    by_length : {t : Token} → (length (spelling other) < length (spelling t)) ⊎ (other ≡ t)
        → length bytes ≡ length (spelling other) → length bytes ≤ length (spelling t)
    by_length (inl less) size = omega (arith, less, size)
    by_length (inr same) size = omega (arith, size, ap (λ (t : Token). length (spelling t)) same)

    by_token : {t : Token} → (length (spelling other) < length (spelling t)) ⊎ (other ≡ t)
        → length (spelling other) ≡ length (spelling t) → t ≡ other
    by_token (inl less) equal = absurd (omega (arith, less, equal))
    by_token (inr same) equal = sym same

pub is_found : (text : List ℕ) (t : Token) (len : ℕ) → found text ≡ Some (t, len) → IsToken lexicon text t len
is_found text t len is = at (first_token text) refl is
  where
    at : (o : Option Token) → first_token text ≡ o → option_map measured o ≡ Some (t, len) → IsToken lexicon text t len
    at None first same = absurd (none-some (t, len) same)
    at (Some token) first same =
        let one = same_Some (measured token) (t, len) same in
        let here = begins text token first in
        let token_is : token ≡ t = ap (λ (p : Token × ℕ). p.0) one in
        record {
          bytes = spelling token;
          rest = drop (length (spelling token)) text;
          begins = subst (λ (u : Token). Begins lexicon text u (spelling token) (drop (length (spelling token)) text))
              token_is here;
          size = ap (λ (p : Token × ℕ). p.1) one;
          some = omega (arith, ap (λ (p : Token × ℕ). p.1) one, spelling_some token here.spelled.0);
        }
