-- What a text is, by the tokens up to which its reading goes and by the first counted limit that is passed.
use Rattle.std.specs.Prelude.{◌≡◌, ◌<◌, ◌≤◌, ◌+◌, ℕ, zero, suc, Bool, true, false, nat_lt}
use Rattle.std.specs.Prelude.{List, [], ◌∷◌, ◌++◌, length, map, reverse, cond, slice_index, Option, Some, None}
use Rattle.std.specs.Prelude.{Result, Ok, Err, refl}
use Rattle.std.proofs.Common.{sym, ap, ◌∙◌, subst, true≢false, arith}
use Rattle.std.proofs.lemmas.Option.{none-some, same_Some}
use Rattle.std.proofs.lemmas.List.{get_or_at, map-append, length-append, length-map}
use Rattle.std.specs.Result.{is_ok, result_err}
use Rattle.std.proofs.lemmas.Bool.{ltb-true, ltb-false}
use mathlib.Core.List.{append_assoc}
use Rattle.grammars.specs.Text.{begins_front}
use Rattle.grammars.specs.Text as language
use Rattle.grammars.specs.Places.{kinds}
use Rattle.ivy_syntax.specs.declared.tree.Source.{Source}
use Rattle.ivy_syntax.specs.declared.fault.ParseFault.{ParseFault}
use Rattle.ivy_syntax.specs.declared.fault.ParseFault.TheVariants as faults
use Rattle.ivy_syntax.specs.declared.lexeme.Symbol.TheVariants as symbol
use Rattle.ivy_syntax.specs.declared.lexeme.Kind.{Kind}
use Rattle.ivy_syntax.specs.declared.lexeme.Kind.TheVariants as kind
use Rattle.ivy_syntax.specs.Token.{Token, Word, Sign, Operation, End}
use Rattle.ivy_syntax.specs.Tokens.{Placed, AreTokens}
use Rattle.ivy_syntax.specs.Token.{kind_of}
use Rattle.ivy_syntax.specs.Grammar.{File}
use Rattle.ivy_syntax.specs.Limits.{passes, passes_at, passes_members, passes_operators, FirstPassed}
use Rattle.ivy_syntax.specs.Texts.{IsSource, BeginsSource, BeginsWithin, Passes, counted, nested}
use Rattle.ivy_syntax.specs.Texts.{ReadsAs, SyntaxAt, TooManyAt, AnswersText, AreFew}
use Rattle.ivy_syntax.specs.Agreement.{nests}
use Rattle.ivy_syntax.specs.Answering.{unpassed}
use Rattle.ivy_syntax.proofs.Splits.{kinds_joined}
use Rattle.ivy_syntax.proofs.Verdict.{Reached, upto}
use Rattle.ivy_syntax.proofs.CountedLimits.{kinds_of, NoneBefore, length_kinds, passes_there, few_front}

-- the places of tokens
abbrev pub places_of : List Placed → List ℕ
places_of ts = map (λ t. t.1) ts

-- a source within the bound is one
pub any_begins : (front : List Token) → BeginsWithin front → BeginsSource front
any_begins front h = (h.0, record { before = h.1.before; all = h.1.all; text = (32, h.1.text) })

-- ---- a token of a list

pub record CutAt (ts : List Placed) (at : ℕ) : Type 0 where
  pub front : List Placed
  pub token : Placed
  pub behind : List Placed
  pub split : ts ≡ front ++ (token ∷ behind)
  pub size : length front ≡ at

pub cut_at : (ts : List Placed) (at : ℕ) → at < length ts → CutAt ts at
cut_at [] at within = absurd (omega (arith, within))
cut_at (t ∷ ts) zero within = record { front = []; token = t; behind = ts; split = refl; size = refl }
cut_at (t ∷ ts) (suc at) within =
    let c = cut_at ts at (omega (arith, within)) in
    record {
      front = t ∷ c.front;
      token = c.token;
      behind = c.behind;
      split = ap (λ ts. t ∷ ts) c.split;
      size = ap suc c.size;
    }

pub place_there : (front : List Placed) (t : Placed) (behind : List Placed)
    → slice_index (places_of (front ++ (t ∷ behind))) (length front) ≡ t.1
place_there front t behind =
    ap (λ (l : List ℕ). slice_index l (length front)) (map-append (λ (p : Placed). p.1) front (t ∷ behind))
    ∙ get_or_at (places_of front) t.1 (places_of behind) 0 (length front) (length-map front (λ (p : Placed). p.1))

-- ---- the smallest number

least_counted : (front : List Token) (token : Token) (what : ℕ)
    → passes (reverse (map kind_of front)) (kind_of token) ≡ Some what → BeginsWithin (front ++ (token ∷ []))
    → (number : ℕ) → Passes front token number → what ≤ number
least_counted front token what is begins _ (counted number h) = omega (arith, same_Some what number (sym is ∙ h))
least_counted front token what is begins _ (nested some none) = absurd (none begins)

by_tests : (a b : Bool) (number : ℕ) → cond a (Some 8) (cond b (Some 9) None) ≡ Some number → 7 ≤ number
by_tests true b number is = omega (arith, same_Some 8 number is)
by_tests false true number is = omega (arith, same_Some 9 number is)
by_tests false false number is = absurd (none-some number is)

-- a token within which others stand passes none but the last two of the counted limits
late : (back : List Kind) (token : Token) (number : ℕ) → nests token ≡ true → passes back (kind_of token) ≡ Some number
    → 7 ≤ number
late back (Sign symbol.OpenParen) number is h =
    by_tests (passes_members back) (passes_operators back (kind.Sign symbol.OpenParen)) number h
late back (Sign symbol.OpenBracket) number is h =
    by_tests (passes_members back) (passes_operators back (kind.Sign symbol.OpenBracket)) number h
late back (Operation o) number is h =
    by_tests (passes_members back) (passes_operators back (kind.Operation o)) number h
late back (Word k) number is h = absurd (true≢false (sym is))
late back _ number is h = absurd (true≢false (sym is))

least_deep : (front : List Token) (token : Token) (what : ℕ) → what ≤ 7
    → ((number : ℕ) → passes (reverse (map kind_of front)) (kind_of token) ≡ Some number → what ≤ number)
    → (number : ℕ) → Passes front token number → what ≤ number
least_deep front token what most least _ (counted number h) = least number h
least_deep front token what most least _ (nested some none) = most

module _ (text : List ℕ) (ts : List Placed) (are : AreTokens 0 text ts) where
  -- ---- a counted limit, passed before the rest

  counted_there : (rest : List Placed) (r : Reached ts rest) (at number : ℕ) → at < length r.front
      → passes_at (kinds_of ts) at ≡ Some number → NoneBefore (kinds_of ts) at
      → TooManyAt text number (slice_index (places_of ts) at)
  counted_there rest r at number within is none =
      let c = cut_at r.front at within in
      let back : List Placed = c.behind ++ (r.token ∷ r.behind) in
      let split : ts ≡ c.front ++ (c.token ∷ back) = r.split
      ∙ ap (λ f. f ++ (r.token ∷ r.behind)) c.split ∙ append_assoc c.front (c.token ∷ c.behind) (r.token ∷ r.behind) in
      let begins : BeginsWithin (kinds c.front ++ (c.token.0 ∷ [])) =
      begins_front (language.Ended (IsSource 32) End) (kinds c.front ++ (c.token.0 ∷ [])) (kinds c.behind)
      (subst BeginsWithin (ap kinds c.split ∙ kinds_joined c.front (c.token ∷ c.behind)
      ∙ sym (append_assoc (kinds c.front) (c.token.0 ∷ []) (kinds c.behind))) r.begins) in
      let passed : passes (reverse (kinds_of c.front)) (kind_of c.token.0) ≡ Some number =
      sym (passes_there c.front c.token back)
      ∙ ap (λ (l : List Placed). passes_at (kinds_of l) (length c.front)) (sym split)
      ∙ ap (λ (n : ℕ). passes_at (kinds_of ts) n) c.size ∙ is in
      let place : slice_index (places_of ts) at ≡ c.token.1 =
      ap (λ (l : List Placed). slice_index (places_of l) at) split
      ∙ ap (λ (n : ℕ). slice_index (places_of (c.front ++ (c.token ∷ back))) n) (sym c.size)
      ∙ place_there c.front c.token back in
      subst (TooManyAt text number) (sym place) (record {
        tokens = ts;
        are = are;
        front = c.front;
        token = c.token.0;
        behind = back;
        split = split;
        begins = any_begins (kinds c.front ++ (c.token.0 ∷ [])) begins;
        within = record {
          nested = begins_front (language.Ended (IsSource 32) End) (kinds c.front) (c.token.0 ∷ []) begins;
          counted = few_front c.front (c.token ∷ back)
              (subst (λ (l : List Placed). NoneBefore (kinds_of l) (length c.front)) split
              (subst (NoneBefore (kinds_of ts)) (sym c.size) none));
        };
        passed = counted number passed;
        smallest = least_counted (kinds c.front) c.token.0 number passed begins;
      })

  -- ---- no counted limit passed before the rest

  module _ (rest : List Placed) (r : Reached ts rest) (none : NoneBefore (kinds_of ts) (length r.front)) where
    few : AreFew (kinds r.front)
    few = few_front r.front (r.token ∷ r.behind)
        (subst (λ (l : List Placed). NoneBefore (kinds_of l) (length r.front)) r.split none)

    pub source_there : (s : Source) → r.token.0 ≡ End → File 32 r.front s → r.behind ≡ [] → ReadsAs text s
    source_there s is reads last = record {
      tokens = r.front;
      end = r.token.1;
      are = subst (AreTokens 0 text) (r.split ∙ ap (λ b. r.front ++ (r.token ∷ b)) last
          ∙ ap (λ (k : Token). r.front ++ ((k, r.token.1) ∷ [])) is) are;
      reads = reads;
      few = few;
    }

    pub syntax_there : (BeginsSource (upto r) → ⊥) → SyntaxAt text r.token.1
    syntax_there stops = record {
      tokens = ts;
      are = are;
      front = r.front;
      wrong = r.token.0;
      behind = r.behind;
      split = r.split;
      first = record {
        split = ap kinds r.split ∙ kinds_joined r.front (r.token ∷ r.behind);
        before = any_begins (kinds r.front) r.begins;
        none = stops;
      };
      within = record { nested = r.begins; counted = few };
    }

    too_many_there : (what : ℕ) → BeginsSource (upto r) → Passes (kinds r.front) r.token.0 what
        → ((number : ℕ) → Passes (kinds r.front) r.token.0 number → what ≤ number) → TooManyAt text what r.token.1
    too_many_there what begins passed least = record {
      tokens = ts;
      are = are;
      front = r.front;
      token = r.token.0;
      behind = r.behind;
      split = r.split;
      begins = begins;
      within = record { nested = r.begins; counted = few };
      passed = passed;
      smallest = least;
    }

    pub deep_there : nests r.token.0 ≡ true → BeginsSource (upto r) → (BeginsWithin (upto r) → ⊥)
        → TooManyAt text 7 r.token.1
    deep_there is begins beyond = too_many_there 7 begins (nested begins beyond)
        (least_deep (kinds r.front) r.token.0 7 (omega arith)
        (λ number h. late (reverse (kinds_of r.front)) r.token.0 number is h))

    -- some limit is passed where the token stands too deep
    pub deep_some : BeginsSource (upto r) → (BeginsWithin (upto r) → ⊥) → (what : ℕ) × TooManyAt text what r.token.1
    deep_some begins beyond = by (passes (reverse (kinds_of r.front)) (kind_of r.token.0)) refl
      where
        first : (number : ℕ) → passes (reverse (kinds_of r.front)) (kind_of r.token.0) ≡ Some number → (b : Bool)
            → nat_lt number 7 ≡ b → (what : ℕ) × TooManyAt text what r.token.1
        first number is true small = (
          number,
          too_many_there number begins (counted number is)
              (least_deep (kinds r.front) r.token.0 number (omega (arith, ltb-true number 7 small))
              (λ other h. omega (arith, same_Some number other (sym is ∙ h)))),
        )
        first number is false large = (
          7,
          too_many_there 7 begins (nested begins beyond)
              (least_deep (kinds r.front) r.token.0 7 (omega arith)
              (λ other h. omega (arith, same_Some number other (sym is ∙ h), ltb-false number 7 large))),
        )

        by : (o : Option ℕ) → passes (reverse (kinds_of r.front)) (kind_of r.token.0) ≡ o
            → (what : ℕ) × TooManyAt text what r.token.1
        by None is = (
          7,
          too_many_there 7 begins (nested begins beyond)
              (least_deep (kinds r.front) r.token.0 7 (omega arith) (λ number h. absurd (none-some number (sym is ∙ h)))),
        )
        by (Some number) is = first number is (nat_lt number 7) refl

  -- ---- by the first counted limit

  sizes : (rest : List Placed) (r : Reached ts rest) → length ts ≡ length r.front + length rest
  sizes rest r = ap (λ (l : List Placed). length l) (r.split ∙ ap (λ b. r.front ++ b) (sym r.first))
      ∙ length-append r.front rest

  abbrev counted_result : Bool → ℕ × ℕ → Result (Unit {0}) ParseFault
  counted_result b found = cond b (Err (faults.TooMany found.1 (slice_index (places_of ts) found.0))) (Ok tt)

  -- no token before the rest passes one
  pub none_before : (rest : List Placed) (r : Reached ts rest) (found : Option (ℕ × ℕ))
      → FirstPassed (kinds_of ts) found → unpassed (places_of ts) (length rest) found ≡ Ok tt
      → NoneBefore (kinds_of ts) (length r.front)
  none_before rest r None first is =
      λ at within. first at (omega (arith, within, sizes rest r, length_kinds ts))
  none_before rest r (Some found) first is = by (nat_lt (found.0 + length rest) (length (places_of ts))) refl is
    where
      by : (b : Bool) → nat_lt (found.0 + length rest) (length (places_of ts)) ≡ b
          → counted_result b found ≡ Ok tt
          → NoneBefore (kinds_of ts) (length r.front)
      by true small is = absurd (true≢false (sym (ap is_ok is)))
      by false large is = λ at within. first.2 at (omega (
        arith,
        within,
        ltb-false (found.0 + length rest) (length (places_of ts)) large,
        sizes rest r,
        length-map ts (λ (p : Placed). p.1),
      ))

  -- one does
  pub passed_there : (rest : List Placed) (r : Reached ts rest) (found : Option (ℕ × ℕ))
      → FirstPassed (kinds_of ts) found → (fault : ParseFault)
      → unpassed (places_of ts) (length rest) found ≡ Err fault → AnswersText text (Err fault)
  passed_there rest r None first fault is = absurd (true≢false (ap is_ok is))
  passed_there rest r (Some found) first fault is =
      by (nat_lt (found.0 + length rest) (length (places_of ts))) refl is
    where
      by : (b : Bool) → nat_lt (found.0 + length rest) (length (places_of ts)) ≡ b
          → counted_result b found ≡ Err fault
          → AnswersText text (Err fault)
      by true small is =
          let within : found.0 < length r.front = omega (
            arith,
            ltb-true (found.0 + length rest) (length (places_of ts)) small,
            sizes rest r,
            length-map ts (λ (p : Placed). p.1),
          ) in
          let number : ParseFault = faults.TooMany found.1 (slice_index (places_of ts) found.0) in
          subst (λ f. AnswersText text (Err f)) (same_Some number fault (ap result_err is))
          (counted_there rest r found.0 found.1 within first.1 first.2)
      by false large is = absurd (true≢false (ap is_ok is))
