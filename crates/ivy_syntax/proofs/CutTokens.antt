-- The tokens of a text, cut after the first that passes a counted limit, and how reading them goes on in the text.
use Rattle.std.specs.Prelude.{◌≡◌, ◌⊎◌, ◌<◌, ◌+◌, ℕ, Bool, true, false, nat_lt, cond}
use Rattle.std.specs.Prelude.{List, [], ◌∷◌, ◌++◌, length, take, slice_index, Option, Some, None}
use Rattle.std.specs.Prelude.{Result, Ok, Err, refl}
use Rattle.std.proofs.Common.{get_or}
use Rattle.std.specs.Result.{is_ok}
use Rattle.std.proofs.Common.{sym, ap, ◌∙◌, subst, true≢false, arith, inl, inr}
use Rattle.std.proofs.lemmas.Bool.{ltb-true, lt-ltb, le-ltb, cases_lt}
use Rattle.std.proofs.lemmas.List.{take_at, take-map, map-append, length-append, length-map, get_or_append_left, get_or-map}
use mathlib.Core.List.{append_assoc}
use Rattle.grammars.specs.Places.{kinds}
use Rattle.ivy_syntax.specs.declared.fault.ParseFault.{ParseFault}
use Rattle.ivy_syntax.specs.declared.fault.ParseFault.TheVariants as faults
use Rattle.ivy_syntax.specs.declared.lexeme.Lexeme.{Lexeme}
use Rattle.ivy_syntax.specs.declared.tree.Source.{Source}
use Rattle.ivy_syntax.specs.Token.{End, Bad}
use Rattle.ivy_syntax.specs.Tokens.{Placed, AreTokens}
use Rattle.ivy_syntax.specs.Lexeme.{placed, tokens}
use Rattle.ivy_syntax.specs.Grammar.{File}
use Rattle.ivy_syntax.specs.Limits.{FirstPassed}
use Rattle.ivy_syntax.specs.Texts.{BeginsSource, BeginsWithin, ReadsAs, SyntaxAt, TooManyAt, AnswersText}
use Rattle.ivy_syntax.specs.Agreement.{nests}
use Rattle.ivy_syntax.specs.Answering.{cut_after, unpassed}
use Rattle.ivy_syntax.proofs.Verdict.{Shaped, Reached, upto, fine_before}
use Rattle.ivy_syntax.proofs.CountedLimits.{kinds_of, NoneBefore}
use Rattle.ivy_syntax.proofs.Faults.{places_of, CutAt, cut_at, place_there, source_there, syntax_there, deep_there}
use Rattle.ivy_syntax.proofs.Faults.{none_before, passed_there}
use Rattle.ivy_syntax.proofs.OneAnswer.{Order, order, earlier, same, later}

-- ---- tokens that are cut

-- These are the tokens, or those up to the one that passes a counted limit, and Bad in the place of the others.
pub data CutBehind (ts : List Placed) (passed : Option (ℕ × ℕ)) (cs : List Placed) : Type 0 where
  uncut : cs ≡ ts → CutBehind ts passed cs
  ended : (found : ℕ × ℕ) (front : List Placed) (first : Placed) (behind : List Placed)
      → passed ≡ Some found
      → length front ≡ found.0 + 1
      → ts ≡ front ++ (first ∷ behind)
      → cs ≡ front ++ ((Bad, first.1) ∷ [])
      → CutBehind ts passed cs

front_and_bad : (ts : List Placed) (at : ℕ) (c : CutAt ts at)
    → take at ts ++ ((Bad, slice_index (places_of ts) at) ∷ []) ≡ c.front ++ ((Bad, c.token.1) ∷ [])
front_and_bad ts at c =
    ap (λ f. f ++ ((Bad, slice_index (places_of ts) at) ∷ [])) front
    ∙ ap (λ (p : ℕ). c.front ++ ((Bad, p) ∷ [])) place
  where
    front : take at ts ≡ c.front
    front = ap (λ (ts : List Placed). take at ts) c.split ∙ take_at c.front (c.token ∷ c.behind) at c.size

    place : slice_index (places_of ts) at ≡ c.token.1
    place = ap (λ (ts : List Placed). slice_index (places_of ts) at) c.split
        ∙ ap (λ (n : ℕ). slice_index (places_of (c.front ++ (c.token ∷ c.behind))) n) (sym c.size)
        ∙ place_there c.front c.token c.behind

-- tokens that are cut are such tokens
pub tokens_cut : (ts : List Placed) (passed : Option (ℕ × ℕ)) → CutBehind ts passed (cut_after ts passed)
tokens_cut ts None = uncut refl
tokens_cut ts (Some found) = by (nat_lt (found.0 + 1) (length ts)) refl
  where
    by : (b : Bool) → nat_lt (found.0 + 1) (length ts) ≡ b
        → CutBehind ts (Some found)
        (cond b (take (found.0 + 1) ts ++ ((Bad, slice_index (places_of ts) (found.0 + 1)) ∷ [])) ts)
    by true small =
        let c = cut_at ts (found.0 + 1) (ltb-true (found.0 + 1) (length ts) small) in
        ended found c.front c.token c.behind refl c.size c.split (front_and_bad ts (found.0 + 1) c)
    by false large = uncut refl

-- and so are the lexemes that the code cuts
pub lexemes_cut : (items new : List Lexeme) (last there : Lexeme) (at what : ℕ) → at + 1 < length items
    → new ≡ take (at + 1) items ++ (last ∷ []) → placed last ≡ (Bad, there.at) → there ≡ get_or items (at + 1) there
    → tokens new ≡ cut_after (tokens items) (Some (at, what))
lexemes_cut items new last there at what within is bad here =
    ap tokens is ∙ map-append placed (take (at + 1) items) (last ∷ [])
    ∙ ap (λ ts. ts ++ (placed last ∷ [])) (sym (take-map placed (at + 1) items))
    ∙ ap (λ t. take (at + 1) (tokens items) ++ (t ∷ [])) (bad ∙ ap (λ (p : ℕ). (Bad, p)) place)
    ∙ sym (ap (λ b. cond b (take (at + 1) (tokens items)
    ++ ((Bad, slice_index (places_of (tokens items)) (at + 1)) ∷ [])) (tokens items))
    (lt-ltb (at + 1) (length (tokens items)) inside))
  where
    inside : at + 1 < length (tokens items)
    inside = omega (arith, within, length-map items placed)

    place : there.at ≡ slice_index (places_of (tokens items)) (at + 1)
    place = ap (λ (l : Lexeme). l.at) here
        ∙ ap (λ (t : Placed). t.1) (sym (get_or-map placed items (at + 1) there (placed there) within))
        ∙ sym (get_or-map (λ (t : Placed). t.1) (tokens items) (at + 1) (placed there) 0 inside)

-- those of a text still end where one stops it
pub shaped_cut : (ts cs : List Placed) (passed : Option (ℕ × ℕ)) → Shaped ts → CutBehind ts passed cs → Shaped cs
shaped_cut ts cs passed s (uncut whole) = subst Shaped (sym whole) s
shaped_cut ts cs passed s (ended found front first behind is size split cut) = record {
  good = front;
  last = (Bad, first.1);
  all = cut;
  fine = fine_before front first behind s.good s.last s.fine (sym s.all ∙ split);
  stop = refl;
}

-- ---- how they go on in the text

-- a counted limit is passed by one of so many tokens
abbrev pub PassedWithin : Option (ℕ × ℕ) → ℕ → Type 0
PassedWithin None most = ⊥
PassedWithin (Some found) most = found.0 < most

-- What the text has after the tokens up to which the reading went: the same one, unless a counted limit is passed
-- before it.
pub record GoesOn {cs rest : List Placed} (ts : List Placed) (passed : Option (ℕ × ℕ)) (r : Reached cs rest)
    : Type 0 where
  pub token : Placed
  pub behind : List Placed
  pub split : ts ≡ r.front ++ (token ∷ behind)
  pub same : PassedWithin passed (length r.front) ⊎ ((token ≡ r.token) × (r.behind ≡ [] → behind ≡ []))

size_of : (a b : List Placed) (t u : Placed) (c d : List Placed) → a ++ (t ∷ c) ≡ b ++ (u ∷ d)
    → length a + length c ≡ length b + length d
size_of a b t u c d is =
    let size : length (a ++ (t ∷ c)) ≡ length (b ++ (u ∷ d)) = ap (λ (l : List Placed). length l) is in
    omega (arith, size, length-append a (t ∷ c), length-append b (u ∷ d))

length_is : (a f : List Placed) (t : Placed) (b : List Placed) → a ≡ f ++ (t ∷ b) → length a ≡ length f + 1 + length b
length_is a f t b is =
    let size : length a ≡ length (f ++ (t ∷ b)) = ap (λ (l : List Placed). length l) is in
    omega (arith, size, length-append f (t ∷ b))

pub goes_on : (ts cs rest : List Placed) (passed : Option (ℕ × ℕ)) → CutBehind ts passed cs → (r : Reached cs rest)
    → GoesOn ts passed r
goes_on ts cs rest passed (uncut whole) r = record {
  token = r.token;
  behind = r.behind;
  split = sym whole ∙ r.split;
  same = inr (refl, λ none. none);
}
goes_on ts cs rest passed (ended found front first behind is size split cut) r =
    by (order r.front front r.token (Bad, first.1) r.behind [] both)
  where
    both : r.front ++ (r.token ∷ r.behind) ≡ front ++ ((Bad, first.1) ∷ [])
    both = sym r.split ∙ cut

    sizes : length r.front + length r.behind ≡ length front
    sizes = omega (arith, size_of r.front front r.token (Bad, first.1) r.behind [] both)

    by : Order r.front r.token front (Bad, first.1) → GoesOn ts passed r
    by (earlier between more) = record {
      token = r.token;
      behind = between ++ (first ∷ behind);
      split = split ∙ ap (λ f. f ++ (first ∷ behind)) more
          ∙ append_assoc r.front (r.token ∷ between) (first ∷ behind);
      same = inr (
        refl,
        λ none. (let empty : length r.behind ≡ 0 = ap (λ (l : List Placed). length l) none in
            absurd (omega (arith, empty, sizes, length_is front r.front r.token between more))),
      );
    }
    by (same fronts tokens) =
        let long : length r.front ≡ length front = ap (λ (l : List Placed). length l) fronts in
        record {
          token = first;
          behind = behind;
          split = split ∙ ap (λ f. f ++ (first ∷ behind)) (sym fronts);
          same = inl (subst (λ p. PassedWithin p (length r.front)) (sym is) (omega (arith, long, size)));
        }
    by (later between more) =
        absurd (omega (arith, sizes, length_is r.front front (Bad, first.1) between more))

-- ---- limits passed before the rest

-- whether one is passed depends on the tokens before the rest
unpassed_front : (front rest : List Placed) (passed : Option (ℕ × ℕ))
    → unpassed (places_of (front ++ rest)) (length rest) passed ≡ unpassed (places_of front) 0 passed
unpassed_front front rest None = refl
unpassed_front front rest (Some found) = elim (cases_lt found.0 (length front)) [
  | inl less ↦
      ap (λ b. result b whole) (lt-ltb (found.0 + length rest) (length whole)
      (omega (arith, less, all, length-append front rest)))
      ∙ ap (λ (p : ℕ). Err (faults.TooMany found.1 p)) (place (omega (arith, less, part)))
      ∙ sym (ap (λ b. result b (places_of front)) (lt-ltb (found.0 + 0) (length (places_of front))
      (omega (arith, less, part))))
  | inr more ↦
      ap (λ b. result b whole) (le-ltb (found.0 + length rest) (length whole)
      (omega (arith, more, all, length-append front rest)))
      ∙ sym (ap (λ b. result b (places_of front)) (le-ltb (found.0 + 0) (length (places_of front))
      (omega (arith, more, part))))
]
  where
    whole : List ℕ
    whole = places_of (front ++ rest)

    result : Bool → List ℕ → Result (Unit {0}) ParseFault
    result b ps = cond b (Err (faults.TooMany found.1 (slice_index ps found.0))) (Ok tt)

    all : length whole ≡ length (front ++ rest)
    all = length-map (front ++ rest) (λ (p : Placed). p.1)

    part : length (places_of front) ≡ length front
    part = length-map front (λ (p : Placed). p.1)

    place : found.0 < length (places_of front) → slice_index whole found.0 ≡ slice_index (places_of front) found.0
    place within = ap (λ (ps : List ℕ). slice_index ps found.0) (map-append (λ (p : Placed). p.1) front rest)
        ∙ get_or_append_left (places_of front) (places_of rest) 0 found.0 within

none_passed : (front : List Placed) (passed : Option (ℕ × ℕ)) → unpassed (places_of front) 0 passed ≡ Ok tt
    → PassedWithin passed (length front) → ⊥
none_passed front None is within = within
none_passed front (Some found) is within =
    true≢false (sym (ap is_ok (sym (ap (λ b. result b) (lt-ltb (found.0 + 0) (length (places_of front))
    (omega (arith, within, length-map front (λ (p : Placed). p.1))))) ∙ is)))
  where
    result : Bool → Result (Unit {0}) ParseFault
    result b = cond b (Err (faults.TooMany found.1 (slice_index (places_of front) found.0))) (Ok tt)

module _ (ts cs rest : List Placed) (passed : Option (ℕ × ℕ)) (r : Reached cs rest) (g : GoesOn ts passed r) where
  -- the reading of the text's tokens, up to the same place
  abbrev pub carried : Reached ts (g.token ∷ g.behind)
  carried = record {
    front = r.front;
    token = g.token;
    behind = g.behind;
    first = refl;
    split = g.split;
    begins = r.begins;
  }

  cut_split : cs ≡ r.front ++ rest
  cut_split = r.split ∙ ap (λ b. r.front ++ b) (sym r.first)

  pub same_unpassed : unpassed (places_of cs) (length rest) passed
      ≡ unpassed (places_of ts) (length (g.token ∷ g.behind)) passed
  same_unpassed = ap (λ (l : List Placed). unpassed (places_of l) (length rest) passed) cut_split
      ∙ unpassed_front r.front rest passed ∙ sym (unpassed_front r.front (g.token ∷ g.behind) passed)
      ∙ ap (λ (l : List Placed). unpassed (places_of l) (length (g.token ∷ g.behind)) passed) (sym g.split)

  -- the text goes on as the cut tokens do
  pub same_token : unpassed (places_of cs) (length rest) passed ≡ Ok tt
      → (g.token ≡ r.token) × (r.behind ≡ [] → g.behind ≡ [])
  same_token is = elim g.same [
    | inl within ↦ absurd (none_passed r.front passed
        (sym (ap (λ (l : List Placed). unpassed (places_of l) (length rest) passed) cut_split
        ∙ unpassed_front r.front rest passed) ∙ is) within)
    | inr alike ↦ alike
  ]

-- ---- what the text is

module _ (text : List ℕ) (ts : List Placed) (are : AreTokens 0 text ts) (passed : Option (ℕ × ℕ))
    (first : FirstPassed (kinds_of ts) passed) (cs : List Placed) (cut : CutBehind ts passed cs) (rest : List Placed)
    (r : Reached cs rest) where
  on : GoesOn ts passed r
  on = goes_on ts cs rest passed cut r

  in_text : Reached ts (on.token ∷ on.behind)
  in_text = carried ts cs rest passed r on

  -- a counted limit is passed before the rest
  pub cut_passed : (fault : ParseFault) → unpassed (places_of cs) (length rest) passed ≡ Err fault
      → AnswersText text (Err fault)
  cut_passed fault is = passed_there text ts are (on.token ∷ on.behind) in_text passed first fault
      (sym (same_unpassed ts cs rest passed r on) ∙ is)

  -- or none is
  module _ (is : unpassed (places_of cs) (length rest) passed ≡ Ok tt) where
    none : NoneBefore (kinds_of ts) (length r.front)
    unfolding in_text
    none = none_before text ts are (on.token ∷ on.behind) in_text passed first
        (sym (same_unpassed ts cs rest passed r on) ∙ is)

    alike : (on.token ≡ r.token) × (r.behind ≡ [] → on.behind ≡ [])
    alike = same_token ts cs rest passed r on is

    same_place : on.token.1 ≡ r.token.1
    same_place = ap (λ (t : Placed). t.1) alike.0

    same_upto : upto in_text ≡ upto r
    unfolding in_text
    same_upto = ap (λ (t : Placed). kinds r.front ++ (t.0 ∷ [])) alike.0

    pub cut_source : (s : Source) → r.token.0 ≡ End → File 32 r.front s → r.behind ≡ [] → ReadsAs text s
    unfolding in_text
    cut_source s ends reads last = source_there text ts are (on.token ∷ on.behind) in_text none s
        (ap (λ (t : Placed). t.0) alike.0 ∙ ends) reads (alike.1 last)

    pub cut_syntax : (BeginsSource (upto r) → ⊥) → SyntaxAt text r.token.1
    unfolding in_text
    cut_syntax stops = subst (SyntaxAt text) same_place
        (syntax_there text ts are (on.token ∷ on.behind) in_text none
        (λ begins. stops (subst BeginsSource same_upto begins)))

    pub cut_deep : nests r.token.0 ≡ true → BeginsSource (upto r) → (BeginsWithin (upto r) → ⊥)
        → TooManyAt text 7 r.token.1
    unfolding in_text
    cut_deep nesting begins beyond =
        subst (TooManyAt text 7) same_place
        (deep_there text ts are (on.token ∷ on.behind) in_text none (ap (λ (t : Placed). nests t.0) alike.0 ∙ nesting)
        (subst BeginsSource (sym same_upto) begins)
        (λ within. beyond (subst BeginsWithin same_upto within)))
