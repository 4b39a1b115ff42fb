-- The steps of the loop that cuts a text.
use Rattle.std.proofs.Common.{◌≡◌, ◌≤◌, ◌<◌, ◌+◌, ◌-◌, ◌&&◌, ◌==◌, ℕ, true, Option, Some, None}
use Rattle.std.proofs.Common.{List, [], ◌∷◌, ◌++◌, inl, inr, length, take, drop, subst, slice_index, refl, ap, sym, ◌∙◌}
use Rattle.std.proofs.Common.{arith}
use Rattle.std.proofs.lemmas.Bool.{cases_Bool, cond-true, cond-false, eqb-true}
use Rattle.std.proofs.lemmas.List.{drop-drop, take_rest}
use Rattle.ivy_syntax.specs.declared.lexeme.Kind.{Kind}
use Rattle.ivy_syntax.specs.declared.lexeme.Front.{Front}
use Rattle.ivy_syntax.specs.declared.lexeme.Front.TheVariants as front
use Rattle.std.specs.List.{prefix_len}
use Rattle.ivy_syntax.specs.Token.{End, Bad}
use Rattle.ivy_syntax.specs.Tokens.{Placed, is_blank, is_in_line}
use Rattle.ivy_syntax.specs.Lexeme.{token_of}
use Rattle.ivy_syntax.specs.Cutting.{close_from, close_of, closed_len, begins_block, comment_len, front_at}
use Rattle.ivy_syntax.specs.Cutting.{Cut, TakesWithin, token_at, front_of_cut, gap_len}
use Rattle.grammars.specs.Steps.{ReadUpTo, gap_step, token_step, bad_step, end_step}
use Rattle.ivy_syntax.specs.Tokens.{lexicon, AreTokens}
use Rattle.std.specs.Option.{option_map}
use Rattle.ivy_syntax.proofs.Reach.{BlankFollows}
use Rattle.ivy_syntax.proofs.Readings.{scanner, token_cut}
use Rattle.ivy_syntax.proofs.Cuts.{none_behind}

-- the text from a place on, as a slice gives it
abbrev tail : List ℕ → ℕ → List ℕ
tail text at = take (length text - at) (drop at text)

front_there : (text : List ℕ) (at : ℕ) (f : Front) → f ≡ front_at (tail text at) → front_at (drop at text) ≡ f
front_there text at f e = ap front_at (sym (take_rest text at)) ∙ sym e

within_there : (text : List ℕ) (at : ℕ) (f : Front) → TakesWithin f (length (tail text at))
    → TakesWithin f (length (drop at text))
within_there text at f h = subst (λ r. TakesWithin f (length r)) (take_rest text at) h

-- ---- what a front says

no_blank : (cut : Cut) (len : ℕ) → front_of_cut cut ≡ front.Blank len → ⊥
no_blank None len e = cc
no_blank (Some cut) len e = cc

the_token : (cut : Cut) (k : Kind) (len : ℕ) → front_of_cut cut ≡ front.Token k len → cut ≡ Some (k, len)
the_token None k len e = cc
the_token (Some (kind, n)) k len e = cc

no_cut : (cut : Cut) → front_of_cut cut ≡ front.Wrong → cut ≡ None
no_cut None e = refl
no_cut (Some cut) e = cc

of_blank : (text : List ℕ) (len : ℕ) → front_at text ≡ front.Blank len → gap_len text ≡ len
unfolding front_at
of_blank text len e = elim (cases_Bool (gap_len text == 0)) [
  | inl none ↦ absurd (no_blank (token_at text) len (sym (cond-true _ _ _ none) ∙ e))
  | inr some ↦ (let same : front.Blank (gap_len text) ≡ front.Blank len = sym (cond-false _ _ _ some) ∙ e in cc)
]

of_token : (text : List ℕ) (k : Kind) (len : ℕ) → front_at text ≡ front.Token k len
    → (gap_len text ≡ 0) × (token_at text ≡ Some (k, len))
unfolding front_at
of_token text k len e = elim (cases_Bool (gap_len text == 0)) [
  | inl none ↦ (eqb-true _ _ none, the_token (token_at text) k len (sym (cond-true _ _ _ none) ∙ e))
  | inr some ↦ (let no : front.Blank (gap_len text) ≡ front.Token k len = sym (cond-false _ _ _ some) ∙ e in cc)
]

of_wrong : (text : List ℕ) → front_at text ≡ front.Wrong → (gap_len text ≡ 0) × (token_at text ≡ None)
unfolding front_at
of_wrong text e = elim (cases_Bool (gap_len text == 0)) [
  | inl none ↦ (eqb-true _ _ none, no_cut (token_at text) (sym (cond-true _ _ _ none) ∙ e))
  | inr some ↦ (let no : front.Blank (gap_len text) ≡ front.Wrong = sym (cond-false _ _ _ some) ∙ e in cc)
]

module _ (text : List ℕ) (at : ℕ) (found : List Placed) (onto : ReadUpTo lexicon text at found) where
  pub step_blank : (len : ℕ) → front.Blank len ≡ front_at (tail text at) → 0 < len
      → ReadUpTo lexicon text (at + len) found
  step_blank len e some =
      let same : gap_len (drop at text) ≡ len = of_blank (drop at text) len (front_there text at (front.Blank len) e) in
      subst (λ (n : ℕ). ReadUpTo lexicon text (at + n) found) same
      (gap_step lexicon BlankFollows scanner text at found onto (omega (arith, same, some)))

  pub step_token : (k : Kind) (len : ℕ) → front.Token k len ≡ front_at (tail text at)
      → ReadUpTo lexicon text (at + len) (found ++ ((token_of k (take len (tail text at)), at) ∷ []))
  step_token k len e =
      let is = of_token (drop at text) k len (front_there text at (front.Token k len) e) in
      subst (λ (r : List ℕ). ReadUpTo lexicon text (at + len) (found ++ ((token_of k (take len r), at) ∷ [])))
      (sym (take_rest text at))
      (token_step lexicon BlankFollows scanner text at found onto (token_of k (take len (drop at text))) len is.0
      (ap (option_map (token_cut (drop at text))) is.1))

  pub step_wrong : front.Wrong ≡ front_at (tail text at) → at < length text
      → AreTokens 0 text (found ++ ((Bad, at) ∷ []))
  step_wrong e h =
      let is = of_wrong (drop at text) (front_there text at front.Wrong e) in
      bad_step lexicon BlankFollows scanner text at found onto h is.0
      (ap (option_map (token_cut (drop at text))) is.1)

  pub step_end : length text ≤ at → AreTokens 0 text (found ++ ((End, at) ∷ []))
  step_end h = end_step lexicon BlankFollows scanner text at found onto h

-- ---- where no `*/` follows

pub none_here : (text : List ℕ) (at : ℕ) → close_from 0 (drop (at + 1) text) ≡ None
    → close_of (drop 1 (tail text at)) ≡ None
none_here text at e =
    ap (λ r. close_from 0 (drop 1 r)) (take_rest text at) ∙ ap (λ r. close_from 0 r) (drop-drop 1 at text) ∙ e

pub none_further : (text : List ℕ) (at len : ℕ) → close_from 0 (drop (at + 1) text) ≡ None
    → close_from 0 (drop (at + len + 1) text) ≡ None
none_further text at len e =
    let add : at + 1 + len ≡ at + len + 1 = omega arith in
    ap (λ n. close_from 0 (drop n text)) (sym add) ∙ ap (λ r. close_from 0 r) (sym (drop-drop len (at + 1) text))
    ∙ none_behind len (drop (at + 1) text) e

no_gap_comment : (rest : List ℕ) → gap_len rest ≡ 0 → comment_len rest ≡ 0
no_gap_comment rest none = elim (cases_Bool (is_blank (slice_index rest 0))) [
  | inl t ↦ absurd (omega (arith, none, cond-true {A = ℕ} (is_blank (slice_index rest 0)) 1 (comment_len rest) t))
  | inr f ↦ sym (cond-false {A = ℕ} (is_blank (slice_index rest 0)) 1 (comment_len rest) f) ∙ none
]

front_token_len : (k : Kind) (n : ℕ) (rest : List ℕ) → front_at rest ≡ front.Token k n → comment_len rest ≡ 0
front_token_len k n rest e = no_gap_comment rest (of_token rest k n e).0

no_place : (found : Option ℕ) → closed_len found ≡ 0 → found ≡ None
no_place None e = refl
no_place (Some n) e = absurd (omega arith)

block_none : (rest : List ℕ) → begins_block rest ≡ true → comment_len rest ≡ 0 → close_of (drop 2 rest) ≡ None
unfolding comment_len
block_none rest t e =
    elim (cases_Bool (slice_index rest 0 == 47 && slice_index rest 1 == 47)) [
      | inl u ↦
          (let no : 2 + prefix_len is_in_line (drop 2 rest) ≡ 0 = sym (cond-true _ _ _ u) ∙ e in absurd (omega arith))
      | inr f ↦ no_place (close_of (drop 2 rest)) (sym (cond-true _ _ _ t) ∙ sym (cond-false _ _ _ f) ∙ e)
    ]

pub none_since : (text : List ℕ) (at len : ℕ) (k : Kind) → front.Token k len ≡ front_at (tail text at)
    → TakesWithin (front.Token k len) (length (tail text at)) → begins_block (tail text at) ≡ true
    → close_from 0 (drop (at + len + 1) text) ≡ None
none_since text at len k e h t =
    let e' : front_at (drop at text) ≡ front.Token k len = front_there text at (front.Token k len) e in
    let t' : begins_block (drop at text) ≡ true = ap begins_block (sym (take_rest text at)) ∙ t in
    let add : at + 2 + (len - 1) ≡ at + len + 1 = omega (arith, h.0) in
    let here : close_of (drop 2 (drop at text)) ≡ None
    = block_none (drop at text) t' (front_token_len k len (drop at text) e') in
    ap (λ n. close_from 0 (drop n text)) (sym add)
    ∙ ap (λ r. close_from 0 r) (sym (drop-drop (len - 1) (at + 2) text))
    ∙ none_behind (len - 1) (drop (at + 2) text) (ap (λ r. close_from 0 r) (sym (drop-drop 2 at text)) ∙ here)
