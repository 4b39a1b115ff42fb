-- Going over the lexemes up to a comparison past the last that a text may have.
use Rattle.std.specs.Prelude.{◌≡◌, ℕ, zero, suc, ◌+◌, ◌-◌, ◌≤◌, ◌<◌, true, false, List, [], ◌∷◌, ◌++◌, length, cond, map}
use Rattle.std.specs.Prelude.{take, drop, refl, slice_range}
use Rattle.std.proofs.Common.{sym, ap, ◌∙◌, arith, append_assoc, append-nil, add-one, drop-cons}
use Rattle.std.proofs.lemmas.List.{map-append, take_more, take_all, drop_all}
use Rattle.filter_syntax.specs.Token.{Bad}
use Rattle.filter_syntax.specs.Tokens.{Placed}
use Rattle.filter_syntax.specs.Lexing.{seen, token_of}
use Rattle.filter_syntax.specs.Texts.{limited_to, is_comparison}
use Rattle.filter_syntax.specs.Limiting.{lexeme_at, IsLimited}
use Rattle.filter_syntax.specs.declared.tokens.Lexeme.{Lexeme}
use Rattle.filter_syntax.specs.declared.tokens.Kind.{Kind}
use Rattle.filter_syntax.specs.declared.tokens.Kind.TheVariants as kinds

-- what is within the limit is the tokens so far, and what is within the rest of it of the others
pub record Limiting (text : List ℕ) (lexemes : List Lexeme) (most at left : ℕ) : Type 0 where
  pub same : limited_to most (map (seen text) lexemes)
      ≡ map (seen text) (take at lexemes) ++ limited_to left (map (seen text) (drop at lexemes))

module _ (text : List ℕ) where
  pub limiting_begin : (lexemes : List Lexeme) (most : ℕ) → Limiting text lexemes most 0 most
  limiting_begin lexemes most = record { same = refl }

  abbrev the : List Lexeme → ℕ → Lexeme
  the lexemes at = lexeme_at lexemes at

  behind : (at : ℕ) (lexemes : List Lexeme) → at < length lexemes
      → drop at lexemes ≡ the lexemes at ∷ drop (at + 1) lexemes
  behind at lexemes small = drop-cons lexemes at (record { kind = kinds.Open; from = 0; to = 0 }) small
      ∙ ap (λ (n : ℕ). the lexemes at ∷ drop n lexemes) (sym (add-one at))

  -- what is said of the tokens from the next on
  further : (lexemes : List Lexeme) (most at left left' : ℕ) → at < length lexemes → Limiting text lexemes most at left
      → limited_to left (seen text (the lexemes at) ∷ map (seen text) (drop (at + 1) lexemes))
      ≡ seen text (the lexemes at) ∷ limited_to left' (map (seen text) (drop (at + 1) lexemes))
      → Limiting text lexemes most (at + 1) left'
  further lexemes most at left left' small h step = record {
    same = h.same
        ∙ ap (λ l. map (seen text) (take at lexemes) ++ limited_to left (map (seen text) l)) (behind at lexemes small)
        ∙ ap (λ r. map (seen text) (take at lexemes) ++ r) step
        ∙ sym (append_assoc (map (seen text) (take at lexemes)) (seen text (the lexemes at) ∷ [])
        (limited_to left' (map (seen text) (drop (at + 1) lexemes))))
        ∙ ap (λ l. l ++ limited_to left' (map (seen text) (drop (at + 1) lexemes)))
        (sym (map-append (seen text) (take at lexemes) (the lexemes at ∷ [])))
        ∙ ap (λ l. map (seen text) l ++ limited_to left' (map (seen text) (drop (at + 1) lexemes)))
        (sym (take_more lexemes at (record { kind = kinds.Open; from = 0; to = 0 }) small));
  }

  passes_other : (left : ℕ) (p : Placed) (ps : List Placed) → is_comparison p ≡ false
      → limited_to left (p ∷ ps) ≡ p ∷ limited_to left ps
  passes_other zero p ps is = ap (λ b. cond b ((Bad, p.1) ∷ []) (p ∷ limited_to zero ps)) is
  passes_other (suc left) p ps is = ap (λ b. p ∷ limited_to (cond b left (suc left)) ps) is

  passes_name : (left : ℕ) (p : Placed) (ps : List Placed) → is_comparison p ≡ true → 0 < left
      → limited_to left (p ∷ ps) ≡ p ∷ limited_to (left - 1) ps
  passes_name zero p ps is some = absurd (none some)
    where
      none : 0 < 0 → ⊥
      none h = omega (arith, h)
  passes_name (suc left) p ps is some =
      let one : suc left - 1 ≡ left = omega arith in
      ap (λ b. p ∷ limited_to (cond b left (suc left)) ps) is ∙ ap (λ n. p ∷ limited_to n ps) (sym one)

  stops_name : (left : ℕ) (p : Placed) (ps : List Placed) → is_comparison p ≡ true → left ≡ 0
      → limited_to left (p ∷ ps) ≡ (Bad, p.1) ∷ []
  stops_name left p ps is none = ap (λ n. limited_to n (p ∷ ps)) none
      ∙ ap (λ b. cond b ((Bad, p.1) ∷ []) (p ∷ limited_to zero ps)) is

  -- a lexeme of this kind
  compares : (l : Lexeme) (kind : Kind) → l.kind ≡ kind
      → is_comparison (seen text l) ≡ is_comparison (token_of kind (slice_range text l.from l.to), l.from)
  compares l kind is = ap (λ k. is_comparison (token_of k (slice_range text l.from l.to), l.from)) is

  pub limiting_other : (lexemes : List Lexeme) (most at left : ℕ) → at < length lexemes
      → is_comparison (seen text (the lexemes at)) ≡ false → Limiting text lexemes most at left
      → Limiting text lexemes most (at + 1) left
  limiting_other lexemes most at left small is h = further lexemes most at left left small h
      (passes_other left (seen text (the lexemes at)) (map (seen text) (drop (at + 1) lexemes)) is)

  pub limiting_name : (lexemes : List Lexeme) (most at left : ℕ) → at < length lexemes
      → (the lexemes at).kind ≡ kinds.Name → 0 < left → Limiting text lexemes most at left
      → Limiting text lexemes most (at + 1) (left - 1)
  limiting_name lexemes most at left small is some h = further lexemes most at left (left - 1) small h
      (passes_name left (seen text (the lexemes at)) (map (seen text) (drop (at + 1) lexemes))
      (compares (the lexemes at) kinds.Name is) some)

  pub limited_here : (lexemes : List Lexeme) (most at left : ℕ) → at < length lexemes
      → (the lexemes at).kind ≡ kinds.Name → left ≡ 0 → Limiting text lexemes most at left
      → IsLimited text lexemes most at
  limited_here lexemes most at left small is none h = h.same
      ∙ ap (λ l. map (seen text) (take at lexemes) ++ limited_to left (map (seen text) l)) (behind at lexemes small)
      ∙ ap (λ r. map (seen text) (take at lexemes) ++ r)
      (stops_name left (seen text (the lexemes at)) (map (seen text) (drop (at + 1) lexemes))
      (compares (the lexemes at) kinds.Name is) none)

  within_none : (left : ℕ) → limited_to left [] ≡ []
  within_none zero = refl
  within_none (suc left) = refl

  pub unlimited : (lexemes : List Lexeme) (most at left : ℕ) → length lexemes ≤ at → Limiting text lexemes most at left
      → limited_to most (map (seen text) lexemes) ≡ map (seen text) lexemes
  unlimited lexemes most at left past h = h.same
      ∙ ap (λ l. map (seen text) (take at lexemes) ++ limited_to left (map (seen text) l)) (drop_all at lexemes past)
      ∙ ap (λ r. map (seen text) (take at lexemes) ++ r) (within_none left)
      ∙ append-nil (map (seen text) (take at lexemes)) ∙ ap (map (seen text)) (take_all at lexemes past)
