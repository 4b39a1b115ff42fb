-- The first token of a text that passes a counted limit, and what it says of the tokens before a place.
use Rattle.std.specs.Prelude.{◌≡◌, ◌⊎◌, ◌<◌, ◌+◌, ℕ, zero, suc, List, [], ◌∷◌, ◌++◌, length, map, reverse}
use Rattle.std.specs.Prelude.{Option, Some, None, refl}
use Rattle.std.proofs.Common.{sym, ap, ◌∙◌, inl, inr, subst, arith, below_more}
use Rattle.std.proofs.lemmas.List.{take_at, get_or_at, take-append-le, get_or_append_left, map-append, length-map}
use Rattle.std.proofs.lemmas.List.{reverse-append}
use Rattle.grammars.specs.Places.{kinds}
use Rattle.ivy_syntax.specs.declared.lexeme.Kind.{Kind}
use Rattle.ivy_syntax.specs.declared.lexeme.Kind.TheVariants as kind
use Rattle.ivy_syntax.specs.declared.lexeme.Symbol.TheVariants as symbol
use Rattle.ivy_syntax.specs.Token.{Token, Sign}
use Rattle.ivy_syntax.specs.Tokens.{Placed}
use Rattle.ivy_syntax.specs.Token.{kind_of}
use Rattle.ivy_syntax.specs.Limits.{passes, passes_at, FirstPassed}
use Rattle.ivy_syntax.specs.Texts.{AreFew}

-- the kinds of tokens
abbrev pub kinds_of : List Placed → List Kind
kinds_of ts = map kind_of (kinds ts)

-- no token before this place passes a counted limit
abbrev pub NoneBefore : List Kind → ℕ → Type 0
NoneBefore ks most = (at : ℕ) → at < most → passes_at ks at ≡ None

-- ---- tokens at the front

passes_front : (a b : List Kind) (at : ℕ) → at < length a → passes_at (a ++ b) at ≡ passes_at a at
passes_front a b at within =
    (λ i. passes (reverse (take-append-le at a b (omega arith) i)) (get_or_append_left a b kind.End at within i))

passes_next : (a : List Kind) (k : Kind) (b : List Kind) → passes_at (a ++ (k ∷ b)) (length a) ≡ passes (reverse a) k
passes_next a k b =
    (λ i. passes (reverse (take_at a (k ∷ b) (length a) refl i)) (get_or_at a k b kind.End (length a) refl i))

kinds_front : (front rest : List Placed) → kinds_of (front ++ rest) ≡ kinds_of front ++ kinds_of rest
kinds_front front rest =
    ap (map kind_of) (map-append (λ (p : Placed). p.0) front rest) ∙ map-append kind_of (kinds front) (kinds rest)

pub length_kinds : (ts : List Placed) → length (kinds_of ts) ≡ length ts
length_kinds ts = length-map (kinds ts) kind_of ∙ length-map ts (λ (p : Placed). p.0)

-- a token passes the same limit, whatever stands after it
pub passes_there : (front : List Placed) (t : Placed) (behind : List Placed)
    → passes_at (kinds_of (front ++ (t ∷ behind))) (length front) ≡ passes (reverse (kinds_of front)) (kind_of t.0)
passes_there front t behind =
    ap (λ (ks : List Kind). passes_at ks (length front)) (kinds_front front (t ∷ behind))
    ∙ ap (λ (n : ℕ). passes_at (kinds_of front ++ (kind_of t.0 ∷ kinds_of behind)) n) (sym (length_kinds front))
    ∙ passes_next (kinds_of front) (kind_of t.0) (kinds_of behind)

-- tokens at the front of others are few where none before their end passes a limit
pub few_front : (front rest : List Placed) → NoneBefore (kinds_of (front ++ rest)) (length front)
    → AreFew (kinds front)
few_front front rest none at within =
    sym (passes_front (kinds_of front) (kinds_of rest) at within)
    ∙ ap (λ (ks : List Kind). passes_at ks at) (sym (kinds_front front rest))
    ∙ none at (omega (arith, within, length_kinds front))

pub none_front : (front rest : List Placed) → AreFew (kinds front)
    → NoneBefore (kinds_of (front ++ rest)) (length front)
none_front front rest few at within =
    let short : at < length (kinds_of front) = omega (arith, within, length_kinds front) in
    ap (λ (ks : List Kind). passes_at ks at) (kinds_front front rest)
    ∙ passes_front (kinds_of front) (kinds_of rest) at short
    ∙ few at short

-- ---- the first one

FirstBelow : List Kind → ℕ → Type 0
FirstBelow ks most = (found : ℕ × ℕ) × (found.0 < most) × (passes_at ks found.0 ≡ Some found.1)
    × NoneBefore ks found.0

search : (ks : List Kind) (most : ℕ) → FirstBelow ks most ⊎ NoneBefore ks most
unfolding FirstBelow
search ks zero = inr (λ at within. absurd (omega (arith, within)))
search ks (suc most) = more (search ks most) (passes_at ks most) refl
  where
    more : FirstBelow ks most ⊎ NoneBefore ks most → (o : Option ℕ) → passes_at ks most ≡ o
        → FirstBelow ks (suc most) ⊎ NoneBefore ks (suc most)
    more (inl found) o is = inl (found.0, omega (arith, found.1), found.2, found.3)
    more (inr none) (Some number) is = inl ((most, number), omega arith, is, none)
    more (inr none) None is =
        let one : most + 1 ≡ suc most = omega arith in inr (subst (NoneBefore ks) one (below_more _ most none is))

-- there is a first one, or none
pub first_passed : (ks : List Kind) → (found : Option (ℕ × ℕ)) × FirstPassed ks found
unfolding FirstBelow
first_passed ks = by (search ks (length ks))
  where
    by : FirstBelow ks (length ks) ⊎ NoneBefore ks (length ks) → (found : Option (ℕ × ℕ)) × FirstPassed ks found
    by (inl found) = (Some found.0, (found.1, found.2, found.3))
    by (inr none) = (None, none)

-- ---- the end of a source

abbrev closing : Kind
closing = kind.Sign symbol.CloseBrace

-- after a closing brace the end passes none
pub none_at_end : (before : List Token)
    → passes (reverse (map kind_of (before ++ (Sign symbol.CloseBrace ∷ [])))) kind.End ≡ None
none_at_end before =
    ap (λ (ks : List Kind). passes (reverse ks) kind.End) (map-append kind_of before (Sign symbol.CloseBrace ∷ []))
    ∙ ap (λ (ks : List Kind). passes ks kind.End) (reverse-append (map kind_of before) (closing ∷ []))
