-- What the grammar reads has as many names as comparisons.
use Rattle.std.specs.Prelude.{◌≡◌, ℕ, suc, ◌+◌, ◌<◌, Bool, true, false, List, [], ◌∷◌, ◌++◌, length, refl}
use Rattle.std.specs.Prelude.{Option, Some, slice_get}
use Rattle.std.proofs.Common.{sym, ap, ◌∙◌, arith, get_or, length-append}
use Rattle.std.proofs.lemmas.List.Elements.{filter_map-append}
use Rattle.std.proofs.lemmas.Option.{slice_get-get_or}
use Rattle.filter_syntax.specs.declared.tree.Cond.{Cond}
use Rattle.filter_syntax.specs.declared.tree.RowKind.{RowKind}
use Rattle.filter_syntax.specs.declared.tree.FilterValue.{FilterValue}
use Rattle.filter_syntax.specs.Token.{Token, Close, And, Or}
use Rattle.filter_syntax.specs.Tokens.{Placed}
use Rattle.filter_syntax.specs.Grammar.{Rule, Alternatives, Conjunction, Reads, conjunction, unit, parentheses, inputs}
use Rattle.filter_syntax.specs.Grammar.{outputs, comparison, IsValue, Text, Decimal, Parameter}
use Rattle.filter_syntax.specs.Grammar as grammar
use Rattle.filter_syntax.specs.Compared.{Compared, FirstUnknown, comparisons, name_place, places_of_names}
use Rattle.filter_syntax.proofs.Comparisons.{or_comparisons, and_comparisons, scope_comparisons, is_comparisons}
use Rattle.filter_syntax.proofs.Comparisons.{first_within}

joined : (u w : List Placed)
    → length (places_of_names (u ++ w)) ≡ length (places_of_names u) + length (places_of_names w)
joined u w = ap length (filter_map-append name_place u w) ∙ length-append (places_of_names u) (places_of_names w)

closed : (u : List Placed) (close : ℕ)
    → length (places_of_names (u ++ ((Close, close) ∷ []))) ≡ length (places_of_names u)
closed u close = omega (arith, joined u ((Close, close) ∷ []))

both : (u w : List Placed) (between : Placed) (a b : List Compared)
    → places_of_names (between ∷ w) ≡ places_of_names w
    → length (places_of_names u) ≡ length a
    → length (places_of_names w) ≡ length b
    → length (places_of_names (u ++ (between ∷ w))) ≡ length (a ++ b)
both u w between a b same h k =
    omega (
      arith,
      joined u (between ∷ w),
      length-append a b,
      ap (λ (places : List ℕ). length places) same,
    )

value_unnamed : (token : Token) (place : ℕ) (value : FilterValue) → IsValue token value
    → length (places_of_names ((token, place) ∷ [])) ≡ 0
value_unnamed _ place _ (Text bytes) = refl
value_unnamed _ place _ (Decimal n) = refl
value_unnamed _ place _ (Parameter n) = refl

-- There are as many names as comparisons.
pub counted : (rule : Rule) (depth : ℕ) (scopes : Bool) (u : List Placed) (c : Cond) → Reads rule depth scopes u c
    → (side : Option Bool)
    → length (places_of_names u) ≡ length (comparisons side c)
counted _ depth scopes u c (conjunction h) side = counted Conjunction depth scopes u c h side
counted _ depth scopes _ _ (grammar.or {u = u} {w = w} {a = a} {b = b} at h k) side =
    both u w (Or, at) (comparisons side a) (comparisons side b) refl
    (counted Alternatives depth scopes u a h side) (counted Conjunction depth scopes w b k side)
    ∙ sym (ap length (or_comparisons side a b))
counted _ depth scopes u c (unit h) side = counted grammar.Unit depth scopes u c h side
counted _ depth scopes _ _ (grammar.and {u = u} {w = w} {a = a} {b = b} at h k) side =
    both u w (And, at) (comparisons side a) (comparisons side b) refl
    (counted Conjunction depth scopes u a h side) (counted grammar.Unit depth scopes w b k side)
    ∙ sym (ap length (and_comparisons side a b))
counted _ (suc depth) scopes _ c (parentheses {u = u} at close h) side =
    closed u close ∙ counted Alternatives depth scopes u c h side
counted _ (suc depth) _ _ _ (inputs {u = u} {c = c} at first close h) side =
    closed u close ∙ counted Alternatives depth false u c h (Some true)
    ∙ sym (ap length (scope_comparisons side true c))
counted _ (suc depth) _ _ _ (outputs {u = u} {c = c} at first close h) side =
    closed u close ∙ counted Alternatives depth false u c h (Some false)
    ∙ sym (ap length (scope_comparisons side false c))
counted _ depth scopes _ _ (comparison {name = name} {token = token} {value = value} at equals place h) side =
    ap suc (value_unnamed token place value h) ∙ sym (ap length (is_comparisons side name value))

-- The name of the first unknown comparison has a place.
pub place_found : (kind : RowKind) (rule : Rule) (depth : ℕ) (scopes : Bool) (u : List Placed) (c : Cond)
    (side : Option Bool) (index : ℕ)
    → Reads rule depth scopes u c
    → FirstUnknown kind (comparisons side c) index
    → (at : ℕ) × (slice_get (places_of_names u) index ≡ Some at)
place_found kind rule depth scopes u c side index h first =
    let within : index < length (places_of_names u) =
    omega (arith, counted rule depth scopes u c h side, first_within kind (comparisons side c) index first) in
    (get_or (places_of_names u) index 0, slice_get-get_or (places_of_names u) index 0 within)
