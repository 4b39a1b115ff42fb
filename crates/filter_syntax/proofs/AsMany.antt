-- What is printed of a condition has as many comparisons as the tokens that read as it.
use Rattle.std.specs.Prelude.{◌≡◌, ℕ, ◌+◌, suc, Bool, true, false, List, [], ◌∷◌, ◌++◌, cond, refl}
use Rattle.std.proofs.Common.{sym, ap, ◌∙◌, arith}
use Rattle.std.proofs.lemmas.List.{map-append}
use Rattle.std.proofs.lemmas.List.Sums.{sum_by-append}
use Rattle.grammars.specs.Places.{kinds}
use Rattle.filter_syntax.specs.declared.tree.Cond.{Cond}
use Rattle.filter_syntax.specs.declared.tree.Cond.TheVariants as conditions
use Rattle.filter_syntax.specs.Token.{Token, Open, Close, Equals, And, Or, Inputs, Outputs, Name}
use Rattle.filter_syntax.specs.Tokens.{Placed}
use Rattle.filter_syntax.specs.Grammar.{Rule, Alternatives, Conjunction, Reads, conjunction, unit, parentheses, inputs}
use Rattle.filter_syntax.specs.Grammar.{outputs, comparison, IsValue, Text, Decimal, Parameter}
use Rattle.filter_syntax.specs.Grammar as grammar
use Rattle.filter_syntax.specs.Shown.{tokens_at, is_enclosed, enclosed_if, scope_token}
use Rattle.filter_syntax.specs.Printing.{is_attribute, compared}
use Rattle.filter_syntax.proofs.ShownParts.{or_tokens, and_tokens, scope_tokens, is_tokens, enclosed_at}
use Rattle.filter_syntax.proofs.Reprints.{the_value}

joined : (a b : List Token) → compared (a ++ b) ≡ compared a + compared b
joined a b = sum_by-append (λ (t : Token). cond (is_attribute t) 1 0) a b

other : (t : Token) (ts : List Token) → is_attribute t ≡ false → compared (t ∷ ts) ≡ compared ts
other t ts not =
    let none : compared (t ∷ []) ≡ 0 = ap (λ (b : Bool). 0 + cond b 1 0) not in
    omega (arith, joined (t ∷ []) ts, none)

pair : (a b : List Token) (t : Token) → is_attribute t ≡ false → compared (a ++ (t ∷ b)) ≡ compared a + compared b
pair a b t not = omega (arith, joined a (t ∷ b), other t b not)

enclosed : (b : Bool) (ts : List Token) → compared (enclosed_if b ts) ≡ compared ts
enclosed true ts =
    omega (arith, other Open (ts ++ Close ∷ []) refl, joined ts (Close ∷ []), other Close [] refl)
enclosed false ts = refl

-- by each rule as many
by_rules : (rule other : Rule) (c : Cond) → compared (tokens_at rule c) ≡ compared (tokens_at other c)
by_rules rule other c =
    ap compared (enclosed_at rule c) ∙ enclosed (is_enclosed rule c) (tokens_at Alternatives c)
    ∙ sym (enclosed (is_enclosed other c) (tokens_at Alternatives c)) ∙ sym (ap compared (enclosed_at other c))

unplaced_pair : (u w : List Placed) (t : Token) (at : ℕ) → is_attribute t ≡ false
    → compared (kinds (u ++ ((t, at) ∷ w))) ≡ compared (kinds u) + compared (kinds w)
unplaced_pair u w t at not =
    ap compared (map-append (λ (p : Placed). p.0) u ((t, at) ∷ w)) ∙ pair (kinds u) (kinds w) t not

unplaced_inner : (u : List Placed) (first close : ℕ)
    → compared (kinds ((Open, first) ∷ (u ++ ((Close, close) ∷ [])))) ≡ compared (kinds u)
unplaced_inner u first close =
    let none : compared [] ≡ 0 = refl in
    omega (
      arith,
      other Open (kinds (u ++ ((Close, close) ∷ []))) refl,
      unplaced_pair u [] Close close refl,
      none,
    )

or_count : (a b : Cond) → compared (tokens_at Alternatives (conditions.Or a b))
    ≡ compared (tokens_at Alternatives a) + compared (tokens_at Conjunction b)
or_count a b =
    ap compared (or_tokens Alternatives a b) ∙ pair (tokens_at Alternatives a) (tokens_at Conjunction b) Or refl

and_count : (a b : Cond) → compared (tokens_at Conjunction (conditions.And a b))
    ≡ compared (tokens_at Conjunction a) + compared (tokens_at grammar.Unit b)
and_count a b =
    ap compared (and_tokens Conjunction a b)
    ∙ pair (tokens_at Conjunction a) (tokens_at grammar.Unit b) And refl

scope_other : (side : Bool) → is_attribute (scope_token side) ≡ false
scope_other true = refl
scope_other false = refl

scope_count : (side : Bool) (c : Cond)
    → compared (tokens_at grammar.Unit (conditions.Scope side c)) ≡ compared (tokens_at Alternatives c)
scope_count side c =
    ap compared (scope_tokens grammar.Unit side c)
    ∙ other (scope_token side) (enclosed_if true (tokens_at Alternatives c)) (scope_other side)
    ∙ enclosed true (tokens_at Alternatives c)

pub as_many : (rule : Rule) (d : ℕ) (s : Bool) (u : List Placed) (c : Cond) → Reads rule d s u c
    → compared (tokens_at rule c) ≡ compared (kinds u)
as_many _ d s u c (conjunction h) = by_rules Alternatives Conjunction c ∙ as_many Conjunction d s u c h
as_many _ d s _ _ (grammar.or {u = u} {w = w} {a = a} {b = b} at h k) =
    omega (
      arith,
      or_count a b,
      unplaced_pair u w Or at refl,
      as_many Alternatives d s u a h,
      as_many Conjunction d s w b k,
    )
as_many _ d s u c (unit h) = by_rules Conjunction grammar.Unit c ∙ as_many grammar.Unit d s u c h
as_many _ d s _ _ (grammar.and {u = u} {w = w} {a = a} {b = b} at h k) =
    omega (
      arith,
      and_count a b,
      unplaced_pair u w And at refl,
      as_many Conjunction d s u a h,
      as_many grammar.Unit d s w b k,
    )
as_many _ (suc d) s _ c (parentheses {u = u} at close h) =
    by_rules grammar.Unit Alternatives c ∙ as_many Alternatives d s u c h ∙ sym (unplaced_inner u at close)
as_many _ (suc d) _ _ _ (inputs {u = u} {c = c} at first close h) =
    scope_count true c ∙ as_many Alternatives d false u c h ∙ sym (unplaced_inner u first close)
    ∙ sym (other Inputs (kinds ((Open, first) ∷ (u ++ ((Close, close) ∷ [])))) refl)
as_many _ (suc d) _ _ _ (outputs {u = u} {c = c} at first close h) =
    scope_count false c ∙ as_many Alternatives d false u c h ∙ sym (unplaced_inner u first close)
    ∙ sym (other Outputs (kinds ((Open, first) ∷ (u ++ ((Close, close) ∷ [])))) refl)
as_many _ d s _ _ (comparison {name = name} {token = t} {value = v} at equals place h) =
    ap compared (is_tokens grammar.Unit name v)
    ∙ ap (λ (t : Token). compared (Name name ∷ Equals ∷ t ∷ [])) (sym (the_value t v h))
