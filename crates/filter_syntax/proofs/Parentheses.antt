-- No tokens with fewer parentheses than those that are printed read as the condition.
use Rattle.std.specs.Prelude.{◌≡◌, ◌↔◌, ℕ, ◌+◌, ◌≤◌, ◌<◌, suc, Bool, true, false, List, [], ◌∷◌, ◌++◌, cond, refl}
use Rattle.std.proofs.Common.{sym, ap, ◌∙◌, inl, inr, ◌⊎◌, subst, true≢false, arith}
use Rattle.std.proofs.lemmas.Bool.{cases_Bool}
use Rattle.std.proofs.lemmas.List.{map-append}
use Rattle.std.proofs.lemmas.List.Sums.{sum_by-append}
use Rattle.grammars.specs.Places.{kinds}
use Rattle.filter_syntax.specs.declared.tree.Cond.{Cond}
use Rattle.filter_syntax.specs.declared.tree.Cond.TheVariants as conditions
use Rattle.filter_syntax.specs.declared.tree.FilterValue.{FilterValue}
use Rattle.filter_syntax.specs.Token.{Token, Open, Close, Equals, And, Or, Name}
use Rattle.filter_syntax.specs.Tokens.{Placed}
use Rattle.filter_syntax.specs.Grammar.{Rule, Alternatives, Conjunction, Reads, conjunction, unit, parentheses, inputs}
use Rattle.filter_syntax.specs.Grammar.{outputs, comparison, IsValue, Text, Decimal, Parameter}
use Rattle.filter_syntax.specs.Grammar as grammar
use Rattle.filter_syntax.specs.Shown.{tokens_at, is_enclosed, enclosed_if, value_token, scope_token}
use Rattle.filter_syntax.specs.Printing.{is_open, opened, Side, OrLeft, OrRight, AndLeft, AndRight}
use Rattle.filter_syntax.specs.Printing.{TokensRead}
use Rattle.filter_syntax.specs.Printing.{whole, operand_is_enclosed, with_bare}
use Rattle.filter_syntax.proofs.ShownParts.{or_tokens, and_tokens, scope_tokens, is_tokens, enclosed_at, enclosed_under}
use Rattle.filter_syntax.proofs.ShownParts.{never_enclosed}
use Rattle.filter_syntax.proofs.Reprints.{placed, unplaced_placed, shown_again}

-- ---- counting

opened_joined : (a b : List Token) → opened (a ++ b) ≡ opened a + opened b
opened_joined a b = sum_by-append (λ (t : Token). cond (is_open t) 1 0) a b

opened_open : (ts : List Token) → opened (Open ∷ ts) ≡ 1 + opened ts
opened_open ts = opened_joined (Open ∷ []) ts

opened_other : (t : Token) (ts : List Token) → is_open t ≡ false → opened (t ∷ ts) ≡ opened ts
opened_other t ts not =
    let none : opened (t ∷ []) ≡ 0 = ap (λ (b : Bool). 0 + cond b 1 0) not in
    omega (arith, opened_joined (t ∷ []) ts, none)

opened_enclosed : (b : Bool) (ts : List Token) → opened (enclosed_if b ts) ≡ cond b 1 0 + opened ts
opened_enclosed true ts =
    omega (arith, opened_open (ts ++ Close ∷ []), opened_joined ts (Close ∷ []), opened_other Close [] refl)
opened_enclosed false ts = omega arith

opened_pair : (a b : List Token) (t : Token) → is_open t ≡ false → opened (a ++ (t ∷ b)) ≡ opened a + opened b
opened_pair a b t not = omega (arith, opened_joined a (t ∷ b), opened_other t b not)

-- as many as by another rule, and one more where the condition stands in parentheses
opened_at : (rule : Rule) (c : Cond)
    → opened (tokens_at rule c) ≡ cond (is_enclosed rule c) 1 0 + opened (tokens_at Alternatives c)
opened_at rule c = ap opened (enclosed_at rule c) ∙ opened_enclosed (is_enclosed rule c) (tokens_at Alternatives c)

enclosed_count : (rule : Rule) (c : Cond) → is_enclosed rule c ≡ true
    → opened (tokens_at rule c) ≡ 1 + opened (tokens_at Alternatives c)
enclosed_count rule c is = opened_at rule c ∙ ap (λ (b : Bool). cond b 1 0 + opened (tokens_at Alternatives c)) is

bare_count : (rule : Rule) (c : Cond) → is_enclosed rule c ≡ false
    → opened (tokens_at rule c) ≡ opened (tokens_at Alternatives c)
bare_count rule c not =
    let is : opened (tokens_at rule c) ≡ 0 + opened (tokens_at Alternatives c) = opened_at rule c
    ∙ ap (λ (b : Bool). cond b 1 0 + opened (tokens_at Alternatives c)) not in
    omega (arith, is)

at_least : (rule : Rule) (c : Cond) → opened (tokens_at Alternatives c) ≤ opened (tokens_at rule c)
at_least rule c = by (cases_Bool (is_enclosed rule c))
  where
    by : (is_enclosed rule c ≡ true) ⊎ (is_enclosed rule c ≡ false)
        → opened (tokens_at Alternatives c) ≤ opened (tokens_at rule c)
    by (inl is) = omega (arith, enclosed_count rule c is)
    by (inr not) = omega (arith, bare_count rule c not)

one_more : (rule : Rule) (c : Cond) → opened (tokens_at rule c) ≤ 1 + opened (tokens_at Alternatives c)
one_more rule c = by (cases_Bool (is_enclosed rule c))
  where
    by : (is_enclosed rule c ≡ true) ⊎ (is_enclosed rule c ≡ false)
        → opened (tokens_at rule c) ≤ 1 + opened (tokens_at Alternatives c)
    by (inl is) = omega (arith, enclosed_count rule c is)
    by (inr not) = omega (arith, bare_count rule c not)

as_unit_more : (c : Cond) → opened (tokens_at Conjunction c) ≤ opened (tokens_at grammar.Unit c)
as_unit_more c = by (cases_Bool (is_enclosed Conjunction c))
  where
    by : (is_enclosed Conjunction c ≡ true) ⊎ (is_enclosed Conjunction c ≡ false)
        → opened (tokens_at Conjunction c) ≤ opened (tokens_at grammar.Unit c)
    by (inl is) =
        omega (arith, enclosed_count Conjunction c is, enclosed_count grammar.Unit c (enclosed_under c is))
    by (inr not) = omega (arith, bare_count Conjunction c not, at_least grammar.Unit c)

-- ---- each condition

unplaced_pair : (u w : List Placed) (t : Token) (at : ℕ) → is_open t ≡ false
    → opened (kinds (u ++ ((t, at) ∷ w))) ≡ opened (kinds u) + opened (kinds w)
unplaced_pair u w t at not =
    ap opened (map-append (λ (p : Placed). p.0) u ((t, at) ∷ w)) ∙ opened_pair (kinds u) (kinds w) t not

unplaced_closed : (u : List Placed) (close : ℕ) → opened (kinds (u ++ ((Close, close) ∷ []))) ≡ opened (kinds u)
unplaced_closed u close = omega (arith, unplaced_pair u [] Close close refl)

or_count : (a b : Cond) → opened (tokens_at Alternatives (conditions.Or a b))
    ≡ opened (tokens_at Alternatives a) + opened (tokens_at Conjunction b)
or_count a b =
    ap opened (or_tokens Alternatives a b) ∙ opened_pair (tokens_at Alternatives a) (tokens_at Conjunction b) Or refl

and_count : (a b : Cond) → opened (tokens_at Conjunction (conditions.And a b))
    ≡ opened (tokens_at Conjunction a) + opened (tokens_at grammar.Unit b)
and_count a b =
    ap opened (and_tokens Conjunction a b) ∙ opened_pair (tokens_at Conjunction a) (tokens_at grammar.Unit b) And refl

scope_token_other : (side : Bool) → is_open (scope_token side) ≡ false
scope_token_other true = refl
scope_token_other false = refl

scope_count : (side : Bool) (c : Cond)
    → opened (tokens_at grammar.Unit (conditions.Scope side c)) ≡ 1 + opened (tokens_at Alternatives c)
scope_count side c =
    ap opened (scope_tokens grammar.Unit side c)
    ∙ opened_other (scope_token side) (enclosed_if true (tokens_at Alternatives c)) (scope_token_other side)
    ∙ opened_enclosed true (tokens_at Alternatives c)

value_other : (v : FilterValue) (t : Token) → IsValue t v → is_open (value_token v) ≡ false
value_other _ _ (Text bytes) = refl
value_other _ _ (Decimal n) = refl
value_other _ _ (Parameter n) = refl

is_count : (name : List ℕ) (v : FilterValue) (t : Token) → IsValue t v
    → opened (tokens_at grammar.Unit (conditions.Is name v)) ≡ 0
is_count name v t is =
    ap opened (is_tokens grammar.Unit name v) ∙ opened_other (Name name) (Equals ∷ value_token v ∷ []) refl
    ∙ opened_other Equals (value_token v ∷ []) refl ∙ opened_other (value_token v) [] (value_other v t is)

inner_count : (side : Bool) (u : List Placed) (at first close : ℕ)
    → opened (kinds ((scope_token side, at) ∷ (Open, first) ∷ (u ++ ((Close, close) ∷ []))))
    ≡ 1 + opened (kinds u)
inner_count side u at first close =
    let inside : List Token = kinds (u ++ ((Close, close) ∷ [])) in
    let count = opened_other (scope_token side) (Open ∷ inside) (scope_token_other side) in
    omega (arith, count, opened_open inside, unplaced_closed u close)

pub fewest_parentheses : (rule : Rule) (d : ℕ) (s : Bool) (u : List Placed) (c : Cond) → Reads rule d s u c
    → opened (tokens_at rule c) ≤ opened (kinds u)
fewest_parentheses _ d s u c (conjunction h) =
    omega (arith, at_least Conjunction c, fewest_parentheses Conjunction d s u c h)
fewest_parentheses _ d s _ _ (grammar.or {u = u} {w = w} {a = a} {b = b} at h k) =
    omega (
      arith,
      or_count a b,
      unplaced_pair u w Or at refl,
      fewest_parentheses Alternatives d s u a h,
      fewest_parentheses Conjunction d s w b k,
    )
fewest_parentheses _ d s u c (unit h) =
    omega (arith, as_unit_more c, fewest_parentheses grammar.Unit d s u c h)
fewest_parentheses _ d s _ _ (grammar.and {u = u} {w = w} {a = a} {b = b} at h k) =
    omega (
      arith,
      and_count a b,
      unplaced_pair u w And at refl,
      fewest_parentheses Conjunction d s u a h,
      fewest_parentheses grammar.Unit d s w b k,
    )
fewest_parentheses _ (suc d) s _ c (parentheses {u = u} at close h) =
    omega (
      arith,
      one_more grammar.Unit c,
      opened_open (kinds (u ++ ((Close, close) ∷ []))),
      unplaced_closed u close,
      fewest_parentheses Alternatives d s u c h,
    )
fewest_parentheses _ (suc d) _ _ _ (inputs {u = u} {c = c} at first close h) =
    omega (
      arith,
      scope_count true c,
      inner_count true u at first close,
      fewest_parentheses Alternatives d false u c h,
    )
fewest_parentheses _ (suc d) _ _ _ (outputs {u = u} {c = c} at first close h) =
    omega (
      arith,
      scope_count false c,
      inner_count false u at first close,
      fewest_parentheses Alternatives d false u c h,
    )
fewest_parentheses _ d s _ _ (comparison {name = name} {token = t} {value = v} at equals place h) =
    omega (arith, is_count name v t h)

-- ---- none of them can be left out

reads_fewest : (s : Bool) (ts : List Token) (c : Cond) → TokensRead Alternatives s ts c
    → opened (tokens_at Alternatives c) ≤ opened ts
reads_fewest s ts c h =
    let few = fewest_parentheses Alternatives h.depth s h.placed c h.reads in
    subst (λ (l : List Token). opened (tokens_at Alternatives c) ≤ opened l) h.same few

pub needed_parentheses : (s : Bool) (c : Cond) (before between behind : List Token)
    → tokens_at Alternatives c ≡ before ++ (Open ∷ (between ++ (Close ∷ behind)))
    → ¬ TokensRead Alternatives s (before ++ (between ++ behind)) c
needed_parentheses s c before between behind is h =
    let inside : List Token = between ++ (Close ∷ behind) in
    let all : opened (tokens_at Alternatives c) ≡ opened (before ++ (Open ∷ inside)) = ap opened is in
    omega (
      arith,
      reads_fewest s (before ++ (between ++ behind)) c h,
      all,
      opened_joined before (Open ∷ inside),
      opened_open inside,
      opened_pair between behind Close refl,
      opened_joined before (between ++ behind),
      opened_joined between behind,
    )

-- ---- operands

bare_at : (rule : Rule) (c : Cond) → is_enclosed rule c ≡ false → tokens_at rule c ≡ tokens_at Alternatives c
bare_at rule c not = enclosed_at rule c ∙ ap (λ (b : Bool). enclosed_if b (tokens_at Alternatives c)) not

or_whole : (a b : Cond) → tokens_at Alternatives (conditions.Or a b)
    ≡ tokens_at Alternatives a ++ (Or ∷ tokens_at Conjunction b)
or_whole a b = or_tokens Alternatives a b

and_whole : (a b : Cond) → tokens_at Alternatives (conditions.And a b)
    ≡ tokens_at Conjunction a ++ (And ∷ tokens_at grammar.Unit b)
and_whole a b = and_tokens Alternatives a b

whole_bare : (side : Side) (a b : Cond) → operand_is_enclosed side a b ≡ false
    → tokens_at Alternatives (whole side a b) ≡ with_bare side a b
whole_bare OrLeft a b not = or_whole a b
whole_bare OrRight a b not =
    or_whole a b ∙ ap (λ (l : List Token). tokens_at Alternatives a ++ (Or ∷ l)) (bare_at Conjunction b not)
whole_bare AndLeft a b not =
    and_whole a b ∙ ap (λ (l : List Token). l ++ (And ∷ tokens_at grammar.Unit b)) (bare_at Conjunction a not)
whole_bare AndRight a b not =
    and_whole a b ∙ ap (λ (l : List Token). tokens_at Conjunction a ++ (And ∷ l)) (bare_at grammar.Unit b not)

-- the tokens with an operand bare have one `(` fewer where it stands in parentheses
fewer_bare : (side : Side) (a b : Cond) → operand_is_enclosed side a b ≡ true
    → opened (with_bare side a b) < opened (tokens_at Alternatives (whole side a b))
fewer_bare OrLeft a b is = absurd (true≢false (sym is ∙ never_enclosed a))
fewer_bare OrRight a b is =
    omega (
      arith,
      or_count a b,
      opened_pair (tokens_at Alternatives a) (tokens_at Alternatives b) Or refl,
      enclosed_count Conjunction b is,
    )
fewer_bare AndLeft a b is =
    let all = ap opened (and_whole a b) in
    omega (
      arith,
      all,
      opened_pair (tokens_at Conjunction a) (tokens_at grammar.Unit b) And refl,
      opened_pair (tokens_at Alternatives a) (tokens_at grammar.Unit b) And refl,
      enclosed_count Conjunction a is,
    )
fewer_bare AndRight a b is =
    let all = ap opened (and_whole a b) in
    omega (
      arith,
      all,
      opened_pair (tokens_at Conjunction a) (tokens_at grammar.Unit b) And refl,
      opened_pair (tokens_at Conjunction a) (tokens_at Alternatives b) And refl,
      enclosed_count grammar.Unit b is,
    )

reads_shown : (s : Bool) (tokens ts : List Token) (c : Cond) → TokensRead Alternatives s tokens c
    → tokens_at Alternatives c ≡ ts → TokensRead Alternatives s ts c
reads_shown s tokens ts c h is = record {
  depth = h.depth;
  placed = placed ts;
  same = unplaced_placed ts;
  reads = shown_again Alternatives h.depth s h.placed (placed ts) c h.reads (unplaced_placed ts ∙ sym is);
}

pub bare_operands : (side : Side) (s : Bool) (tokens : List Token) (a b : Cond)
    → TokensRead Alternatives s tokens (whole side a b)
    → ((operand_is_enclosed side a b ≡ false) ↔ TokensRead Alternatives s (with_bare side a b) (whole side a b))
bare_operands side s tokens a b h = (
  λ not. reads_shown s tokens (with_bare side a b) (whole side a b) h (whole_bare side a b not),
  λ reads. by reads (cases_Bool (operand_is_enclosed side a b)),
)
  where
    by : TokensRead Alternatives s (with_bare side a b) (whole side a b)
        → (operand_is_enclosed side a b ≡ true) ⊎ (operand_is_enclosed side a b ≡ false)
        → operand_is_enclosed side a b ≡ false
    by reads (inl is) = absurd (omega (
      arith,
      fewer_bare side a b is,
      reads_fewest s (with_bare side a b) (whole side a b) reads,
    ))
    by reads (inr not) = not
