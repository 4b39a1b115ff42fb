-- What tokens read as, the tokens that are printed of it do.
use Rattle.std.specs.Prelude.{◌≡◌, ◌⊎◌, ℕ, ◌≤◌, zero, suc, Bool, true, false, List, [], ◌∷◌, ◌++◌, map, refl}
use Rattle.std.specs.List.{AllByRecursion}
use Rattle.std.proofs.Common.{sym, ap, ◌∙◌, inl, inr, subst, true≢false, arith}
use Rattle.std.proofs.lemmas.Bool.{cases_Bool}
use Rattle.std.proofs.lemmas.List.{map-append}
use Rattle.grammars.specs.Sequence.{all_joined}
use Rattle.grammars.specs.Places.{kinds}
use Rattle.filter_syntax.specs.declared.tree.Cond.{Cond}
use Rattle.filter_syntax.specs.declared.tree.Cond.TheVariants as conditions
use Rattle.filter_syntax.specs.declared.tree.FilterValue.{FilterValue}
use Rattle.filter_syntax.specs.Token.{Token, Open, Close, Equals, And, Or, Inputs, Outputs, Name}
use Rattle.filter_syntax.specs.Token.{CanBeWritten}
use Rattle.filter_syntax.specs.Tokens.{Placed}
use Rattle.filter_syntax.specs.Grammar.{Rule, Alternatives, Conjunction, Reads, conjunction, unit, parentheses, inputs}
use Rattle.filter_syntax.specs.Grammar.{outputs, comparison, IsValue, Text, Decimal, Parameter}
use Rattle.filter_syntax.specs.Grammar as grammar
use Rattle.filter_syntax.specs.Shown.{tokens_at, is_enclosed, enclosed_if, value_token, scope_token}
use Rattle.filter_syntax.proofs.Places.{replaced}
use Rattle.filter_syntax.proofs.ShownParts.{or_tokens, and_tokens, scope_tokens, is_tokens, or_enclosed, and_enclosed}
use Rattle.filter_syntax.proofs.ShownParts.{enclosed_at, bare_above, enclosed_under}

-- the tokens at some places
abbrev pub placed : List Token → List Placed
placed tokens = map (λ (t : Token). (t, 0)) tokens

pub unplaced_placed : (ts : List Token) → kinds (placed ts) ≡ ts
unplaced_placed [] = refl
unplaced_placed (t ∷ ts) = ap (λ (l : List Token). t ∷ l) (unplaced_placed ts)

placed_joined : (a b : List Token) → placed (a ++ b) ≡ placed a ++ placed b
placed_joined a b = map-append (λ (t : Token). (t, 0)) a b

-- ---- a greater depth

-- what reads so at a depth does at a greater one
pub deeper : (rule : Rule) (d e : ℕ) (s : Bool) (u : List Placed) (c : Cond) → d ≤ e → Reads rule d s u c
    → Reads rule e s u c
deeper _ d e s u c within (conjunction h) = conjunction (deeper Conjunction d e s u c within h)
deeper _ d e s _ _ within (grammar.or {u = u} {w = w} {a = a} {b = b} at h k) =
    grammar.or at (deeper Alternatives d e s u a within h) (deeper Conjunction d e s w b within k)
deeper _ d e s u c within (unit h) = unit (deeper grammar.Unit d e s u c within h)
deeper _ d e s _ _ within (grammar.and {u = u} {w = w} {a = a} {b = b} at h k) =
    grammar.and at (deeper Conjunction d e s u a within h) (deeper grammar.Unit d e s w b within k)
deeper _ (suc d) zero s _ c within (parentheses at close h) = absurd (omega arith)
deeper _ (suc d) (suc e) s _ c within (parentheses {u = u} at close h) =
    parentheses at close (deeper Alternatives d e s u c (omega arith) h)
deeper _ (suc d) zero _ _ _ within (inputs at first close h) = absurd (omega arith)
deeper _ (suc d) (suc e) _ _ _ within (inputs {u = u} {c = c} at first close h) =
    inputs at first close (deeper Alternatives d e false u c (omega arith) h)
deeper _ (suc d) zero _ _ _ within (outputs at first close h) = absurd (omega arith)
deeper _ (suc d) (suc e) _ _ _ within (outputs {u = u} {c = c} at first close h) =
    outputs at first close (deeper Alternatives d e false u c (omega arith) h)
deeper _ d e s _ _ within (comparison at equals place h) = comparison at equals place h

-- ---- other rules

as_conjunction : (d : ℕ) (s : Bool) (u : List Placed) (c : Cond) → is_enclosed Conjunction c ≡ false
    → Reads Alternatives d s u c → Reads Conjunction d s u c
as_conjunction d s u c not (conjunction h) = h
as_conjunction d s _ _ not (grammar.or {a = a} {b = b} at h k) =
    absurd (true≢false (sym (or_enclosed Conjunction a b) ∙ not))

as_unit : (d : ℕ) (s : Bool) (u : List Placed) (c : Cond) → is_enclosed grammar.Unit c ≡ false
    → Reads Conjunction d s u c → Reads grammar.Unit d s u c
as_unit d s u c not (unit h) = h
as_unit d s _ _ not (grammar.and {a = a} {b = b} at h k) =
    absurd (true≢false (sym (and_enclosed grammar.Unit a b) ∙ not))

-- a condition that this rule asks no parentheses of
as_rule : (rule : Rule) (d : ℕ) (s : Bool) (u : List Placed) (c : Cond) → is_enclosed rule c ≡ false
    → Reads Alternatives d s u c → Reads rule d s u c
as_rule Alternatives d s u c not h = h
as_rule Conjunction d s u c not h = as_conjunction d s u c not h
as_rule grammar.Unit d s u c not h = as_unit d s u c not (as_conjunction d s u c (bare_above c not) h)

of_unit : (rule : Rule) (d : ℕ) (s : Bool) (u : List Placed) (c : Cond) → Reads grammar.Unit d s u c
    → Reads rule d s u c
of_unit Alternatives d s u c h = conjunction (unit h)
of_unit Conjunction d s u c h = unit h
of_unit grammar.Unit d s u c h = h

-- the tokens of a condition by a rule read as it
abbrev pub Shows : Rule → ℕ → Bool → Cond → Type 0
Shows rule d s c = Reads rule d s (placed (tokens_at rule c)) c

shows_as : (rule : Rule) (d : ℕ) (s : Bool) (c : Cond) (tokens : List Token) → tokens_at rule c ≡ tokens
    → Reads rule d s (placed tokens) c → Shows rule d s c
shows_as rule d s c tokens is h = subst (λ (l : List Token). Reads rule d s (placed l) c) (sym is) h

shows_bare : (rule : Rule) (d : ℕ) (s : Bool) (c : Cond) → is_enclosed rule c ≡ false → Shows Alternatives d s c
    → Shows rule d s c
shows_bare rule d s c not h =
    shows_as rule d s c (tokens_at Alternatives c)
    (enclosed_at rule c ∙ ap (λ (b : Bool). enclosed_if b (tokens_at Alternatives c)) not)
    (as_rule rule d s (placed (tokens_at Alternatives c)) c not h)

placed_enclosed : (ts : List Token)
    → placed (enclosed_if true ts) ≡ (Open, 0) ∷ (placed ts ++ ((Close, 0) ∷ []))
placed_enclosed ts = ap (λ (l : List Placed). (Open, 0) ∷ l) (placed_joined ts (Close ∷ []))

shows_enclosed : (rule : Rule) (d : ℕ) (s : Bool) (c : Cond) → is_enclosed rule c ≡ true → Shows Alternatives d s c
    → Shows rule (suc d) s c
shows_enclosed rule d s c is h =
    shows_as rule (suc d) s c (enclosed_if true (tokens_at Alternatives c))
    (enclosed_at rule c ∙ ap (λ (b : Bool). enclosed_if b (tokens_at Alternatives c)) is)
    (of_unit rule (suc d) s (placed (enclosed_if true (tokens_at Alternatives c))) c
    (subst (λ (l : List Placed). Reads grammar.Unit (suc d) s l c) (sym (placed_enclosed (tokens_at Alternatives c)))
    (parentheses 0 0 h)))

-- ---- each condition

shows_or : (d : ℕ) (s : Bool) (a b : Cond) → Shows Alternatives d s a → Shows Conjunction d s b
    → Shows Alternatives d s (conditions.Or a b)
shows_or d s a b h k =
    shows_as Alternatives d s (conditions.Or a b) (tokens_at Alternatives a ++ (Or ∷ tokens_at Conjunction b))
    (or_tokens Alternatives a b)
    (subst (λ (l : List Placed). Reads Alternatives d s l (conditions.Or a b))
    (sym (placed_joined (tokens_at Alternatives a) (Or ∷ tokens_at Conjunction b))) (grammar.or 0 h k))

shows_and : (d : ℕ) (s : Bool) (a b : Cond) → Shows Conjunction d s a → Shows grammar.Unit d s b
    → Shows Conjunction d s (conditions.And a b)
shows_and d s a b h k =
    shows_as Conjunction d s (conditions.And a b) (tokens_at Conjunction a ++ (And ∷ tokens_at grammar.Unit b))
    (and_tokens Conjunction a b)
    (subst (λ (l : List Placed). Reads Conjunction d s l (conditions.And a b))
    (sym (placed_joined (tokens_at Conjunction a) (And ∷ tokens_at grammar.Unit b))) (grammar.and 0 h k))

and_alone : (d : ℕ) (s : Bool) (a b : Cond) → Shows Conjunction d s (conditions.And a b)
    → Shows Alternatives d s (conditions.And a b)
and_alone d s a b h =
    shows_as Alternatives d s (conditions.And a b) (tokens_at Conjunction (conditions.And a b))
    (and_tokens Alternatives a b ∙ sym (and_tokens Conjunction a b)) (conjunction h)

scope_unit : (side : Bool) (d : ℕ) (c : Cond) → Shows Alternatives d false c
    → Reads grammar.Unit (suc d) true (placed (scope_token side ∷ enclosed_if true (tokens_at Alternatives c)))
    (conditions.Scope side c)
scope_unit true d c h =
    subst (λ (l : List Placed). Reads grammar.Unit (suc d) true ((Inputs, 0) ∷ l) (conditions.Scope true c))
    (sym (placed_enclosed (tokens_at Alternatives c))) (inputs 0 0 0 h)
scope_unit false d c h =
    subst (λ (l : List Placed). Reads grammar.Unit (suc d) true ((Outputs, 0) ∷ l) (conditions.Scope false c))
    (sym (placed_enclosed (tokens_at Alternatives c))) (outputs 0 0 0 h)

shows_scope : (rule : Rule) (side : Bool) (d : ℕ) (c : Cond) → Shows Alternatives d false c
    → Shows rule (suc d) true (conditions.Scope side c)
shows_scope rule side d c h =
    let tokens : List Token = scope_token side ∷ enclosed_if true (tokens_at Alternatives c) in
    shows_as rule (suc d) true (conditions.Scope side c) tokens (scope_tokens rule side c)
    (of_unit rule (suc d) true (placed tokens) (conditions.Scope side c) (scope_unit side d c h))

pub the_value : (t : Token) (v : FilterValue) → IsValue t v → t ≡ value_token v
the_value _ _ (Text bytes) = refl
the_value _ _ (Decimal n) = refl
the_value _ _ (Parameter n) = refl

shows_is : (rule : Rule) (d : ℕ) (s : Bool) (name : List ℕ) (t : Token) (v : FilterValue) → IsValue t v
    → Shows rule d s (conditions.Is name v)
shows_is rule d s name t v is =
    let tokens : List Token = Name name ∷ Equals ∷ value_token v ∷ [] in
    shows_as rule d s (conditions.Is name v) tokens (is_tokens rule name v)
    (of_unit rule d s (placed tokens) (conditions.Is name v)
    (comparison 0 0 0 (subst (λ (t : Token). IsValue t v) (the_value t v is) is)))

-- ---- all of them

-- the tokens by this rule and on their own read as the condition
pub record ShowsBoth (rule : Rule) (d : ℕ) (s : Bool) (c : Cond) : Type 0 where
  pub by_rule : Shows rule d s c
  pub alone : Shows Alternatives d s c

from_unit : (d : ℕ) (s : Bool) (c : Cond) → ShowsBoth grammar.Unit d s c → ShowsBoth Conjunction d s c
from_unit d s c h = record { by_rule = by (cases_Bool (is_enclosed Conjunction c)); alone = h.alone }
  where
    by : (is_enclosed Conjunction c ≡ true) ⊎ (is_enclosed Conjunction c ≡ false) → Shows Conjunction d s c
    by (inl is) =
        let same : tokens_at Conjunction c ≡ tokens_at grammar.Unit c =
        enclosed_at Conjunction c
        ∙ ap (λ (b : Bool). enclosed_if b (tokens_at Alternatives c)) (is ∙ sym (enclosed_under c is))
        ∙ sym (enclosed_at grammar.Unit c) in
        shows_as Conjunction d s c (tokens_at grammar.Unit c) same (unit h.by_rule)
    by (inr not) = shows_bare Conjunction d s c not h.alone

from_parentheses : (d : ℕ) (s : Bool) (c : Cond) → Shows Alternatives d s c → ShowsBoth grammar.Unit (suc d) s c
from_parentheses d s c h = record { by_rule = by (cases_Bool (is_enclosed grammar.Unit c)); alone = up }
  where
    up : Shows Alternatives (suc d) s c
    up = deeper Alternatives d (suc d) s (placed (tokens_at Alternatives c)) c (omega arith) h

    by : (is_enclosed grammar.Unit c ≡ true) ⊎ (is_enclosed grammar.Unit c ≡ false) → Shows grammar.Unit (suc d) s c
    by (inl is) = shows_enclosed grammar.Unit d s c is h
    by (inr not) = shows_bare grammar.Unit (suc d) s c not up

shows : (rule : Rule) (d : ℕ) (s : Bool) (u : List Placed) (c : Cond) → Reads rule d s u c → ShowsBoth rule d s c
shows _ d s u c (conjunction h) =
    let r = shows Conjunction d s u c h in record { by_rule = r.alone; alone = r.alone }
shows _ d s _ _ (grammar.or {u = u} {w = w} {a = a} {b = b} at h k) =
    let r = shows_or d s a b (shows Alternatives d s u a h).by_rule (shows Conjunction d s w b k).by_rule in
    record { by_rule = r; alone = r }
shows _ d s u c (unit h) = from_unit d s c (shows grammar.Unit d s u c h)
shows _ d s _ _ (grammar.and {u = u} {w = w} {a = a} {b = b} at h k) =
    let r = shows_and d s a b (shows Conjunction d s u a h).by_rule (shows grammar.Unit d s w b k).by_rule in
    record { by_rule = r; alone = and_alone d s a b r }
shows _ (suc d) s _ c (parentheses {u = u} at close h) = from_parentheses d s c (shows Alternatives d s u c h).alone
shows _ (suc d) _ _ _ (inputs {u = u} {c = c} at first close h) =
    let r = (shows Alternatives d false u c h).alone in
    record { by_rule = shows_scope grammar.Unit true d c r; alone = shows_scope Alternatives true d c r }
shows _ (suc d) _ _ _ (outputs {u = u} {c = c} at first close h) =
    let r = (shows Alternatives d false u c h).alone in
    record { by_rule = shows_scope grammar.Unit false d c r; alone = shows_scope Alternatives false d c r }
shows _ d s _ _ (comparison {name = name} {token = t} {value = v} at equals place h) =
    record { by_rule = shows_is grammar.Unit d s name t v h; alone = shows_is Alternatives d s name t v h }

-- ---- what can be written

all_parts : (F : Token → Type 0) (a b : List Token) → AllByRecursion F (a ++ b)
    → AllByRecursion F a × AllByRecursion F b
all_parts F [] b h = (tt, h)
all_parts F (t ∷ a) b h = let parts = all_parts F a b h.1 in ((h.0, parts.0), parts.1)

-- can be written
abbrev Fine : List Token → Type 0
Fine tokens = AllByRecursion CanBeWritten tokens

fine_parts : (u w : List Placed) → Fine (kinds (u ++ w)) → Fine (kinds u) × Fine (kinds w)
fine_parts u w h =
    all_parts CanBeWritten (kinds u) (kinds w)
    (subst Fine (map-append (λ (p : Placed). p.0) u w) h)

fine_enclosed : (b : Bool) (ts : List Token) → Fine ts → Fine (enclosed_if b ts)
fine_enclosed true ts h = (tt, all_joined CanBeWritten ts (Close ∷ []) h (tt, tt))
fine_enclosed false ts h = h

fine_bare : (b : Bool) (ts : List Token) → Fine (enclosed_if b ts) → Fine ts
fine_bare true ts h = (all_parts CanBeWritten ts (Close ∷ []) h.1).0
fine_bare false ts h = h

-- by one rule and by another
fine_rules : (rule other : Rule) (c : Cond) → Fine (tokens_at rule c) → Fine (tokens_at other c)
fine_rules rule other c h =
    subst Fine (sym (enclosed_at other c))
    (fine_enclosed (is_enclosed other c) (tokens_at Alternatives c)
    (fine_bare (is_enclosed rule c) (tokens_at Alternatives c) (subst Fine (enclosed_at rule c) h)))

fine_pair : (a b : List Token) (t : Token) → CanBeWritten t → Fine a → Fine b → Fine (a ++ (t ∷ b))
fine_pair a b t can h k = all_joined CanBeWritten a (t ∷ b) h (can, k)

fine_scope : (side : Bool) (c : Cond) → Fine (tokens_at Alternatives c)
    → Fine (tokens_at grammar.Unit (conditions.Scope side c))
fine_scope true c h =
    subst Fine (sym (scope_tokens grammar.Unit true c)) (tt, fine_enclosed true (tokens_at Alternatives c) h)
fine_scope false c h =
    subst Fine (sym (scope_tokens grammar.Unit false c)) (tt, fine_enclosed true (tokens_at Alternatives c) h)

-- The tokens that are printed can be written where those that read so can.
pub shown_formed : (rule : Rule) (d : ℕ) (s : Bool) (u : List Placed) (c : Cond) → Reads rule d s u c
    → Fine (kinds u) → Fine (tokens_at rule c)
shown_formed _ d s u c (conjunction h) fine =
    fine_rules Conjunction Alternatives c (shown_formed Conjunction d s u c h fine)
shown_formed _ d s _ _ (grammar.or {u = u} {w = w} {a = a} {b = b} at h k) fine =
    let parts = fine_parts u ((Or, at) ∷ w) fine in
    subst Fine (sym (or_tokens Alternatives a b))
    (fine_pair (tokens_at Alternatives a) (tokens_at Conjunction b) Or tt (shown_formed Alternatives d s u a h parts.0)
    (shown_formed Conjunction d s w b k parts.1.1))
shown_formed _ d s u c (unit h) fine =
    fine_rules grammar.Unit Conjunction c (shown_formed grammar.Unit d s u c h fine)
shown_formed _ d s _ _ (grammar.and {u = u} {w = w} {a = a} {b = b} at h k) fine =
    let parts = fine_parts u ((And, at) ∷ w) fine in
    subst Fine (sym (and_tokens Conjunction a b))
    (fine_pair (tokens_at Conjunction a) (tokens_at grammar.Unit b) And tt (shown_formed Conjunction d s u a h parts.0)
    (shown_formed grammar.Unit d s w b k parts.1.1))
shown_formed _ (suc d) s _ c (parentheses {u = u} at close h) fine =
    fine_rules Alternatives grammar.Unit c
    (shown_formed Alternatives d s u c h (fine_parts u ((Close, close) ∷ []) fine.1).0)
shown_formed _ (suc d) _ _ _ (inputs {u = u} {c = c} at first close h) fine =
    fine_scope true c (shown_formed Alternatives d false u c h (fine_parts u ((Close, close) ∷ []) fine.1.1).0)
shown_formed _ (suc d) _ _ _ (outputs {u = u} {c = c} at first close h) fine =
    fine_scope false c (shown_formed Alternatives d false u c h (fine_parts u ((Close, close) ∷ []) fine.1.1).0)
shown_formed _ d s _ _ (comparison {name = name} {token = t} {value = v} at equals place h) fine =
    subst Fine (sym (is_tokens grammar.Unit name v))
    (fine.0, (tt, (subst CanBeWritten (the_value t v h) fine.1.1.0, tt)))

-- What some tokens read as, those that are printed of it do, wherever they stand.
pub shown_again : (rule : Rule) (d : ℕ) (s : Bool) (u w : List Placed) (c : Cond) → Reads rule d s u c
    → kinds w ≡ tokens_at rule c → Reads rule d s w c
shown_again rule d s u w c h is =
    replaced rule d s (placed (tokens_at rule c)) c (shows rule d s u c h).by_rule w
    (is ∙ sym (unplaced_placed (tokens_at rule c)))
