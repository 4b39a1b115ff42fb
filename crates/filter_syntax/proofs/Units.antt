-- A unit comes out as the parser goes: by its first token.
use Rattle.std.specs.Prelude.{◌≡◌, ℕ, suc, Bool, true, false, List, [], ◌∷◌, ◌++◌, Some, refl}
use Rattle.std.proofs.Common.{sym, ap, ◌∙◌, inl, inr, subst, true≢false, arith}
use Rattle.std.proofs.lemmas.Option.{none-some, same_Some}
use mathlib.Core.List.{append-nil}
use Rattle.grammars.specs.Text.{next}
use Rattle.grammars.specs.Outcome.{Outcome, Got, Wrong, ◌>>=◌}
use Rattle.grammars.specs.Part.{Part, NoMore, Completes, Decides}
use Rattle.grammars.specs.Heads.{After, Is, Example, expect, decides_after, decides_as, decides_wrong}
use Rattle.grammars.specs.Heads.{decides_expect}
use Rattle.grammars.specs.Sequence.{all_joined}
use Rattle.grammars.specs.Bits.{Made, Closed, Opened, decides_made, decides_closed, decides_opened}
use Rattle.filter_syntax.specs.declared.tree.Cond.{Cond}
use Rattle.filter_syntax.specs.declared.tree.Cond.TheVariants as conditions
use Rattle.filter_syntax.specs.declared.tree.FilterValue.{FilterValue}
use Rattle.filter_syntax.specs.declared.tree.FilterValue.TheVariants as values
use Rattle.filter_syntax.specs.Token.{Token, Open, Close, Equals, Inputs, Outputs, Name, Quoted, Number, Param}
use Rattle.filter_syntax.specs.Tokens.{Placed}
use Rattle.filter_syntax.specs.Grammar.{Rule, Alternatives, Conjunction, Reads, parentheses, inputs, outputs, comparison}
use Rattle.filter_syntax.specs.Grammar.{IsValue, Text, Decimal, Parameter}
use Rattle.filter_syntax.specs.Grammar as grammar
use Rattle.filter_syntax.specs.Descent.{Reader, opens, closes, equals, value_of, alternatives_by, enclosed_by, scope_by}
use Rattle.filter_syntax.specs.Descent.{unit_at}
use Rattle.filter_syntax.specs.Descent as descent
use Rattle.filter_syntax.proofs.Rules.{Comes, Fine, GoesOr, some_unit, decides_alternatives}

-- ---- tokens that stand for themselves

the_open : (t : Placed) (e : Unit {0}) → opens t ≡ Some e → t ≡ (Open, t.1)
the_open (Open, at) e is = refl
the_open _ e is = absurd (none-some e is)

the_close : (t : Placed) (e : Unit {0}) → closes t ≡ Some e → t ≡ (Close, t.1)
the_close (Close, at) e is = refl
the_close _ e is = absurd (none-some e is)

the_equals : (t : Placed) (e : Unit {0}) → equals t ≡ Some e → t ≡ (Equals, t.1)
the_equals (Equals, at) e is = refl
the_equals _ e is = absurd (none-some e is)

opening : Example Fine opens
opening = record { token = (Open, 0); value = tt; fine = tt; means = refl }

closing : Example Fine closes
closing = record { token = (Close, 0); value = tt; fine = tt; means = refl }

equality : Example Fine equals
equality = record { token = (Equals, 0); value = tt; fine = tt; means = refl }

zero_value : Example Fine value_of
zero_value = record { token = (Number 0, 0); value = values.Number 0; fine = omega arith; means = refl }

value_is : (t : Placed) (v : FilterValue) → value_of t ≡ Some v → IsValue t.0 v
value_is (Quoted bytes, at) v is = subst (IsValue (Quoted bytes)) (same_Some _ v is) (Text bytes)
value_is (Number n, at) v is = subst (IsValue (Number n)) (same_Some _ v is) (Decimal n)
value_is (Param n, at) v is = subst (IsValue (Param n)) (same_Some _ v is) (Parameter n)
value_is _ v is = absurd (none-some v is)

is_value : (t : Token) (v : FilterValue) → IsValue t v → (at : ℕ) → value_of (t, at) ≡ Some v
is_value _ _ (Text bytes) at = refl
is_value _ _ (Decimal n) at = refl
is_value _ _ (Parameter n) at = refl

-- ---- what a unit begins with

-- a unit may begin with this token
abbrev begins : ℕ → Bool → Placed → Bool
begins depth scopes (Name name, at) = true
begins (suc depth) scopes (Open, at) = true
begins (suc depth) true (Inputs, at) = true
begins (suc depth) true (Outputs, at) = true
begins depth scopes t = false

abbrev begins_list : ℕ → Bool → List Placed → Bool
begins_list depth scopes [] = false
begins_list depth scopes (t ∷ ts) = begins depth scopes t

begun : (depth : ℕ) (scopes : Bool) (u : List Placed) (c : Cond) → Reads grammar.Unit depth scopes u c → (r : List Placed)
    → begins_list depth scopes (u ++ r) ≡ true
begun _ _ _ _ (parentheses at close h) r = refl
begun _ _ _ _ (inputs at first close h) r = refl
begun _ _ _ _ (outputs at first close h) r = refl
begun _ _ _ _ (comparison at first place h) r = refl

by_next : (depth : ℕ) (scopes : Bool) (a b : List Placed) → next a ≡ next b → begins_list depth scopes a
    ≡ begins_list depth scopes b
by_next depth scopes [] [] same = refl
by_next depth scopes [] (b ∷ bs) same = absurd (none-some b same)
by_next depth scopes (a ∷ front) [] same = absurd (none-some a (sym same))
by_next depth scopes (a ∷ front) (b ∷ bs) same = ap (begins depth scopes) (same_Some a b same)

wrong_unit : (depth : ℕ) (scopes : Bool) (ts : List Placed) → begins_list depth scopes ts ≡ false
    → Decides Fine (Reads grammar.Unit depth scopes) (Reads grammar.Unit depth scopes) NoMore ts (Wrong ts)
wrong_unit depth scopes ts not = decides_wrong Fine (Reads grammar.Unit depth scopes)
    (Reads grammar.Unit depth scopes) NoMore ts (some_unit grammar.Unit depth scopes) (λ u r c h same.
    absurd (true≢false (sym (begun depth scopes u c h r) ∙ by_next depth scopes (u ++ r) ts same ∙ not)))

-- ---- comparisons

abbrev Compared : List ℕ → Part Placed Cond
Compared name = Opened equals (λ e. Made (λ v. conditions.Is name v) (Is value_of))

abbrev name_of : Placed → List ℕ
name_of (Name name, at) = name
name_of _ = []

abbrev is_name : Placed → Bool
is_name (Name name, at) = true
is_name _ = false

compared : (depth : ℕ) (scopes : Bool) (name : List ℕ) (at : ℕ) (u : List Placed) (c : Cond)
    → After (Name name, at) (Compared name) u c → Reads grammar.Unit depth scopes u c
compared depth scopes name at u c h =
    let o = h.reads in
    let m = o.reads_second in
    let v = m.reads_first in
    let e : Placed = o.reads_first.token in
    let eq : o.first ≡ (Equals, e.1) ∷ [] = o.reads_first.one
    ∙ ap (λ t. t ∷ []) (the_equals e o.value o.reads_first.means) in
    let all : u ≡ (Name name, at) ∷ (Equals, e.1) ∷ v.token ∷ [] = h.joined ∙ ap (λ w. (Name name, at) ∷ w)
    (o.joined ∙ ap (λ f. f ++ o.second) eq
    ∙ ap (λ w. (Equals, e.1) ∷ w) (m.joined ∙ ap (λ w. m.first ++ w) m.reads_second.0 ∙ append-nil m.first ∙ v.one)) in
    subst (λ u. Reads grammar.Unit depth scopes u c) (sym all)
    (subst (λ c. Reads grammar.Unit depth scopes ((Name name, at) ∷ (Equals, e.1) ∷ v.token ∷ []) c) (sym m.reads_second.1)
    (comparison at e.1 v.token.1 (value_is v.token m.value v.means)))

of_compared : (depth : ℕ) (scopes : Bool) (name : List ℕ) (at : ℕ) (u r : List Placed) (c : Cond)
    → Reads grammar.Unit depth scopes u c → next (u ++ r) ≡ Some (Name name, at)
    → After (Name name, at) (Compared name) u c
of_compared _ _ name at _ r _ (parentheses p _ h) same =
    absurd (true≢false (ap is_name (sym (same_Some (Open, p) (Name name, at) same))))
of_compared _ _ name at _ r _ (inputs p _ _ h) same =
    absurd (true≢false (ap is_name (sym (same_Some (Inputs, p) (Name name, at) same))))
of_compared _ _ name at _ r _ (outputs p _ _ h) same =
    absurd (true≢false (ap is_name (sym (same_Some (Outputs, p) (Name name, at) same))))
of_compared _ _ name at _ r _ (comparison {name = found} {token = token} {value = value} p eq place h) same =
    let one : (Name found, p) ≡ (Name name, at) = same_Some (Name found, p) (Name name, at) same in
    record {
      behind = (Equals, eq) ∷ (token, place) ∷ [];
      joined = ap (λ t. t ∷ (Equals, eq) ∷ (token, place) ∷ []) one;
      reads = record {
        first = (Equals, eq) ∷ [];
        second = (token, place) ∷ [];
        value = tt;
        joined = refl;
        reads_first = record { token = (Equals, eq); one = refl; means = refl };
        reads_second = record {
          first = (token, place) ∷ [];
          second = [];
          value = value;
          joined = refl;
          reads_first = record { token = (token, place); one = refl; means = is_value token value h place };
          reads_second = (refl, ap (λ n. conditions.Is n value) (ap name_of one));
        };
      };
    }

decides_comparison : (depth : ℕ) (scopes : Bool) (name : List ℕ) (at : ℕ) (ts : List Placed)
    → Decides Fine (Reads grammar.Unit depth scopes) (Reads grammar.Unit depth scopes) NoMore ((Name name, at) ∷ ts)
    (descent.comparison name ts)
decides_comparison depth scopes name at ts =
    decides_as Fine (Reads grammar.Unit depth scopes) (Reads grammar.Unit depth scopes)
    (After (Name name, at) (Compared name)) (After (Name name, at) (Compared name)) NoMore NoMore ((Name name, at) ∷ ts) (λ t c. c)
    (compared depth scopes name at) (compared depth scopes name at)
    (λ u r c h same. inl (of_compared depth scopes name at u r c h same))
    (λ u r c h same. inl (of_compared depth scopes name at u r c h same)) (descent.comparison name ts)
    (decides_after Fine (Name name, at) (Compared name) (Compared name) NoMore ts (descent.comparison name ts)
    (decides_opened Fine equals equality (λ e. Made (λ v. conditions.Is name v) (Is value_of))
    (λ e. Made (λ v. conditions.Is name v) (Is value_of)) NoMore ts (λ e u c h. h)
    (λ e. some_value name) (λ e. expect value_of e.1 >>= λ v. Got (conditions.Is name v.0) v.1)
    (λ e rest. decides_made Fine (λ v. conditions.Is name v) (Is value_of) (Is value_of) NoMore rest (λ u v h. h)
    (expect value_of rest) (decides_expect Fine value_of zero_value NoMore rest))))
  where
    some_value : (name : List ℕ) → Completes Fine (Made (λ v. conditions.Is name v) (Is value_of)) []
    some_value name = record {
      more = (Number 0, 0) ∷ [];
      value = conditions.Is name (values.Number 0);
      fine = (omega arith, tt);
      reads = record {
        first = (Number 0, 0) ∷ [];
        second = [];
        value = values.Number 0;
        joined = refl;
        reads_first = record { token = (Number 0, 0); one = refl; means = refl };
        reads_second = (refl, refl);
      };
    }

-- ---- parentheses

-- what a condition goes on with does not close it
not_closing : (t : Placed) (e : Unit {0}) → closes t ≡ Some e → GoesOr t → ⊥
not_closing (Close, at) e is (inl goes) = true≢false (sym goes)
not_closing (Close, at) e is (inr goes) = true≢false (sym goes)
not_closing _ e is goes = none-some e is

abbrev Inner : ℕ → Bool → Part Placed Cond
Inner depth scopes = Closed closes (Reads Alternatives depth scopes)

-- what stands in parentheses, with the last of them
pub record InnerIs (depth : ℕ) (scopes : Bool) (u : List Placed) (c : Cond) : Type 0 where
  pub inside : List Placed
  pub close : ℕ
  pub all : u ≡ inside ++ ((Close, close) ∷ [])
  pub reads : Reads Alternatives depth scopes inside c

inner_is : (depth : ℕ) (scopes : Bool) (u : List Placed) (c : Cond) → Inner depth scopes u c → InnerIs depth scopes u c
inner_is depth scopes u c h =
    let k = h.reads_second in
    let t : Placed = k.reads_first.token in
    let close : k.first ≡ (Close, t.1) ∷ [] = k.reads_first.one
    ∙ ap (λ t. t ∷ []) (the_close t k.value k.reads_first.means) in
    record {
      inside = h.first;
      close = t.1;
      all = h.joined ∙ ap (λ w. h.first ++ w) (k.joined ∙ ap (λ w. k.first ++ w) k.reads_second.0 ∙ append-nil k.first
          ∙ close);
      reads = subst (λ c. Reads Alternatives depth scopes h.first c) (sym k.reads_second.1) h.reads_first;
    }

is_inner : (depth : ℕ) (scopes : Bool) (w : List Placed) (c : Cond) (close : ℕ) → Reads Alternatives depth scopes w c
    → Inner depth scopes (w ++ ((Close, close) ∷ [])) c
is_inner depth scopes w c close h = record {
  first = w;
  second = (Close, close) ∷ [];
  value = c;
  joined = refl;
  reads_first = h;
  reads_second = record {
    first = (Close, close) ∷ [];
    second = [];
    value = tt;
    joined = refl;
    reads_first = record { token = (Close, close); one = refl; means = refl };
    reads_second = (refl, refl);
  };
}

parenthesized : (depth : ℕ) (scopes : Bool) (at : ℕ) (u : List Placed) (c : Cond)
    → After (Open, at) (Inner depth scopes) u c → Reads grammar.Unit (suc depth) scopes u c
parenthesized depth scopes at u c h =
    let i = inner_is depth scopes h.behind c h.reads in
    subst (λ u. Reads grammar.Unit (suc depth) scopes u c) (sym (h.joined ∙ ap (λ w. (Open, at) ∷ w) i.all))
    (parentheses at i.close i.reads)

abbrev is_open : Placed → Bool
is_open (Open, at) = true
is_open _ = false

of_parenthesized : (depth : ℕ) (scopes : Bool) (at : ℕ) (u r : List Placed) (c : Cond)
    → Reads grammar.Unit (suc depth) scopes u c → next (u ++ r) ≡ Some (Open, at) → After (Open, at) (Inner depth scopes) u c
of_parenthesized depth scopes at _ r c (parentheses {u = w} p close h) same = record {
  behind = w ++ ((Close, close) ∷ []);
  joined = ap (λ t. t ∷ (w ++ ((Close, close) ∷ []))) (same_Some (Open, p) (Open, at) same);
  reads = is_inner depth scopes w c close h;
}
of_parenthesized depth _ at _ r _ (inputs p _ _ h) same =
    absurd (true≢false (ap is_open (sym (same_Some (Inputs, p) (Open, at) same))))
of_parenthesized depth _ at _ r _ (outputs p _ _ h) same =
    absurd (true≢false (ap is_open (sym (same_Some (Outputs, p) (Open, at) same))))
of_parenthesized depth _ at _ r _ (comparison {name = n} p _ _ h) same =
    absurd (true≢false (ap is_open (sym (same_Some (Name n, p) (Open, at) same))))

decides_inner : (depth : ℕ) (scopes : Bool) → Comes grammar.Unit depth scopes (unit_at depth scopes) → (ts : List Placed)
    → Decides Fine (Inner depth scopes) (Inner depth scopes) NoMore ts
    (enclosed_by (alternatives_by (unit_at depth scopes)) ts)
decides_inner depth scopes comes ts = decides_closed Fine closes closing (Reads Alternatives depth scopes)
    (Reads Alternatives depth scopes) GoesOr NoMore ts (λ u c h. h) not_closing (alternatives_by (unit_at depth scopes) ts)
    (decides_alternatives depth scopes (unit_at depth scopes) comes ts)

decides_parentheses : (depth : ℕ) (scopes : Bool) → Comes grammar.Unit depth scopes (unit_at depth scopes)
    → (at : ℕ) (ts : List Placed)
    → Decides Fine (Reads grammar.Unit (suc depth) scopes) (Reads grammar.Unit (suc depth) scopes) NoMore
    ((Open, at) ∷ ts) (enclosed_by (alternatives_by (unit_at depth scopes)) ts)
decides_parentheses depth scopes comes at ts =
    decides_as Fine (Reads grammar.Unit (suc depth) scopes) (Reads grammar.Unit (suc depth) scopes)
    (After (Open, at) (Inner depth scopes)) (After (Open, at) (Inner depth scopes)) NoMore NoMore ((Open, at) ∷ ts) (λ t c. c)
    (parenthesized depth scopes at) (parenthesized depth scopes at)
    (λ u r c h same. inl (of_parenthesized depth scopes at u r c h same))
    (λ u r c h same. inl (of_parenthesized depth scopes at u r c h same)) (enclosed_by (alternatives_by (unit_at depth scopes)) ts)
    (decides_after Fine (Open, at) (Inner depth scopes) (Inner depth scopes) NoMore ts
    (enclosed_by (alternatives_by (unit_at depth scopes)) ts) (decides_inner depth scopes comes ts))

-- ---- scopes

-- the word of a scope
abbrev word : Bool → Token
word true = Inputs
word false = Outputs

abbrev Scoped : Bool → ℕ → Part Placed Cond
Scoped side depth = Made (λ c. conditions.Scope side c) (Opened opens (λ e. Inner depth false))

scope_reads : (side : Bool) (depth : ℕ) (at first close : ℕ) (w : List Placed) (c : Cond)
    → Reads Alternatives depth false w c
    → Reads grammar.Unit (suc depth) true ((word side, at) ∷ (Open, first) ∷ (w ++ ((Close, close) ∷ [])))
    (conditions.Scope side c)
scope_reads true depth at first close w c h = inputs at first close h
scope_reads false depth at first close w c h = outputs at first close h

scoped : (side : Bool) (depth : ℕ) (at : ℕ) (u : List Placed) (c : Cond) → After (word side, at) (Scoped side depth) u c
    → Reads grammar.Unit (suc depth) true u c
scoped side depth at u c h =
    let m = h.reads in
    let o = m.reads_first in
    let i = inner_is depth false o.second m.value o.reads_second in
    let t : Placed = o.reads_first.token in
    let open_first : o.first ≡ (Open, t.1) ∷ [] = o.reads_first.one
    ∙ ap (λ t. t ∷ []) (the_open t o.value o.reads_first.means) in
    let all : u ≡ (word side, at) ∷ (Open, t.1) ∷ (i.inside ++ ((Close, i.close) ∷ [])) = h.joined
    ∙ ap (λ w. (word side, at) ∷ w)
    (m.joined ∙ ap (λ w. m.first ++ w) m.reads_second.0 ∙ append-nil m.first ∙ o.joined
    ∙ ap (λ f. f ++ o.second) open_first ∙ ap (λ w. (Open, t.1) ∷ w) i.all) in
    subst (λ u. Reads grammar.Unit (suc depth) true u c) (sym all)
    (subst (λ c. Reads grammar.Unit (suc depth) true ((word side, at) ∷ (Open, t.1) ∷ (i.inside ++ ((Close, i.close) ∷ []))) c)
    (sym m.reads_second.1) (scope_reads side depth at t.1 i.close i.inside m.value i.reads))

is_scoped : (side : Bool) (depth : ℕ) (word_is : Placed) (first close : ℕ) (w : List Placed) (c : Cond)
    → Reads Alternatives depth false w c
    → After word_is (Scoped side depth) (word_is ∷ (Open, first) ∷ (w ++ ((Close, close) ∷ []))) (conditions.Scope side c)
is_scoped side depth word_is first close w c h = record {
  behind = (Open, first) ∷ (w ++ ((Close, close) ∷ []));
  joined = refl;
  reads = record {
    first = (Open, first) ∷ (w ++ ((Close, close) ∷ []));
    second = [];
    value = c;
    joined = sym (append-nil ((Open, first) ∷ (w ++ ((Close, close) ∷ []))));
    reads_first = record {
      first = (Open, first) ∷ [];
      second = w ++ ((Close, close) ∷ []);
      value = tt;
      joined = refl;
      reads_first = record { token = (Open, first); one = refl; means = refl };
      reads_second = is_inner depth false w c close h;
    };
    reads_second = (refl, refl);
  };
}

abbrev is_inputs : Placed → Bool
is_inputs (Inputs, at) = true
is_inputs _ = false

abbrev is_outputs : Placed → Bool
is_outputs (Outputs, at) = true
is_outputs _ = false

-- a unit that begins with a scope's word is one
of_inputs : (depth : ℕ) (at : ℕ) (u r : List Placed) (c : Cond) → Reads grammar.Unit (suc depth) true u c
    → next (u ++ r) ≡ Some (Inputs, at) → After (Inputs, at) (Scoped true depth) u c
of_inputs depth at _ r _ (inputs {u = w} {c = c} p first close h) same =
    subst (λ t. After t (Scoped true depth) ((Inputs, p) ∷ (Open, first) ∷ (w ++ ((Close, close) ∷ []))) (conditions.Scope true c))
    (same_Some (Inputs, p) (Inputs, at) same) (is_scoped true depth (Inputs, p) first close w c h)
of_inputs depth at _ r _ (outputs p _ _ h) same =
    absurd (true≢false (ap is_inputs (sym (same_Some (Outputs, p) (Inputs, at) same))))
of_inputs depth at _ r _ (parentheses p _ h) same =
    absurd (true≢false (ap is_inputs (sym (same_Some (Open, p) (Inputs, at) same))))
of_inputs depth at _ r _ (comparison {name = n} p _ _ h) same =
    absurd (true≢false (ap is_inputs (sym (same_Some (Name n, p) (Inputs, at) same))))

of_outputs : (depth : ℕ) (at : ℕ) (u r : List Placed) (c : Cond) → Reads grammar.Unit (suc depth) true u c
    → next (u ++ r) ≡ Some (Outputs, at) → After (Outputs, at) (Scoped false depth) u c
of_outputs depth at _ r _ (outputs {u = w} {c = c} p first close h) same =
    subst (λ t. After t (Scoped false depth) ((Outputs, p) ∷ (Open, first) ∷ (w ++ ((Close, close) ∷ [])))
    (conditions.Scope false c)) (same_Some (Outputs, p) (Outputs, at) same)
    (is_scoped false depth (Outputs, p) first close w c h)
of_outputs depth at _ r _ (inputs p _ _ h) same =
    absurd (true≢false (ap is_outputs (sym (same_Some (Inputs, p) (Outputs, at) same))))
of_outputs depth at _ r _ (parentheses p _ h) same =
    absurd (true≢false (ap is_outputs (sym (same_Some (Open, p) (Outputs, at) same))))
of_outputs depth at _ r _ (comparison {name = n} p _ _ h) same =
    absurd (true≢false (ap is_outputs (sym (same_Some (Name n, p) (Outputs, at) same))))

of_scoped : (side : Bool) (depth : ℕ) (at : ℕ) (u r : List Placed) (c : Cond) → Reads grammar.Unit (suc depth) true u c
    → next (u ++ r) ≡ Some (word side, at) → After (word side, at) (Scoped side depth) u c
of_scoped true = of_inputs
of_scoped false = of_outputs

decides_scope : (side : Bool) (depth : ℕ) → Comes grammar.Unit depth false (unit_at depth false) → (at : ℕ) (ts : List Placed)
    → Decides Fine (Reads grammar.Unit (suc depth) true) (Reads grammar.Unit (suc depth) true) NoMore
    ((word side, at) ∷ ts) (scope_by side (alternatives_by (unit_at depth false)) ts)
decides_scope side depth comes at ts =
    let inner : List Placed → Outcome Placed Cond = enclosed_by (alternatives_by (unit_at depth false)) in
    decides_as Fine (Reads grammar.Unit (suc depth) true) (Reads grammar.Unit (suc depth) true)
    (After (word side, at) (Scoped side depth)) (After (word side, at) (Scoped side depth)) NoMore NoMore ((word side, at) ∷ ts) (λ t c. c)
    (scoped side depth at) (scoped side depth at)
    (λ u r c h same. inl (of_scoped side depth at u r c h same)) (λ u r c h same. inl (of_scoped side depth at u r c h same))
    (scope_by side (alternatives_by (unit_at depth false)) ts)
    (decides_after Fine (word side, at) (Scoped side depth) (Scoped side depth) NoMore ts
    (scope_by side (alternatives_by (unit_at depth false)) ts)
    (decides_made Fine (λ c. conditions.Scope side c) (Opened opens (λ e. Inner depth false))
    (Opened opens (λ e. Inner depth false)) NoMore ts (λ u c h. h) (expect opens ts >>= λ o. inner o.1)
    (decides_opened Fine opens opening (λ e. Inner depth false) (λ e. Inner depth false) NoMore ts (λ e u c h. h)
    (λ e. some_inner depth) (λ o. inner o.1) (λ e rest. decides_inner depth false comes rest))))
  where
    some_inner : (depth : ℕ) → Completes Fine (Inner depth false) []
    some_inner depth = let c = some_unit Alternatives depth false in record {
      more = c.more ++ ((Close, 0) ∷ []);
      value = c.value;
      fine = all_joined Fine c.more ((Close, 0) ∷ []) c.fine (tt, tt);
      reads = is_inner depth false c.more c.value 0 c.reads;
    }

-- A unit comes out as the parser goes.
pub decides_unit : (depth : ℕ) (scopes : Bool) → Comes grammar.Unit depth scopes (unit_at depth scopes)
decides_unit depth scopes ((Name name, at) ∷ ts) = decides_comparison depth scopes name at ts
decides_unit (suc depth) scopes ((Open, at) ∷ ts) = decides_parentheses depth scopes (decides_unit depth scopes) at ts
decides_unit (suc depth) true ((Inputs, at) ∷ ts) = decides_scope true depth (decides_unit depth false) at ts
decides_unit (suc depth) true ((Outputs, at) ∷ ts) = decides_scope false depth (decides_unit depth false) at ts
decides_unit depth scopes ts = wrong_unit depth scopes ts refl
