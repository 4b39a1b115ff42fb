-- The counted limits in lists, calls and parentheses, and so in every expression, by the tree.
use Rattle.std.proofs.Common.{◌≡◌, ◌≤◌, ◌<◌, ◌+◌, ◌-◌, ◌&&◌, ℕ, suc, Bool, true, false, List, [], ◌∷◌, ◌++◌}
use Rattle.std.proofs.Common.{length, refl, ap, sym, ◌∙◌, subst, arith, None}
use Rattle.std.specs.Prelude.{nat_le}
use Rattle.std.proofs.lemmas.Bool.{and_parts, and_from, and_right, leb-true, le-leb}
use Rattle.std.proofs.lemmas.List.{length-append}
use Rattle.ivy_syntax.specs.declared.tree.Expr.{Expr}
use Rattle.ivy_syntax.specs.declared.tree.Form.TheVariants as forms
use Rattle.ivy_syntax.specs.declared.lexeme.Symbol.TheVariants as symbol
use Rattle.ivy_syntax.specs.declared.lexeme.Operator.{Operator}
use Rattle.ivy_syntax.specs.declared.lexeme.Kind.{Kind}
use Rattle.ivy_syntax.specs.declared.lexeme.Kind.TheVariants as kind
use Rattle.ivy_syntax.specs.Token.{Token}
use Rattle.ivy_syntax.specs.Token as token
use Rattle.ivy_syntax.specs.Tokens.{Placed}
use Rattle.ivy_syntax.specs.Token.{kind_of}
use Rattle.ivy_syntax.specs.declared.level.Level.{Level}
use Rattle.ivy_syntax.specs.Grammar.{Reads, alone, joined, compared, prefixed, one_token, empty_call, call}
use Rattle.ivy_syntax.specs.Grammar.{members, parentheses, Members, member, more_members, single, enclosed}
use Rattle.ivy_syntax.specs.Limits.{is_comma, takes_expressions, holds}
use Rattle.ivy_syntax.specs.TreeLimits.{operators, is_short}
use Rattle.ivy_syntax.proofs.LimitStates.{State, next, passed, member_passed, NonePasses, state_after, after_both}
use Rattle.ivy_syntax.proofs.LimitStates.{first_passes, second_passes, both_pass}
use Rattle.ivy_syntax.proofs.TreeCounts.{operators_of, are_short, all_short, operators_more, short_more}
use Rattle.ivy_syntax.proofs.TreeCounts.{call_operators, call_short, members_operators, members_short}
use Rattle.ivy_syntax.proofs.TreeCounts.{enclosed_operators, enclosed_short, single_is_plain}
use Rattle.ivy_syntax.proofs.LimitExpressions.{told_by, not_passed, nothing_told, less, test_less, TakesExpr, behind}
use Rattle.ivy_syntax.proofs.LimitExpressions.{ExprFits, ExprRead, within, listed, MembersFit, MembersRead, no_entry}
use Rattle.ivy_syntax.proofs.LimitExpressions.{is_enclosed, name_is_plain, single_read, prefixed_read, joined_read}

-- ---- brackets

-- what stands in a bracket, with so many operators
record Inside (s : State) (k : Kind) (u : List Placed) (count : ℕ) (Fits : Type 0) : Type 0 where
  last : Kind
  params : ℕ
  commas : ℕ
  no_comma : is_comma last ≡ false
  runs : state_after (within s k) u ≡ listed s (s.operators + count) last params commas
  to : NonePasses (within s k) u → Fits
  from : Fits → NonePasses (within s k) u

-- a token that closes a bracket
abbrev Closing : Kind → Type 0
Closing c = ((s : State) → passed s c ≡ told_by (member_passed s) 8 None)
    × ((s : State) (n : ℕ) (k : Kind) (p commas : ℕ) → next (listed s n k p commas) c ≡ behind s n c p)

-- and with the token that closes it
record Closed (s : State) (k c : Kind) (u : List Placed) (count : ℕ) (Fits : Type 0) : Type 0 where
  params : ℕ
  runs : state_after (within s k) u ≡ behind s (s.operators + count) c params
  to : NonePasses (within s k) u → Fits
  from : Fits → NonePasses (within s k) u

closed : (s : State) (k : Kind) (u : List Placed) (count : ℕ) (Fits : Type 0) (c : Token) (close : ℕ)
    → Closing (kind_of c) → Inside s k u count Fits → Closed s k (kind_of c) (u ++ ((c, close) ∷ [])) count Fits
closed s k u count Fits c close closing i =
    let t : List Placed = (c, close) ∷ [] in
    let m : State = listed s (s.operators + count) i.last i.params i.commas in
    record {
      params = i.params;
      runs = after_both (within s k) u t ∙ ap (λ s. state_after s t) i.runs
          ∙ closing.1 s (s.operators + count) i.last i.params i.commas;
      to = λ h. i.to (first_passes (within s k) u t h);
      from = λ f. both_pass (within s k) u t (i.from f) (subst (λ s. NonePasses s t) (sym i.runs)
          (closing.0 m ∙ nothing_told 8 (member_passed m) (no_entry m i.no_comma), tt));
    }

closes_paren : Closing (kind.Sign symbol.CloseParen)
closes_paren = (λ s. refl, λ s n k p commas. refl)

closes_bracket : Closing (kind.Sign symbol.CloseBracket)
closes_bracket = (λ s. refl, λ s n k p commas. refl)

-- a token that opens one
abbrev Opening : Kind → Type 0
Opening k = (s : State) → (passed s k ≡ told_by (member_passed s) 8 None) × (next s k ≡ within s k)

opens_paren : Opening (kind.Sign symbol.OpenParen)
opens_paren s = (refl, refl)

opens_bracket : Opening (kind.Sign symbol.OpenBracket)
opens_bracket s = (refl, refl)

-- what an expression comes to, apart from its first token
abbrev Bound : State → Expr → Type 0
Bound s e = (operators e ≤ 256 - s.operators) × (is_short e ≡ true)

bracket_read : (s : State) (t : Token) (place : ℕ) (e : Expr) (w : List Placed) (c : Kind) (count : ℕ) (Fits : Type 0)
    → Opening (kind_of t) → is_comma c ≡ false → operators e ≡ count → (Fits → Bound s e) → (Bound s e → Fits)
    → Closed s (kind_of t) c w count Fits → ExprRead s ((t, place) ∷ w) e
bracket_read s t place e w c count Fits opening no_comma is to_bound of_bound h =
    let same : next s (kind_of t) ≡ within s (kind_of t) = (opening s).1 in
    record {
      last = c;
      params = h.params;
      no_comma = no_comma;
      runs = ap (λ s. state_after s w) same ∙ h.runs ∙ ap (λ n. behind s (s.operators + n) c h.params) (sym is);
      to = λ k. (let bound = to_bound (h.to (subst (λ s. NonePasses s w) same k.1)) in
          record {
            entry = not_passed 8 (member_passed s) (sym (opening s).0 ∙ k.0);
            operators = bound.0;
            short = bound.1;
          });
      from = λ f. (
        (opening s).0 ∙ nothing_told 8 (member_passed s) f.entry,
        subst (λ s. NonePasses s w) (sym same) (h.from (of_bound (f.operators, f.short))),
      );
    }

-- after a name that is called
abbrev named : State → State
named s = record s { params = (next s kind.Name).params }

call_read : (s : State) (name : List ℕ) (place first : ℕ) (e : Expr) (w : List Placed) (c : Kind) (count : ℕ)
    (Fits : Type 0) → TakesExpr s → is_comma c ≡ false → operators e ≡ count → (Fits → Bound s e) → (Bound s e → Fits)
    → Closed (named s) (kind.Sign symbol.OpenParen) c w count Fits
    → ExprRead s ((token.Name name, place) ∷ (token.Sign symbol.OpenParen, first) ∷ w) e
call_read s name place first e w c count Fits at no_comma is to_bound of_bound h = record {
  last = c;
  params = h.params;
  no_comma = no_comma;
  runs = h.runs ∙ ap (λ n. behind s (s.operators + n) c h.params) (sym is);
  to = λ k. (let bound = to_bound (h.to k.1.1) in
      record {
        entry = not_passed 8 (member_passed s) (sym (name_is_plain s at) ∙ k.0);
        operators = bound.0;
        short = bound.1;
      });
  from = λ f. (
    name_is_plain s at ∙ nothing_told 8 (member_passed s) f.entry,
    (refl, h.from (of_bound (f.operators, f.short))),
  );
}

-- ---- members

in_bracket : (s : State) (k : Kind) → is_comma k ≡ false → TakesExpr s → TakesExpr (within s k)
in_bracket s k no_comma at = record {
  takes = at.takes;
  contract = at.contract;
  clause = at.clause;
  enclosed = is_enclosed (within s k) no_comma;
}

one_member : (s : State) (k : Kind) (u : List Placed) (e : Expr) → is_comma k ≡ false → ExprRead (within s k) u e
    → MembersRead s k u (e ∷ [])
one_member s k u e no_comma r = record {
  last = r.last;
  params = r.params;
  commas = 0;
  no_comma = r.no_comma;
  count = refl;
  runs = r.runs ∙ ap (λ n. listed s n r.last r.params 0) (omega arith);
  to = λ h. (let f = r.to h in
      record {
        few = omega arith;
        operators = omega (arith, f.operators);
        short = and_from (is_short e) true f.short refl;
      });
  from = λ f. r.from (record {
    entry = no_entry (within s k) no_comma;
    operators = omega (arith, f.operators);
    short = (and_parts (is_short e) true f.short).0;
  });
}

member_enters : (commas : ℕ) (takes : Bool) → takes ≡ true → (takes && nat_le 16 (suc commas)) ≡ false
    → suc commas < 16
member_enters commas true is h = less 16 (suc commas) h
member_enters commas false is h = absurd (cc)

enters_member : (commas : ℕ) (takes : Bool) → suc commas < 16 → (takes && nat_le 16 (suc commas)) ≡ false
enters_member commas takes h = and_right takes (nat_le 16 (suc commas)) (test_less 16 (suc commas) h)

abbrev comma : Kind
comma = kind.Sign symbol.Comma

one_member_more : (s : State) (k : Kind) (u w : List Placed) (items : List Expr) (e : Expr) (place : ℕ) → TakesExpr s
    → MembersRead s k u items → ((n p c : ℕ) → ExprRead (listed s n comma p (suc c)) w e)
    → MembersRead s k (u ++ ((token.Sign symbol.Comma, place) ∷ w)) (items ++ (e ∷ []))
one_member_more s k u w items e place at m right =
    let t : Placed = (token.Sign symbol.Comma, place) in
    let n : ℕ = s.operators + operators_of items in
    let here : State = listed s n m.last m.params m.commas in
    let r = right n m.params m.commas in
    let len : length (items ++ (e ∷ [])) ≡ length items + 1 = length-append items (e ∷ []) in
    let sums : operators_of (items ++ (e ∷ [])) ≡ operators_of items + operators e = operators_more items e in
    let count : suc m.commas ≡ length items = m.count in
    record {
      last = r.last;
      params = r.params;
      commas = suc m.commas;
      no_comma = r.no_comma;
      count = omega arith;
      runs = after_both (within s k) u (t ∷ w) ∙ ap (λ s. state_after s (t ∷ w)) m.runs ∙ r.runs
          ∙ ap (λ n. listed s n r.last r.params (suc m.commas)) (omega arith);
      to = λ h. (let first = m.to (first_passes (within s k) u (t ∷ w) h) in
          let second : NonePasses here (t ∷ w)
          = subst (λ s. NonePasses s (t ∷ w)) m.runs (second_passes (within s k) u (t ∷ w) h) in
          let rest = r.to second.1 in
          let enters : suc m.commas < 16
          = member_enters m.commas (holds takes_expressions s.section) at.takes rest.entry in
          record {
            few = omega arith;
            operators = omega (arith, first.operators, rest.operators);
            short = short_more items e ∙ and_from (are_short items) (is_short e && true) first.short
                (and_from (is_short e) true rest.short refl);
          });
      from = λ f. (let parts = and_parts (are_short items) (is_short e && true) (sym (short_more items e) ∙ f.short) in
          let small : operators_of (items ++ (e ∷ [])) ≤ 256 - s.operators = f.operators in
          let few : length (items ++ (e ∷ [])) ≤ 16 = f.few in
          both_pass (within s k) u (t ∷ w)
          (m.from (record { few = omega arith; operators = omega arith; short = parts.0 }))
          (subst (λ s. NonePasses s (t ∷ w)) (sym m.runs) (
            nothing_told 8 (member_passed here) (no_entry here m.no_comma),
            r.from (record {
              entry = enters_member m.commas (holds takes_expressions s.section) (omega arith);
              operators = omega arith;
              short = (and_parts (is_short e) true parts.1).0;
            }),
          )));
    }

members_inside : (s : State) (k : Kind) (u : List Placed) (items : List Expr) → MembersRead s k u items
    → Inside s k u (operators_of items) (MembersFit s items)
members_inside s k u items m = record {
  last = m.last;
  params = m.params;
  commas = m.commas;
  no_comma = m.no_comma;
  runs = m.runs;
  to = m.to;
  from = m.from;
}

expr_inside : (s : State) (k : Kind) (u : List Placed) (e : Expr) → ExprRead (within s k) u e
    → Inside s k u (operators e) (ExprFits (within s k) e)
expr_inside s k u e r = record {
  last = r.last;
  params = r.params;
  commas = 0;
  no_comma = r.no_comma;
  runs = r.runs;
  to = r.to;
  from = r.from;
}

fits_all : (s : State) (items : List Expr) → MembersFit s items
    → (operators_of items ≤ 256 - s.operators) × (all_short items ≡ true)
fits_all s items f =
    (f.operators, and_from (nat_le (length items) 16) (are_short items) (le-leb (length items) 16 f.few) f.short)

all_fit : (s : State) (items : List Expr) → operators_of items ≤ 256 - s.operators → all_short items ≡ true
    → MembersFit s items
all_fit s items most short =
    let parts = and_parts (nat_le (length items) 16) (are_short items) short in
    record { few = leb-true (length items) 16 parts.0; operators = most; short = parts.1 }

-- by an expression that has as many operators as the list, and is short where the list is
bound_of : (s : State) (items : List Expr) (e : Expr) → operators e ≡ operators_of items → is_short e ≡ all_short items
    → MembersFit s items → Bound s e
bound_of s items e count short f =
    let all = fits_all s items f in
    let most : operators_of items ≤ 256 - s.operators = all.0 in
    (omega arith, short ∙ all.1)

of_bound : (s : State) (items : List Expr) (e : Expr) → operators e ≡ operators_of items → is_short e ≡ all_short items
    → Bound s e → MembersFit s items
of_bound s items e count short b =
    let most : operators e ≤ 256 - s.operators = b.0 in all_fit s items (omega arith) (sym short ∙ b.1)

-- ---- every expression

list_read : (s : State) (place close : ℕ) (u : List Placed) (items : List Expr)
    → MembersRead s (kind.Sign symbol.OpenBracket) u items
    → ExprRead s ((token.Sign symbol.OpenBracket, place) ∷ (u ++ ((token.Sign symbol.CloseBracket, close) ∷ [])))
    (single place (forms.Members items))
list_read s place close u items m =
    let e : Expr = single place (forms.Members items) in
    bracket_read s (token.Sign symbol.OpenBracket) place e (u ++ ((token.Sign symbol.CloseBracket, close) ∷ []))
    (kind.Sign symbol.CloseBracket) (operators_of items) (MembersFit s items) opens_bracket refl
    (members_operators place items) (bound_of s items e (members_operators place items) (members_short place items))
    (of_bound s items e (members_operators place items) (members_short place items))
    (closed s (kind.Sign symbol.OpenBracket) u (operators_of items) (MembersFit s items)
    (token.Sign symbol.CloseBracket) close closes_bracket
    (members_inside s (kind.Sign symbol.OpenBracket) u items m))

called_read : (s : State) (name : List ℕ) (place first last : ℕ) (u : List Placed) (items : List Expr) → TakesExpr s
    → MembersRead (named s) (kind.Sign symbol.OpenParen) u items
    → ExprRead s ((token.Name name, place) ∷ (token.Sign symbol.OpenParen, first)
    ∷ (u ++ ((token.Sign symbol.CloseParen, last) ∷ []))) (single place (forms.Call name items))
called_read s name place first last u items at m =
    let e : Expr = single place (forms.Call name items) in
    call_read s name place first e (u ++ ((token.Sign symbol.CloseParen, last) ∷ [])) (kind.Sign symbol.CloseParen)
    (operators_of items) (MembersFit (named s) items) at refl (call_operators place name items)
    (bound_of (named s) items e (call_operators place name items) (call_short place name items))
    (of_bound (named s) items e (call_operators place name items) (call_short place name items))
    (closed (named s) (kind.Sign symbol.OpenParen) u (operators_of items) (MembersFit (named s) items)
    (token.Sign symbol.CloseParen) last closes_paren
    (members_inside (named s) (kind.Sign symbol.OpenParen) u items m))

-- a call with no arguments
bare_call : (s : State) (last : ℕ) → Closed (named s) (kind.Sign symbol.OpenParen) (kind.Sign symbol.CloseParen)
    ((token.Sign symbol.CloseParen, last) ∷ []) 0 (Unit {0})
bare_call s last = record {
  params = (named s).params;
  runs = ap (λ n. behind (named s) n (kind.Sign symbol.CloseParen) (named s).params) (omega arith);
  to = λ h. tt;
  from = λ f. (refl, tt);
}

empty_read : (s : State) (name : List ℕ) (place first last : ℕ) → TakesExpr s
    → ExprRead s ((token.Name name, place) ∷ (token.Sign symbol.OpenParen, first)
    ∷ (token.Sign symbol.CloseParen, last) ∷ []) (single place (forms.Call name []))
empty_read s name place first last at =
    let e : Expr = single place (forms.Call name []) in
    let none : operators e ≡ 0 = call_operators place name [] in
    call_read s name place first e ((token.Sign symbol.CloseParen, last) ∷ []) (kind.Sign symbol.CloseParen) 0
    (Unit {0}) at refl none (λ f. (omega arith, call_short place name [])) (λ b. tt)
    (bare_call s last)

paren_read : (s : State) (place close : ℕ) (u : List Placed) (e : Expr)
    → ExprRead (within s (kind.Sign symbol.OpenParen)) u e
    → ExprRead s ((token.Sign symbol.OpenParen, place) ∷ (u ++ ((token.Sign symbol.CloseParen, close) ∷ [])))
    (enclosed place e)
paren_read s place close u e r =
    let k : Kind = kind.Sign symbol.OpenParen in
    let count : operators (enclosed place e) ≡ operators e = enclosed_operators place e in
    bracket_read s (token.Sign symbol.OpenParen) place (enclosed place e)
    (u ++ ((token.Sign symbol.CloseParen, close) ∷ [])) (kind.Sign symbol.CloseParen) (operators e)
    (ExprFits (within s k) e) opens_paren refl count
    (λ f. (omega (arith, f.operators), enclosed_short place e ∙ f.short))
    (λ b. record { entry = refl; operators = omega (arith, b.0); short = sym (enclosed_short place e) ∙ b.1 })
    (closed s k u (operators e) (ExprFits (within s k) e) (token.Sign symbol.CloseParen) close closes_paren
    (expr_inside s k u e r))

-- after an operator, and after a comma
next_takes : (s : State) (o : Operator) (n p : ℕ) → TakesExpr s → TakesExpr (behind s n (kind.Operation o) p)
next_takes s o n p at =
    record { takes = at.takes; contract = at.contract; clause = at.clause; enclosed = refl }

listed_takes : (s : State) (n p c : ℕ) → TakesExpr s → TakesExpr (listed s n comma p (suc c))
listed_takes s n p c at = record { takes = at.takes; contract = at.contract; clause = at.clause; enclosed = refl }

named_takes : (s : State) → TakesExpr s → TakesExpr (named s)
named_takes s at = record { takes = at.takes; contract = at.contract; clause = at.clause; enclosed = at.enclosed }

mutual
  pub read_expr : {level : Level} {depth : ℕ} {u : List Placed} {e : Expr} (s : State) → TakesExpr s
      → Reads level depth u e → ExprRead s u e
  read_expr s at (alone h) = read_expr s at h
  read_expr s at (joined {u = u} {w = w} {a = a} {b = b} {op = op} o place is not h k) =
      joined_read s o place op u w a b (read_expr s at h)
      (λ n p. read_expr (behind s n (kind.Operation o) p) (next_takes s o n p at) k)
  read_expr s at (compared {u = u} {w = w} {a = a} {b = b} {op = op} o place is h k) =
      joined_read s o place op u w a b (read_expr s at h)
      (λ n p. read_expr (behind s n (kind.Operation o) p) (next_takes s o n p at) k)
  read_expr s at (prefixed {u = u} {e = e} {op = op} o place is h) =
      prefixed_read s o place op u e (read_expr (behind s (suc s.operators) (kind.Operation o) s.params)
      (next_takes s o (suc s.operators) s.params at) h)
  read_expr s at (one_token {t = t} {form = form} place is) =
      single_read s t form place at is (single_is_plain t form is)
  read_expr s at (empty_call name place first last) = empty_read s name place first last at
  read_expr s at (call {u = u} {args = args} name place first last h) =
      called_read s name place first last u args at
      (read_members (named s) (kind.Sign symbol.OpenParen) refl (named_takes s at) h)
  read_expr s at (members {u = u} {items = items} place close h) =
      list_read s place close u items (read_members s (kind.Sign symbol.OpenBracket) refl at h)
  read_expr s at (parentheses {u = u} {e = e} place close h) =
      paren_read s place close u e (read_expr (within s (kind.Sign symbol.OpenParen))
      (in_bracket s (kind.Sign symbol.OpenParen) refl at) h)

  read_members : {depth : ℕ} {u : List Placed} {items : List Expr} (s : State) (k : Kind) → is_comma k ≡ false
      → TakesExpr s → Members depth u items → MembersRead s k u items
  read_members s k no_comma at (member {u = u} {e = e} h) =
      one_member s k u e no_comma (read_expr (within s k) (in_bracket s k no_comma at) h)
  read_members s k no_comma at (more_members {u = u} {w = w} {items = items} {e = e} place h j) =
      one_member_more s k u w items e place at (read_members s k no_comma at h)
      (λ n p c. read_expr (listed s n comma p (suc c)) (listed_takes s n p c at) j)
