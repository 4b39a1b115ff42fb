-- What is unary comes out as the parser goes.
use Rattle.std.specs.Prelude.{◌≡◌, ℕ, suc, ◌≤◌, Bool, true, false, List, [], ◌∷◌, ◌++◌, Some, None, refl}
use Rattle.std.proofs.Common.{sym, ap, ◌∙◌, inl, inr, subst, true≢false, arith}
use Rattle.std.proofs.lemmas.Option.{same_Some}
use mathlib.Core.List.{append_assoc}
use Rattle.grammars.specs.Text.{next}
use Rattle.grammars.specs.Outcome.{Wrong}
use Rattle.grammars.specs.Part.{Part, NoMore, Decides}
use Rattle.grammars.specs.Heads.{After, decides_after, decides_as, decides_wrong}
use Rattle.grammars.specs.Heads.{decides_nothing}
use Rattle.grammars.specs.Sequence.{Within}
use Rattle.grammars.specs.Bits.{Made, Closed, decides_made, decides_closed}
use Rattle.grammars.specs.Chain.{IsChain}
use Rattle.grammars.specs.Once.{Not, One, decides_once}
use Rattle.grammars.specs.Depth.{Any, within_any}
use Rattle.grammars.specs.Gathered.{decides_separated, separated_within}
use Rattle.grammars.specs.Perhaps.{Missing, Stands, closed, closed_within, some_perhaps, perhaps_within}
use Rattle.grammars.specs.Perhaps.{decides_perhaps}
use Rattle.grammars.specs.Taken.{made_of, made_is, closed_of, closed_is}
use Rattle.ivy_syntax.specs.declared.tree.Expr.{Expr}
use Rattle.ivy_syntax.specs.declared.tree.Form.TheVariants as forms
use Rattle.ivy_syntax.specs.declared.lexeme.Symbol.{Symbol}
use Rattle.ivy_syntax.specs.declared.lexeme.Symbol.TheVariants as symbol
use Rattle.ivy_syntax.specs.Token.{Token, sign, Name}
use Rattle.ivy_syntax.specs.Token as token
use Rattle.ivy_syntax.specs.Tokens.{Placed}
use Rattle.ivy_syntax.specs.declared.level.Level.{Level}
use Rattle.ivy_syntax.specs.declared.level.Level.TheVariants.{Or, Unary}
use Rattle.ivy_syntax.specs.Grammar.{single, enclosed, before, Reads, alone, joined, compared}
use Rattle.ivy_syntax.specs.Grammar.{one_token, prefixed, empty_call, call, members, parentheses}
use Rattle.ivy_syntax.specs.Descent.{Reader, the_sign, listed, Start, Literal, Named, Paren}
use Rattle.ivy_syntax.specs.Grammar.{rank}
use Rattle.ivy_syntax.specs.Descent.{Bracket, Prefix, NoStart, start, close_paren, close_bracket, args_by, name_by}
use Rattle.ivy_syntax.specs.Descent.{bracket_by, paren_by, nested_by, expr_by}
use Rattle.ivy_syntax.proofs.Pieces.{Fine, goes_at, sign_is, the_sign_is, a_sign}
use Rattle.ivy_syntax.proofs.Levels.{Goes_on, Comes, some_expr, decides_expr}
use Rattle.ivy_syntax.proofs.Operands.{is_comma, Listed, OrComma, weak, comma_apart, of_any_listed, to_listed, Args}
use Rattle.ivy_syntax.proofs.Operands.{called}
use Rattle.ivy_syntax.proofs.Operands.{opens, Named_part, Follows, Behind, FirstOf, follows, unfollows}

-- ---- within any bound

any_args : (w : List Placed) (args : List Expr) → Args (Any (Reads Or)) w args
    → (depth : ℕ) × Args (Reads Or depth) w args
any_args _ _ (Missing t e is) = (0, Missing t e is)
any_args w args (Stands _ _ h) =
    let c = closed_is close_paren (Listed (Any (Reads Or))) w args h in
    let m = of_any_listed c.inner args c.reads in (
      m.0,
      Stands w args (subst (λ w. Closed close_paren (Listed (Reads Or m.0)) w args) (sym c.all)
          (closed_of close_paren (Listed (Reads Or m.0)) c.inner args c.token c.meaning c.means
          (to_listed m.0 (Reads Or m.0) (λ u v h. h) c.inner args m.1))),
    )

any_named : (at : ℕ) (name : List ℕ) (w : List Placed) (e : Expr) → Named_part (Any (Reads Or)) at name w e
    → (depth : ℕ) × Named_part (Reads Or depth) at name w e
any_named at name _ _ (Not _) = (0, Not _)
any_named at name _ _ (One t _ args w is h) =
    let a = any_args w args h in (a.0, One t (single at (forms.Name name)) args w is a.1)

any_bracket : (at : ℕ) (w : List Placed) (e : Expr) → Follows (Any (Reads Unary)) (Any (Reads Or)) at Bracket w e
    → (depth : ℕ) × Follows (Reads Unary depth) (Reads Or depth) at Bracket w e
any_bracket at w e h =
    let m = made_is (λ items. single at (forms.Members items)) (Closed close_bracket (Listed (Any (Reads Or)))) w e h in
    let c = closed_is close_bracket (Listed (Any (Reads Or))) w m.0 m.1 in
    let l = of_any_listed c.inner m.0 c.reads in (
      l.0,
      subst (λ e. Follows (Reads Unary l.0) (Reads Or l.0) at Bracket w e) (sym m.2)
          (made_of (λ items. single at (forms.Members items)) (Closed close_bracket (Listed (Reads Or l.0))) w m.0
          (subst (λ w. Closed close_bracket (Listed (Reads Or l.0)) w m.0) (sym c.all)
          (closed_of close_bracket (Listed (Reads Or l.0)) c.inner m.0 c.token c.meaning c.means
          (to_listed l.0 (Reads Or l.0) (λ u v h. h) c.inner m.0 l.1)))),
    )

any_paren : (at : ℕ) (w : List Placed) (e : Expr) → Follows (Any (Reads Unary)) (Any (Reads Or)) at Paren w e
    → (depth : ℕ) × Follows (Reads Unary depth) (Reads Or depth) at Paren w e
any_paren at w e h =
    let m = made_is (enclosed at) (Closed close_paren (Any (Reads Or))) w e h in
    let c = closed_is close_paren (Any (Reads Or)) w m.0 m.1 in
    let depth : ℕ = c.reads.0 in (
      depth,
      subst (λ e. Follows (Reads Unary depth) (Reads Or depth) at Paren w e) (sym m.2)
          (made_of (enclosed at) (Closed close_paren (Reads Or depth)) w m.0
          (subst (λ w. Closed close_paren (Reads Or depth) w m.0) (sym c.all)
          (closed_of close_paren (Reads Or depth) c.inner m.0 c.token c.meaning c.means c.reads.1))),
    )

any_follows : (at : ℕ) (s : Start) (w : List Placed) (e : Expr)
    → Follows (Any (Reads Unary)) (Any (Reads Or)) at s w e
    → (depth : ℕ) × Follows (Reads Unary depth) (Reads Or depth) at s w e
any_follows at (Literal form) w e h = (0, h)
any_follows at (Named name) w e h = any_named at name w e h
any_follows at Paren w e h = any_paren at w e h
any_follows at Bracket w e h = any_bracket at w e h
any_follows at (Prefix op) w e h =
    let m = made_is (before at op) (Any (Reads Unary)) w e h in
    let depth : ℕ = m.1.0 in (
      depth,
      subst (λ e. Made (before at op) (Reads Unary depth) w e) (sym m.2)
          (made_of (before at op) (Reads Unary depth) w m.0 m.1.1),
    )
any_follows at NoStart w e h = absurd h

pub any_unfollows : (t : Placed) (w : List Placed) (e : Expr) → Behind (Any (Reads Unary)) (Any (Reads Or)) t w e
    → Any (Reads Unary) (t ∷ w) e
any_unfollows t w e h = let a = any_follows t.1 (start t.0) w e h in (suc a.0, unfollows a.0 t.0 t.1 w e a.1)

-- ---- the part after the first token, and all of it

-- the first token of a list
pub first_same : (u r w : List Placed) (t s : Placed) → u ≡ s ∷ w → next (u ++ r) ≡ Some t → s ≡ t
first_same u r w t s all same = same_Some s t (sym (ap (λ u. next (u ++ r)) all) ∙ same)

pub after_of : (t : Placed) (X H : Part Placed Expr) → ((w : List Placed) (e : Expr) → X w e → H (t ∷ w) e)
    → Within (After t X) H
after_of t X H to u e h = subst (λ u. H u e) (sym h.joined) (to h.behind e h.reads)

pub to_after : (X : Placed → Part Placed Expr) (u r : List Placed) (e : Expr) (t : Placed) → FirstOf X u e
    → next (u ++ r) ≡ Some t → After t (X t) u e
to_after X u r e t h same =
    let one : h.token ≡ t = first_same u r h.behind t h.token h.all same in
    record {
      behind = h.behind;
      joined = h.all ∙ ap (λ t. t ∷ h.behind) one;
      reads = subst (λ t. X t h.behind e) one h.reads;
    }

-- what follows, at one more than a depth
next_follows : (depth : ℕ) (u : List Placed) (e : Expr) → Reads Unary (suc depth) u e
    → FirstOf (Behind (Reads Unary depth) (Reads Or depth)) u e
next_follows depth = follows (suc depth) (Reads Unary depth) (Reads Or depth)
    (λ d same u e h. subst (λ d. Reads Unary d u e) (sym (pred_same depth d same)) h)
    (λ d same u e h. subst (λ d. Reads Or d u e) (sym (pred_same depth d same)) h)
  where
    pred_same : (a b : ℕ) → suc a ≡ suc b → a ≡ b
    pred_same a b same = omega (arith, same)

pub any_next_follows : (u : List Placed) (e : Expr) → Any (Reads Unary) u e
    → FirstOf (Behind (Any (Reads Unary)) (Any (Reads Or))) u e
any_next_follows u e h = follows h.0 (Any (Reads Unary)) (Any (Reads Or)) (λ d same. within_any (Reads Unary) d)
    (λ d same. within_any (Reads Or) d) u e h.1

-- ---- what an expression begins with

abbrev pub starts : Start → Bool
starts NoStart = false
starts _ = true

a_start : (U O : Part Placed Expr) (at : ℕ) (s : Start) (w : List Placed) (e : Expr) → Follows U O at s w e
    → starts s ≡ true
a_start U O at NoStart w e h = absurd h
a_start U O at _ w e h = refl

abbrev Begun : Placed → Part Placed Expr
Begun t w e = starts (start t.0) ≡ true

first_longer : (u w : List Placed) (t : Placed) (e e' : Expr) → FirstOf Begun u e → FirstOf Begun (u ++ (t ∷ w)) e'
first_longer u w t e e' h = record {
  token = h.token;
  behind = h.behind ++ (t ∷ w);
  all = ap (λ u. u ++ (t ∷ w)) h.all;
  reads = h.reads;
}

unary_begins : (depth : ℕ) (u : List Placed) (e : Expr) → Reads Unary depth u e → FirstOf Begun u e
unary_begins depth u e h =
    let f = any_next_follows u e (depth, h) in
    record {
      token = f.token;
      behind = f.behind;
      all = f.all;
      reads = a_start (Any (Reads Unary)) (Any (Reads Or)) f.token.1 (start f.token.0) f.behind e f.reads;
    }

expr_begins : (level : Level) (depth : ℕ) (u : List Placed) (e : Expr) → Reads level depth u e → FirstOf Begun u e
expr_begins level depth u e (alone h) = expr_begins _ depth u e h
expr_begins level depth _ e (joined {u = u} {w = w} {a = a} o at is not h k) =
    first_longer u w (token.Operation o, at) a e (expr_begins level depth u a h)
expr_begins _ depth _ e (compared {u = u} {w = w} {a = a} o at is h k) =
    first_longer u w (token.Operation o, at) a e (expr_begins _ depth u a h)
expr_begins _ depth u e (prefixed o at is h) = unary_begins depth u e (prefixed o at is h)
expr_begins _ depth u e (one_token at is) = unary_begins depth u e (one_token at is)
expr_begins _ depth u e (empty_call name at first last) = unary_begins depth u e (empty_call name at first last)
expr_begins _ depth u e (call name at first last h) = unary_begins depth u e (call name at first last h)
expr_begins _ depth u e (members at close h) = unary_begins depth u e (members at close h)
expr_begins _ depth u e (parentheses at close h) = unary_begins depth u e (parentheses at close h)

-- and not with another token
pub not_begun : (level : Level) (u r : List Placed) (e : Expr) (t : Placed) → Any (Reads level) u e
    → next (u ++ r) ≡ Some t → starts (start t.0) ≡ false → ⊥
not_begun level u r e t h same not =
    let begun = expr_begins level h.0 u e h.1 in
    let one : begun.token ≡ t = first_same u r begun.behind t begun.token begun.all same in
    true≢false (sym begun.reads ∙ ap (λ t. starts (start t.0)) one ∙ not)

-- ---- what stands in parentheses and brackets

paren_apart : (t e : Placed) → close_paren t ≡ Some e → Goes_on Or t → ⊥
paren_apart t e is more = weak t symbol.CloseParen (the_sign_is symbol.CloseParen t e is) refl more

-- a sign other than a comma or an opening parenthesis does not go on a list of expressions
pub list_apart : (s : Symbol) → is_comma (token.Sign s, 0) ≡ false → goes_at (token.Sign s) ≡ None → (t e : Placed)
    → the_sign s t ≡ Some e → OrComma (Goes_on Or) t → ⊥
list_apart s comma none t e is (inl more) = weak t s (the_sign_is s t e is) none more
list_apart s comma none t e is (inr same) =
    true≢false (sym same ∙ ap (λ t. is_comma t) (the_sign_is s t e is) ∙ comma)

pub decides_listed : (depth : ℕ) (expr : Reader Expr) → Comes Or depth expr → (ts : List Placed)
    → Decides Fine (Listed (Reads Or depth)) (Listed (Any (Reads Or))) (OrComma (Goes_on Or)) ts (listed expr ts)
decides_listed depth expr comes = decides_separated Fine is_comma (Reads Or depth) (Any (Reads Or)) (Goes_on Or)
    (OrComma (Goes_on Or)) expr (within_any (Reads Or) depth) (some_expr Or depth) comma_apart (λ t c. inl c)
    (λ t is. inr is) comes

listed_begins : (u r : List Placed) (items : List Expr) (t : Placed) (e : Placed) → Listed (Any (Reads Or)) u items
    → next (u ++ r) ≡ Some t → close_paren t ≡ Some e → ⊥
listed_begins u r items t e h same is =
    not_begun Or h.first (h.second ++ r) h.value t h.reads_first
    (ap next (sym (append_assoc h.first h.second r) ∙ sym (ap (λ u. u ++ r) h.joined)) ∙ same)
    (ap (λ t. starts (start t.0)) (the_sign_is symbol.CloseParen t e is))

pub listed_within : (depth : ℕ) → Within (Listed (Reads Or depth)) (Listed (Any (Reads Or)))
listed_within depth = separated_within is_comma (Reads Or depth) (Any (Reads Or)) (within_any (Reads Or) depth)

module _ (depth : ℕ) (expr : Reader Expr) (comes : Comes Or depth expr) where
  decides_args : (D : Placed → Type 0) (ts : List Placed)
      → Decides Fine (Args (Reads Or depth)) (Args (Any (Reads Or))) D ts (args_by expr ts)
  decides_args D = decides_perhaps Fine close_paren (a_sign symbol.CloseParen) [] (Listed (Reads Or depth))
      (Listed (Any (Reads Or))) (OrComma (Goes_on Or)) D (listed expr) (listed_within depth)
      (list_apart symbol.CloseParen refl refl) listed_begins (decides_listed depth expr comes)

  call_chain : IsChain Fine opens (λ t. Args (Reads Or depth)) (λ t. Args (Any (Reads Or))) NoMore (Goes_on Unary)
      (λ t. args_by expr)
  call_chain = record {
    within = λ t. perhaps_within close_paren [] (Listed (Reads Or depth)) (Listed (Any (Reads Or)))
        (listed_within depth);
    some = λ t is. some_perhaps Fine close_paren (a_sign symbol.CloseParen) [] (Listed (Reads Or depth));
    apart = λ t is more. more;
    covers = λ t more. absurd more;
    ons = opens_on;
    reads = λ t ts is. decides_args NoMore ts;
  }
    where
      opens_on : (t : Placed) → opens t ≡ true → Goes_on Unary t
      opens_on t is = subst (Goes_on Unary) (sym (sign_is symbol.OpenParen t is)) seven
        where
          seven : rank Unary ≤ rank Unary
          seven = omega arith

  decides_named : (at : ℕ) (name : List ℕ) (ts : List Placed)
      → Decides Fine (Named_part (Reads Or depth) at name) (Named_part (Any (Reads Or)) at name) (Goes_on Unary) ts
      (name_by expr at name ts)
  decides_named at name ts = decides_once Fine opens (λ t. Args (Reads Or depth)) (λ t. Args (Any (Reads Or))) NoMore
      (Goes_on Unary) (λ t. args_by expr) call_chain (called at name) (single at (forms.Name name)) ts

  decides_paren : (at : ℕ) (ts : List Placed)
      → Decides Fine (Follows (Reads Unary depth) (Reads Or depth) at Paren)
      (Follows (Any (Reads Unary)) (Any (Reads Or)) at Paren) (Goes_on Unary) ts (paren_by expr at ts)
  decides_paren at ts = decides_made Fine (enclosed at) (Closed close_paren (Reads Or depth))
      (Closed close_paren (Any (Reads Or))) (Goes_on Unary) ts
      (closed_within close_paren (Reads Or depth) (Any (Reads Or)) (within_any (Reads Or) depth))
      (closed close_paren expr ts)
      (decides_closed Fine close_paren (a_sign symbol.CloseParen) (Reads Or depth) (Any (Reads Or)) (Goes_on Or)
      (Goes_on Unary) ts (within_any (Reads Or) depth) paren_apart (expr ts) (comes ts))

  decides_bracket : (at : ℕ) (ts : List Placed)
      → Decides Fine (Follows (Reads Unary depth) (Reads Or depth) at Bracket)
      (Follows (Any (Reads Unary)) (Any (Reads Or)) at Bracket) (Goes_on Unary) ts (bracket_by expr at ts)
  decides_bracket at ts = decides_made Fine (λ items. single at (forms.Members items))
      (Closed close_bracket (Listed (Reads Or depth))) (Closed close_bracket (Listed (Any (Reads Or))))
      (Goes_on Unary) ts
      (closed_within close_bracket (Listed (Reads Or depth)) (Listed (Any (Reads Or))) (listed_within depth))
      (closed close_bracket (listed expr) ts)
      (decides_closed Fine close_bracket (a_sign symbol.CloseBracket) (Listed (Reads Or depth))
      (Listed (Any (Reads Or))) (OrComma (Goes_on Or)) (Goes_on Unary) ts (listed_within depth)
      (list_apart symbol.CloseBracket refl refl) (listed expr ts) (decides_listed depth expr comes ts))

-- ---- what is unary

decides_follows : (depth : ℕ) (operand : Reader Expr) → Comes Unary depth operand → (t : Placed) (ts : List Placed)
    (s : Start) → starts s ≡ true
    → Decides Fine (Follows (Reads Unary depth) (Reads Or depth) t.1 s)
    (Follows (Any (Reads Unary)) (Any (Reads Or)) t.1 s) (Goes_on Unary) ts (nested_by operand s t ts)
decides_follows depth operand comes t ts (Literal form) is = decides_nothing Fine (single t.1 form) (Goes_on Unary) ts
decides_follows depth operand comes t ts (Named name) is =
    decides_named depth (expr_by operand) (decides_expr depth operand comes) t.1 name ts
decides_follows depth operand comes t ts Paren is =
    decides_paren depth (expr_by operand) (decides_expr depth operand comes) t.1 ts
decides_follows depth operand comes t ts Bracket is =
    decides_bracket depth (expr_by operand) (decides_expr depth operand comes) t.1 ts
decides_follows depth operand comes t ts (Prefix op) is = decides_made Fine (before t.1 op) (Reads Unary depth)
    (Any (Reads Unary)) (Goes_on Unary) ts (within_any (Reads Unary) depth) (operand ts) (comes ts)
decides_follows depth operand comes t ts NoStart is = absurd (true≢false (sym is))

-- no part begins so
pub wrong_unary : (depth : ℕ) (ts : List Placed) → ((t : Placed) → next ts ≡ Some t → starts (start t.0) ≡ false)
    → Decides Fine (Reads Unary depth) (Any (Reads Unary)) (Goes_on Unary) ts (Wrong ts)
wrong_unary depth ts not = decides_wrong Fine (Reads Unary depth) (Any (Reads Unary)) (Goes_on Unary) ts
    (some_expr Unary depth) (λ u r e h same.
    let begun = expr_begins Unary h.0 u e h.1 in
    let first : next ts ≡ Some begun.token = sym same ∙ ap (λ u. next (u ++ r)) begun.all in
    absurd (true≢false (sym begun.reads ∙ not begun.token first)))

-- where one more nesting may stand
pub nested_unary : (depth : ℕ) (operand : Reader Expr) → Comes Unary depth operand → (t : Placed) (ts : List Placed)
    → starts (start t.0) ≡ true
    → Decides Fine (Reads Unary (suc depth)) (Any (Reads Unary)) (Goes_on Unary) (t ∷ ts)
    (nested_by operand (start t.0) t ts)
nested_unary depth operand comes t ts is =
    let X : Placed → Part Placed Expr = Behind (Reads Unary depth) (Reads Or depth) in
    let Y : Placed → Part Placed Expr = Behind (Any (Reads Unary)) (Any (Reads Or)) in
    decides_as Fine (Reads Unary (suc depth)) (Any (Reads Unary)) (After t (X t)) (After t (Y t)) (Goes_on Unary)
    (Goes_on Unary) (t ∷ ts) (λ t c. c)
    (after_of t (X t) (Reads Unary (suc depth)) (λ w e h. unfollows depth t.0 t.1 w e h))
    (after_of t (Y t) (Any (Reads Unary)) (any_unfollows t))
    (λ u r e h same. inl (to_after X u r e t (next_follows depth u e h) same))
    (λ u r e h same. inl (to_after Y u r e t (any_next_follows u e h) same)) (nested_by operand (start t.0) t ts)
    (decides_after Fine t (X t) (Y t) (Goes_on Unary) ts (nested_by operand (start t.0) t ts)
    (decides_follows depth operand comes t ts (start t.0) is))
