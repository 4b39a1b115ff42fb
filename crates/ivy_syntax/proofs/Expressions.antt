-- What is unary, and an expression, within each bound.
use Rattle.std.specs.Prelude.{◌≡◌, ℕ, zero, suc, ◌≤◌, Bool, true, false, List, [], ◌∷◌, refl}
use Rattle.std.proofs.Common.{sym, ap, ◌∙◌, inl, subst, true≢false, arith}
use Rattle.std.proofs.lemmas.Option.{none-some, same_Some}
use Rattle.grammars.specs.Outcome.{Outcome, Wrong, Deep}
use Rattle.grammars.specs.Part.{Part, Completes, Decides}
use Rattle.grammars.specs.Heads.{After, Nothing, decides_after, decides_as, decides_deep, decides_nothing}
use Rattle.grammars.specs.Bits.{Closed}
use Rattle.grammars.specs.Depth.{Any}
use Rattle.grammars.specs.Examples.{some_nothing, some_made, some_closed, some_behind, some_same}
use Rattle.grammars.specs.Gathered.{one_item, and_item, some_gathered}
use Rattle.grammars.specs.Perhaps.{decides_too_deep, some_perhaps}
use Rattle.grammars.specs.Paired.{some_once}
use Rattle.ivy_syntax.specs.declared.tree.Expr.{Expr}
use Rattle.ivy_syntax.specs.declared.tree.Form.{Form}
use Rattle.ivy_syntax.specs.declared.tree.Form.TheVariants as forms
use Rattle.ivy_syntax.specs.declared.lexeme.Keyword.TheVariants as keyword
use Rattle.ivy_syntax.specs.declared.lexeme.Symbol.TheVariants as symbol
use Rattle.ivy_syntax.specs.declared.lexeme.Operator.{Operator}
use Rattle.ivy_syntax.specs.declared.lexeme.Operator.TheVariants as operator
use Rattle.ivy_syntax.specs.Token.{Token, sign, Name, Number, Hex, Quoted}
use Rattle.ivy_syntax.specs.Token as token
use Rattle.ivy_syntax.specs.Tokens.{Placed}
use Rattle.ivy_syntax.specs.declared.level.Level.TheVariants.{Or, Unary}
use Rattle.ivy_syntax.specs.Grammar.{single, enclosed, before, Reads, alone, joined}
use Rattle.ivy_syntax.specs.Grammar.{one_token, a_name, IsSingle, a_number, a_true, a_false, a_hex, a_text}
use Rattle.ivy_syntax.specs.Descent.{Start, Literal, Named, Paren, Bracket, Prefix, NoStart}
use Rattle.ivy_syntax.specs.Grammar.{rank}
use Rattle.ivy_syntax.specs.Descent.{start, close_paren, close_bracket, nested_by, flat, unary_at, expr_at}
use Rattle.ivy_syntax.specs.Descent.{too_deep_name}
use Rattle.ivy_syntax.proofs.Pieces.{Fine, sign_is, a_sign, not_unary}
use Rattle.ivy_syntax.proofs.Levels.{Goes_on, Comes, some_expr, any_expr, decides_expr}
use Rattle.ivy_syntax.proofs.Operands.{is_comma, Listed, Args, called, opens, Named_part, Follows, Behind, FirstOf}
use Rattle.ivy_syntax.proofs.Operands.{a_single}
use Rattle.ivy_syntax.proofs.Unaries.{after_of, to_after, any_next_follows, any_unfollows, starts, wrong_unary}
use Rattle.ivy_syntax.proofs.Unaries.{nested_unary, first_same}

-- ---- where no nesting may stand

-- what stands after a first token: nothing
abbrev Flat : ℕ → Start → Part Placed Expr
Flat at (Literal form) = Nothing (single at form)
Flat at (Named name) = Nothing (single at (forms.Name name))
Flat at _ = λ u v. ⊥

abbrev Flat_behind : Placed → Part Placed Expr
Flat_behind t = Flat t.1 (start t.0)

abbrev is_flat : Start → Bool
is_flat (Literal form) = true
is_flat (Named name) = true
is_flat _ = false

flat_start : (at : ℕ) (s : Start) (w : List Placed) (e : Expr) → Flat at s w e → is_flat s ≡ true
flat_start at (Literal form) w e h = refl
flat_start at (Named name) w e h = refl
flat_start at _ w e h = absurd h

single_flat : (at : ℕ) (t : Token) (form : Form) → IsSingle t form → Flat at (start t) [] (single at form)
single_flat at _ _ (a_number n) = (refl, refl)
single_flat at _ _ a_true = (refl, refl)
single_flat at _ _ a_false = (refl, refl)
single_flat at _ _ (a_hex bytes) = (refl, refl)
single_flat at _ _ (a_text bytes) = (refl, refl)
single_flat at _ _ (a_name name) = (refl, refl)

flat_follows : (u : List Placed) (e : Expr) → Reads Unary zero u e → FirstOf Flat_behind u e
flat_follows u e (alone h) = flat_follows u e h
flat_follows _ _ (joined {op = op} o at is not h k) = absurd (not_unary o op is)
flat_follows _ _ (one_token {t = t} {form = form} at is) = record {
  token = (t, at);
  behind = [];
  all = refl;
  reads = single_flat at t form is;
}

unflat : (t : Token) (at : ℕ) (w : List Placed) (e : Expr) → Flat at (start t) w e → Reads Unary zero ((t, at) ∷ w) e
unflat (Number n) at w e h = a_single zero (Number n) (forms.Number n) at w e (a_number n) h
unflat (token.Word keyword.True) at w e h =
    a_single zero (token.Word keyword.True) (forms.Truth true) at w e a_true h
unflat (token.Word keyword.False) at w e h =
    a_single zero (token.Word keyword.False) (forms.Truth false) at w e a_false h
unflat (Hex bytes) at w e h = a_single zero (Hex bytes) (forms.Hex bytes) at w e (a_hex bytes) h
unflat (Quoted bytes) at w e h = a_single zero (Quoted bytes) (forms.Quoted bytes) at w e (a_text bytes) h
unflat (Name name) at w e h = a_single zero (Name name) (forms.Name name) at w e (a_name name) h
unflat (token.Operation o) at w e h = absurd (no_prefix o (flat_start at (start (token.Operation o)) w e h))
  where
    no_prefix : (o : Operator) → is_flat (start (token.Operation o)) ≡ true
        → ⊥
    no_prefix operator.Not is = true≢false (sym is)
    no_prefix _ is = true≢false (sym is)
unflat (token.Sign symbol.OpenParen) at w e h = absurd h
unflat _ at w e h = absurd h

-- ---- what some tokens are

abbrev U : Part Placed Expr
U = Any (Reads Unary)

abbrev O : Part Placed Expr
O = Any (Reads Or)

some_listed : Completes Fine (Listed O) []
some_listed = some_gathered Fine is_comma one_item and_item O (λ t. O) (any_expr Or)

some_follows : (at : ℕ) (s : Start) → starts s ≡ true → Completes Fine (Follows U O at s) []
some_follows at (Literal form) is = some_nothing Fine (single at form)
some_follows at (Named name) is = some_once Fine opens (λ t. Args O) (called at name) (single at (forms.Name name))
some_follows at Paren is = some_made Fine (enclosed at) (Closed close_paren O)
    (some_closed Fine close_paren (a_sign symbol.CloseParen) O (any_expr Or))
some_follows at Bracket is = some_made Fine (λ items. single at (forms.Members items)) (Closed close_bracket (Listed O))
    (some_closed Fine close_bracket (a_sign symbol.CloseBracket) (Listed O) some_listed)
some_follows at (Prefix op) is = some_made Fine (before at op) U (any_expr Unary)
some_follows at NoStart is = absurd (true≢false (sym is))

-- ---- what is unary

-- with a first token that opens no nesting
flat_unary : (t : Placed) (ts : List Placed) (o : Outcome Placed Expr)
    → Decides Fine (Flat_behind t) (Behind U O t) (Goes_on Unary) ts o
    → Decides Fine (Reads Unary zero) U (Goes_on Unary) (t ∷ ts) o
flat_unary t ts o h =
    decides_as Fine (Reads Unary zero) U (After t (Flat_behind t)) (After t (Behind U O t)) (Goes_on Unary)
    (Goes_on Unary) (t ∷ ts) (λ t c. c)
    (after_of t (Flat_behind t) (Reads Unary zero) (λ w e h. unflat t.0 t.1 w e h))
    (after_of t (Behind U O t) U (any_unfollows t))
    (λ u r e h same. inl (to_after Flat_behind u r e t (flat_follows u e h) same))
    (λ u r e h same. inl (to_after (Behind U O) u r e t (any_next_follows u e h) same)) o
    (decides_after Fine t (Flat_behind t) (Behind U O t) (Goes_on Unary) ts o h)

-- with one that opens a nesting
deep_unary : (t : Placed) (ts : List Placed) → starts (start t.0) ≡ true → is_flat (start t.0) ≡ false
    → Decides Fine (Reads Unary zero) U (Goes_on Unary) (t ∷ ts) (Deep (t ∷ ts))
deep_unary t ts is not = decides_deep Fine (Reads Unary zero) U (Goes_on Unary) t ts (some_expr Unary 0)
    (some_same Fine (After t (Behind U O t)) U (after_of t (Behind U O t) U (any_unfollows t)) (t ∷ [])
    (some_behind Fine t (Behind U O t) (some_follows t.1 (start t.0) is)))
    (λ u r e h same. let f = flat_follows u e h in
    let one : f.token ≡ t = first_same u r f.behind t f.token f.all same in
    absurd (true≢false (sym (flat_start f.token.1 (start f.token.0) f.behind e f.reads)
    ∙ ap (λ t. is_flat (start t.0)) one ∙ not)))

no_start : (depth : ℕ) (t : Placed) (ts : List Placed) → starts (start t.0) ≡ false
    → Decides Fine (Reads Unary depth) U (Goes_on Unary) (t ∷ ts) (Wrong (t ∷ ts))
no_start depth t ts not =
    wrong_unary depth (t ∷ ts) (λ s same. ap (λ t. starts (start t.0)) (sym (same_Some t s same)) ∙ not)

the_no_start : (s : Start) → starts s ≡ false → s ≡ NoStart
the_no_start NoStart is = refl
the_no_start _ is = absurd (true≢false is)

named_flat : (at : ℕ) (name : List ℕ) (ts : List Placed)
    → Decides Fine (Nothing (single at (forms.Name name))) (Named_part O at name) (Goes_on Unary) ts
    (too_deep_name at name ts)
named_flat at name ts = decides_too_deep Fine opens (λ t. Args O) (called at name) (Goes_on Unary) opens_fine
    (λ t is. some_perhaps Fine close_paren (a_sign symbol.CloseParen) [] (Listed O)) opens_on
    (single at (forms.Name name)) ts
  where
    seven : rank Unary ≤ rank Unary
    seven = omega arith

    opens_on : (t : Placed) → opens t ≡ true → Goes_on Unary t
    opens_on t is = subst (Goes_on Unary) (sym (sign_is symbol.OpenParen t is)) seven

    opens_fine : (t : Placed) → opens t ≡ true → Fine t
    opens_fine t is = subst Fine (sym (sign_is symbol.OpenParen t is)) (sign symbol.OpenParen, refl)

by_start : (t : Placed) (ts : List Placed) (s : Start) → start t.0 ≡ s
    → Decides Fine (Reads Unary zero) U (Goes_on Unary) (t ∷ ts) (flat s t ts)
by_start t ts (Literal form) is = flat_unary t ts (flat (Literal form) t ts)
    (subst (λ s. Decides Fine (Flat t.1 s) (Follows U O t.1 s) (Goes_on Unary) ts (flat (Literal form) t ts)) (sym is)
    (decides_nothing Fine (single t.1 form) (Goes_on Unary) ts))
by_start t ts (Named name) is = flat_unary t ts (flat (Named name) t ts)
    (subst (λ s. Decides Fine (Flat t.1 s) (Follows U O t.1 s) (Goes_on Unary) ts (flat (Named name) t ts)) (sym is)
    (named_flat t.1 name ts))
by_start t ts Paren is = deep_unary t ts (ap starts is) (ap is_flat is)
by_start t ts Bracket is = deep_unary t ts (ap starts is) (ap is_flat is)
by_start t ts (Prefix op) is = deep_unary t ts (ap starts is) (ap is_flat is)
by_start t ts NoStart is = no_start zero t ts (ap starts is)

by_nested_start : (depth : ℕ) → Comes Unary depth (unary_at depth) → (t : Placed) (ts : List Placed) (b : Bool)
    → starts (start t.0) ≡ b
    → Decides Fine (Reads Unary (suc depth)) U (Goes_on Unary) (t ∷ ts) (nested_by (unary_at depth) (start t.0) t ts)
by_nested_start depth comes t ts true is = nested_unary depth (unary_at depth) comes t ts is
by_nested_start depth comes t ts false is =
    subst (λ s. Decides Fine (Reads Unary (suc depth)) U (Goes_on Unary) (t ∷ ts) (nested_by (unary_at depth) s t ts))
    (sym (the_no_start (start t.0) is)) (no_start (suc depth) t ts is)

-- What is unary comes out as the parser goes, within each bound.
pub decides_unary : (depth : ℕ) → Comes Unary depth (unary_at depth)
decides_unary depth [] = wrong_unary depth [] (λ t same. absurd (none-some t same))
decides_unary zero (t ∷ ts) = by_start t ts (start t.0) refl
decides_unary (suc depth) (t ∷ ts) = by_nested_start depth (decides_unary depth) t ts (starts (start t.0)) refl

pub decides_expr_at : (depth : ℕ) → Comes Or depth (expr_at depth)
decides_expr_at depth = decides_expr depth (unary_at depth) (decides_unary depth)
