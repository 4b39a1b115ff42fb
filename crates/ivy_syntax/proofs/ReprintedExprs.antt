-- What tokens read as as an expression, the tokens that are printed of it do.
use Rattle.std.specs.Prelude.{◌≡◌, ◌⊎◌, ◌≤◌, ◌+◌, ◌-◌, ℕ, suc, true, false, List, [], ◌∷◌, ◌++◌, map, Some}
use Rattle.std.proofs.Common.{sym, ap, ◌∙◌, inl, inr, subst, true≢false, arith}
use Rattle.std.proofs.lemmas.Bool.{cases_Bool}
use Rattle.std.proofs.lemmas.List.{map-append}
use Rattle.grammars.specs.Places.{kinds, single_of}
use Rattle.grammars.specs.Depth.{higher}
use Rattle.ivy_syntax.proofs.ShownParts.{left_same, between_own, between_tokens, before_tokens, listed, call_printed}
use Rattle.ivy_syntax.proofs.ShownParts.{members_printed, some_members, unplaced_of, own, own_of, enclosed_tokens}
use Rattle.ivy_syntax.proofs.ShownParts.{enclosed_unplaced, enclosed_own, single_tokens, single_own, single_unplaced}
use Rattle.ivy_syntax.proofs.ShownParts.{never_enclosed, bare_at_or, bare_at_own, enclosed_below, bare_tokens}
use Rattle.ivy_syntax.proofs.ShownParts.{enclosed_in, IsSome, separated_more}
use Rattle.ivy_syntax.specs.declared.tree.Expr.{Expr}
use Rattle.ivy_syntax.specs.declared.tree.Form.{Form}
use Rattle.ivy_syntax.specs.declared.tree.Form.TheOpen.{Form-F}
use Rattle.ivy_syntax.specs.declared.tree.Form.TheVariants as forms
use Rattle.ivy_syntax.specs.declared.tree.Op.{Op}
use Rattle.ivy_syntax.specs.declared.lexeme.Symbol.TheVariants as symbol
use Rattle.ivy_syntax.specs.declared.lexeme.Operator.{Operator}
use Rattle.ivy_syntax.specs.Token.{Token, Operation, Name}
use Rattle.ivy_syntax.specs.Token as token
use Rattle.ivy_syntax.specs.Tokens.{Placed}
use Rattle.ivy_syntax.specs.declared.level.Level.{Level}
use Rattle.ivy_syntax.specs.declared.level.Level.TheVariants.{Or, And, Comparison, Shift, Sum, Term, Unary}
use Rattle.ivy_syntax.specs.Grammar.{below, binary, unary, Reads}
use Rattle.ivy_syntax.specs.Grammar.{alone, joined, compared, prefixed, one_token, empty_call, call, members}
use Rattle.ivy_syntax.specs.Grammar.{parentheses, Members, member, more_members, between, before, enclosed, single}
use Rattle.ivy_syntax.specs.Grammar.{IsSingle}
use Rattle.ivy_syntax.specs.Shown.{tokens_at, is_enclosed}
use Rattle.ivy_syntax.specs.Unplaced.{unplaced_expr}
use Rattle.ivy_syntax.proofs.Growth.{reads_grow}
use Rattle.ivy_syntax.proofs.ExprFolds.{expr_of}
use Rattle.ivy_syntax.proofs.Splits.{headed, halved, closed}

-- ---- looser levels and greater depths

module _ {depth : ℕ} {w : List Placed} {e : Expr} where
  at_unary : (level : Level) → is_enclosed level Unary ≡ false → Reads level depth w e → Reads Unary depth w e
  at_unary Unary not h = h
  at_unary level not h = absurd (true≢false not)

  at_term : (level : Level) → is_enclosed level Term ≡ false → Reads level depth w e → Reads Term depth w e
  at_term Term not h = h
  at_term level not h = alone (at_unary level not h)

  at_sum : (level : Level) → is_enclosed level Sum ≡ false → Reads level depth w e → Reads Sum depth w e
  at_sum Sum not h = h
  at_sum level not h = alone (at_term level not h)

  at_shift : (level : Level) → is_enclosed level Shift ≡ false → Reads level depth w e → Reads Shift depth w e
  at_shift Shift not h = h
  at_shift level not h = alone (at_sum level not h)

  at_comparison : (level : Level) → is_enclosed level Comparison ≡ false → Reads level depth w e
      → Reads Comparison depth w e
  at_comparison Comparison not h = h
  at_comparison level not h = alone (at_shift level not h)

  at_and : (level : Level) → is_enclosed level And ≡ false → Reads level depth w e → Reads And depth w e
  at_and And not h = h
  at_and level not h = alone (at_comparison level not h)

  at_or : (level : Level) → is_enclosed level Or ≡ false → Reads level depth w e → Reads Or depth w e
  at_or Or not h = h
  at_or level not h = alone (at_and level not h)

  -- what a level reads, each that binds less does
  looser : (level place : Level) → is_enclosed level place ≡ false → Reads level depth w e → Reads place depth w e
  looser level Or not h = at_or level not h
  looser level And not h = at_and level not h
  looser level Comparison not h = at_comparison level not h
  looser level Shift not h = at_shift level not h
  looser level Sum not h = at_sum level not h
  looser level Term not h = at_term level not h
  looser level Unary not h = at_unary level not h

deeper : (level : Level) (less depth : ℕ) (w : List Placed) (e : Expr) → less ≤ depth → Reads level less w e
    → Reads level depth w e
deeper level less depth w e within h =
    let all : depth - less + less ≡ depth = omega arith in
    subst (λ (d : ℕ). Reads level d w e) all (higher (Reads level) (reads_grow level) (depth - less) less w e h)

-- ---- expressions

-- By this level and within this depth, these tokens read as the expression, apart from the places, wherever they stand.
abbrev pub Prints : Level → ℕ → List Token → Expr → Type 0
Prints level depth tokens e =
    (w : List Placed) → kinds w ≡ tokens → (x : Expr) × Reads level depth w x × (unplaced_expr x ≡ unplaced_expr e)

-- The bare tokens of an expression read as it by its own level, at a depth that leaves room for parentheses where this
-- level asks for them.
record Bare (level : Level) (depth : ℕ) (e : Expr) : Type 0 where
  pub deep : ℕ
  pub within : deep ≤ depth
  pub room : is_enclosed (own e) level ≡ true → deep + 1 ≤ depth
  pub prints : Prints (own e) deep (tokens_at Or e) e

bare_by : (level : Level) (depth : ℕ) (e : Expr) (ts : List Token) → own e ≡ level → tokens_at Or e ≡ ts
    → Prints level depth ts e → Bare level depth e
bare_by level depth e ts own_is are h = record {
  deep = depth;
  within = omega arith;
  room = λ is. absurd (true≢false (sym is ∙ ap (λ (l : Level). is_enclosed l level) own_is ∙ bare_at_own level));
  prints = subst (λ (l : Level). Prints l depth (tokens_at Or e) e) (sym own_is)
      (subst (λ (l : List Token). Prints level depth l e) (sym are) h);
}

-- where the level reads it, bare or in parentheses
shows : (level : Level) (depth : ℕ) (e : Expr) → Bare level depth e → Prints level depth (tokens_at level e) e
shows level depth e h = by (cases_Bool (is_enclosed (own e) level))
  where
    by : (is_enclosed (own e) level ≡ true) ⊎ (is_enclosed (own e) level ≡ false)
        → Prints level depth (tokens_at level e) e
    by (inl is) w same =
        let f = headed (token.Sign symbol.OpenParen) (tokens_at Or e ++ (token.Sign symbol.CloseParen ∷ [])) w
        (same ∙ enclosed_in e level is) in
        let c = closed (tokens_at Or e) (token.Sign symbol.CloseParen) f.behind f.same in
        let r = h.prints c.first c.same in
        let inside : Reads Or h.deep c.first r.0 = looser (own e) Or (bare_at_or (own e)) r.1 in
        let all : Reads Unary (suc h.deep) w (enclosed f.place r.0)
        = subst (λ w. Reads Unary (suc h.deep) w (enclosed f.place r.0)) (cc (f.all, c.all))
        (parentheses f.place c.place inside) in (
          enclosed f.place r.0,
          deeper level (suc h.deep) depth w (enclosed f.place r.0) (omega (arith, h.room is))
              (looser Unary level (never_enclosed level) all),
          enclosed_unplaced f.place r.0 ∙ r.2,
        )
    by (inr not) w same =
        let r = h.prints w (same ∙ bare_tokens e level not) in
        (r.0, deeper level h.deep depth w r.0 h.within (looser (own e) level not r.1), r.2)

-- ---- each form

bare_alone : (level : Level) (depth : ℕ) (e : Expr) → Bare (below level) depth e → Bare level depth e
bare_alone level depth e h = record {
  deep = h.deep;
  within = h.within;
  room = λ is. h.room (enclosed_below (own e) level is);
  prints = h.prints;
}

bare_parentheses : (depth at : ℕ) (e : Expr) → Bare Or depth e → Bare Unary (suc depth) (enclosed at e)
bare_parentheses depth at e h = record {
  deep = h.deep;
  within = omega (arith, h.within);
  room = λ is. omega (arith, h.within);
  prints = λ w same.
      let r = h.prints w (same ∙ enclosed_tokens Or at e) in (
        r.0,
        subst (λ (l : Level). Reads l h.deep w r.0) (sym (enclosed_own at e)) r.1,
        r.2 ∙ sym (enclosed_unplaced at e),
      );
}

between_unplaced : (at other : ℕ) (op : Op) (a b x y : Expr) → unplaced_expr x ≡ unplaced_expr a
    → unplaced_expr y ≡ unplaced_expr b → unplaced_expr (between other op x y) ≡ unplaced_expr (between at op a b)
between_unplaced at other op a b x y same_left same_right =
    unplaced_of x.from other (Form-F.Binary op x y)
    ∙ (λ i. expr_of 0 0 (Form-F.Binary op (same_left i) (same_right i)))
    ∙ sym (unplaced_of a.from at (Form-F.Binary op a b))

bare_joined : (level : Level) (depth at : ℕ) (op : Op) (a b : Expr) (o : Operator) → binary o ≡ Some (level, op)
    → (level ≡ Comparison → ⊥) → Bare level depth a → Bare (below level) depth b → Bare level depth (between at op a b)
bare_joined level depth at op a b o is not left right =
    bare_by level depth (between at op a b) (tokens_at level a ++ (Operation o ∷ tokens_at (below level) b))
    (between_own at op a b o level is)
    (between_tokens at op a b o level is
    ∙ ap (λ (l : Level). tokens_at l a ++ (Operation o ∷ tokens_at (below level) b)) (left_same level not))
    (λ w same.
    let m = halved (tokens_at level a) (Operation o) (tokens_at (below level) b) w same in
    let l = shows level depth a left m.first m.same_first in
    let r = shows (below level) depth b right m.second m.same_second in (
      between m.place op l.0 r.0,
      subst (λ w. Reads level depth w (between m.place op l.0 r.0)) (sym m.all) (joined o m.place is not l.1 r.1),
      between_unplaced at m.place op a b l.0 r.0 l.2 r.2,
    ))

bare_compared : (depth at : ℕ) (op : Op) (a b : Expr) (o : Operator) → binary o ≡ Some (Comparison, op)
    → Bare Shift depth a → Bare Shift depth b → Bare Comparison depth (between at op a b)
bare_compared depth at op a b o is left right =
    bare_by Comparison depth (between at op a b) (tokens_at Shift a ++ (Operation o ∷ tokens_at Shift b))
    (between_own at op a b o Comparison is) (between_tokens at op a b o Comparison is)
    (λ w same.
    let m = halved (tokens_at Shift a) (Operation o) (tokens_at Shift b) w same in
    let l = shows Shift depth a left m.first m.same_first in
    let r = shows Shift depth b right m.second m.same_second in (
      between m.place op l.0 r.0,
      subst (λ w. Reads Comparison depth w (between m.place op l.0 r.0)) (sym m.all) (compared o m.place is l.1 r.1),
      between_unplaced at m.place op a b l.0 r.0 l.2 r.2,
    ))

bare_prefixed : (depth at : ℕ) (op : Op) (e : Expr) (o : Operator) → unary o ≡ Some op → Bare Unary depth e
    → Bare Unary (suc depth) (before at op e)
bare_prefixed depth at op e o is h =
    bare_by Unary (suc depth) (before at op e) (Operation o ∷ tokens_at Unary e)
    (own_of at at (Form-F.Unary op e)) (before_tokens at op e o is)
    (λ w same.
    let f = headed (Operation o) (tokens_at Unary e) w same in
    let r = shows Unary depth e h f.behind f.same in (
      before f.place op r.0,
      subst (λ w. Reads Unary (suc depth) w (before f.place op r.0)) (sym f.all) (prefixed o f.place is r.1),
      unplaced_of f.place f.place (Form-F.Unary op r.0) ∙ ap (λ (x : Expr). expr_of 0 0 (Form-F.Unary op x)) r.2
          ∙ sym (unplaced_of at at (Form-F.Unary op e)),
    ))

bare_single : (depth at : ℕ) (t : Token) (form : Form) → IsSingle t form → Bare Unary depth (single at form)
bare_single depth at t form is =
    bare_by Unary depth (single at form) (t ∷ []) (single_own at t form is) (single_tokens Or at t form is)
    (λ w same.
    let f = single_of t w same in (
      single f.0 form,
      subst (λ w. Reads Unary depth w (single f.0 form)) (sym f.1) (one_token f.0 is),
      single_unplaced f.0 at form,
    ))

-- ---- lists

abbrev MembersPrint : ℕ → List Expr → Type 0
MembersPrint depth items =
    (w : List Placed) → kinds w ≡ listed items
    → (xs : List Expr) × Members depth w xs × (map unplaced_expr xs ≡ map unplaced_expr items)

bare_empty_call : (depth at : ℕ) (name : List ℕ) → Bare Unary (suc depth) (single at (forms.Call name []))
bare_empty_call depth at name =
    bare_by Unary (suc depth) (single at (forms.Call name []))
    (Name name ∷ token.Sign symbol.OpenParen ∷ token.Sign symbol.CloseParen ∷ [])
    (own_of at at (Form-F.Call name [])) (call_printed at name [])
    (λ w same.
    let f = headed (Name name) (token.Sign symbol.OpenParen ∷ token.Sign symbol.CloseParen ∷ []) w same in
    let o = headed (token.Sign symbol.OpenParen) (token.Sign symbol.CloseParen ∷ []) f.behind f.same in
    let c = single_of (token.Sign symbol.CloseParen) o.behind o.same in (
      single f.place (forms.Call name []),
      subst (λ w. Reads Unary (suc depth) w (single f.place (forms.Call name []))) (cc (f.all, o.all, c.1))
          (empty_call name f.place o.place c.0),
      single_unplaced f.place at (forms.Call name []),
    ))

bare_call : (depth at : ℕ) (name : List ℕ) (args : List Expr) → MembersPrint depth args
    → Bare Unary (suc depth) (single at (forms.Call name args))
bare_call depth at name args h =
    bare_by Unary (suc depth) (single at (forms.Call name args))
    (Name name ∷ token.Sign symbol.OpenParen ∷ (listed args ++ (token.Sign symbol.CloseParen ∷ [])))
    (own_of at at (Form-F.Call name args)) (call_printed at name args)
    (λ w same.
    let f = headed (Name name) (token.Sign symbol.OpenParen
    ∷ (listed args ++ (token.Sign symbol.CloseParen ∷ []))) w same in
    let o = headed (token.Sign symbol.OpenParen) (listed args ++ (token.Sign symbol.CloseParen ∷ [])) f.behind f.same in
    let c = closed (listed args) (token.Sign symbol.CloseParen) o.behind o.same in
    let r = h c.first c.same in (
      single f.place (forms.Call name r.0),
      subst (λ w. Reads Unary (suc depth) w (single f.place (forms.Call name r.0))) (cc (f.all, o.all, c.all))
          (call name f.place o.place c.place r.1),
      unplaced_of f.place f.place (Form-F.Call name r.0)
          ∙ ap (λ (l : List Expr). expr_of 0 0 (Form-F.Call name l)) r.2
          ∙ sym (unplaced_of at at (Form-F.Call name args)),
    ))

bare_members : (depth at : ℕ) (items : List Expr) → MembersPrint depth items
    → Bare Unary (suc depth) (single at (forms.Members items))
bare_members depth at items h =
    bare_by Unary (suc depth) (single at (forms.Members items))
    (token.Sign symbol.OpenBracket ∷ (listed items ++ (token.Sign symbol.CloseBracket ∷ [])))
    (own_of at at (Form-F.Members items)) (members_printed at items)
    (λ w same.
    let o = headed (token.Sign symbol.OpenBracket) (listed items ++ (token.Sign symbol.CloseBracket ∷ [])) w same in
    let c = closed (listed items) (token.Sign symbol.CloseBracket) o.behind o.same in
    let r = h c.first c.same in (
      single o.place (forms.Members r.0),
      subst (λ w. Reads Unary (suc depth) w (single o.place (forms.Members r.0))) (cc (o.all, c.all))
          (members o.place c.place r.1),
      unplaced_of o.place o.place (Form-F.Members r.0)
          ∙ ap (λ (l : List Expr). expr_of 0 0 (Form-F.Members l)) r.2
          ∙ sym (unplaced_of at at (Form-F.Members items)),
    ))

print_member : (depth : ℕ) (e : Expr) → Bare Or depth e → MembersPrint depth (e ∷ [])
print_member depth e h w same =
    let r = shows Or depth e h w same in (r.0 ∷ [], member r.1, ap (λ (x : Expr). x ∷ []) r.2)

print_more : (depth : ℕ) (items : List Expr) (e : Expr) → IsSome items → MembersPrint depth items → Bare Or depth e
    → MembersPrint depth (items ++ (e ∷ []))
print_more depth items e some h k w same =
    let m = halved (listed items) (token.Sign symbol.Comma) (tokens_at Or e) w
    (same ∙ separated_more (tokens_at Or) items e some) in
    let l = h m.first m.same_first in
    let r = shows Or depth e k m.second m.same_second in (
      l.0 ++ (r.0 ∷ []),
      subst (λ w. Members depth w (l.0 ++ (r.0 ∷ []))) (sym m.all) (more_members m.place l.1 r.1),
      map-append unplaced_expr l.0 (r.0 ∷ []) ∙ (λ i. l.2 i ++ (r.2 i ∷ []))
          ∙ sym (map-append unplaced_expr items (e ∷ [])),
    )

-- ---- all of them

mutual
  reads_bare : {level : Level} {depth : ℕ} {u : List Placed} {e : Expr} → Reads level depth u e → Bare level depth e
  reads_bare (alone {level = level} {depth = depth} {e = e} h) = bare_alone level depth e (reads_bare h)
  reads_bare (joined {level = level} {depth = depth} {a = a} {b = b} {op = op} o at is not h k) =
      bare_joined level depth at op a b o is not (reads_bare h) (reads_bare k)
  reads_bare (compared {depth = depth} {a = a} {b = b} {op = op} o at is h k) =
      bare_compared depth at op a b o is (reads_bare h) (reads_bare k)
  reads_bare (prefixed {depth = depth} {e = e} {op = op} o at is h) = bare_prefixed depth at op e o is (reads_bare h)
  reads_bare (one_token {depth = depth} {t = t} {form = form} at is) = bare_single depth at t form is
  reads_bare (empty_call {depth = depth} name at first last) = bare_empty_call depth at name
  reads_bare (call {depth = depth} {args = args} name at first last h) =
      bare_call depth at name args (members_print h)
  reads_bare (members {depth = depth} {items = items} at close h) = bare_members depth at items (members_print h)
  reads_bare (parentheses {depth = depth} {e = e} at close h) = bare_parentheses depth at e (reads_bare h)

  members_print : {depth : ℕ} {u : List Placed} {items : List Expr} → Members depth u items → MembersPrint depth items
  members_print (member {depth = depth} {e = e} h) = print_member depth e (reads_bare h)
  members_print (more_members {depth = depth} {items = items} {e = e} at h k) =
      print_more depth items e (some_members h) (members_print h) (reads_bare k)

-- What tokens read as by a level, the tokens that are printed of it there do, within the same depth.
pub expr_reprinted : (level : Level) (depth : ℕ) (u : List Placed) (e : Expr) → Reads level depth u e
    → Prints level depth (tokens_at level e) e
expr_reprinted level depth u e h = shows level depth e (reads_bare h)
