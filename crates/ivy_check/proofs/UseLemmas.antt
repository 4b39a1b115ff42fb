-- A name is used, by the test for it, exactly where it stands in an expression.
use Rattle.std.proofs.Common.{◌≡◌, ◌↔◌, ◌⊎◌, inl, inr, ◌||◌, ℕ, Bool, true, false, List, [], ◌∷◌, map}
use Rattle.std.proofs.Common.{refl, ap, sym, ◌∙◌}
use Rattle.std.specs.Prelude.{bytes_eq}
use Rattle.std.specs.List.{list_any, AllByRecursion, Any}
use Rattle.std.proofs.lemmas.List.Folds.{Any-from_list_any, list_any-from_Any}
use Rattle.ivy_syntax.specs.declared.tree.Op.{Op}
use Rattle.ivy_syntax.specs.declared.tree.Expr.{Expr}
use Rattle.ivy_syntax.specs.declared.tree.Form.{Form, roll-Form, map-Form}
use Rattle.ivy_syntax.specs.declared.tree.Form.TheOpen.{Form-F}
use Rattle.ivy_syntax.specs.declared.tree.Form.TheFolds.{fold-Form}
use Rattle.ivy_syntax.specs.declared.tree.Form.TheVariants as forms
use Rattle.ivy_syntax.specs.declared.tree.Req.{Req}
use Rattle.ivy_syntax.specs.declared.tree.Stmt.{Stmt}
use Rattle.ivy_syntax.specs.declared.tree.Stmt.TheVariants.{Verify, Lock, Unlock}
use Rattle.ivy_syntax.specs.declared.tree.ClauseTree.{ClauseTree}
use Rattle.ivy_check.specs.Uses.{uses, uses_at, statement_uses, req_uses, clause_uses}
use Rattle.ivy_check.specs.WellTyped as rule
use Rattle.ivy_check.specs.WellTyped.{StandsIn, StandsInOneOf, RequirementUses, StatementUses, ClauseUses}
use Rattle.ivy_check.proofs.TypeWords.{same_bytes, same_self_bytes}
use Rattle.ivy_check.proofs.Folds.{by_form}
use Rattle.ivy_check.proofs.FormTypings.{by_forms, expr_of, AllWithin}

pub either : (x y : Bool) → (x || y) ≡ true → (x ≡ true) ⊎ (y ≡ true)
either true y h = inl refl
either false y h = inr h

pub on_left : (x y : Bool) → x ≡ true → (x || y) ≡ true
on_left true y h = refl
on_left false y h = absurd cc

pub on_right : (x y : Bool) → y ≡ true → (x || y) ≡ true
on_right true y h = refl
on_right false y h = h

-- ---- the test of an expression, by its form

module _ (name : List ℕ) where
  abbrev uses_of_form : Form → Bool
  uses_of_form = fold-Form Bool Bool (uses_at name) (λ e. e.form)

  module _ (e : Expr) where
    by_rolled : (form : Form) (x : Form-F Form Expr) (y : Form-F Bool Bool) → e.form ≡ form → roll-Form x ≡ form
        → map-Form Form Expr Bool Bool uses_of_form (uses name) x ≡ y
        → uses name e ≡ uses_at name y
    unfolding uses
    by_rolled form x y is rolls maps = by_form Bool Bool (uses_at name) (λ e. e.form) e form x y is rolls maps

    pub of_number : (n : ℕ) → e.form ≡ forms.Number n → uses name e ≡ false
    of_number n is = by_rolled (forms.Number n) (Form-F.Number n) _ is (forms.rolls-Number n) refl

    pub of_truth : (b : Bool) → e.form ≡ forms.Truth b → uses name e ≡ false
    of_truth b is = by_rolled (forms.Truth b) (Form-F.Truth b) _ is (forms.rolls-Truth b) refl

    pub of_hex : (bytes : List ℕ) → e.form ≡ forms.Hex bytes → uses name e ≡ false
    of_hex bytes is = by_rolled (forms.Hex bytes) (Form-F.Hex bytes) _ is (forms.rolls-Hex bytes) refl

    pub of_text : (bytes : List ℕ) → e.form ≡ forms.Quoted bytes → uses name e ≡ false
    of_text bytes is = by_rolled (forms.Quoted bytes) (Form-F.Quoted bytes) _ is (forms.rolls-Quoted bytes) refl

    pub of_name : (used : List ℕ) → e.form ≡ forms.Name used → uses name e ≡ bytes_eq used name
    of_name used is = by_rolled (forms.Name used) (Form-F.Name used) _ is (forms.rolls-Name used) refl

    pub of_call : (function : List ℕ) (args : List Expr) → e.form ≡ forms.Call function args
        → uses name e ≡ list_any (λ uses. uses) (map (uses name) args)
    of_call function args is =
        by_rolled (forms.Call function args) (Form-F.Call function args) _ is (forms.rolls-Call function args) refl

    pub of_list : (members : List Expr) → e.form ≡ forms.Members members
        → uses name e ≡ list_any (λ uses. uses) (map (uses name) members)
    of_list members is =
        by_rolled (forms.Members members) (Form-F.Members members) _ is (forms.rolls-Members members) refl

    pub of_unary : (o : Op) (arg : Expr) → e.form ≡ forms.Unary o arg → uses name e ≡ uses name arg
    of_unary o arg is = by_rolled (forms.Unary o arg) (Form-F.Unary o arg) _ is (forms.rolls-Unary o arg) refl

    pub of_binary : (o : Op) (left right : Expr) → e.form ≡ forms.Binary o left right
        → uses name e ≡ (uses name left || uses name right)
    of_binary o left right is =
        by_rolled (forms.Binary o left right) (Form-F.Binary o left right) _ is (forms.rolls-Binary o left right) refl

  -- ---- both ways

  mutual
    stands_used : {e : Expr} → StandsIn name e → uses name e ≡ true
    stands_used (rule.itself {e = e} is) = of_name e name is ∙ same_self_bytes name
    stands_used (rule.in_call {e = e} function args is h) = of_call e function args is ∙ one_used h
    stands_used (rule.in_list {e = e} members is h) = of_list e members is ∙ one_used h
    stands_used (rule.in_operand {e = e} o arg is h) = of_unary e o arg is ∙ stands_used h
    stands_used (rule.in_left {e = e} o left right is h) =
        of_binary e o left right is ∙ on_left (uses name left) (uses name right) (stands_used h)
    stands_used (rule.in_right {e = e} o left right is h) =
        of_binary e o left right is ∙ on_right (uses name left) (uses name right) (stands_used h)

    one_used : {es : List Expr} → StandsInOneOf name es → list_any (λ uses. uses) (map (uses name) es) ≡ true
    one_used (rule.here {e = e} {es = es} h) =
        on_left (uses name e) (list_any (λ uses. uses) (map (uses name) es)) (stands_used h)
    one_used (rule.later {e = e} {es = es} h) =
        on_right (uses name e) (list_any (λ uses. uses) (map (uses name) es)) (one_used h)

  abbrev UsedStands : Expr → Type 0
  UsedStands e = uses name e ≡ true → StandsIn name e

  one_stands : (es : List Expr) → AllByRecursion UsedStands es → list_any (λ uses. uses) (map (uses name) es) ≡ true
      → StandsInOneOf name es
  one_stands [] each h = absurd cc
  one_stands (e ∷ es) each h =
      first_or (one_stands es each.1) (either (uses name e) (list_any (λ uses. uses) (map (uses name) es)) h)
    where
      first_or : (list_any (λ uses. uses) (map (uses name) es) ≡ true → StandsInOneOf name es)
          → (uses name e ≡ true) ⊎ (list_any (λ uses. uses) (map (uses name) es) ≡ true) → StandsInOneOf name (e ∷ es)
      first_or more (inl used) = rule.here (each.0 used)
      first_or more (inr used) = rule.later (more used)

  not_used : {A : Type 0} (b : Bool) → b ≡ false → b ≡ true → A
  not_used true h k = absurd cc
  not_used false h k = absurd cc

  used_stands : (from at : ℕ) (x : Form-F Form Expr) → AllWithin UsedStands x → UsedStands (expr_of from at x)
  used_stands from at (Form-F.Number n) each =
      let e : Expr = expr_of from at (Form-F.Number n) in not_used (uses name e) (of_number e n refl)
  used_stands from at (Form-F.Truth b) each =
      let e : Expr = expr_of from at (Form-F.Truth b) in not_used (uses name e) (of_truth e b refl)
  used_stands from at (Form-F.Hex bytes) each =
      let e : Expr = expr_of from at (Form-F.Hex bytes) in not_used (uses name e) (of_hex e bytes refl)
  used_stands from at (Form-F.Quoted bytes) each =
      let e : Expr = expr_of from at (Form-F.Quoted bytes) in not_used (uses name e) (of_text e bytes refl)
  used_stands from at (Form-F.Name used) each =
      let e : Expr = expr_of from at (Form-F.Name used) in
      λ h. rule.itself (ap forms.Name (same_bytes used name (sym (of_name e used refl) ∙ h)))
  used_stands from at (Form-F.Call function args) each =
      let e : Expr = expr_of from at (Form-F.Call function args) in
      λ h. rule.in_call function args refl (one_stands args each (sym (of_call e function args refl) ∙ h))
  used_stands from at (Form-F.Members members) each =
      let e : Expr = expr_of from at (Form-F.Members members) in
      λ h. rule.in_list members refl (one_stands members each (sym (of_list e members refl) ∙ h))
  used_stands from at (Form-F.Unary o arg) each =
      let e : Expr = expr_of from at (Form-F.Unary o arg) in
      λ h. rule.in_operand o arg refl (each (sym (of_unary e o arg refl) ∙ h))
  used_stands from at (Form-F.Binary o left right) each =
      let e : Expr = expr_of from at (Form-F.Binary o left right) in
      λ h. side (either (uses name left) (uses name right) (sym (of_binary e o left right refl) ∙ h))
    where
      side : (uses name left ≡ true) ⊎ (uses name right ≡ true)
          → StandsIn name (expr_of from at (Form-F.Binary o left right))
      side (inl used) = rule.in_left o left right refl (each.0 used)
      side (inr used) = rule.in_right o left right refl (each.1 used)

  pub uses_is : (e : Expr) → (uses name e ≡ true) ↔ StandsIn name e
  uses_is e = (by_forms UsedStands used_stands e, λ h. stands_used h)

-- ---- requirements, statements and clauses

some_is : {X : Type 0} (p : X → Bool) (P : X → Type 0) → ((x : X) → (p x ≡ true) ↔ P x) → (xs : List X)
    → (list_any p xs ≡ true) ↔ Any P xs
some_is p P each xs = (
  (λ h. let a = Any-from_list_any p xs h in (a.0, a.1, a.2, a.3, (each a.1).0 a.4)),
  (λ a. list_any-from_Any p xs (a.0, a.1, a.2, a.3, (each a.1).1 a.4)),
)

either_is : {A B : Type 0} (x y : Bool) → (x ≡ true) ↔ A → (y ≡ true) ↔ B → ((x || y) ≡ true) ↔ (A ⊎ B)
either_is {A = A} {B = B} x y f g = ((λ h. apart (either x y h)), joined)
  where
    apart : (x ≡ true) ⊎ (y ≡ true) → A ⊎ B
    apart (inl h) = inl (f.0 h)
    apart (inr h) = inr (g.0 h)

    joined : A ⊎ B → (x || y) ≡ true
    joined (inl a) = on_left x y (f.1 a)
    joined (inr b) = on_right x y (g.1 b)

requirement_uses_is : (name : List ℕ) (req : Req) → (req_uses name req ≡ true) ↔ RequirementUses name req
requirement_uses_is name req =
    either_is (uses name req.amount) (uses name req.asset) (uses_is name req.amount) (uses_is name req.asset)

in_statement : (name : List ℕ) (stmt : Stmt) → statement_uses name stmt ≡ true → StatementUses name stmt
in_statement name (Verify at e) h = rule.verified ((uses_is name e).0 h)
in_statement name (Lock at value program) h = rule.locked_with ((uses_is name program).0 h)
in_statement name (Unlock at value) h = absurd cc

of_statement : {name : List ℕ} {stmt : Stmt} → StatementUses name stmt → statement_uses name stmt ≡ true
of_statement {name = name} (rule.verified {e = e} h) = (uses_is name e).1 h
of_statement {name = name} (rule.locked_with {program = program} h) = (uses_is name program).1 h

pub clause_uses_is : (name : List ℕ) (clause : ClauseTree) → (clause_uses name clause ≡ true) ↔ ClauseUses name clause
clause_uses_is name clause =
    either_is (list_any (req_uses name) clause.reqs) (list_any (statement_uses name) clause.stmts)
    (some_is (req_uses name) (RequirementUses name) (requirement_uses_is name) clause.reqs)
    (some_is (statement_uses name) (StatementUses name) (λ stmt. (in_statement name stmt, λ h. of_statement h))
    clause.stmts)

pub one_uses_is : (name : List ℕ) (clauses : List ClauseTree)
    → (list_any (clause_uses name) clauses ≡ true) ↔ Any (ClauseUses name) clauses
one_uses_is name = some_is (clause_uses name) (ClauseUses name) (clause_uses_is name)
