-- Folds of expressions at each form, and induction over expressions.
use Rattle.std.specs.Prelude.{◌≡◌, ℕ, List, [], ◌∷◌, map, refl}
use Rattle.std.specs.List.{AllByRecursion}
use Rattle.std.proofs.Common.{sym, ap, ◌∙◌, subst}
use Rattle.ivy_syntax.specs.declared.tree.Expr.{Expr, Expr-F, fold-Expr, fold_out-Expr, ind-Expr}
use Rattle.ivy_syntax.specs.declared.tree.Form.{Form, roll-Form, map-Form}
use Rattle.ivy_syntax.specs.declared.tree.Form.TheOpen.{Form-F}
use Rattle.ivy_syntax.specs.declared.tree.Form.TheFolds.{fold-Form, fold-roll-Form}
use Rattle.ivy_syntax.specs.declared.tree.Form.TheVariants as forms
use Rattle.ivy_syntax.specs.Unplaced.{form_again, unplaced_expr}

rolled : (x : Form-F Form Expr) → roll-Form x ≡ form_again x
rolled (Form-F.Number n) = forms.rolls-Number n
rolled (Form-F.Truth b) = forms.rolls-Truth b
rolled (Form-F.Hex bytes) = forms.rolls-Hex bytes
rolled (Form-F.Quoted bytes) = forms.rolls-Quoted bytes
rolled (Form-F.Name name) = forms.rolls-Name name
rolled (Form-F.Call name args) = forms.rolls-Call name args
rolled (Form-F.Members items) = forms.rolls-Members items
rolled (Form-F.Unary op arg) = forms.rolls-Unary op arg
rolled (Form-F.Binary op left right) = forms.rolls-Binary op left right

-- an expression of this form
abbrev pub expr_of : ℕ → ℕ → Form-F Form Expr → Expr
expr_of from at x = record { from = from; at = at; form = form_again x }

-- a form with something in place of each expression in it
abbrev pub replaced : {A B : Type 0} → (Expr → B) → Form-F Form Expr → Form-F A B
replaced f (Form-F.Number n) = Form-F.Number n
replaced f (Form-F.Truth b) = Form-F.Truth b
replaced f (Form-F.Hex bytes) = Form-F.Hex bytes
replaced f (Form-F.Quoted bytes) = Form-F.Quoted bytes
replaced f (Form-F.Name name) = Form-F.Name name
replaced f (Form-F.Call name args) = Form-F.Call name (map f args)
replaced f (Form-F.Members items) = Form-F.Members (map f items)
replaced f (Form-F.Unary op arg) = Form-F.Unary op (f arg)
replaced f (Form-F.Binary op left right) = Form-F.Binary op (f left) (f right)

-- a fold, and what it comes to
module _ (A B : Type 0) (form : Form-F A B → A) (expr : Expr-F A B → B) where
  abbrev whole : Expr → B
  whole = fold-Expr A B form expr

  mapped : (x : Form-F Form Expr)
      → map-Form Form Expr A B (fold-Form A B form expr) whole x ≡ replaced whole x
  mapped (Form-F.Number n) = refl
  mapped (Form-F.Truth b) = refl
  mapped (Form-F.Hex bytes) = refl
  mapped (Form-F.Quoted bytes) = refl
  mapped (Form-F.Name name) = refl
  mapped (Form-F.Call name args) = refl
  mapped (Form-F.Members items) = refl
  mapped (Form-F.Unary op arg) = refl
  mapped (Form-F.Binary op left right) = refl

  -- a fold of an expression, by its form
  by_form : (e : Expr) → fold-Expr A B form expr e
      ≡ expr (record { from = e.from; at = e.at; form = fold-Form A B form expr e.form })
  by_form e = fold_out-Expr A B form expr e

  -- a fold of an expression, by those of the expressions in it
  pub folded : (from at : ℕ) (x : Form-F Form Expr) → fold-Expr A B form expr (expr_of from at x)
      ≡ expr (record { from = from; at = at; form = form (replaced (fold-Expr A B form expr) x) })
  folded from at x =
      fold_out-Expr A B form expr (expr_of from at x)
      ∙ ap (λ (f : A). expr (record { from = from; at = at; form = f }))
      (ap (fold-Form A B form expr) (sym (rolled x)) ∙ fold-roll-Form A B form expr x ∙ ap form (mapped x))

-- A fold that goes by the form alone is the same from other places.
pub moved : (A B : Type 0) (form : Form-F A B → A) (expr : A → B) (from at : ℕ) (e : Expr)
    → fold-Expr A B form (λ e. expr e.form) (record { from = from; at = at; form = e.form })
    ≡ fold-Expr A B form (λ e. expr e.form) e
moved A B form expr from at e =
    by_form A B form (λ e. expr e.form) (record { from = from; at = at; form = e.form })
    ∙ sym (by_form A B form (λ e. expr e.form) e)

-- ---- induction

-- it holds of each expression that stands in a form
abbrev pub AllWithin : (Expr → Type 0) → Form-F Form Expr → Type 0
AllWithin Q (Form-F.Call name args) = AllByRecursion Q args
AllWithin Q (Form-F.Members items) = AllByRecursion Q items
AllWithin Q (Form-F.Unary op arg) = Q arg
AllWithin Q (Form-F.Binary op left right) = Q left × Q right
AllWithin Q _ = Unit {0}

-- it holds of each expression of this form
abbrev Held : (Expr → Type 0) → Form → Type 0
Held Q form = (from at : ℕ) → Q (record { from = from; at = at; form = form })

all_held : (Q : Expr → Type 0) (es : List ((e : Expr) × Q e)) → AllByRecursion Q (map (λ e. e.0) es)
all_held Q [] = tt
all_held Q (e ∷ es) = (e.1, all_held Q es)

within : (Q : Expr → Type 0) (y : Form-F ((f : Form) × Held Q f) ((e : Expr) × Q e))
    → AllWithin Q (map-Form ((f : Form) × Held Q f) ((e : Expr) × Q e) Form Expr (λ e. e.0) (λ e. e.0) y)
within Q (Form-F.Number n) = tt
within Q (Form-F.Truth b) = tt
within Q (Form-F.Hex bytes) = tt
within Q (Form-F.Quoted bytes) = tt
within Q (Form-F.Name name) = tt
within Q (Form-F.Call name args) = all_held Q args
within Q (Form-F.Members items) = all_held Q items
within Q (Form-F.Unary op arg) = arg.1
within Q (Form-F.Binary op left right) = (left.1, right.1)

-- What holds of each expression where it holds of those in its form holds of all.
pub by_forms : (Q : Expr → Type 0)
    → ((from at : ℕ) (x : Form-F Form Expr) → AllWithin Q x → Q (expr_of from at x))
    → (e : Expr) → Q e
by_forms Q step =
    ind-Expr (Held Q) Q
    (λ x y is from at. subst (λ (f : Form). Q (record { from = from; at = at; form = f })) (sym (rolled x))
    (step from at x (subst (AllWithin Q) is (within Q y))))
    (λ x y is. subst (λ (z : Expr-F Form Expr). Q (record { from = z.from; at = z.at; form = z.form })) is
    (y.form.1 y.from y.at))

-- ---- without places

-- the same of each of a list
each_same : {A B : Type 0} (f : A → B) (h : A → A) (xs : List A) → AllByRecursion (λ x. f (h x) ≡ f x) xs
    → map f (map h xs) ≡ map f xs
each_same f h [] all = refl
each_same f h (x ∷ xs) all = λ i. all.0 i ∷ each_same f h xs all.1 i

replaced_same : {A B : Type 0} (f : Expr → B) (x : Form-F Form Expr)
    → AllWithin (λ e. f (unplaced_expr e) ≡ f e) x
    → ◌≡◌ {A = Form-F A B} (replaced f (replaced {A = Form} unplaced_expr x)) (replaced f x)
replaced_same f (Form-F.Number n) all = refl
replaced_same f (Form-F.Truth b) all = refl
replaced_same f (Form-F.Hex bytes) all = refl
replaced_same f (Form-F.Quoted bytes) all = refl
replaced_same f (Form-F.Name name) all = refl
replaced_same {A} {B} f (Form-F.Call name args) all =
    ap (λ (l : List B). Form-F.Call name l) (each_same f unplaced_expr args all)
replaced_same {A} {B} f (Form-F.Members items) all =
    ap (λ (l : List B). Form-F.Members l) (each_same f unplaced_expr items all)
replaced_same {A} {B} f (Form-F.Unary op arg) all = ap (λ (b : B). Form-F.Unary op b) all
replaced_same f (Form-F.Binary op left right) all = λ i. Form-F.Binary op (all.0 i) (all.1 i)

-- a fold that goes by the form alone
module _ (A B : Type 0) (form : Form-F A B → A) (expr : Expr-F A B → B)
    (placeless : (from at : ℕ) (f : A)
    → expr (record { from = from; at = at; form = f }) ≡ expr (record { from = 0; at = 0; form = f })) where
  fold_step : (from at : ℕ) (x : Form-F Form Expr)
      → AllWithin (λ e. fold-Expr A B form expr (unplaced_expr e) ≡ fold-Expr A B form expr e) x
      → fold-Expr A B form expr (unplaced_expr (expr_of from at x)) ≡ fold-Expr A B form expr (expr_of from at x)
  fold_step from at x all =
      ap (fold-Expr A B form expr)
      (folded Form Expr form_again (λ e. record { from = 0; at = 0; form = e.form }) from at x)
      ∙ folded A B form expr 0 0 (replaced unplaced_expr x)
      ∙ ap (λ (y : Form-F A B). expr (record { from = 0; at = 0; form = form y }))
      (replaced_same (fold-Expr A B form expr) x all)
      ∙ sym (placeless from at (form (replaced (fold-Expr A B form expr) x)))
      ∙ sym (folded A B form expr from at x)

  -- it is the same without the places
  pub fold_unplaced : (e : Expr) → fold-Expr A B form expr (unplaced_expr e) ≡ fold-Expr A B form expr e
  fold_unplaced = by_forms (λ e. fold-Expr A B form expr (unplaced_expr e) ≡ fold-Expr A B form expr e) fold_step
