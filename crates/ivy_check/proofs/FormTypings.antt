-- The typing of an expression of each form, and induction over expressions.
use Rattle.std.proofs.Common.{◌≡◌, ℕ, Bool, List, [], ◌∷◌, map, refl, ap, sym, ◌∙◌, subst}
use Rattle.std.specs.List.{AllByRecursion}
use Rattle.ivy_syntax.specs.declared.tree.Op.{Op}
use Rattle.ivy_syntax.specs.declared.tree.Expr.{Expr, Expr-F, ind-Expr}
use Rattle.ivy_syntax.specs.declared.tree.Form.{Form, roll-Form, map-Form}
use Rattle.ivy_syntax.specs.declared.tree.Form.TheOpen.{Form-F}
use Rattle.ivy_syntax.specs.declared.tree.Form.TheVariants as forms
use Rattle.ivy_check.specs.Scope.{Scope}
use Rattle.ivy_check.specs.Expressions.{Typing, FormTyping, form_typing, placed, typing}
use Rattle.ivy_check.proofs.Folds.{form_fold, by_form}

-- at the places of an expression
abbrev pub placed_at : Expr → FormTyping → Typing
placed_at e says = placed (record { from = e.from; at = e.at; form = says })

module _ (scope : Scope) (e : Expr) where
  abbrev Is : Form-F FormTyping Typing → Type 0
  Is x = typing scope e ≡ placed_at e (form_typing scope x)

  by_rolled : (form : Form) (x : Form-F Form Expr) (y : Form-F FormTyping Typing) → e.form ≡ form → roll-Form x ≡ form
      → map-Form Form Expr FormTyping Typing (form_fold FormTyping Typing (form_typing scope) placed) (typing scope) x ≡ y
      → Is y
  unfolding typing
  by_rolled form x y is rolls maps = by_form FormTyping Typing (form_typing scope) placed e form x y is rolls maps

  pub number_typing : (n : ℕ) → e.form ≡ forms.Number n → Is (Form-F.Number n)
  number_typing n is = by_rolled (forms.Number n) (Form-F.Number n) _ is (forms.rolls-Number n) refl

  pub truth_typing : (b : Bool) → e.form ≡ forms.Truth b → Is (Form-F.Truth b)
  truth_typing b is = by_rolled (forms.Truth b) (Form-F.Truth b) _ is (forms.rolls-Truth b) refl

  pub hex_typing : (bytes : List ℕ) → e.form ≡ forms.Hex bytes → Is (Form-F.Hex bytes)
  hex_typing bytes is = by_rolled (forms.Hex bytes) (Form-F.Hex bytes) _ is (forms.rolls-Hex bytes) refl

  pub text_typing : (bytes : List ℕ) → e.form ≡ forms.Quoted bytes → Is (Form-F.Quoted bytes)
  text_typing bytes is = by_rolled (forms.Quoted bytes) (Form-F.Quoted bytes) _ is (forms.rolls-Quoted bytes) refl

  pub name_typing : (name : List ℕ) → e.form ≡ forms.Name name → Is (Form-F.Name name)
  name_typing name is = by_rolled (forms.Name name) (Form-F.Name name) _ is (forms.rolls-Name name) refl

  pub call_typing : (name : List ℕ) (args : List Expr) → e.form ≡ forms.Call name args
      → Is (Form-F.Call name (map (typing scope) args))
  call_typing name args is = by_rolled (forms.Call name args) (Form-F.Call name args) _ is (forms.rolls-Call name args) refl

  pub list_typing : (members : List Expr) → e.form ≡ forms.Members members
      → Is (Form-F.Members (map (typing scope) members))
  list_typing members is = by_rolled (forms.Members members) (Form-F.Members members) _ is (forms.rolls-Members members) refl

  pub one_typing : (o : Op) (arg : Expr) → e.form ≡ forms.Unary o arg → Is (Form-F.Unary o (typing scope arg))
  one_typing o arg is = by_rolled (forms.Unary o arg) (Form-F.Unary o arg) _ is (forms.rolls-Unary o arg) refl

  pub two_typing : (o : Op) (left right : Expr) → e.form ≡ forms.Binary o left right
      → Is (Form-F.Binary o (typing scope left) (typing scope right))
  two_typing o left right is =
      by_rolled (forms.Binary o left right) (Form-F.Binary o left right) _ is (forms.rolls-Binary o left right) refl

-- ---- induction

-- a form that expressions stand in
abbrev pub form_again : Form-F Form Expr → Form
form_again (Form-F.Number n) = forms.Number n
form_again (Form-F.Truth b) = forms.Truth b
form_again (Form-F.Hex bytes) = forms.Hex bytes
form_again (Form-F.Quoted bytes) = forms.Quoted bytes
form_again (Form-F.Name name) = forms.Name name
form_again (Form-F.Call name args) = forms.Call name args
form_again (Form-F.Members items) = forms.Members items
form_again (Form-F.Unary op arg) = forms.Unary op arg
form_again (Form-F.Binary op left right) = forms.Binary op left right

pub rolled : (x : Form-F Form Expr) → roll-Form x ≡ form_again x
rolled (Form-F.Number n) = forms.rolls-Number n
rolled (Form-F.Truth b) = forms.rolls-Truth b
rolled (Form-F.Hex bytes) = forms.rolls-Hex bytes
rolled (Form-F.Quoted bytes) = forms.rolls-Quoted bytes
rolled (Form-F.Name name) = forms.rolls-Name name
rolled (Form-F.Call name args) = forms.rolls-Call name args
rolled (Form-F.Members items) = forms.rolls-Members items
rolled (Form-F.Unary op arg) = forms.rolls-Unary op arg
rolled (Form-F.Binary op left right) = forms.rolls-Binary op left right

abbrev pub expr_of : ℕ → ℕ → Form-F Form Expr → Expr
expr_of from at x = record { from = from; at = at; form = form_again x }

-- it holds of each expression that stands in a form
abbrev pub AllWithin : (Expr → Type 0) → Form-F Form Expr → Type 0
AllWithin Q (Form-F.Call name args) = AllByRecursion Q args
AllWithin Q (Form-F.Members items) = AllByRecursion Q items
AllWithin Q (Form-F.Unary op arg) = Q arg
AllWithin Q (Form-F.Binary op left right) = Q left × Q right
AllWithin Q _ = Unit {0}

abbrev Held : (Expr → Type 0) → Form → Type 0
Held Q form = (from at : ℕ) → Q (record { from = from; at = at; form = form })

all_held : (Q : Expr → Type 0) (es : List ((e : Expr) × Q e)) → AllByRecursion Q (map (λ e. e.0) es)
all_held Q [] = tt
all_held Q (e ∷ es) = (e.1, all_held Q es)

within : (Q : Expr → Type 0) (y : Form-F ((f : Form) × Held Q f) ((e : Expr) × Q e))
    → AllWithin Q (map-Form ((f : Form) × Held Q f) ((e : Expr) × Q e) Form Expr (λ e. e.0) (λ e. e.0) y)
within Q (Form-F.Number n) = tt
within Q (Form-F.Truth b) = tt
within Q (Form-F.Hex bytes) = tt
within Q (Form-F.Quoted bytes) = tt
within Q (Form-F.Name name) = tt
within Q (Form-F.Call name args) = all_held Q args
within Q (Form-F.Members items) = all_held Q items
within Q (Form-F.Unary op arg) = arg.1
within Q (Form-F.Binary op left right) = (left.1, right.1)

-- What holds of each expression where it holds of those in its form holds of all.
pub by_forms : (Q : Expr → Type 0)
    → ((from at : ℕ) (x : Form-F Form Expr) → AllWithin Q x → Q (expr_of from at x))
    → (e : Expr) → Q e
by_forms Q step =
    ind-Expr (Held Q) Q
    (λ x y is from at. subst (λ (f : Form). Q (record { from = from; at = at; form = f })) (sym (rolled x))
    (step from at x (subst (AllWithin Q) is (within Q y))))
    (λ x y is. subst (λ (z : Expr-F Form Expr). Q (record { from = z.from; at = z.at; form = z.form })) is
    (y.form.1 y.from y.at))
