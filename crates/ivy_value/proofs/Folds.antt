-- A fold over an expression that goes by the form alone, at each form.
use Rattle.std.proofs.Common.{◌≡◌, ℕ, Bool, List, map, refl, ap, sym, ◌∙◌}
use Rattle.ivy_syntax.specs.declared.tree.Op.{Op}
use Rattle.ivy_syntax.specs.declared.tree.Expr.{Expr, fold-Expr, fold_out-Expr}
use Rattle.ivy_syntax.specs.declared.tree.Form.{Form, roll-Form, map-Form}
use Rattle.ivy_syntax.specs.declared.tree.Form.TheOpen.{Form-F}
use Rattle.ivy_syntax.specs.declared.tree.Form.TheFolds.{fold-Form, fold-roll-Form}
use Rattle.ivy_syntax.specs.declared.tree.Form.TheVariants as forms

module _ (A : Type 0) (from_parts : Form-F A A → A) where
  abbrev whole : Expr → A
  whole = fold-Expr A A from_parts (λ e. e.form)

  abbrev of_form : Form → A
  of_form = fold-Form A A from_parts (λ e. e.form)

  at_form : (e : Expr) (form : Form) (x : Form-F Form Expr) (y : Form-F A A) → e.form ≡ form → roll-Form x ≡ form
      → map-Form Form Expr A A of_form whole x ≡ y
      → whole e ≡ from_parts y
  at_form e form x y is rolls maps =
      fold_out-Expr A A from_parts (λ e. e.form) e
      ∙ ap of_form (is ∙ sym rolls)
      ∙ fold-roll-Form A A from_parts (λ e. e.form) x
      ∙ ap from_parts maps

  pub at_number : (e : Expr) (n : ℕ) → e.form ≡ forms.Number n → whole e ≡ from_parts (Form-F.Number n)
  at_number e n is = at_form e (forms.Number n) (Form-F.Number n) _ is (forms.rolls-Number n) refl

  pub at_truth : (e : Expr) (b : Bool) → e.form ≡ forms.Truth b → whole e ≡ from_parts (Form-F.Truth b)
  at_truth e b is = at_form e (forms.Truth b) (Form-F.Truth b) _ is (forms.rolls-Truth b) refl

  pub at_hex : (e : Expr) (bytes : List ℕ) → e.form ≡ forms.Hex bytes → whole e ≡ from_parts (Form-F.Hex bytes)
  at_hex e bytes is = at_form e (forms.Hex bytes) (Form-F.Hex bytes) _ is (forms.rolls-Hex bytes) refl

  pub at_text : (e : Expr) (bytes : List ℕ) → e.form ≡ forms.Quoted bytes → whole e ≡ from_parts (Form-F.Quoted bytes)
  at_text e bytes is = at_form e (forms.Quoted bytes) (Form-F.Quoted bytes) _ is (forms.rolls-Quoted bytes) refl

  pub at_name : (e : Expr) (name : List ℕ) → e.form ≡ forms.Name name → whole e ≡ from_parts (Form-F.Name name)
  at_name e name is = at_form e (forms.Name name) (Form-F.Name name) _ is (forms.rolls-Name name) refl

  pub at_call : (e : Expr) (name : List ℕ) (args : List Expr) → e.form ≡ forms.Call name args
      → whole e ≡ from_parts (Form-F.Call name (map whole args))
  at_call e name args is = at_form e (forms.Call name args) (Form-F.Call name args) _ is (forms.rolls-Call name args) refl

  pub at_list : (e : Expr) (members : List Expr) → e.form ≡ forms.Members members
      → whole e ≡ from_parts (Form-F.Members (map whole members))
  at_list e members is = at_form e (forms.Members members) (Form-F.Members members) _ is (forms.rolls-Members members) refl

  pub at_unary : (e : Expr) (o : Op) (arg : Expr) → e.form ≡ forms.Unary o arg
      → whole e ≡ from_parts (Form-F.Unary o (whole arg))
  at_unary e o arg is = at_form e (forms.Unary o arg) (Form-F.Unary o arg) _ is (forms.rolls-Unary o arg) refl

  pub at_binary : (e : Expr) (o : Op) (left right : Expr) → e.form ≡ forms.Binary o left right
      → whole e ≡ from_parts (Form-F.Binary o (whole left) (whole right))
  at_binary e o left right is =
      at_form e (forms.Binary o left right) (Form-F.Binary o left right) _ is (forms.rolls-Binary o left right) refl
