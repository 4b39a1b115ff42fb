-- A fold over an expression, by its form.
use Rattle.std.proofs.Common.{◌≡◌, ap, sym, ◌∙◌}
use Rattle.ivy_syntax.specs.declared.tree.Expr.{Expr, Expr-F, fold-Expr, fold_out-Expr}
use Rattle.ivy_syntax.specs.declared.tree.Form.{Form, roll-Form, map-Form}
use Rattle.ivy_syntax.specs.declared.tree.Form.TheOpen.{Form-F}
use Rattle.ivy_syntax.specs.declared.tree.Form.TheFolds.{fold-Form, fold-roll-Form}

module _ (R Q : Type 0) (of_form : Form-F R Q → R) (of_expr : Expr-F R Q → Q) where
  abbrev pub form_fold : Form → R
  form_fold = fold-Form R Q of_form of_expr

  abbrev pub expr_fold : Expr → Q
  expr_fold = fold-Expr R Q of_form of_expr

  pub by_form : (e : Expr) (form : Form) (x : Form-F Form Expr) (y : Form-F R Q) → e.form ≡ form → roll-Form x ≡ form
      → map-Form Form Expr R Q form_fold expr_fold x ≡ y
      → expr_fold e ≡ of_expr (record { from = e.from; at = e.at; form = of_form y })
  by_form e form x y is rolls maps =
      fold_out-Expr R Q of_form of_expr e
      ∙ ap (λ (r : R). of_expr (record { from = e.from; at = e.at; form = r }))
      (ap form_fold (is ∙ sym rolls) ∙ fold-roll-Form R Q of_form of_expr x ∙ ap of_form maps)
