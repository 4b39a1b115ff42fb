-- How many operators an expression has, and whether its lists and calls are short, by its form.
use Rattle.std.proofs.Common.{◌≡◌, ◌+◌, ◌&&◌, ℕ, Bool, true, false, List, [], ◌∷◌, ◌++◌}
use Rattle.std.proofs.Common.{length, map, ap, ◌∙◌, arith, refl}
use Rattle.std.specs.Prelude.{nat_le, sum}
use Rattle.std.specs.List.{list_all}
use Rattle.std.proofs.lemmas.List.{length-map, map-append}
use Rattle.std.proofs.lemmas.List.Sums.{sum_by-append}
use Rattle.std.proofs.lemmas.List.Folds.{list_all-append}
use Rattle.ivy_syntax.specs.declared.tree.Expr.{Expr}
use Rattle.ivy_syntax.specs.declared.tree.Form.{Form}
use Rattle.ivy_syntax.specs.declared.tree.Form.TheOpen.{Form-F}
use Rattle.ivy_syntax.specs.declared.tree.Form.TheVariants as forms
use Rattle.ivy_syntax.specs.declared.tree.Op.{Op}
use Rattle.ivy_syntax.specs.Token.{Token}
use Rattle.ivy_syntax.specs.Grammar.{single, between, before, enclosed, IsSingle, a_number, a_true, a_false, a_hex}
use Rattle.ivy_syntax.specs.Grammar.{a_text, a_name}
use Rattle.ivy_syntax.specs.TreeLimits.{form_operators, operators, form_is_short, is_short}
use Rattle.ivy_syntax.specs.Unplaced.{form_again}
use Rattle.ivy_syntax.proofs.ExprFolds.{expr_of, replaced, folded, moved}

-- ---- by the form

operators_by : (from at : ℕ) (x : Form-F Form Expr)
    → operators (expr_of from at x) ≡ form_operators (replaced operators x)
operators_by = folded ℕ ℕ form_operators (λ e. e.form)

short_by : (from at : ℕ) (x : Form-F Form Expr) → is_short (expr_of from at x) ≡ form_is_short (replaced is_short x)
short_by = folded Bool Bool form_is_short (λ e. e.form)

-- ---- lists of expressions

abbrev pub operators_of : List Expr → ℕ
operators_of items = sum (map operators items)

abbrev pub are_short : List Expr → Bool
are_short items = list_all (λ b. b) (map is_short items)

abbrev pub all_short : List Expr → Bool
all_short items = nat_le (length items) 16 && are_short items

counted_args : (items : List Expr) → (nat_le (length (map is_short items)) 16 && are_short items) ≡ all_short items
counted_args items = ap (λ n. nat_le n 16 && are_short items) (length-map items is_short)

pub operators_more : (items : List Expr) (e : Expr)
    → operators_of (items ++ (e ∷ [])) ≡ operators_of items + operators e
operators_more items e =
    ap sum (map-append operators items (e ∷ [])) ∙ sum_by-append (λ n. n) (map operators items) (operators e ∷ [])
    ∙ omega arith

pub short_more : (items : List Expr) (e : Expr)
    → are_short (items ++ (e ∷ [])) ≡ (are_short items && (is_short e && true))
short_more items e =
    ap (list_all (λ b. b)) (map-append is_short items (e ∷ []))
    ∙ list_all-append (λ b. b) (map is_short items) (is_short e ∷ [])

-- ---- each form

pub binary_operators : (at : ℕ) (op : Op) (a b : Expr) → operators (between at op a b) ≡ 1 + operators a + operators b
binary_operators at op a b = operators_by a.from at (Form-F.Binary op a b)

pub binary_short : (at : ℕ) (op : Op) (a b : Expr) → is_short (between at op a b) ≡ (is_short a && is_short b)
binary_short at op a b = short_by a.from at (Form-F.Binary op a b)

pub unary_operators : (at : ℕ) (op : Op) (e : Expr) → operators (before at op e) ≡ 1 + operators e
unary_operators at op e = operators_by at at (Form-F.Unary op e)

pub unary_short : (at : ℕ) (op : Op) (e : Expr) → is_short (before at op e) ≡ is_short e
unary_short at op e = short_by at at (Form-F.Unary op e)

pub call_operators : (at : ℕ) (name : List ℕ) (args : List Expr)
    → operators (single at (forms.Call name args)) ≡ operators_of args
call_operators at name args = operators_by at at (Form-F.Call name args)

pub call_short : (at : ℕ) (name : List ℕ) (args : List Expr)
    → is_short (single at (forms.Call name args)) ≡ all_short args
call_short at name args = short_by at at (Form-F.Call name args) ∙ counted_args args

pub members_operators : (at : ℕ) (items : List Expr) → operators (single at (forms.Members items)) ≡ operators_of items
members_operators at items = operators_by at at (Form-F.Members items)

pub members_short : (at : ℕ) (items : List Expr) → is_short (single at (forms.Members items)) ≡ all_short items
members_short at items = short_by at at (Form-F.Members items) ∙ counted_args items

pub enclosed_operators : (at : ℕ) (e : Expr) → operators (enclosed at e) ≡ operators e
enclosed_operators at e = moved ℕ ℕ form_operators (λ n. n) at e.at e

pub enclosed_short : (at : ℕ) (e : Expr) → is_short (enclosed at e) ≡ is_short e
enclosed_short at e = moved Bool Bool form_is_short (λ b. b) at e.at e

-- ---- one token

pub record IsPlain (form : Form) : Type 0 where
  pub operators : (at : ℕ) → operators (single at form) ≡ 0
  pub short : (at : ℕ) → is_short (single at form) ≡ true

plain : (x : Form-F Form Expr) → form_operators (replaced operators x) ≡ 0 → form_is_short (replaced is_short x) ≡ true
    → IsPlain (form_again x)
plain x none short = record {
  operators = λ at. operators_by at at x ∙ none;
  short = λ at. short_by at at x ∙ short;
}

pub single_is_plain : (t : Token) (form : Form) → IsSingle t form → IsPlain form
single_is_plain _ _ (a_number n) = plain (Form-F.Number n) refl refl
single_is_plain _ _ a_true = plain (Form-F.Truth true) refl refl
single_is_plain _ _ a_false = plain (Form-F.Truth false) refl refl
single_is_plain _ _ (a_hex bytes) = plain (Form-F.Hex bytes) refl refl
single_is_plain _ _ (a_text bytes) = plain (Form-F.Quoted bytes) refl refl
single_is_plain _ _ (a_name name) = plain (Form-F.Name name) refl refl
