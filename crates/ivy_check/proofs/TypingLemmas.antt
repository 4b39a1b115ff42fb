-- The places of an expression's typing, and what the functions of the walk rest on.
use Rattle.std.proofs.Common.{◌≡◌, ◌≤◌, ◌<◌, List, [], ◌∷◌, ap, sym, length, get_or, arith}
use Rattle.ivy_syntax.specs.declared.tree.Expr.{Expr, fold_out-Expr}
use Rattle.ivy_check.specs.Scope.{Scope}
use Rattle.ivy_check.specs.Expressions.{Typing, FormTyping, form_typing, placed, typing}
use Rattle.ivy_check.proofs.TestLemmas.{first_of_append}

pub from_typing : (scope : Scope) (e : Expr) → (typing scope e).from ≡ e.from
unfolding typing
from_typing scope e = ap (λ (t : Typing). t.from) (fold_out-Expr FormTyping Typing (form_typing scope) placed e)

pub at_typing : (scope : Scope) (e : Expr) → (typing scope e).at ≡ e.at
unfolding typing
at_typing scope e = ap (λ (t : Typing). t.at) (fold_out-Expr FormTyping Typing (form_typing scope) placed e)

-- for the functions of the walk
pub ruleset walking = (first_of_append, from_typing, at_typing)

-- two arguments
pub two_args : (xs : List Expr) (a b : Expr) → 2 ≤ length xs → length xs < 3 → a ≡ get_or xs 0 a → b ≡ get_or xs 1 b
    → xs ≡ a ∷ b ∷ []
two_args [] a b h k p q = absurd (omega arith)
two_args (x ∷ []) a b h k p q = absurd (omega arith)
two_args (x ∷ y ∷ []) a b h k p q = λ i. sym p i ∷ sym q i ∷ []
two_args (x ∷ y ∷ z ∷ xs) a b h k p q = absurd (omega arith)
