-- For the functions of the walk.
use Rattle.std.proofs.Common.{◌≡◌, ◌<◌, ◌≤◌, List, [], ◌∷◌, map, length, Option, Some, None, refl, arith}
use Rattle.std.proofs.lemmas.List.{length-map}
use Rattle.ivy_syntax.specs.declared.tree.Expr.{Expr}
use Rattle.ivy_check.specs.declared.functions.Function.{Function}
use Rattle.ivy_value.specs.Lowered.{Lowered, called}

-- no function has no argument, or three
pub no_args : (f : Option Function) (g : Expr → Option Lowered) (args : List Expr) → length args < 1
    → None ≡ called f (map g args)
no_args None g args few = refl
no_args (Some f) g [] few = refl
no_args (Some f) g (a ∷ args) few = absurd (omega arith)

pub many_args : (f : Option Function) (g : Expr → Option Lowered) (args : List Expr) → 3 ≤ length args
    → None ≡ called f (map g args)
many_args None g args many = refl
many_args (Some f) g [] many = absurd (omega arith)
many_args (Some f) g (a ∷ []) many = absurd (omega arith)
many_args (Some f) g (a ∷ b ∷ []) many = absurd (omega arith)
many_args (Some f) g (a ∷ b ∷ c ∷ args) many = refl

pub ruleset walking = (length-map, no_args, many_args)
