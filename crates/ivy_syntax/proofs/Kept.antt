-- What is left of tokens where some are left out.
use Rattle.std.specs.Prelude.{◌≡◌, ◌≤◌, ◌+◌, List, [], ◌∷◌, ◌++◌, cond}
use Rattle.std.specs.List.{AllByRecursion}
use Rattle.std.proofs.Common.{sym, subst, arith}
use Rattle.std.proofs.lemmas.List.Sums.{sum_by-append}
use Rattle.grammars.specs.Places.{kinds}
use Rattle.ivy_syntax.specs.Token.{Token}
use Rattle.ivy_syntax.specs.Tokens.{Placed}
use Rattle.ivy_syntax.specs.Printing.{is_open, opened}
use Rattle.ivy_syntax.proofs.Splits.{kinds_joined}

-- The first are the second with some left out.
pub data Kept : List Token → List Token → Type 0 where
  none : Kept [] []
  keeps : {a b : List Token} (t : Token) → Kept a b → Kept (t ∷ a) (t ∷ b)
  drops : {a b : List Token} (t : Token) → Kept a b → Kept a (t ∷ b)

kept_joined : {a b c d : List Token} → Kept a b → Kept c d → Kept (a ++ c) (b ++ d)
kept_joined none k = k
kept_joined (keeps t h) k = keeps t (kept_joined h k)
kept_joined (drops t h) k = drops t (kept_joined h k)

pub kept_both : (a b : List Token) (u w : List Placed) → Kept a (kinds u) → Kept b (kinds w)
    → Kept (a ++ b) (kinds (u ++ w))
kept_both a b u w h k = subst (Kept (a ++ b)) (sym (kinds_joined u w)) (kept_joined h k)

pub kept_as : (a b c : List Token) → a ≡ b → Kept b c → Kept a c
kept_as a b c same h = subst (λ (l : List Token). Kept l c) (sym same) h

-- ---- what is so of them

pub all_of_kept : (F : Token → Type 0) {a b : List Token} → Kept a b → AllByRecursion F b → AllByRecursion F a
all_of_kept F none all = tt
all_of_kept F (keeps t h) all = (all.0, all_of_kept F h all.1)
all_of_kept F (drops t h) all = all_of_kept F h all.1

pub opened_joined : (a b : List Token) → opened (a ++ b) ≡ opened a + opened b
opened_joined a b = sum_by-append (λ (t : Token). cond (is_open t) 1 0) a b

pub fewer_opened : {a b : List Token} → Kept a b → opened a ≤ opened b
fewer_opened none = omega arith
fewer_opened (keeps {a = a} {b = b} t h) =
    omega (arith, opened_joined (t ∷ []) a, opened_joined (t ∷ []) b, fewer_opened h)
fewer_opened (drops {a = a} {b = b} t h) = omega (arith, opened_joined (t ∷ []) b, fewer_opened h)
