-- Operands by what they begin with.
use Rattle.std.specs.Prelude.{◌≡◌, ℕ, zero, suc, ◌-◌, List, ◌∷◌, refl}
use Rattle.std.proofs.Common.{ap, ◌∙◌, sym, arith}
use Rattle.ivy_syntax.specs.declared.reading.Head.{Head}
use Rattle.ivy_syntax.specs.Tokens.{Placed}
use Rattle.ivy_syntax.specs.Descent.{start, nested_by, unary_at}
use Rattle.ivy_syntax.specs.Agreement.{start_of}

-- an operand within which another may stand
pub nested_is : (ts : List Placed) (t : Placed) (behind : List Placed) (depth : ℕ) (head : Head)
    → ts ≡ t ∷ behind → (depth ≡ 0 → ⊥) → start_of head ≡ start t.0
    → unary_at depth ts ≡ nested_by (unary_at (depth - 1)) (start_of head) t behind
nested_is ts t behind zero head is some begins = absurd (some refl)
nested_is ts t behind (suc d) head is some begins =
    let one : suc d - 1 ≡ d = omega arith in
    ap (λ ts. unary_at (suc d) ts) is ∙ ap (λ s. nested_by (unary_at d) s t behind) (sym begins)
    ∙ ap (λ n. nested_by (unary_at n) (start_of head) t behind) (sym one)
