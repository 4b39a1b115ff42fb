use Rattle.std.proofs.Common.{◌≤◌, ℕ, [], ◌∷◌, ◌+◌, length, min, max, arith}
use Rattle.std.proofs.lemmas.Bool.Decides.{nat_tests}
use Rattle.vm_ops.specs.Results.{entry_at-all}
use Rattle.vm_ops.proofs.laws.rows_cost.Goals as goal

pub returns-clause-numbers : goal.returns-clause-numbers
returns-clause-numbers c = λ code. grind (arith, nat_tests)

pub returns-clause-bytes : goal.returns-clause-bytes
returns-clause-bytes c = λ code a b item.
    entry_at-all (λ (base : ℕ). 1 ≤ base) (4 + length item) (
    (0x83, 1 + length a)
    ∷ (0x84, 1 + min (length a) (length b))
    ∷ (0x85, 1 + max (length a) (length b))
    ∷ (0x86, 1 + max (length a) (length b))
    ∷ (0x87, 1 + min (length a) (length b))
    ∷ (0xa8, max 64 (length a))
    ∷ []) code (omega arith) (omega arith, (omega arith, (omega arith, (omega arith, (omega arith, (omega arith, tt))))))
