-- One clause is selected at most.
use Rattle.std.proofs.Common.{◌≡◌, ◌≤◌, ℕ, List, [], ◌∷◌, ◌++◌, length, Some, refl, ap, sym, ◌∙◌, pos, arith}
use Rattle.ivy_syntax.specs.declared.tree.ClauseTree.{ClauseTree}
use Rattle.ivy_syntax.specs.declared.tree.Contract.{Contract}
use Rattle.vm_num.specs.Item.{Item, num}
use Rattle.ivy_value.specs.Holds.{Selects, only, one_of}

-- lists with one more item at their ends
same_ends : (xs ys : List Item) (a b : Item) → xs ++ (a ∷ []) ≡ ys ++ (b ∷ []) → (xs ≡ ys) × (a ≡ b)
same_ends [] [] a b is = (refl, cc)
same_ends [] (y ∷ []) a b is = absurd cc
same_ends [] (y ∷ z ∷ ys) a b is = absurd cc
same_ends (x ∷ []) [] a b is = absurd cc
same_ends (x ∷ z ∷ xs) [] a b is = absurd cc
same_ends (x ∷ xs) (y ∷ ys) a b is =
    let rest = same_ends xs ys a b cc in ((λ i. first i ∷ rest.0 i), rest.1)
  where
    first : x ≡ y
    first = cc

one_clause : (clauses : List ClauseTree) (clause : ClauseTree) → clauses ≡ clause ∷ [] → 2 ≤ length clauses → ⊥
one_clause clauses clause is many = too_many (ap length is) many
  where
    too_many : length clauses ≡ 1 → 2 ≤ length clauses → ⊥
    too_many h k = omega arith

same_number : (i j : ℕ) → Some (pos i) ≡ Some (pos j) → i ≡ j
same_number i j h = cc

pub one_selected : (contract : Contract) (arguments : List Item) (i j : ℕ) (held given : List Item)
    → Selects contract arguments i held
    → Selects contract arguments j given
    → (i ≡ j) × (held ≡ given)
one_selected contract arguments i j held given (only c is count) (only d is_2 count_2) = (refl, refl)
one_selected contract arguments i j held given (only c is count) (one_of d b many there ends count_2 number) =
    absurd (one_clause contract.clauses c is many)
one_selected contract arguments i j held given (one_of c a many there ends count number) (only d is count_2) =
    absurd (one_clause contract.clauses d is many)
one_selected contract arguments i j held given (one_of c a many there ends count number) (one_of d b many_2 there_2 ends_2 count_2 number_2) =
    let same = same_ends held given a b (sym ends ∙ ends_2) in
    (same_number i j (sym number ∙ ap num same.1 ∙ number_2), same.0)
