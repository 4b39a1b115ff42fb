-- The path of a leaf leads to the root.
use Rattle.std.proofs.Common.{◌≡◌, ℕ, zero, suc, ◌+◌, ◌-◌, ◌*◌, ◌/◌, ◌%◌, ◌^◌, ◌<◌, inl, inr, List, length, sym, ap, ◌∙◌, add-one, arith}
use Rattle.std.proofs.lemmas.Bool.{cases_lt}
use Rattle.keyed.specs.Digests.{digest_length}
use Rattle.hash_sigs.specs.Tree.{leaf, interior, above, climbed}
use Rattle.hash_sigs.specs.Key.{Origin, node, sibling, own_path, own_one_time_key}
use Rattle.hash_sigs.proofs.Steps.{half_none, half_more}

pub length-node : (o : Origin) (n r : ℕ) → length (node o n r) ≡ 32
unfolding node
length-node o zero r = digest_length _
length-node o (suc n) r = digest_length _

above_is : (o : Origin) (n m : ℕ) → above o.id m (node o n m) (node o n (sibling m)) ≡ node o (suc n) (m / 2)
unfolding above node
above_is o n m =
    elim (cases_lt (m % 2) 1) [
      | inl lt ↦
          let e : m % 2 ≡ 0 = omega arith in
          let left : m ≡ 2 * (m / 2) = omega arith in
          let right : m + 1 ≡ 2 * (m / 2) + 1 = omega arith in
          rw e (ap (λ x. interior o.id (m / 2) (node o n x) (node o n (m + 1))) left ∙ ap (λ x. interior o.id (m / 2) (node o n (2 * (m / 2))) (node o n x)) right)
      | inr ge ↦
          let e : m % 2 ≡ 1 = omega arith in
          let left : m - 1 ≡ 2 * (m / 2) = omega arith in
          let right : m ≡ 2 * (m / 2) + 1 = omega arith in
          rw e (ap (λ x. interior o.id (m / 2) (node o n x) (node o n m)) left ∙ ap (λ x. interior o.id (m / 2) (node o n (2 * (m / 2))) (node o n x)) right)
    ]

pub climbed_is : (o : Origin) (q : ℕ) (path : ℕ → List ℕ) (n : ℕ) → ((k : ℕ) → k < n → path k ≡ own_path o q k) → climbed o.id (2 ^ o.height + q) (node o 0 (2 ^ o.height + q)) path n ≡ node o n ((2 ^ o.height + q) / 2 ^ n)
unfolding climbed own_path
climbed_is o q path zero same = ap (λ r. node o 0 r) (half_none (2 ^ o.height + q))
climbed_is o q path (suc n) same =
    let r = 2 ^ o.height + q in
    let m = r / 2 ^ n in
    let half : m / 2 ≡ r / 2 ^ suc n = sym (half_more r n) ∙ ap (λ k. r / 2 ^ k) (add-one n) in
    ap (λ v. above o.id m v (path n)) (climbed_is o q path n (λ k lt. same k (omega arith)))
    ∙ ap (λ v. above o.id m (node o n m) v) (same n (omega arith))
    ∙ above_is o n m
    ∙ ap (λ k. node o (suc n) k) half

pub leaf_is : (o : Origin) (q : ℕ) → leaf o.id (2 ^ o.height + q) (own_one_time_key o q) ≡ node o 0 (2 ^ o.height + q)
unfolding node
leaf_is o q =
    let e : q ≡ 2 ^ o.height + q - 2 ^ o.height = omega arith in
    ap (λ k. leaf o.id (2 ^ o.height + q) (own_one_time_key o k)) e
