-- The levels of a tree, and the table of its nodes.
use Rattle.std.proofs.Common.{◌≡◌, ℕ, zero, suc, ◌+◌, ◌-◌, ◌*◌, ◌/◌, ◌%◌, ◌^◌, ◌<◌, ◌≤◌, ◌≢◌, ◌⊎◌, inl, inr, List, [], length, get_or, sym, ap, subst, ◌∙◌, add-one, arith}
use Rattle.std.proofs.Math.Nat.{pow-suc, mul_assoc, mul_comm, mul-le-mul_left, mul-le-mul_right, div-lt_iff_lt-mul}
use Rattle.std.proofs.lemmas.Nat.{pow-add, pow_pos, le-div}
use Rattle.std.proofs.lemmas.Bool.{cases_lt}
use Rattle.std.proofs.lemmas.List.{get_or-set_other, get_or-set_same}
use Rattle.std.proofs.Math.ListN.{set}
use Rattle.hash_sigs.specs.Tree.{interior}
use Rattle.hash_sigs.specs.Key.{Origin, node, sibling}
use Rattle.hash_sigs.specs.Nodes.{InLevel, HasNodes}
use Rattle.hash_sigs.proofs.Steps.{half_more}

next_times : (x p : ℕ) → (x + 1) * p ≡ x * p + p
next_times x p = grind arith

-- (2 r) 2^n and r 2^(n + 1) are one number
twice_below : (r n : ℕ) → 2 * r * 2 ^ n ≡ r * 2 ^ suc n
twice_below r n =
    let e : r * 2 ^ suc n ≡ r * (2 ^ n * 2) = ap (λ x. r * x) (pow-suc 2 n) in
    omega (arith, mul_assoc 2 r (2 ^ n), mul_assoc r (2 ^ n) 2, e)

-- the nodes below a node are one level lower
pub left_below : (h n r : ℕ) → InLevel h (suc n) r → InLevel h n (2 * r)
left_below h n r i =
    let e = twice_below r n in
    let a = next_times (2 * r) (2 ^ n) in
    let b = next_times r (2 ^ suc n) in
    let p = pow-suc 2 n in
    record {
      low = omega (arith, i.low, e);
      high = omega (arith, i.high, e, a, b, p);
    }

pub right_below : (h n r : ℕ) → InLevel h (suc n) r → InLevel h n (2 * r + 1)
right_below h n r i =
    let e = twice_below r n in
    let a = next_times (2 * r) (2 ^ n) in
    let c = next_times (2 * r + 1) (2 ^ n) in
    let b = next_times r (2 ^ suc n) in
    let p = pow-suc 2 n in
    record {
      low = omega (arith, i.low, e, a);
      high = omega (arith, i.high, e, a, b, c, p);
    }

-- the node so many levels above a leaf is in that level
pub above_leaf : (h n q : ℕ) → n ≤ h → q < 2 ^ h → InLevel h n ((2 ^ h + q) / 2 ^ n)
above_leaf h n q le lt =
    let k = h - n in
    let sum : k + n ≡ h = omega arith in
    let whole : 2 ^ h ≡ 2 ^ k * 2 ^ n = ap (λ x. 2 ^ x) (sym sum) ∙ pow-add 2 k n in
    let low : 2 ^ k ≤ (2 ^ h + q) / 2 ^ n = le-div (2 ^ k) (2 ^ h + q) (2 ^ n) (pow_pos n) (omega (arith, whole)) in
    let two : 2 ^ k * 2 * 2 ^ n ≡ 2 * (2 ^ k * 2 ^ n) = ap (λ x. x * 2 ^ n) (mul_comm (2 ^ k) 2) ∙ mul_assoc 2 (2 ^ k) (2 ^ n) in
    let inside : 2 ^ h + q < 2 ^ k * 2 * 2 ^ n = omega (arith, two, whole) in
    let high : (2 ^ h + q) / 2 ^ n < 2 ^ k * 2 = (div-lt_iff_lt-mul (pow_pos n)).1 inside in
    let high' : (2 ^ h + q) / 2 ^ n + 1 ≤ 2 ^ k * 2 = omega arith in
    let low_times : 2 ^ k * 2 ^ n ≤ (2 ^ h + q) / 2 ^ n * 2 ^ n = mul-le-mul_right (2 ^ n) low in
    let high_times : ((2 ^ h + q) / 2 ^ n + 1) * 2 ^ n ≤ 2 ^ k * 2 * 2 ^ n = mul-le-mul_right (2 ^ n) high' in
    record {
      low = omega (arith, whole, low_times);
      high = omega (arith, whole, two, high_times);
    }

-- a node's sibling stands below the same node
sibling_of : (m : ℕ) → (sibling m ≡ 2 * (m / 2)) ⊎ (sibling m ≡ 2 * (m / 2) + 1)
sibling_of m =
    elim (cases_lt (m % 2) 1) [
      | inl lt ↦ let e : m % 2 ≡ 0 = omega arith in inr (rw e (omega arith))
      | inr ge ↦ let e : m % 2 ≡ 1 = omega arith in inl (rw e (omega arith))
    ]

pub sibling_in_level : (h n q : ℕ) → n < h → q < 2 ^ h → InLevel h n (sibling ((2 ^ h + q) / 2 ^ n))
sibling_in_level h n q le lt =
    let m = (2 ^ h + q) / 2 ^ n in
    let half : (2 ^ h + q) / 2 ^ suc n ≡ m / 2 = ap (λ k. (2 ^ h + q) / 2 ^ k) (sym (add-one n)) ∙ half_more (2 ^ h + q) n in
    let up : InLevel h (suc n) (m / 2) = subst (λ (x : ℕ). InLevel h (suc n) x) half (above_leaf h (suc n) q (omega arith) lt) in
    elim (sibling_of m) [
      | inl e ↦ subst (λ (x : ℕ). InLevel h n x) (sym e) (left_below h n (m / 2) up)
      | inr e ↦ subst (λ (x : ℕ). InLevel h n x) (sym e) (right_below h n (m / 2) up)
    ]

-- the number of a node is not 0, and it is below the number of all nodes
pub level_bounds : (h n r : ℕ) → InLevel h n r → (1 ≤ r) × (r < 2 ^ h * 2)
level_bounds h n zero i = absurd (omega (arith, i.low, pow_pos h))
level_bounds h n (suc r) i =
    let p : 1 ≤ 2 ^ n = pow_pos n in
    let t : (suc r + 1) * 1 ≤ (suc r + 1) * 2 ^ n = mul-le-mul_left (suc r + 1) p in
    (omega arith, omega (arith, t, i.high))

-- ---- the table

pub leaves_are_nodes : (o : Origin) (nodes : List (List ℕ)) → ((q : ℕ) → q < 2 ^ o.height → get_or nodes (2 ^ o.height + q) [] ≡ node o 0 (2 ^ o.height + q)) → HasNodes o nodes (2 ^ o.height)
unfolding HasNodes
leaves_are_nodes o nodes each zero r le i from =
    let q = r - 2 ^ o.height in
    let e : 2 ^ o.height + q ≡ r = omega arith in
    subst (λ (x : ℕ). get_or nodes x [] ≡ node o 0 x) e (each q (omega (arith, i.high)))
leaves_are_nodes o nodes each (suc n) r le i from =
    let b = next_times r (2 ^ suc n) in
    let p : 2 ≤ 2 ^ suc n = omega (arith, pow-suc 2 n, pow_pos n) in
    let twice : r * 2 ≤ r * 2 ^ suc n = mul-le-mul_left r p in
    absurd (omega (arith, b, p, twice, from, i.high))

-- of a node that is no leaf
at_node : (o : Origin) (nodes : List (List ℕ)) (r n : ℕ) → 1 ≤ r → r + 1 ≤ 2 ^ o.height → HasNodes o nodes (r + 1) → n ≤ o.height → InLevel o.height n r → interior o.id r (get_or nodes (2 * r) []) (get_or nodes (2 * r + 1) []) ≡ node o n r
unfolding HasNodes node
at_node o nodes r zero low below has le i = absurd (omega (arith, i.low))
at_node o nodes r (suc n) low below has le i =
    let left : get_or nodes (2 * r) [] ≡ node o n (2 * r) = has n (2 * r) (omega arith) (left_below o.height n r i) (omega arith) in
    let right : get_or nodes (2 * r + 1) [] ≡ node o n (2 * r + 1) = has n (2 * r + 1) (omega arith) (right_below o.height n r i) (omega arith) in
    ap (λ v. interior o.id r v (get_or nodes (2 * r + 1) [])) left ∙ ap (λ v. interior o.id r (node o n (2 * r)) v) right

-- one node more, before those that the table has
pub node_before : (o : Origin) (nodes : List (List ℕ)) (r : ℕ) (value : List ℕ) → 1 ≤ r → r + 1 ≤ 2 ^ o.height → length nodes ≡ 2 ^ o.height * 2 → HasNodes o nodes (r + 1) → value ≡ interior o.id r (get_or nodes (2 * r) []) (get_or nodes (2 * r + 1) []) → HasNodes o (set nodes r value) r
unfolding HasNodes
node_before o nodes r value low below len has is n x le i from =
    elim (cases_lt r x) [
      | inl lt ↦ let other : x ≢ r = omega arith in get_or-set_other nodes r x value [] other ∙ has n x le i (omega arith)
      | inr ge ↦ let same : r ≡ x = omega arith in
          subst (λ (y : ℕ). get_or (set nodes r value) y [] ≡ node o n y) same
          (get_or-set_same nodes r value [] (omega arith) ∙ is ∙ at_node o nodes r n low below has le (subst (λ (y : ℕ). InLevel o.height n y) (sym same) i))
    ]

-- what a table of all nodes has at the root
pub root_of : (o : Origin) (nodes : List (List ℕ)) → HasNodes o nodes 1 → get_or nodes 1 [] ≡ node o o.height 1
unfolding HasNodes
root_of o nodes has =
    let h = o.height in
    let i : InLevel h h 1 = record { low = omega arith; high = omega arith } in
    has h 1 (omega arith) i (omega arith)
