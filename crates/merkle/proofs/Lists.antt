-- Roots of lists.
use Rattle.std.proofs.Common.{◌≡◌, ℕ, zero, suc, ◌+◌, ◌-◌, ◌*◌, ◌/◌, ◌<◌, ◌≤◌, ◌^◌, List, [], ◌∷◌, ◌++◌, length, take, drop, get_or, refl, sym, ◌∙◌, ap, arith}
use Rattle.std.proofs.Math.Pow.{pow_pos, pow_mono}
use Rattle.std.proofs.Math.Nat.{pow-suc}
use Rattle.std.proofs.lemmas.Bool.{le-leb, lt-leb}
use Rattle.std.proofs.lemmas.List.{take_at, drop_at, take-append-drop, length-append, length-take-le, length-drop}
use Rattle.std.specs.Int.{IsPowerOfTwo}
use Rattle.merkle.specs.Roots.{leaf, node, root_within, list_root}
use Rattle.keyed.specs.Functions.{Hash}
use Rattle.merkle.specs.Laws.{ListRoots}

below_power : (n : ℕ) → n ≤ 2 ^ n
below_power zero = omega arith
below_power (suc n) = (let before : n ≤ 2 ^ n = below_power n in omega (arith, pow-suc 2 n, pow_pos n))

module _ (hash : Hash) where
  few : (d : ℕ) (ids : List (List ℕ)) → length ids ≤ 2 ^ d → root_within hash (suc d) ids ≡ root_within hash d ids
  unfolding root_within
  few d ids h = rw (le-leb (length ids) (2 ^ d) h)

  many : (d : ℕ) (ids : List (List ℕ)) → 2 ^ d < length ids → root_within hash (suc d) ids ≡ node hash (root_within hash d (take (2 ^ d) ids)) (root_within hash d (drop (2 ^ d) ids))
  unfolding root_within
  many d ids h = rw (lt-leb (length ids) (2 ^ d) h)

  deeper : (j d e : ℕ) → e ≡ j + d → (ids : List (List ℕ)) → length ids ≤ 2 ^ d → root_within hash e ids ≡ root_within hash d ids
  deeper zero d e at ids h = (let same : e ≡ d = omega arith in ap (λ (n : ℕ). root_within hash n ids) same)
  deeper (suc j) d zero at ids h = absurd (omega arith)
  deeper (suc j) d (suc e) at ids h =
      let before : e ≡ j + d = omega arith in
      let within : d ≤ e = omega arith in
      let power : 2 ^ d ≤ 2 ^ e = pow_mono within in
      few e ids (omega arith) ∙ deeper j d e before ids h

  pub at_depth : (e : ℕ) (ids : List (List ℕ)) → length ids ≤ 2 ^ e → list_root hash ids ≡ root_within hash e ids
  unfolding list_root
  at_depth e ids h =
      sym (deeper e (length ids) (e + length ids) refl ids (below_power (length ids)))
      ∙ deeper (length ids) e (e + length ids) (omega arith) ids h

  empty : list_root hash [] ≡ hash []
  unfolding list_root root_within
  empty = refl

  one : (id : List ℕ) → list_root hash (id ∷ []) ≡ leaf hash id
  unfolding list_root root_within
  one id = refl

  more : (left right : List (List ℕ)) (k : ℕ) → length left ≡ 2 ^ k → 0 < length right → length right ≤ 2 ^ k → list_root hash (left ++ right) ≡ node hash (list_root hash left) (list_root hash right)
  more left right k full some room =
      let all : length (left ++ right) ≡ length left + length right = length-append left right in
      let within : length (left ++ right) ≤ 2 ^ suc k = omega (arith, pow-suc 2 k) in
      let past : 2 ^ k < length (left ++ right) = omega arith in
      let fits : length left ≤ 2 ^ k = omega arith in
      let l = ap (root_within hash k) (take_at left right (2 ^ k) full) ∙ sym (at_depth k left fits) in
      let r = ap (root_within hash k) (drop_at left right (2 ^ k) full) ∙ sym (at_depth k right room) in
      at_depth (suc k) (left ++ right) within ∙ many k (left ++ right) past ∙ (λ i. node hash (l i) (r i))

  pub list_roots : ListRoots hash
  list_roots = record { empty = empty; one = one; more = more }

  -- ---- the same of a list by its length

  pub root_of_none : (ids : List (List ℕ)) → length ids ≡ 0 → list_root hash ids ≡ hash []
  root_of_none [] e = empty
  root_of_none (id ∷ ids) e = absurd (omega (arith, e))

  pub root_of_one : (ids : List (List ℕ)) → length ids ≡ 1 → list_root hash ids ≡ leaf hash (get_or ids 0 [])
  root_of_one [] e = absurd (omega (arith, e))
  root_of_one (id ∷ []) e = one id
  root_of_one (id ∷ (other ∷ ids)) e = absurd (omega (arith, e))

  pub root_of_more : (ids : List (List ℕ)) (half : ℕ) → IsPowerOfTwo half → half < length ids → length ids ≤ half + half → list_root hash ids ≡ node hash (list_root hash (take half ids)) (list_root hash (drop half ids))
  root_of_more ids half power below room =
      let left : length (take half ids) ≡ half = length-take-le half ids (omega arith) in
      let right : length (drop half ids) ≡ length ids - half = length-drop half ids in
      ap (list_root hash) (sym (take-append-drop half ids))
      ∙ more (take half ids) (drop half ids) power.0 (left ∙ power.1) (omega arith) (omega (arith, power.1))

-- half of a power of two from 2 on is one
pub half_of_power : (p : ℕ) → IsPowerOfTwo p → 2 ≤ p → IsPowerOfTwo (p / 2) × (p ≡ p / 2 + p / 2)
half_of_power p power h = by_exponent p power.0 power.1 h
  where
    by_exponent : (p k : ℕ) → p ≡ 2 ^ k → 2 ≤ p → IsPowerOfTwo (p / 2) × (p ≡ p / 2 + p / 2)
    by_exponent p zero e h = absurd (omega (arith, e))
    by_exponent p (suc k) e h =
        let twice : p ≡ 2 ^ k * 2 = e ∙ pow-suc 2 k in
        let half : p / 2 ≡ 2 ^ k = omega arith in
        ((k, half), omega arith)
