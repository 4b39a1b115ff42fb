-- Roots of sets: parts of a list by one bit.
use Rattle.std.proofs.Common.{◌≡◌, ℕ, zero, suc, ◌+◌, ◌-◌, ◌/◌, ◌<◌, ◌≤◌, Bool, true, false, not, List, [], ◌∷◌, length, take, drop, get_or, refl, inl, inr, sym, ◌∙◌, ap, subst, arith}
use Rattle.std.specs.Prelude.{Contains, slice_index}
use Rattle.std.specs.List.{All, AllByRecursion}
use Rattle.std.specs.Ordering.{nat_cmp}
use Rattle.std.specs.declared.cmp.Ordering.TheVariants.{Less}
use Rattle.std.specs.Cmp.Lexicographic.{slice_cmp}
use Rattle.std.proofs.lemmas.Bool.{cases_lt}
use Rattle.std.proofs.lemmas.Map.Keys.{sorted_head, sorted_tail}
use Rattle.std.proofs.lemmas.List.Elements.{All-contains}
use Rattle.merkle.specs.Agreeing.{AreSameUpTo, AllSameUpTo}
use Rattle.merkle.specs.Roots.{leaf, node, has_bit, without, with, of_parts, root_of_bits, IsIncreasing}
use Rattle.keyed.specs.Functions.{Hash}
use Rattle.merkle.proofs.Bits.{IsRead, bit_order, same_more, one_id, not_before_itself}
use Rattle.merkle.proofs.Members.{in_head, in_tail, in_all, passes, zipped}

-- each member is read at that byte
abbrev pub AllRead : (q : ℕ) → List (List ℕ) → Type 0
AllRead q ids = (id : List ℕ) → Contains ids id → IsRead q id

pub all_read : (q : ℕ) (ids : List (List ℕ)) → All (λ id. length id ≡ 32) ids → All (λ id. slice_index id q < 256) ids → AllRead q ids
all_read q ids long bytes id c = record {
  long = All-contains (λ id. length id ≡ 32) ids id long c;
  byte = All-contains (λ id. slice_index id q < 256) ids id bytes c;
}

-- ---- those without a bit stand before those with it

module _ (place : ℕ) where
  -- after one with the bit each has it
  abbrev Rising : List (List ℕ) → Type 0
  Rising [] = Unit {0}
  Rising (x ∷ xs) = AllByRecursion (λ y. has_bit place x ≡ true → has_bit place y ≡ true) xs × Rising xs

  rising : (ids : List (List ℕ)) → place < 256 → IsIncreasing ids → AllSameUpTo place ids → AllRead (place / 8) ids → Rising ids
  rising [] inside sorted same read = tt
  rising (x ∷ xs) inside sorted same read =
      let head = in_head x xs in (
        zipped (λ y. slice_cmp nat_cmp x y ≡ Less) (λ y. has_bit place x ≡ true → has_bit place y ≡ true) xs (sorted_head (slice_cmp nat_cmp) x xs sorted)
            (λ y c less. (let there = in_tail x y xs c in bit_order place x y inside (read x head) (read y there) (same x y head there) less)),
        rising xs inside (sorted_tail (slice_cmp nat_cmp) x xs sorted) (λ a b c d. same a b (in_tail x a xs c) (in_tail x b xs d)) (λ id c. read id (in_tail x id xs c)),
      )

  all_with : (xs : List (List ℕ)) → AllByRecursion (λ y. has_bit place y ≡ true) xs → (without place xs ≡ []) × (with place xs ≡ xs)
  all_with [] all = (refl, refl)
  all_with (x ∷ xs) all =
      let bit : has_bit place x ≡ true = all.0 in
      let rest = all_with xs all.1 in
      (rw bit rest.0, rw bit (ap (λ (ys : List (List ℕ)). x ∷ ys) rest.1))

  abbrev InOrder : List (List ℕ) → Type 0
  InOrder ids = (take (length (without place ids)) ids ≡ without place ids) × (drop (length (without place ids)) ids ≡ with place ids)

  in_order : (ids : List (List ℕ)) → Rising ids → InOrder ids
  in_order [] r = (refl, refl)
  in_order (x ∷ xs) r = by_bit (has_bit place x) refl (in_order xs r.1)
    where
      by_bit : (b : Bool) → has_bit place x ≡ b → InOrder xs → InOrder (x ∷ xs)
      by_bit false e rest =
          (rw e (ap (λ (ys : List (List ℕ)). x ∷ ys) rest.0), rw e rest.1)
      by_bit true e others =
          let rest = all_with xs (zipped (λ y. has_bit place x ≡ true → has_bit place y ≡ true) (λ y. has_bit place y ≡ true) xs r.0 (λ y c h. h e)) in
          (rw (e, rest.0) refl, rw (e, rest.0) (ap (λ (ys : List (List ℕ)). x ∷ ys) (sym rest.1)))

  pub parts : (ids : List (List ℕ)) → place < 256 → IsIncreasing ids → AllSameUpTo place ids → AllRead (place / 8) ids → InOrder ids
  parts ids inside sorted same read = in_order ids (rising ids inside sorted same read)

  -- ---- in each part one bit more is the same

  not_true : (b : Bool) → not b ≡ true → b ≡ false
  not_true true e = cc
  not_true false e = refl

  pub same_without : (ids : List (List ℕ)) → place < 256 → AllSameUpTo place ids → AllRead (place / 8) ids → AllSameUpTo (place + 1) (without place ids)
  same_without ids inside same read a b c d =
      let p = λ (id : List ℕ). not (has_bit place id) in
      let ca = in_all p ids a c in
      let cb = in_all p ids b d in
      same_more place a b inside (read a ca) (read b cb) (not_true (has_bit place a) (passes p ids a c) ∙ sym (not_true (has_bit place b) (passes p ids b d))) (same a b ca cb)

  pub same_with : (ids : List (List ℕ)) → place < 256 → AllSameUpTo place ids → AllRead (place / 8) ids → AllSameUpTo (place + 1) (with place ids)
  same_with ids inside same read a b c d =
      let ca = in_all (has_bit place) ids a c in
      let cb = in_all (has_bit place) ids b d in
      same_more place a b inside (read a ca) (read b cb) (passes (has_bit place) ids a c ∙ sym (passes (has_bit place) ids b d)) (same a b ca cb)

-- two members of a set differ in some bit
pub differs_inside : (place : ℕ) (ids : List (List ℕ)) → place ≤ 256 → 1 < length ids → IsIncreasing ids → All (λ id. length id ≡ 32) ids → AllSameUpTo place ids → place < 256
differs_inside place [] most more sorted long same = absurd (omega (arith, more))
differs_inside place (x ∷ []) most more sorted long same = absurd (omega (arith, more))
differs_inside place (x ∷ (y ∷ ids)) most more sorted long same = elim (cases_lt place 256) [
  | inl less ↦ less
  | inr le ↦ absurd (not_all (omega arith))
]
  where
    not_all : place ≡ 256 → ⊥
    not_all e =
        let all = x ∷ (y ∷ ids) in
        let cx = in_head x (y ∷ ids) in
        let cy = in_tail x y (y ∷ ids) (in_head y ids) in
        let up : AreSameUpTo 256 x y = subst (λ (n : ℕ). AreSameUpTo n x y) e (same x y cx cy) in
        let one : x ≡ y = one_id x y (All-contains (λ id. length id ≡ 32) all x long cx) (All-contains (λ id. length id ≡ 32) all y long cy) up in
        let less : slice_cmp nat_cmp x y ≡ Less = (sorted_head (slice_cmp nat_cmp) x (y ∷ ids) sorted).0 in
        not_before_itself x (ap (slice_cmp nat_cmp x) one ∙ less)

-- ---- roots

module _ (hash : Hash) where
  pub none : (bits : ℕ) → root_of_bits hash bits [] ≡ hash []
  unfolding root_of_bits
  none zero = refl
  none (suc bits) = none bits

  pub single : (bits : ℕ) (id : List ℕ) → root_of_bits hash bits (id ∷ []) ≡ leaf hash id
  unfolding root_of_bits
  single zero id = refl
  single (suc bits) id = by_bit (has_bit (255 - bits) id) refl (single bits id)
    where
      by_bit : (b : Bool) → has_bit (255 - bits) id ≡ b → root_of_bits hash bits (id ∷ []) ≡ leaf hash id → of_parts hash (root_of_bits hash bits) (without (255 - bits) (id ∷ [])) (with (255 - bits) (id ∷ [])) ≡ leaf hash id
      by_bit true e rest = rw e rest
      by_bit false e rest = rw e rest

  pub single_by_length : (bits : ℕ) (ids : List (List ℕ)) → length ids ≡ 1 → root_of_bits hash bits ids ≡ leaf hash (get_or ids 0 [])
  single_by_length bits [] e = absurd (omega (arith, e))
  single_by_length bits (id ∷ []) e = single bits id
  single_by_length bits (id ∷ (other ∷ ids)) e = absurd (omega (arith, e))

  step : (bits : ℕ) (ids : List (List ℕ)) → root_of_bits hash (suc bits) ids ≡ of_parts hash (root_of_bits hash bits) (without (255 - bits) ids) (with (255 - bits) ids)
  unfolding root_of_bits
  step bits ids = refl

  pub none_by_length : (bits : ℕ) (ids : List (List ℕ)) → length ids ≡ 0 → root_of_bits hash bits ids ≡ hash []
  none_by_length bits [] e = none bits
  none_by_length bits (id ∷ ids) e = absurd (omega (arith, e))

  -- at a bit
  pub at_bit : (place : ℕ) (ids : List (List ℕ)) → place < 256 → root_of_bits hash (256 - place) ids ≡ of_parts hash (root_of_bits hash (256 - (place + 1))) (without place ids) (with place ids)
  at_bit place ids inside =
      let n : 256 - place ≡ suc (256 - (place + 1)) = omega arith in
      let back : 255 - (256 - (place + 1)) ≡ place = omega arith in
      ap (λ (k : ℕ). root_of_bits hash k ids) n
      ∙ step (256 - (place + 1)) ids
      ∙ (λ i. of_parts hash (root_of_bits hash (256 - (place + 1))) (without (back i) ids) (with (back i) ids))

  pub left_alone : (root : List (List ℕ) → List ℕ) (left right : List (List ℕ)) → right ≡ [] → of_parts hash root left right ≡ root left
  left_alone root left right e = ap (of_parts hash root left) e ∙ alone left
    where
      alone : (left : List (List ℕ)) → of_parts hash root left [] ≡ root left
      alone [] = refl
      alone (l ∷ left) = refl

  pub right_alone : (root : List (List ℕ) → List ℕ) (left right : List (List ℕ)) → left ≡ [] → of_parts hash root left right ≡ root right
  right_alone root left right e = ap (λ (l : List (List ℕ)). of_parts hash root l right) e

  pub both_parts : (root : List (List ℕ) → List ℕ) (left right : List (List ℕ)) → 0 < length left → 0 < length right → of_parts hash root left right ≡ node hash (root left) (root right)
  both_parts root [] right l r = absurd (omega (arith, l))
  both_parts root (x ∷ left) [] l r = absurd (omega (arith, r))
  both_parts root (x ∷ left) (y ∷ right) l r = refl
