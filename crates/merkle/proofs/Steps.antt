-- One bit of a set in order: it is passed over, or splits the set.
use Rattle.std.proofs.Common.{◌≡◌, ℕ, ◌+◌, ◌-◌, ◌/◌, ◌<◌, not, List, [], ◌∷◌, length, take, drop, refl, inl, inr, sym, ◌∙◌, ap, subst, arith}
use Rattle.std.specs.Prelude.{◌⊎◌}
use Rattle.std.specs.Ordering.{nat_cmp}
use Rattle.std.specs.Cmp.Lexicographic.{slice_cmp}
use Rattle.std.proofs.lemmas.List.{length-drop, take_all}
use Rattle.std.proofs.lemmas.List.Kept.{IsStrictlySortedBy-filter}
use Rattle.merkle.specs.Agreeing.{AllSameUpTo}
use Rattle.merkle.specs.Roots.{node, has_bit, without, with, root_of_bits, IsIncreasing}
use Rattle.keyed.specs.Functions.{Hash}
use Rattle.merkle.proofs.Sets.{AllRead, parts, same_without, same_with, at_bit, left_alone, right_alone, both_parts}

nothing : (ids : List (List ℕ)) → length ids ≡ 0 → ids ≡ []
nothing [] e = refl
nothing (id ∷ ids) e = absurd (omega (arith, e))

-- all have the bit, or none has it
abbrev pub Alone : (place : ℕ) → List (List ℕ) → Type 0
Alone place ids =
    (length (without place ids) ≡ 0) ⊎ ((length (without place ids) ≡ 0 → ⊥) × (length (without place ids) ≡ length ids))

module _ (hash : Hash) (place : ℕ) (ids : List (List ℕ)) (inside : place < 256) (sorted : IsIncreasing ids) (same : AllSameUpTo place ids) (read : AllRead (place / 8) ids) where
  abbrev count : ℕ
  count = length (without place ids)

  abbrev root : ℕ → List (List ℕ) → List ℕ
  root place ids = root_of_bits hash (256 - place) ids

  front : take count ids ≡ without place ids
  front = (parts place ids inside sorted same read).0

  back : drop count ids ≡ with place ids
  back = (parts place ids inside sorted same read).1

  abbrev pub PassedOver : Type 0
  PassedOver = AllSameUpTo (place + 1) ids × (root place ids ≡ root (place + 1) ids)

  all_have : count ≡ 0 → PassedOver
  all_have e =
      let none : without place ids ≡ [] = nothing (without place ids) e in
      let all : with place ids ≡ ids = sym back ∙ ap (λ (n : ℕ). drop n ids) e in (
        subst (AllSameUpTo (place + 1)) all (same_with place ids inside same read),
        at_bit hash place ids inside ∙ right_alone hash (root (place + 1)) (without place ids) (with place ids) none ∙ ap (root (place + 1)) all,
      )

  none_has : count ≡ length ids → PassedOver
  none_has e =
      let all : without place ids ≡ ids = sym front ∙ take_all count ids (omega (arith, e)) in
      let left : length (with place ids) ≡ 0 = ap length (sym back) ∙ length-drop count ids ∙ omega (arith, e) in
      let none : with place ids ≡ [] = nothing (with place ids) left in (
        subst (AllSameUpTo (place + 1)) all (same_without place ids inside same read),
        at_bit hash place ids inside ∙ left_alone hash (root (place + 1)) (without place ids) (with place ids) none ∙ ap (root (place + 1)) all,
      )

  pub passed_over : Alone place ids → PassedOver
  passed_over (inl e) = all_have e
  passed_over (inr e) = none_has e.1

  -- ---- both parts have members

  pub front_increasing : IsIncreasing (take count ids)
  front_increasing = subst IsIncreasing (sym front) (IsStrictlySortedBy-filter (slice_cmp nat_cmp) (λ id. not (has_bit place id)) ids sorted)

  pub back_increasing : IsIncreasing (drop count ids)
  back_increasing = subst IsIncreasing (sym back) (IsStrictlySortedBy-filter (slice_cmp nat_cmp) (has_bit place) ids sorted)

  pub front_same : AllSameUpTo (place + 1) (take count ids)
  front_same = subst (AllSameUpTo (place + 1)) (sym front) (same_without place ids inside same read)

  pub back_same : AllSameUpTo (place + 1) (drop count ids)
  back_same = subst (AllSameUpTo (place + 1)) (sym back) (same_with place ids inside same read)

  pub split : 0 < count → count < length ids → root place ids ≡ node hash (root (place + 1) (take count ids)) (root (place + 1) (drop count ids))
  split some less =
      let behind : length (with place ids) ≡ length ids - count = ap length (sym back) ∙ length-drop count ids in
      at_bit hash place ids inside
      ∙ both_parts hash (root (place + 1)) (without place ids) (with place ids) some (omega arith)
      ∙ sym (λ i. node hash (root (place + 1) (front i)) (root (place + 1) (back i)))
