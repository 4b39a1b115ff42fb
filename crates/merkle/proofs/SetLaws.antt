-- The root of a set, bit by bit, and by its members.
use Rattle.std.proofs.Common.{◌≡◌, ℕ, zero, suc, ◌+◌, ◌-◌, ◌/◌, ◌<◌, ◌≤◌, Bool, true, false, not, List, [], ◌∷◌, length, refl, inl, inr, sym, ◌∙◌, ap, subst, arith}
use Rattle.std.specs.Prelude.{Contains}
use Rattle.std.specs.List.{All, filter}
use Rattle.std.proofs.lemmas.Bool.{cases_lt}
use Rattle.std.proofs.lemmas.List.Elements.{All-contains, All-get_or}
use Rattle.merkle.specs.Agreeing.{AllSameUpTo}
use Rattle.merkle.specs.Roots.{leaf, node, has_bit, without, with, of_parts, root_of_bits, set_root}
use Rattle.keyed.specs.Functions.{Hash}
use Rattle.merkle.specs.Laws.{AgreeBefore, IsId, HaveSameMembers, SetRoots}
use Rattle.merkle.proofs.Bits.{same_at_start, one_id}
use Rattle.merkle.proofs.Members.{in_head, in_tail, in_nothing, in_all, passes, keeps}
use Rattle.merkle.proofs.Sets.{AllRead, none, single, at_bit, left_alone, right_alone, both_parts, same_without, same_with}

-- ---- a bit that all have, or none

none_kept : (p : List ℕ → Bool) (ids : List (List ℕ)) → ((id : List ℕ) → Contains ids id → p id ≡ false) → filter p ids ≡ []
none_kept p [] f = refl
none_kept p (x ∷ xs) f = rw (f x (in_head x xs)) (none_kept p xs (λ id c. f id (in_tail x id xs c)))

all_kept : (p : List ℕ → Bool) (ids : List (List ℕ)) → ((id : List ℕ) → Contains ids id → p id ≡ true) → filter p ids ≡ ids
all_kept p [] f = refl
all_kept p (x ∷ xs) f = rw (f x (in_head x xs)) (ap (λ (ys : List (List ℕ)). x ∷ ys) (all_kept p xs (λ id c. f id (in_tail x id xs c))))

module _ (hash : Hash) where
  abbrev root : ℕ → List (List ℕ) → List ℕ
  root place ids = root_of_bits hash (256 - place) ids

  passed : (place : ℕ) (ids : List (List ℕ)) (b : Bool) → place < 256 → ((id : List ℕ) → Contains ids id → has_bit place id ≡ b) → root place ids ≡ root (place + 1) ids
  passed place ids true inside f =
      let no = none_kept (λ id. not (has_bit place id)) ids (λ id c. ap not (f id c)) in
      let all = all_kept (has_bit place) ids f in
      at_bit hash place ids inside ∙ right_alone hash (root (place + 1)) (without place ids) (with place ids) no ∙ ap (root (place + 1)) all
  passed place ids false inside f =
      let no = none_kept (has_bit place) ids f in
      let all = all_kept (λ id. not (has_bit place id)) ids (λ id c. ap not (f id c)) in
      at_bit hash place ids inside ∙ left_alone hash (root (place + 1)) (without place ids) (with place ids) no ∙ ap (root (place + 1)) all

  pass_agreed : (place : ℕ) (ids : List (List ℕ)) → place < 256 → ((a b : List ℕ) → Contains ids a → Contains ids b → has_bit place a ≡ has_bit place b) → root place ids ≡ root (place + 1) ids
  pass_agreed place [] inside f = none hash (256 - place) ∙ sym (none hash (256 - (place + 1)))
  pass_agreed place (x ∷ xs) inside f = passed place (x ∷ xs) (has_bit place x) inside (λ id c. f id x c (in_head x xs))

  from_start : (place : ℕ) (ids : List (List ℕ)) → place ≤ 256 → AgreeBefore place ids → root_of_bits hash 256 ids ≡ root place ids
  from_start zero ids most agree = refl
  from_start (suc place) ids most agree =
      let less : place ≤ 256 = omega (arith, most) in
      let inside : place < 256 = omega (arith, most) in
      let one : place + 1 ≡ suc place = omega arith in
      from_start place ids less (λ a b c d k h. agree a b c d k (omega (arith, h)))
      ∙ pass_agreed place ids inside (λ a b c d. agree a b c d place (omega arith))
      ∙ ap (λ (n : ℕ). root n ids) one

  further : (place : ℕ) (ids : List (List ℕ)) (p : List ℕ → Bool) → ((a b : List ℕ) → p a ≡ true → p b ≡ true → has_bit place a ≡ has_bit place b) → AgreeBefore place ids → AgreeBefore (place + 1) (filter p ids)
  further place ids p same agree a b c d k h = elim (cases_lt k place) [
    | inl less ↦ agree a b (in_all p ids a c) (in_all p ids b d) k less
    | inr le ↦ (let here : place ≡ k = omega (arith, h) in
        subst (λ (n : ℕ). has_bit n a ≡ has_bit n b) here (same a b (passes p ids a c) (passes p ids b d)))
  ]

  not_true : (b : Bool) → not b ≡ true → b ≡ false
  not_true true e = cc
  not_true false e = refl

  more : (ids : List (List ℕ)) (place : ℕ) → place < 256 → AgreeBefore place ids → 0 < length (without place ids) → 0 < length (with place ids) → set_root hash ids ≡ node hash (set_root hash (without place ids)) (set_root hash (with place ids))
  unfolding set_root
  more ids place inside agree some others =
      let most : place + 1 ≤ 256 = omega arith in
      let l = from_start (place + 1) (without place ids) most (further place ids (λ id. not (has_bit place id)) (λ a b p q. not_true (has_bit place a) p ∙ sym (not_true (has_bit place b) q)) agree) in
      let r = from_start (place + 1) (with place ids) most (further place ids (has_bit place) (λ a b p q. p ∙ sym q) agree) in
      from_start place ids (omega arith) agree
      ∙ at_bit hash place ids inside
      ∙ both_parts hash (root (place + 1)) (without place ids) (with place ids) some others
      ∙ (λ i. node hash (sym l i) (sym r i))

  -- ---- by the members

  empty_with : (xs : List (List ℕ)) → HaveSameMembers [] xs → xs ≡ []
  empty_with [] same = refl
  empty_with (x ∷ xs) same = absurd (in_nothing x ((same x).1 (in_head x xs)))

  flipped : (xs ys : List (List ℕ)) → HaveSameMembers xs ys → HaveSameMembers ys xs
  flipped xs ys same id = ((same id).1, (same id).0)

  kept_same : (p : List ℕ → Bool) (xs ys : List (List ℕ)) → HaveSameMembers xs ys → HaveSameMembers (filter p xs) (filter p ys)
  kept_same p xs ys same id = (
    λ c. keeps p ys id ((same id).0 (in_all p xs id c)) (passes p xs id c),
    λ c. keeps p xs id ((same id).1 (in_all p ys id c)) (passes p ys id c),
  )

  parts_same : (f : List (List ℕ) → List ℕ) (l m r s : List (List ℕ)) → HaveSameMembers l m → HaveSameMembers r s → f l ≡ f m → f r ≡ f s → of_parts hash f l r ≡ of_parts hash f m s
  parts_same f [] m r s hl hr el er =
      er ∙ sym (right_alone hash f m s (empty_with m hl))
  parts_same f (x ∷ l) [] r s hl hr el er = absurd (in_nothing x ((hl x).0 (in_head x l)))
  parts_same f (x ∷ l) (y ∷ m) [] s hl hr el er =
      el ∙ sym (left_alone hash f (y ∷ m) s (empty_with s hr))
  parts_same f (x ∷ l) (y ∷ m) (z ∷ r) [] hl hr el er = absurd (in_nothing z ((hr z).0 (in_head z r)))
  parts_same f (x ∷ l) (y ∷ m) (z ∷ r) (w ∷ s) hl hr el er = λ i. node hash (el i) (er i)

  -- the members are ids, and the same up to a bit
  record Held (place : ℕ) (xs : List (List ℕ)) : Type 0 where
    ids : (id : List ℕ) → Contains xs id → IsId id
    same : AllSameUpTo place xs

  read_at : (place : ℕ) (xs : List (List ℕ)) → place < 256 → ((id : List ℕ) → Contains xs id → IsId id) → AllRead (place / 8) xs
  read_at place xs inside ids id c =
      let is = ids id c in
      let here : place / 8 < 32 = omega arith in
      let there : place / 8 < length id = subst (λ (n : ℕ). place / 8 < n) (sym is.long) here in
      record { long = is.long; byte = All-get_or (λ (byte : ℕ). byte < 256) id (place / 8) 0 there is.bytes }

  at_end : (xs ys : List (List ℕ)) → HaveSameMembers xs ys → Held 256 xs → root_of_bits hash zero xs ≡ root_of_bits hash zero ys
  unfolding root_of_bits
  at_end [] ys same h = ap (root_of_bits hash zero) (sym (empty_with ys same))
  at_end (x ∷ xs) [] same h = absurd (in_nothing x ((same x).0 (in_head x xs)))
  at_end (x ∷ xs) (y ∷ ys) same h =
      let cx = in_head x xs in
      let cy = (same y).1 (in_head y ys) in
      ap (leaf hash) (one_id x y (h.ids x cx).long (h.ids y cy).long (h.same x y cx cy))

  members_from : (bits place : ℕ) → bits + place ≡ 256 → (xs ys : List (List ℕ)) → HaveSameMembers xs ys → Held place xs → root_of_bits hash bits xs ≡ root_of_bits hash bits ys
  members_from zero place e xs ys same h =
      let last : place ≡ 256 = omega (arith, e) in
      at_end xs ys same (subst (λ (n : ℕ). Held n xs) last h)
  members_from (suc bits) place e xs ys same h =
      let inside : place < 256 = omega (arith, e) in
      let next : bits + (place + 1) ≡ 256 = omega (arith, e) in
      let here : suc bits ≡ 256 - place = omega (arith, e) in
      let below : 256 - (place + 1) ≡ bits = omega (arith, e) in
      let read = read_at place xs inside h.ids in
      let p = λ (id : List ℕ). not (has_bit place id) in
      let l = members_from bits (place + 1) next (without place xs) (without place ys) (kept_same p xs ys same)
      (record { ids = λ id c. h.ids id (in_all p xs id c); same = same_without place xs inside h.same read }) in
      let r = members_from bits (place + 1) next (with place xs) (with place ys) (kept_same (has_bit place) xs ys same)
      (record { ids = λ id c. h.ids id (in_all (has_bit place) xs id c); same = same_with place xs inside h.same read }) in
      let f = root_of_bits hash (256 - (place + 1)) in
      let el = ap (λ (k : ℕ). root_of_bits hash k (without place xs)) below ∙ l ∙ sym (ap (λ (k : ℕ). root_of_bits hash k (without place ys)) below) in
      let er = ap (λ (k : ℕ). root_of_bits hash k (with place xs)) below ∙ r ∙ sym (ap (λ (k : ℕ). root_of_bits hash k (with place ys)) below) in
      ap (λ (k : ℕ). root_of_bits hash k xs) here
      ∙ at_bit hash place xs inside
      ∙ parts_same f (without place xs) (without place ys) (with place xs) (with place ys) (kept_same p xs ys same) (kept_same (has_bit place) xs ys same) el er
      ∙ sym (at_bit hash place ys inside)
      ∙ sym (ap (λ (k : ℕ). root_of_bits hash k ys) here)

  members : (xs ys : List (List ℕ)) → All IsId xs → HaveSameMembers xs ys → set_root hash xs ≡ set_root hash ys
  unfolding set_root
  members xs ys ids same =
      members_from 256 0 refl xs ys same (record { ids = λ id c. All-contains IsId xs id ids c; same = λ a b c d. same_at_start a b })

  empty : set_root hash [] ≡ hash []
  unfolding set_root
  empty = none hash 256

  one : (id : List ℕ) → set_root hash (id ∷ []) ≡ leaf hash id
  unfolding set_root
  one id = single hash 256 id

  pub set_roots : SetRoots hash
  set_roots = record { empty = empty; one = one; more = more; members = members }
