-- The first place of a list at which a cause holds, found one place after the other. Laws with their proofs.
use Rattle.std.proofs.Common.{◌≡◌, ℕ, zero, suc, ◌+◌, ◌<◌, ◌≤◌, List, [], ◌∷◌, ◌++◌, length, Option}
use Rattle.std.proofs.Common.{Some, None, refl, sym, ◌∙◌, ap, subst, inl, inr, arith}
use Rattle.std.specs.Prelude.{◌⊎◌, slice_get}
use Rattle.std.proofs.lemmas.Option.{slice_get_within}
use Rattle.std.proofs.lemmas.Bool.{cases_lt}
use Rattle.wire.specs.Tables.{HoldsNot, First, Cause, IsCause}
use Rattle.wire.specs.Lists.{StandsAt, got, same_some, one_there}
use Rattle.tx_check.specs.FirstPlace.{AtFirst, Found}

module _ {R X : Type 0} (cause : ℕ → X → Cause R) (xs : List X) where
  -- at no place below this one does the cause hold
  abbrev pub NoneBelow : ℕ → Type 0
  NoneBelow n = (k : ℕ) (other : X) → k < n → slice_get xs k ≡ Some other → HoldsNot (cause k other)

  pub none_at_start : NoneBelow 0
  none_at_start k other l e = absurd (omega (arith, l))

  next_place : (k i : ℕ) (other x : X) → NoneBelow i → slice_get xs i ≡ Some x → HoldsNot (cause i x)
      → slice_get xs k ≡ Some other → (k < i) ⊎ (i ≡ k) → HoldsNot (cause k other)
  next_place k i other x none there not e (inl less) = none k other less e
  next_place k i other x none there not e (inr same) =
      let here : slice_get xs i ≡ Some other = ap (slice_get xs) same ∙ e in
      subst (λ (n : ℕ). HoldsNot (cause n other)) same (subst (λ (y : X). HoldsNot (cause i y)) (sym
      (one_there xs i x other there here)) not)

  pub none_more_at : (i : ℕ) (x : X) → NoneBelow i → slice_get xs i ≡ Some x → HoldsNot (cause i x) → NoneBelow (i + 1)
  none_more_at i x none there not k other l e =
      next_place k i other x none there not e (elim (cases_lt k i) [
        | inl less ↦ inl less
        | inr le ↦ inr (omega arith)
      ])

  pub none_more : (i : ℕ) (x : X) → NoneBelow i → StandsAt xs i x → HoldsNot (cause i x) → NoneBelow (i + 1)
  none_more i x none s not = none_more_at i x none (got xs i x s) not

  pub found_at : (i : ℕ) (x : X) (why : R) → NoneBelow i → slice_get xs i ≡ Some x → cause i x why
      → AtFirst cause xs why
  found_at i x why none there h = record {
    place = i;
    item = x;
    there = there;
    reports = h;
    none_before = none;
  }

  pub found_here : (i : ℕ) (x : X) (why : R) → NoneBelow i → StandsAt xs i x → cause i x why → AtFirst cause xs why
  found_here i x why none s h = found_at i x why none (got xs i x s) h

  pub nowhere : (n : ℕ) → length xs ≤ n → NoneBelow n → HoldsNot (AtFirst cause xs)
  nowhere n past none why first =
      let within : first.place < length xs = slice_get_within xs first.place first.item first.there in
      let below : first.place < n = omega arith in
      none first.place first.item below first.there why first.reports

-- the same by the slice that a loop walks along
module _ {R X : Type 0} (cause : ℕ → X → Cause R) (xs slice : List X) (same : slice ≡ xs) where
  pub found_along : (i : ℕ) (x : X) (why : R) → NoneBelow cause slice i → StandsAt slice i x → cause i x why
      → AtFirst cause xs why
  found_along i x why none s h =
      subst (λ (zs : List X). AtFirst cause zs why) same (found_here cause slice i x why none s h)

  pub nowhere_along : (n : ℕ) → length slice ≤ n → NoneBelow cause slice n → HoldsNot (AtFirst cause xs)
  nowhere_along n past none =
      subst (λ (zs : List X). HoldsNot (AtFirst cause zs)) same (nowhere cause slice n past none)

-- ---- first places are causes

module _ {R X : Type 0} (cause : ℕ → X → Cause R) (x : X) (xs : List X) where
  abbrev later : ℕ → X → Cause R
  later k other = cause (suc k) other

  pub first_of_head : (why : R) → cause 0 x why → AtFirst cause (x ∷ xs) why
  first_of_head why h = record {
    place = 0;
    item = x;
    there = refl;
    reports = h;
    none_before = λ k other l e. absurd (omega (arith, l));
  }

  not_before : HoldsNot (cause 0 x) → (why : R) (first : AtFirst later xs why) (k : ℕ) (other : X)
      → k < suc first.place → slice_get (x ∷ xs) k ≡ Some other → HoldsNot (cause k other)
  not_before not why first zero other l e =
      subst (λ (y : X). HoldsNot (cause 0 y)) (same_some (Some x) other x e refl) not
  not_before not why first (suc k) other l e =
      (let less : k < first.place = omega (arith, l) in first.none_before k other less e)

  pub first_of_tail : HoldsNot (cause 0 x) → (why : R) → AtFirst later xs why → AtFirst cause (x ∷ xs) why
  first_of_tail not why first = record {
    place = suc first.place;
    item = first.item;
    there = first.there;
    reports = first.reports;
    none_before = not_before not why first;
  }

  abbrev Cases : R → Type 0
  Cases why = cause 0 x why ⊎ (HoldsNot (cause 0 x) × AtFirst later xs why)

  cases_at : (why : R) (k : ℕ) (item : X) → slice_get (x ∷ xs) k ≡ Some item → cause k item why
      → ((j : ℕ) (other : X) → j < k → slice_get (x ∷ xs) j ≡ Some other → HoldsNot (cause j other)) → Cases why
  cases_at why zero item e h none = inl (subst (λ (y : X). cause 0 y why) (same_some (Some x) x item refl e) h)
  cases_at why (suc k) item e h none =
      let start : 0 < suc k = omega arith in
      inr (
        none 0 x start refl,
        record {
          place = k;
          item = item;
          there = e;
          reports = h;
          none_before = λ j other l f. (let below : suc j < suc k = omega (arith, l) in none (suc j) other below f);
        },
      )

  first_cases : (why : R) → AtFirst cause (x ∷ xs) why → Cases why
  first_cases why first = cases_at why first.place first.item first.there first.reports first.none_before

  pub nowhere_in_tail : HoldsNot (cause 0 x) → HoldsNot (AtFirst later xs) → HoldsNot (AtFirst cause (x ∷ xs))
  nowhere_in_tail not none why first = elim (first_cases why first) [
    | inl h ↦ not why h
    | inr h ↦ none why h.1
  ]

  one_of_cases : IsCause (cause 0 x) → ((a b : R) → AtFirst later xs a → AtFirst later xs b → a ≡ b) → (a b : R)
      → Cases a → Cases b → a ≡ b
  one_of_cases is one a b (inl p) (inl q) = is.one a b p q
  one_of_cases is one a b (inl p) (inr q) = absurd (q.0 a p)
  one_of_cases is one a b (inr p) (inl q) = absurd (p.0 b q)
  one_of_cases is one a b (inr p) (inr q) = one a b p.1 q.1

  first_cause : IsCause (cause 0 x) → IsCause (AtFirst later xs) → IsCause (AtFirst cause (x ∷ xs))
  first_cause is others = record {
    decided = elim is.decided [
      | inl h ↦ inl (h.0, first_of_head h.0 h.1)
      | inr not ↦ (elim others.decided [
        | inl h ↦ inl (h.0, first_of_tail not h.0 h.1)
        | inr none ↦ inr (nowhere_in_tail not none)
      ])
    ];
    one = λ a b p q. one_of_cases is others.one a b (first_cases a p) (first_cases b q);
  }

nothing_there : {X : Type 0} (k : ℕ) (x : X) → slice_get {X = X} [] k ≡ Some x → ⊥
nothing_there k x e = cc

-- where it is a cause at each place, it is one at the first
pub at_first_line : {R X : Type 0} (cause : ℕ → X → Cause R) (xs : List X) → ((k : ℕ) (x : X) → slice_get xs k ≡ Some x
    → IsCause (cause k x)) → IsCause (AtFirst cause xs)
at_first_line cause [] are = record {
  decided = inr (λ why first. nothing_there first.place first.item first.there);
  one = λ a b p q. absurd (nothing_there p.place p.item p.there);
}
at_first_line cause (x ∷ xs) are =
    first_cause cause x xs (are 0 x refl) (at_first_line (λ k. cause (suc k)) xs (λ k other e. are (suc k) other e))

-- ---- one list after the other

module _ {R X : Type 0} (cause : X → Cause R) where
  abbrev anywhere : ℕ → X → Cause R
  anywhere k x = cause x

  pub first_of_left : (xs ys : List X) (why : R) → AtFirst anywhere xs why → AtFirst anywhere (xs ++ ys) why
  first_of_left [] ys why first = absurd (nothing_there first.place first.item first.there)
  first_of_left (x ∷ xs) ys why first = elim (first_cases anywhere x xs why first) [
    | inl h ↦ first_of_head anywhere x (xs ++ ys) why h
    | inr h ↦ first_of_tail anywhere x (xs ++ ys) h.0 why (first_of_left xs ys why h.1)
  ]

  not_at_head : (x : X) (xs : List X) → HoldsNot (AtFirst anywhere (x ∷ xs)) → HoldsNot (cause x)
  not_at_head x xs none why h = none why (first_of_head anywhere x xs why h)

  not_in_tail : (x : X) (xs : List X) → HoldsNot (AtFirst anywhere (x ∷ xs)) → HoldsNot (AtFirst anywhere xs)
  not_in_tail x xs none why first = none why (first_of_tail anywhere x xs (not_at_head x xs none) why first)

  pub first_of_right : (xs ys : List X) (why : R) → HoldsNot (AtFirst anywhere xs) → AtFirst anywhere ys why
      → AtFirst anywhere (xs ++ ys) why
  first_of_right [] ys why none first = first
  first_of_right (x ∷ xs) ys why none first =
      first_of_tail anywhere x (xs ++ ys) (not_at_head x xs none) why (first_of_right xs ys why
      (not_in_tail x xs none) first)

  pub nowhere_in_both : (xs ys : List X) → HoldsNot (AtFirst anywhere xs) → HoldsNot (AtFirst anywhere ys)
      → HoldsNot (AtFirst anywhere (xs ++ ys))
  nowhere_in_both [] ys none others = others
  nowhere_in_both (x ∷ xs) ys none others =
      nowhere_in_tail anywhere x (xs ++ ys) (not_at_head x xs none) (nowhere_in_both xs ys
      (not_in_tail x xs none) others)

-- ---- parts of a table

pub first_found : {R : Type 0} (cause : Cause R) (answer : Option R) → Found cause answer → First (cause ∷ []) answer
first_found cause None h = (h, tt)
first_found cause (Some why) h = inl h

-- a cause that holds, or the next ones
pub first_or : {R : Type 0} (cause : Cause R) (causes : List (Cause R)) (answer : Option R) → HoldsNot cause
    → First causes answer → First (cause ∷ causes) answer
first_or cause causes None not h = (not, h)
first_or cause causes (Some why) not h = inr (not, h)

-- ---- what holds everywhere where the cause holds nowhere

abbrev pub Everywhere : {R X : Type 0} → (ℕ → X → Cause R) → List X → Type 0
Everywhere {R} {X} cause xs = (k : ℕ) (x : X) → slice_get xs k ≡ Some x → HoldsNot (cause k x)

not_first : {R X : Type 0} (cause : ℕ → X → Cause R) (y : X) (xs : List X) → HoldsNot (AtFirst cause (y ∷ xs))
    → HoldsNot (cause 0 y)
not_first cause y xs none why h = none why (first_of_head cause y xs why h)

not_after : {R X : Type 0} (cause : ℕ → X → Cause R) (y : X) (xs : List X) → HoldsNot (AtFirst cause (y ∷ xs))
    → HoldsNot (AtFirst (λ k. cause (suc k)) xs)
not_after cause y xs none why first = none why (first_of_tail cause y xs (not_first cause y xs none) why first)

pub everywhere : {R X : Type 0} (cause : ℕ → X → Cause R) (xs : List X) → HoldsNot (AtFirst cause xs) → (k : ℕ) (x : X)
    → slice_get xs k ≡ Some x → HoldsNot (cause k x)
everywhere cause [] none k x e = absurd (nothing_there k x e)
everywhere {R} {X} cause (y ∷ xs) none zero x e =
    subst (λ (z : X). HoldsNot (cause 0 z)) (same_some (Some y) x y e refl) (not_first cause y xs none)
everywhere cause (y ∷ xs) none (suc k) x e = everywhere (λ n. cause (suc n)) xs (not_after cause y xs none) k x e
