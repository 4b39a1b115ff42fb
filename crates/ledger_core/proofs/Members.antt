-- Members of lists, and lists without a member twice.
use Rattle.std.proofs.Common.{◌≡◌, ◌⊎◌, ℕ, zero, suc, Bool, true, false, ◌||◌, List, [], ◌∷◌, ◌++◌, map, refl, sym, ap, subst, ◌∙◌, inl, inr, arith}
use Rattle.std.specs.Prelude.{Contains, bytes_eq}
use Rattle.std.specs.Bool.{Decides}
use Rattle.std.proofs.lemmas.Slice.Eq.{bytes_eq-Decides}
use Rattle.tx_check.specs.View.{Unspent}
use Rattle.ledger_core.specs.Unspent.{left_of}
use Rattle.wire.specs.Strings.{is_among}

-- ---- members

abbrev pub In : {X : Type 0} → X → List X → Type 0
In x [] = ⊥
In x (y ∷ ys) = (x ≡ y) ⊎ In x ys

pub in_contained : {X : Type 0} (xs : List X) (x : X) → Contains xs x → In x xs
in_contained [] x h = absurd (omega (arith, h.1))
in_contained (y ∷ ys) x (zero, h, e) = inl (sym e)
in_contained (y ∷ ys) x (suc k, h, e) = inr (in_contained ys x (k, omega (arith, h), e))

pub contained_in : {X : Type 0} (xs : List X) (x : X) → In x xs → Contains xs x
contained_in [] x h = absurd h
contained_in (y ∷ ys) x (inl e) = (0, omega arith, sym e)
contained_in (y ∷ ys) x (inr h) = (let c = contained_in ys x h in (suc c.0, omega (arith, c.1), c.2))

pub in_left : {X : Type 0} (x : X) (xs ys : List X) → In x xs → In x (xs ++ ys)
in_left x [] ys h = absurd h
in_left x (y ∷ xs) ys (inl e) = inl e
in_left x (y ∷ xs) ys (inr h) = inr (in_left x xs ys h)

pub in_right : {X : Type 0} (x : X) (xs ys : List X) → In x ys → In x (xs ++ ys)
in_right x [] ys h = h
in_right x (y ∷ xs) ys h = inr (in_right x xs ys h)

pub in_either : {X : Type 0} (x : X) (xs ys : List X) → In x (xs ++ ys) → In x xs ⊎ In x ys
in_either x [] ys h = inr h
in_either x (y ∷ xs) ys (inl e) = inl (inl e)
in_either x (y ∷ xs) ys (inr h) = elim (in_either x xs ys h) [
  | inl k ↦ inl (inr k)
  | inr k ↦ inr k
]

pub in_map : {X Y : Type 0} (f : X → Y) (x : X) (xs : List X) → In x xs → In (f x) (map f xs)
in_map f x [] h = absurd h
in_map f x (y ∷ xs) (inl e) = inl (ap f e)
in_map f x (y ∷ xs) (inr h) = inr (in_map f x xs h)

-- ---- no member twice

abbrev pub Distinct : {X : Type 0} → List X → Type 0
Distinct [] = Unit {0}
Distinct (x ∷ xs) = (In x xs → ⊥) × Distinct xs

pub distinct_both : {X : Type 0} (xs ys : List X) → Distinct xs → Distinct ys → ((x : X) → In x ys → In x xs → ⊥) → Distinct (xs ++ ys)
distinct_both [] ys h k apart = k
distinct_both (x ∷ xs) ys h k apart = (
  (λ i. elim (in_either x xs ys i) [
    | inl j ↦ h.0 j
    | inr j ↦ apart x j (inl refl)
  ]),
  distinct_both xs ys h.1 k (λ y i j. apart y i (inr j)),
)

-- ---- ids

abbrev pub ids : List Unspent → List (List ℕ)
ids outputs = map (λ output. output.id) outputs

-- an id is among some exactly where it is one of them
pub among : (spent : List (List ℕ)) (id : List ℕ) → Decides (is_among spent id) (In id spent)
among [] id = (λ e. absurd (not_true e), λ h. absurd h)
  where
    not_true : false ≡ true → ⊥
    not_true e = cc
among (s ∷ spent) id = go (bytes_eq s id) (bytes_eq-Decides s id) (among spent id)
  where
    not_true : false ≡ true → ⊥
    not_true e = cc

    go : (b : Bool) → Decides b (s ≡ id) → Decides (is_among spent id) (In id spent) → Decides (b || is_among spent id) ((id ≡ s) ⊎ In id spent)
    go true d rest = (λ e. inl (sym (d.0 refl)), λ h. refl)
    go false d rest = (
      λ e. inr (rest.0 e),
      λ h. elim h [
        | inl same ↦ absurd (not_true (d.1 (sym same)))
        | inr k ↦ rest.1 k
      ],
    )

-- what is left of one output more
pub left_step : (spent : List (List ℕ)) (o : Unspent) (outputs : List Unspent)
    → ((In o.id spent) × (left_of spent (o ∷ outputs) ≡ left_of spent outputs))
    ⊎ ((In o.id spent → ⊥) × (left_of spent (o ∷ outputs) ≡ o ∷ left_of spent outputs))
left_step spent o outputs = go (is_among spent o.id) refl (among spent o.id)
  where
    not_true : false ≡ true → ⊥
    not_true e = cc

    go : (b : Bool) → is_among spent o.id ≡ b → Decides b (In o.id spent)
        → ((In o.id spent) × (left_of spent (o ∷ outputs) ≡ left_of spent outputs))
        ⊎ ((In o.id spent → ⊥) × (left_of spent (o ∷ outputs) ≡ o ∷ left_of spent outputs))
    go true e d = inl (d.0 refl, rw e refl)
    go false e d = inr ((λ h. not_true (d.1 h)), rw e refl)

pub in_left_of : (spent : List (List ℕ)) (outputs : List Unspent) (x : Unspent) → In x (left_of spent outputs) → In x outputs
in_left_of spent [] x h = h
in_left_of spent (o ∷ outputs) x h = elim (left_step spent o outputs) [
  | inl (gone, is) ↦ inr (in_left_of spent outputs x (subst (λ (l : List Unspent). In x l) is h))
  | inr (kept, is) ↦ elim (subst (λ (l : List Unspent). In x l) is h) [
    | inl e ↦ inl e
    | inr k ↦ inr (in_left_of spent outputs x k)
  ]
]

pub left_in : (spent : List (List ℕ)) (outputs : List Unspent) (x : Unspent) → In x outputs → (In x.id spent → ⊥) → In x (left_of spent outputs)
left_in spent [] x h apart = h
left_in spent (o ∷ outputs) x (inl e) apart = elim (left_step spent o outputs) [
  | inl (gone, is) ↦ absurd (apart (subst (λ (y : Unspent). In y.id spent) (sym e) gone))
  | inr (kept, is) ↦ subst (λ (l : List Unspent). In x l) (sym is) (inl e)
]
left_in spent (o ∷ outputs) x (inr h) apart = elim (left_step spent o outputs) [
  | inl (gone, is) ↦ subst (λ (l : List Unspent). In x l) (sym is) (left_in spent outputs x h apart)
  | inr (kept, is) ↦ subst (λ (l : List Unspent). In x l) (sym is) (inr (left_in spent outputs x h apart))
]

pub id_in_left : (spent : List (List ℕ)) (outputs : List Unspent) (id : List ℕ) → In id (ids (left_of spent outputs)) → In id (ids outputs)
id_in_left spent [] id h = h
id_in_left spent (o ∷ outputs) id h = elim (left_step spent o outputs) [
  | inl (gone, is) ↦ inr (id_in_left spent outputs id (subst (λ (l : List Unspent). In id (ids l)) is h))
  | inr (kept, is) ↦ elim (subst (λ (l : List Unspent). In id (ids l)) is h) [
    | inl e ↦ inl e
    | inr k ↦ inr (id_in_left spent outputs id k)
  ]
]

pub left_distinct : (spent : List (List ℕ)) (outputs : List Unspent) → Distinct (ids outputs) → Distinct (ids (left_of spent outputs))
left_distinct spent [] h = tt
left_distinct spent (o ∷ outputs) h = elim (left_step spent o outputs) [
  | inl (gone, is) ↦ subst (λ (l : List Unspent). Distinct (ids l)) (sym is) (left_distinct spent outputs h.1)
  | inr (kept, is) ↦ subst (λ (l : List Unspent). Distinct (ids l)) (sym is) ((λ i. h.0 (id_in_left spent outputs o.id i)), left_distinct spent outputs h.1)
]

-- outputs none of whose ids is among these are all left
pub all_left : (spent : List (List ℕ)) (outputs : List Unspent) → ((id : List ℕ) → In id (ids outputs) → In id spent → ⊥) → left_of spent outputs ≡ outputs
all_left spent [] apart = refl
all_left spent (o ∷ outputs) apart = elim (left_step spent o outputs) [
  | inl (gone, is) ↦ absurd (apart o.id (inl refl) gone)
  | inr (kept, is) ↦ is ∙ ap (λ (l : List Unspent). o ∷ l) (all_left spent outputs (λ id i j. apart id (inr i) j))
]
