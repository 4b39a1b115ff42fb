-- What is among the outputs that are left, and among lists that are put together.
use Rattle.std.proofs.Common.{◌≡◌, ℕ, zero, suc, ◌<◌, Bool, true, false, not, ◌&&◌, List, [], ◌∷◌, ◌++◌, map, length, refl, sym, ◌∙◌, ap, subst, inl, inr, arith}
use Rattle.std.specs.Prelude.{◌⊎◌, ◌↔◌, IsTrue, Contains}
use Rattle.std.specs.List.{filter}
use Rattle.std.proofs.lemmas.List.Elements.{Contains-append_left, Contains-append_right, Contains-append_cases}
use Rattle.std.proofs.lemmas.List.{map-append}
use Rattle.tx_check.specs.View.{Unspent}
use Rattle.ledger_core.specs.Roots.{output_ids}
use Rattle.ledger_core.specs.Unspent.{left_of}
use Rattle.wire.specs.Strings.{is_among}

never : IsTrue false → ⊥
never e = cc

-- ---- members

first_member : {X : Type 0} (x y : X) (xs : List X) → x ≡ y → Contains (x ∷ xs) y
first_member x y xs e = (0, omega arith, e)

later_member : {X : Type 0} (x y : X) (xs : List X) → Contains xs y → Contains (x ∷ xs) y
later_member x y xs h = (let l : h.0 < length xs = h.1 in (suc h.0, omega (arith, l), h.2))

member_cases : {X : Type 0} (x y : X) (xs : List X) → Contains (x ∷ xs) y → (x ≡ y) ⊎ Contains xs y
member_cases x y xs (zero, l, e) = inl e
member_cases x y xs (suc k, l, e) = inr (k, omega (arith, l), e)

no_member : {X : Type 0} (y : X) → Contains [] y → ⊥
no_member y h = (let l : h.0 < 0 = h.1 in omega (arith, l))

-- What is mapped to y is a member and passes, where whether it passes shows in y: it is among those that pass.
module _ {X Y : Type 0} (f : X → Y) (p : X → Bool) (y : Y) (b : Bool) (shows : (x : X) → f x ≡ y → p x ≡ b) where
  step : (x : X) (xs : List X) (c : Bool) → p x ≡ c → (Contains (map f (filter p xs)) y → Contains (map f xs) y × (b ≡ true)) → Contains (map f (filter p (x ∷ xs))) y → Contains (map f (x ∷ xs)) y × (b ≡ true)
  step x xs true e go = rw e (λ h. elim (member_cases (f x) y (map f (filter p xs)) h) [
    | inl same ↦ (first_member (f x) y (map f xs) same, sym (shows x same) ∙ e)
    | inr later ↦ (later_member (f x) y (map f xs) (go later).0, (go later).1)
  ])
  step x xs false e go = rw e (λ h. (later_member (f x) y (map f xs) (go h).0, (go h).1))

  pub passed : (xs : List X) → Contains (map f (filter p xs)) y → Contains (map f xs) y × (b ≡ true)
  passed [] h = absurd (no_member y h)
  passed (x ∷ xs) h = step x xs (p x) refl (passed xs) h

  back : (x : X) (xs : List X) (c : Bool) → p x ≡ c → b ≡ true → (f x ≡ y) ⊎ Contains (map f (filter p xs)) y → Contains (map f (filter p (x ∷ xs))) y
  back x xs true e t (inl same) = rw e (first_member (f x) y (map f (filter p xs)) same)
  back x xs true e t (inr later) = rw e (later_member (f x) y (map f (filter p xs)) later)
  back x xs false e t (inl same) = absurd (never (sym e ∙ shows x same ∙ t))
  back x xs false e t (inr later) = rw e later

  pub passes : (xs : List X) → Contains (map f xs) y → b ≡ true → Contains (map f (filter p xs)) y
  passes [] h t = absurd (no_member y h)
  passes (x ∷ xs) h t = back x xs (p x) refl t (elim (member_cases (f x) y (map f xs) h) [
    | inl same ↦ inl same
    | inr later ↦ inr (passes xs later t)
  ])

-- ---- tests

both : {P : Type 0} {R : Type 0} (t s : Bool) → (IsTrue t ↔ P) → (R → P × (not s ≡ true)) → (P → not s ≡ true → R) → (IsTrue (t && not s) ↔ R)
both true s h there back = (λ e. back (h.0 refl) e, λ r. (there r).1)
both false s h there back = (λ e. absurd (never e), λ r. h.1 (there r).0)

-- one of the outputs that are left has the id
pub left_id : (spent : List (List ℕ)) (outputs : List Unspent) (id : List ℕ) (t s : Bool) → (IsTrue t ↔ Contains (output_ids outputs) id) → s ≡ is_among spent id → (IsTrue (t && not s) ↔ Contains (output_ids (left_of spent outputs)) id)
left_id spent outputs id t s h e =
    let test = λ (o : Unspent). not (is_among spent o.id) in
    let shows = λ (o : Unspent) (same : o.id ≡ id). ap (λ (i : List ℕ). not (is_among spent i)) same ∙ ap not (sym e) in
    both t s h (passed (λ o. o.id) test id (not s) shows outputs) (passes (λ o. o.id) test id (not s) shows outputs)

map_itself : {X : Type 0} (xs : List X) → map (λ x. x) xs ≡ xs
map_itself [] = refl
map_itself {X} (x ∷ xs) = ap (λ (ys : List X). x ∷ ys) (map_itself xs)

-- one of the outputs that are left is this one
pub left_output : (spent : List (List ℕ)) (outputs : List Unspent) (output : Unspent) (t s : Bool) → (IsTrue t ↔ Contains outputs output) → s ≡ is_among spent output.id → (IsTrue (t && not s) ↔ Contains (left_of spent outputs) output)
left_output spent outputs output t s h e =
    let test = λ (o : Unspent). not (is_among spent o.id) in
    let shows = λ (o : Unspent) (same : o ≡ output). ap (λ (x : Unspent). not (is_among spent x.id)) same ∙ ap not (sym e) in
    both t s h
    (λ r. (let found = passed (λ o. o) test output (not s) shows outputs (subst (λ (ys : List Unspent). Contains ys output) (sym (map_itself (left_of spent outputs))) r) in
    (subst (λ (ys : List Unspent). Contains ys output) (map_itself outputs) found.0, found.1)))
    (λ p t.
    subst (λ (ys : List Unspent). Contains ys output) (map_itself (left_of spent outputs))
    (passes (λ o. o) test output (not s) shows outputs (subst (λ (ys : List Unspent). Contains ys output) (sym (map_itself outputs)) p) t))

-- ---- one list after the other

pub in_first : {X : Type 0} (xs ys : List X) (x : X) → (IsTrue true ↔ Contains xs x) → (IsTrue true ↔ Contains (xs ++ ys) x)
in_first xs ys x h = (λ e. Contains-append_left xs ys x (h.0 e), λ r. refl)

pub in_second : {X : Type 0} (xs ys : List X) (x : X) (s : Bool) → (IsTrue false ↔ Contains xs x) → (IsTrue s ↔ Contains ys x) → (IsTrue s ↔ Contains (xs ++ ys) x)
in_second xs ys x s h g = (
  λ e. Contains-append_right xs ys x (g.0 e),
  λ r. elim (Contains-append_cases xs ys x r) [
    | inl l ↦ absurd (never (h.1 l))
    | inr m ↦ g.1 m
  ],
)

-- the same by what they are mapped to
module _ {X Y : Type 0} (f : X → Y) (xs ys : List X) (y : Y) where
  by_map : (t : Bool) → (IsTrue t ↔ Contains (map f xs ++ map f ys) y) → (IsTrue t ↔ Contains (map f (xs ++ ys)) y)
  by_map t h = subst (λ (zs : List Y). IsTrue t ↔ Contains zs y) (sym (map-append f xs ys)) h

  pub mapped_first : (IsTrue true ↔ Contains (map f xs) y) → (IsTrue true ↔ Contains (map f (xs ++ ys)) y)
  mapped_first h = by_map true (in_first (map f xs) (map f ys) y h)

  pub mapped_second : (s : Bool) → (IsTrue false ↔ Contains (map f xs) y) → (IsTrue s ↔ Contains (map f ys) y) → (IsTrue s ↔ Contains (map f (xs ++ ys)) y)
  mapped_second s h g = by_map s (in_second (map f xs) (map f ys) y s h g)

-- ---- by what is read

pub same_left : {spent ids : List (List ℕ)} {outputs others : List Unspent} → ids ≡ spent → others ≡ outputs → left_of ids others ≡ left_of spent outputs
same_left {spent} {ids} {outputs} {others} e f = ap (λ (zs : List (List ℕ)). left_of zs others) e ∙ ap (left_of spent) f
