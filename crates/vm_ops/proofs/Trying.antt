-- Trying keys for signatures.
use Rattle.std.proofs.Common.{◌≡◌, ℕ, ◌+◌, ◌-◌, ◌<◌, ◌≤◌, ◌⊎◌, inl, inr, Bool, true, false, ◌&&◌, ◌||◌, List, [], ◌∷◌, length, take, drop, get_or, drop_of_length-le, refl, ap, sym, ◌∙◌, arith}
use Rattle.std.specs.Prelude.{slice_index_or, nat_eq}
use Rattle.std.proofs.lemmas.Bool.{cases_lt, ne_eqb}
use Rattle.std.proofs.lemmas.Bool.Decides.{nat_tests}
use Rattle.std.proofs.lemmas.List.{drop_more, get_or-reverse, get_or-take, get_or-drop, length-drop, length-take-le, length-reverse}
use Rattle.vm_num.specs.Item.{Item}
use Rattle.vm_ops.specs.Signatures.{is_multi_good, keys_in, message_in, signatures_in}
use Rattle.keyed.specs.Functions.{Check}

pub or_right : (x y : Bool) → y ≡ true → (x || y) ≡ true
or_right false y is = is
or_right true y is = refl

-- x and y, or z, holds
pub either : (x y z : Bool) → (x && y || z) ≡ true → ((x ≡ true) × (y ≡ true)) ⊎ (z ≡ true)
either true true z is = inl (refl, refl)
either true false z is = inr is
either false y z is = inr is

absorbed : (x y : Bool) → (y ≡ true → x ≡ true) → (x || y) ≡ x
absorbed true y follows = refl
absorbed false false follows = refl
absorbed false true follows = sym (follows refl)

pub no_signature : (check : Check) (keys : List Item) (message : Item) → is_multi_good check keys message [] ≡ true
no_signature check [] message = refl
no_signature check (k ∷ keys) message = refl

-- one signature fewer in front is good too
fewer : (check : Check) (keys : List Item) (message s : Item) (signatures : List Item)
    → is_multi_good check keys message (s ∷ signatures) ≡ true → is_multi_good check keys message signatures ≡ true
fewer check [] message s signatures is = cc
fewer check (k ∷ keys) message s [] is = refl
fewer check (k ∷ keys) message s (t ∷ signatures) is =
    or_right (check k message t && is_multi_good check keys message signatures) (is_multi_good check keys message (t ∷ signatures))
    (elim (either (check k message s) (is_multi_good check keys message (t ∷ signatures)) (is_multi_good check keys message (s ∷ t ∷ signatures)) is) [
      | inl both ↦ both.1
      | inr skipped ↦ fewer check keys message s (t ∷ signatures) skipped
    ])

-- the first key is good for the first signature
taken : (check : Check) (k : Item) (keys : List Item) (message s : Item) (signatures : List Item)
    → check k message s ≡ true
    → is_multi_good check (k ∷ keys) message (s ∷ signatures) ≡ is_multi_good check keys message signatures
taken check k keys message s signatures good =
    rw good (absorbed (is_multi_good check keys message signatures) (is_multi_good check keys message (s ∷ signatures)) (fewer check keys message s signatures))

skipped : (check : Check) (k : Item) (keys : List Item) (message s : Item) (signatures : List Item)
    → check k message s ≡ false
    → is_multi_good check (k ∷ keys) message (s ∷ signatures) ≡ is_multi_good check keys message (s ∷ signatures)
skipped check k keys message s signatures bad = rw bad refl

-- ---- where the items stand

key_at : (n k : ℕ) (items : List Item) → k < n → n ≤ length items
    → slice_index_or (keys_in n items) k [] ≡ slice_index_or items (n - 1 - k) []
key_at n k items in_keys there =
    let len : length (take n items) ≡ n = length-take-le n items there in
    get_or-reverse (take n items) k [] (rw len in_keys)
    ∙ rw len (get_or-take n items (n - 1 - k) [] (omega arith))

signature_at : (m n f : ℕ) (items : List Item) → f < m → n + 1 + m ≤ length items
    → slice_index_or (signatures_in m n items) f [] ≡ slice_index_or items (n + m - f) []
signature_at m n f items in_signatures there =
    let below : m ≤ length (drop (n + 1) items) = rw (length-drop (n + 1) items) (omega arith) in
    let len : length (take m (drop (n + 1) items)) ≡ m = length-take-le m (drop (n + 1) items) below in
    let place : n + 1 + (m - 1 - f) ≡ n + m - f = omega arith in
    get_or-reverse (take m (drop (n + 1) items)) f [] (rw len in_signatures)
    ∙ rw len (get_or-take m (drop (n + 1) items) (m - 1 - f) [] (omega arith)
    ∙ (get_or-drop (n + 1) items (m - 1 - f) []
    ∙ ap (λ i. get_or items i []) place))

all_keys : (n : ℕ) (items : List Item) → n ≤ length items → length (keys_in n items) ≡ n
all_keys n items there = length-reverse (take n items) ∙ length-take-le n items there

pub all_signatures : (m n : ℕ) (items : List Item) → n + 1 + m ≤ length items → length (signatures_in m n items) ≡ m
all_signatures m n items there =
    length-reverse (take m (drop (n + 1) items))
    ∙ length-take-le m (drop (n + 1) items) (rw (length-drop (n + 1) items) (omega arith))

-- the signatures after the first f, tried on the keys after the first k
abbrev pub tried : Check → List Item → ℕ → ℕ → ℕ → ℕ → Bool
tried check items m n k f =
    is_multi_good check (drop k (keys_in n items)) (message_in n items) (drop f (signatures_in m n items))

-- ---- one more key is tried

pub next_taken : (check : Check) (items : List Item) (m n k f : ℕ)
    → k < n
    → f < m
    → n + 1 + m ≤ length items
    → check (slice_index_or items (n - 1 - k) []) (message_in n items) (slice_index_or items (n + m - f) []) ≡ true
    → tried check items m n k f ≡ tried check items m n (k + 1) (f + 1)
next_taken check items m n k f key signature there good =
    let keys = keys_in n items in
    let signatures = signatures_in m n items in
    let k_there : k < length keys = rw (all_keys n items (omega arith)) key in
    let f_there : f < length signatures = rw (all_signatures m n items there) signature in
    rw (drop_more keys k [] k_there) (rw (drop_more signatures f [] f_there)
    (taken check (slice_index_or keys k []) (drop (k + 1) keys) (message_in n items) (slice_index_or signatures f []) (drop (f + 1) signatures)
    (rw (key_at n k items key (omega arith)) (rw (signature_at m n f items signature there) good))))

pub next_skipped : (check : Check) (items : List Item) (m n k f : ℕ)
    → k < n
    → f < m
    → n + 1 + m ≤ length items
    → check (slice_index_or items (n - 1 - k) []) (message_in n items) (slice_index_or items (n + m - f) []) ≡ false
    → tried check items m n k f ≡ tried check items m n (k + 1) f
next_skipped check items m n k f key signature there bad =
    let keys = keys_in n items in
    let signatures = signatures_in m n items in
    let k_there : k < length keys = rw (all_keys n items (omega arith)) key in
    let f_there : f < length signatures = rw (all_signatures m n items there) signature in
    rw (drop_more keys k [] k_there) (rw (drop_more signatures f [] f_there)
    (skipped check (slice_index_or keys k []) (drop (k + 1) keys) (message_in n items) (slice_index_or signatures f []) (drop (f + 1) signatures)
    (rw (key_at n k items key (omega arith)) (rw (signature_at m n f items signature there) bad))))

-- ---- no signature is left, and no key is

same_number : (m : ℕ) → nat_eq m m ≡ true
same_number m = grind (arith, nat_tests)

pub all_found : (check : Check) (items : List Item) (m n k : ℕ)
    → n + 1 + m ≤ length items → tried check items m n k m ≡ true
all_found check items m n k there =
    let past : length (signatures_in m n items) ≤ m = omega (arith, all_signatures m n items there) in
    rw (drop_of_length-le (signatures_in m n items) past)
    (no_signature check (drop k (keys_in n items)) (message_in n items))

pub no_key_left : (check : Check) (items : List Item) (m n f : ℕ)
    → f ≤ m → n + 1 + m ≤ length items → tried check items m n n f ≡ nat_eq f m
no_key_left check items m n f few there =
    elim (cases_lt f m) [
      | inl less ↦
          let f_there : f < length (signatures_in m n items) = rw (all_signatures m n items there) less in
          let past : length (keys_in n items) ≤ n = omega (arith, all_keys n items (omega arith)) in
          rw (drop_of_length-le (keys_in n items) past)
          (rw (drop_more (signatures_in m n items) f [] f_there) (sym (ne_eqb f m (λ e. omega (arith, e, less)))))
      | inr all ↦
          let same : f ≡ m = omega arith in
          rw same (all_found check items m n n there ∙ sym (same_number m))
    ]
