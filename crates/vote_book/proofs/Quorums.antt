-- Where the keys of a quorum's program stand, and that a program has one quorum.
use Rattle.std.proofs.Common.{◌≡◌, ℕ, suc, ◌+◌, ◌<◌, ◌≤◌, List, [], ◌∷◌, ◌++◌, length, Some, pos, refl, sym, ap, subst, ◌∙◌, arith, append_assoc, append-nil, length-append}
use Rattle.std.specs.Prelude.{slice_get}
use Rattle.std.specs.List.{flat_map, AllByRecursion}
use Rattle.std.proofs.lemmas.Bool.Decides.{nat_tests}
use Rattle.std.proofs.lemmas.List.Concat.{flat_map-append}
use Rattle.vm_num.specs.Push.{push_of, push_int_of}
use Rattle.vote_book.specs.Quorum.{IsKey, IsQuorum, asking, quorum_of}

-- ---- the parts of a program

-- BLOCKHASH and the pushes of the first keys
abbrev pub front_of : List (List ℕ) → List ℕ
front_of keys = 0xaf ∷ flat_map push_of keys

regrouped : (a b c d : List ℕ) → (a ++ (b ++ c)) ++ d ≡ (a ++ b) ++ (c ++ d)
regrouped a b c d = simp append_assoc

pub parted : (keys : List (List ℕ)) (k : List ℕ) (rest : List (List ℕ)) (m n : ℕ)
    → front_of (keys ++ k ∷ rest) ++ asking m n ≡ (front_of keys ++ push_of k) ++ (flat_map push_of rest ++ asking m n)
parted keys k rest m n =
    ap (λ (l : List ℕ). (0xaf ∷ l) ++ asking m n) (flat_map-append push_of keys (k ∷ rest))
    ∙ regrouped (front_of keys) (push_of k) (flat_map push_of rest) (asking m n)

-- the number from 1 to 16 is one code
pub small_push : (m : ℕ) → 1 ≤ m → m ≤ 16 → push_int_of (pos m) ≡ (80 + m) ∷ []
unfolding push_int_of
small_push m some few = grind (arith, nat_tests)

at_place : (front : List ℕ) (x : ℕ) (rest : List ℕ) → slice_get (front ++ x ∷ rest) (length front) ≡ Some x
at_place [] x rest = refl
at_place (y ∷ front) x rest = at_place front x rest

-- the code after the keys
pub code_behind : (keys : List (List ℕ)) (m : ℕ) → 1 ≤ m → m ≤ 16
    → slice_get (quorum_of keys m) (1 + length (flat_map push_of keys)) ≡ Some (80 + m)
code_behind keys m some few =
    let rest = push_int_of (pos (length keys)) ++ 0xad ∷ [] in
    ap (λ (l : List ℕ). slice_get (front_of keys ++ (l ++ rest)) (1 + length (flat_map push_of keys))) (small_push m some few)
    ∙ ap (λ (n : ℕ). slice_get (front_of keys ++ (80 + m) ∷ rest) n) (place keys)
    ∙ at_place (front_of keys) (80 + m) rest
  where
    place : (keys : List (List ℕ)) → 1 + length (flat_map push_of keys) ≡ length (front_of keys)
    place keys = omega arith

-- ---- the keys one by one

abbrev FirstAt : (program : List ℕ) (all keys rest : List (List ℕ)) (m at : ℕ) → Type 0
FirstAt program all keys rest m at =
    (program ≡ quorum_of all m) × (all ≡ keys ++ rest) × (at ≡ 1 + length (flat_map push_of keys))

key_next : (program : List ℕ) (all keys : List (List ℕ)) (k : List ℕ) (rest : List (List ℕ)) (m at : ℕ) → FirstAt program all keys (k ∷ rest) m at
    → program ≡ (front_of keys ++ push_of k) ++ (flat_map push_of rest ++ asking m (length all))
key_next program all keys k rest m at h =
    h.0 ∙ ap (λ (keys : List (List ℕ)). front_of keys ++ asking m (length all)) h.1 ∙ parted keys k rest m (length all)

is_key : (keys : List (List ℕ)) (k : List ℕ) (rest : List (List ℕ)) → AllByRecursion IsKey (keys ++ k ∷ rest) → IsKey k
is_key [] k rest h = h.0
is_key (x ∷ keys) k rest h = is_key keys k rest h.1

key_is : (all keys : List (List ℕ)) (k : List ℕ) (rest : List (List ℕ)) (m : ℕ) → IsQuorum all m → all ≡ keys ++ k ∷ rest → IsKey k
key_is all keys k rest m q is = is_key keys k rest (subst (λ (l : List (List ℕ)). AllByRecursion IsKey l) is q.each)

-- no key is pushed at this place
abbrev pub NoKeyAt : List ℕ → ℕ → Type 0
NoKeyAt program at =
    (key before after : List ℕ) → IsKey key → program ≡ (before ++ push_of key) ++ after → length before ≡ at → ⊥

-- a key that is pushed at this place is this one
abbrev pub KeyAt : List ℕ → ℕ → List ℕ → ℕ → Type 0
KeyAt program at k len =
    (key before after : List ℕ) → IsKey key → program ≡ (before ++ push_of key) ++ after → length before ≡ at
    → (k ≡ key) × (len ≡ length (push_of key))

-- no code after those of pushed data stands at this place
abbrev pub NoCodeAt : List ℕ → ℕ → Type 0
NoCodeAt program at = (code : ℕ) → slice_get program at ≡ Some code → 0x4e < code → ⊥

all_read : (all keys : List (List ℕ)) (at : ℕ) → all ≡ keys ++ [] → at ≡ 1 + length (flat_map push_of keys)
    → (keys ≡ all) × (at ≡ 1 + length (flat_map push_of all))
all_read all keys at is place =
    let same : keys ≡ all = sym (append-nil keys) ∙ sym is in
    (same, place ∙ ap (λ (l : List (List ℕ)). 1 + length (flat_map push_of l)) same)

-- where no key is pushed, all were read
pub ended : (program : List ℕ) (all keys rest : List (List ℕ)) (m at : ℕ) → IsQuorum all m → FirstAt program all keys rest m at → NoKeyAt program at
    → (keys ≡ all) × (at ≡ 1 + length (flat_map push_of all))
ended program all keys [] m at q h none = all_read all keys at h.1 h.2
ended program all keys (k ∷ rest) m at q h none =
    absurd (none k (front_of keys) _ (key_is all keys k rest m q h.1) (key_next program all keys k rest m at h) (omega (arith, h.2)))

-- where there is no room for more, all were read
pub filled : (program : List ℕ) (all keys rest : List (List ℕ)) (m at : ℕ) → IsQuorum all m → FirstAt program all keys rest m at → 16 ≤ length keys
    → (keys ≡ all) × (at ≡ 1 + length (flat_map push_of all))
filled program all keys [] m at q h full = all_read all keys at h.1 h.2
filled program all keys (k ∷ rest) m at q h full =
    let long : length all ≡ length keys + suc (length rest) = ap (λ (l : List (List ℕ)). length l) h.1 ∙ length-append keys (k ∷ rest) in
    absurd (omega (arith, long, q.few, full))

-- where one is pushed, it is the next
pub next_read : (program : List ℕ) (all keys rest : List (List ℕ)) (m at : ℕ) (k : List ℕ) (len : ℕ) → IsQuorum all m → FirstAt program all keys rest m at
    → KeyAt program at k len → NoCodeAt program at
    → (rest : List (List ℕ)) × (all ≡ (keys ++ k ∷ []) ++ rest) × (at + len ≡ 1 + length (flat_map push_of (keys ++ k ∷ [])))
next_read program all keys [] m at k len q h key none =
    let read = all_read all keys at h.1 h.2 in
    let code = code_behind all m q.some (omega (arith, q.few, q.at_most)) in
    absurd (none (80 + m) (ap (λ (p : List ℕ). slice_get p at) h.0 ∙ ap (λ (n : ℕ). slice_get (quorum_of all m) n) read.1 ∙ code) (omega (arith, q.some)))
next_read program all keys (x ∷ rest) m at k len q h key none =
    let same = key x (front_of keys) _ (key_is all keys x rest m q h.1) (key_next program all keys x rest m at h) (omega (arith, h.2)) in
    let more : flat_map push_of (keys ++ k ∷ []) ≡ flat_map push_of keys ++ (push_of k ++ []) = flat_map-append push_of keys (k ∷ []) in
    let long : length (flat_map push_of (keys ++ k ∷ [])) ≡ length (flat_map push_of keys) + length (push_of k) =
    ap (λ (l : List ℕ). length l) more ∙ length-append (flat_map push_of keys) (push_of k ++ []) ∙ ap (λ (l : List ℕ). length (flat_map push_of keys) + length l) (append-nil (push_of k)) in
    let one : length (push_of k) ≡ len = ap (λ (l : List ℕ). length (push_of l)) same.0 ∙ sym same.1 in (
      rest,
      h.1 ∙ ap (λ (y : List ℕ). keys ++ y ∷ rest) (sym same.0) ∙ sym (append_assoc keys (k ∷ []) rest),
      omega (arith, h.2, long, one),
    )

pub keys_more : (keys : List (List ℕ)) (k : List ℕ) → AllByRecursion IsKey keys → IsKey k → AllByRecursion IsKey (keys ++ k ∷ [])
keys_more [] k h short = (short, tt)
keys_more (x ∷ keys) k h short = (h.0, keys_more keys k h.1 short)

-- the number that is asked for stands after the keys
pub number_read : (program : List ℕ) (keys : List (List ℕ)) (m at : ℕ) → IsQuorum keys m → program ≡ quorum_of keys m
    → at ≡ 1 + length (flat_map push_of keys) → slice_get program at ≡ Some (80 + m)
number_read program keys m at q is place =
    ap (λ (p : List ℕ). slice_get p at) is ∙ ap (λ (n : ℕ). slice_get (quorum_of keys m) n) place ∙ code_behind keys m q.some (omega (arith, q.few, q.at_most))

pub few_asked : (keys : List (List ℕ)) (m : ℕ) → IsQuorum keys m → m ≤ 16
few_asked keys m q = omega (arith, q.few, q.at_most)
