-- Each signature of a key is good for its public key.
use Rattle.std.proofs.Common.{◌≡◌, ℕ, ◌+◌, ◌-◌, ◌*◌, ◌/◌, ◌^◌, ◌<◌, ◌≢◌, inl, inr, Bool, true, ◌&&◌, ◌||◌, List, [], ◌++◌, length, get_or, refl, sym, ap, subst, ◌∙◌, append_assoc, append-nil, length-append, eq-eqb, arith}
use Rattle.std.specs.Prelude.{slice_range, bytes_eq}
use Rattle.std.specs.Int.{from_be_bytes, w32}
use Rattle.std.proofs.lemmas.Bool.{lt-ltb}
use Rattle.std.proofs.lemmas.Nat.{from_be_bytes-to_be_bytes_4, div-mul-add}
use Rattle.std.proofs.lemmas.Slice.Eq.{bytes_eq-Decides}
use Rattle.std.proofs.Math.Bool.{or-true}
use Rattle.sha2.specs.Sha256.{sha256}
use Rattle.keyed.specs.Digests.{digest_length}
use Rattle.hash_sigs.specs.Strings.{u32str, u16str, joined, string_at}
use Rattle.hash_sigs.specs.OneTime.{chain, one_time_key, message_hash, digits, candidate}
use Rattle.hash_sigs.specs.Tree.{leaf, climbed}
use Rattle.hash_sigs.specs.Signature.{leaf_number, randomizer, key_candidate, root_candidate, is_key, is_signature, lms_of, lms}
use Rattle.hash_sigs.specs.Key.{Origin, IsHeight, typecode, private_element, own_randomizer, own_chain, own_one_time_key, node, public_key, own_path, own_y, signature}
use Rattle.hash_sigs.proofs.Pieces.{AreValues, length-u32str, length-joined, joined_same, part, string_of}
use Rattle.hash_sigs.proofs.Chaining.{length-chain, digit_fits, chain_whole}
use Rattle.hash_sigs.proofs.Climbing.{length-node, climbed_is, leaf_is}

both : {a b : Bool} → a ≡ true → b ≡ true → (a && b) ≡ true
both {a} {b} h k = ap (λ x. x && b) h ∙ k

same_bytes : (xs ys : List ℕ) → xs ≡ ys → bytes_eq xs ys ≡ true
same_bytes xs ys e = (bytes_eq-Decides xs ys).1 e

-- ---- six parts of a signature, four of a public key

pub record SixParts (s u v c y t p : List ℕ) : Type 0 where
  pub whole : s ≡ u ++ v ++ c ++ y ++ t ++ p
  pub len_u : length u ≡ 4
  pub len_v : length v ≡ 4
  pub len_c : length c ≡ 32
  pub len_y : length y ≡ 1088
  pub len_t : length t ≡ 4

part_u : (s u v c y t p : List ℕ) → SixParts s u v c y t p → slice_range s 0 4 ≡ u
part_u s u v c y t p h =
    let e : u ++ v ++ c ++ y ++ t ++ p ≡ [] ++ (u ++ (v ++ (c ++ (y ++ (t ++ p))))) = simp append_assoc in
    ap (λ x. slice_range x 0 4) (h.whole ∙ e) ∙ part [] u (v ++ (c ++ (y ++ (t ++ p)))) 0 4 refl (omega (arith, h.len_u))

part_v : (s u v c y t p : List ℕ) → SixParts s u v c y t p → slice_range s 4 8 ≡ v
part_v s u v c y t p h =
    let e : u ++ v ++ c ++ y ++ t ++ p ≡ u ++ (v ++ (c ++ (y ++ (t ++ p)))) = simp append_assoc in
    ap (λ x. slice_range x 4 8) (h.whole ∙ e) ∙ part u v (c ++ (y ++ (t ++ p))) 4 8 h.len_u (omega (arith, h.len_v))

part_c : (s u v c y t p : List ℕ) → SixParts s u v c y t p → slice_range s 8 40 ≡ c
part_c s u v c y t p h =
    let e : u ++ v ++ c ++ y ++ t ++ p ≡ (u ++ v) ++ (c ++ (y ++ (t ++ p))) = simp append_assoc in
    ap (λ x. slice_range x 8 40) (h.whole ∙ e)
    ∙ part (u ++ v) c (y ++ (t ++ p)) 8 40 (omega (arith, length-append u v, h.len_u, h.len_v)) (omega (arith, h.len_c))

front_len : (s u v c y t p : List ℕ) → SixParts s u v c y t p → length (u ++ v ++ c) ≡ 40
front_len s u v c y t p h = omega (arith, length-append (u ++ v) c, length-append u v, h.len_u, h.len_v, h.len_c)

ends_len : (s u v c y t p : List ℕ) → SixParts s u v c y t p → length (u ++ v ++ c ++ y ++ t) ≡ 1132
ends_len s u v c y t p h =
    omega (arith, length-append (u ++ v ++ c ++ y) t, length-append (u ++ v ++ c) y, front_len s u v c y t p h, h.len_y, h.len_t)

part_t : (s u v c y t p : List ℕ) → SixParts s u v c y t p → slice_range s 1128 1132 ≡ t
part_t s u v c y t p h =
    let e : u ++ v ++ c ++ y ++ t ++ p ≡ (u ++ v ++ c ++ y) ++ (t ++ p) = append_assoc (u ++ v ++ c ++ y) t p in
    ap (λ x. slice_range x 1128 1132) (h.whole ∙ e)
    ∙ part (u ++ v ++ c ++ y) t p 1128 1132
    (omega (arith, length-append (u ++ v ++ c) y, front_len s u v c y t p h, h.len_y)) (omega (arith, h.len_t))

whole_len : (s u v c y t p : List ℕ) → SixParts s u v c y t p → length s ≡ 1132 + length p
whole_len s u v c y t p h =
    ap length h.whole ∙ length-append (u ++ v ++ c ++ y ++ t) p ∙ ap (λ n. n + length p) (ends_len s u v c y t p h)

-- ---- those of a key's signature

are_y : (o : Origin) (q : ℕ) (m : List ℕ) (n : ℕ) → AreValues (own_y o q m) n
unfolding own_y
are_y o q m n = record { each = λ i lt. length-chain o.id q i 0 _ (private_element o q i) (digest_length _) }

are_path : (o : Origin) (q n : ℕ) → AreValues (own_path o q) n
unfolding own_path
are_path o q n = record { each = λ i lt. length-node o i _ }

six : (o : Origin) (q : ℕ) (m : List ℕ) → SixParts (signature o q m) (u32str q) (u32str 4) (own_randomizer o q) (joined (own_y o q m) 34) (u32str (typecode o.height)) (joined (own_path o q) o.height)
unfolding signature
six o q m = record {
  whole = refl;
  len_u = length-u32str q;
  len_v = length-u32str 4;
  len_c = digest_length _;
  len_y = length-joined (own_y o q m) 34 (are_y o q m 34);
  len_t = length-u32str (typecode o.height);
}

pub shows_leaf : (o : Origin) (q : ℕ) (m : List ℕ) → q < 2 ^ 32 → leaf_number (signature o q m) ≡ q
unfolding leaf_number u32str
shows_leaf o q m lt =
    ap (λ x. from_be_bytes w32 x) (part_u _ _ _ _ _ _ _ (six o q m)) ∙ from_be_bytes-to_be_bytes_4 q lt

y_at : (o : Origin) (q : ℕ) (m : List ℕ) (i : ℕ) → i < 34 → string_at (signature o q m) 40 i ≡ own_y o q m i
unfolding signature
y_at o q m i lt =
    let u = u32str q in
    let v = u32str 4 in
    let c = own_randomizer o q in
    let y = joined (own_y o q m) 34 in
    let t = u32str (typecode o.height) in
    let p = joined (own_path o q) o.height in
    let e : u ++ v ++ c ++ y ++ t ++ p ≡ (u ++ v ++ c) ++ (y ++ (t ++ p)) = simp append_assoc in
    ap (λ s. string_at s 40 i) e
    ∙ string_of (u ++ v ++ c) (t ++ p) (own_y o q m) 34 i 40 (front_len _ _ _ _ _ _ _ (six o q m)) (are_y o q m 34) lt

path_at : (o : Origin) (q : ℕ) (m : List ℕ) (i : ℕ) → i < o.height → string_at (signature o q m) 1132 i ≡ own_path o q i
unfolding signature
path_at o q m i lt =
    let u = u32str q in
    let v = u32str 4 in
    let c = own_randomizer o q in
    let y = joined (own_y o q m) 34 in
    let t = u32str (typecode o.height) in
    let p = joined (own_path o q) o.height in
    let e : u ++ v ++ c ++ y ++ t ++ p ≡ (u ++ v ++ c ++ y ++ t) ++ (p ++ []) = ap (λ x. (u ++ v ++ c ++ y ++ t) ++ x) (sym (append-nil p)) in
    ap (λ s. string_at s 1132 i) e
    ∙ string_of (u ++ v ++ c ++ y ++ t) [] (own_path o q) o.height i 1132 (ends_len _ _ _ _ _ _ _ (six o q m)) (are_path o q o.height) lt

-- ---- what the check comes to

key_is : (o : Origin) (q : ℕ) (m : List ℕ) → q < 2 ^ 32 → key_candidate o.id m (signature o q m) ≡ own_one_time_key o q
unfolding key_candidate candidate one_time_key own_y
key_is o q m lt =
    let s = signature o q m in
    let number = shows_leaf o q m lt in
    let c = part_c _ _ _ _ _ _ _ (six o q m) in
    let a = digits (message_hash o.id q (own_randomizer o q) m) in
    let chains : joined (λ i. chain o.id q i (get_or a i 0) (255 - get_or a i 0) (string_at s 40 i)) 34 ≡ joined (λ i. own_chain o q i 255) 34 =
    joined_same (λ i. chain o.id q i (get_or a i 0) (255 - get_or a i 0) (string_at s 40 i)) (λ i. own_chain o q i 255) 34
    (λ i less. ap (λ x. chain o.id q i (get_or a i 0) (255 - get_or a i 0) x) (y_at o q m i less)
    ∙ chain_whole o.id q i (get_or a i 0) (private_element o q i) (digit_fits _ i)) in
    ap (λ n. candidate o.id n (digits (message_hash o.id n (randomizer s) m)) (string_at s 40)) number
    ∙ ap (λ r. candidate o.id q (digits (message_hash o.id q r m)) (string_at s 40)) c
    ∙ ap (λ x. sha256 (o.id ++ u32str q ++ u16str 0x8080 ++ x)) chains

root_is : (o : Origin) (q : ℕ) (m : List ℕ) → q < 2 ^ o.height → q < 2 ^ 32 → root_candidate o.height o.id m (signature o q m) ≡ node o o.height 1
unfolding root_candidate
root_is o q m lt fits =
    let s = signature o q m in
    let h = o.height in
    let number = shows_leaf o q m fits in
    let once : 2 ^ h + q ≡ 1 * 2 ^ h + q = omega arith in
    let top : (2 ^ h + q) / 2 ^ h ≡ 1 = ap (λ n. n / 2 ^ h) once ∙ div-mul-add 1 (2 ^ h) q lt in
    ap (λ n. climbed o.id (2 ^ h + n) (leaf o.id (2 ^ h + n) (key_candidate o.id m s)) (string_at s 1132) h) number
    ∙ ap (λ k. climbed o.id (2 ^ h + q) (leaf o.id (2 ^ h + q) k) (string_at s 1132) h) (key_is o q m fits)
    ∙ ap (λ v. climbed o.id (2 ^ h + q) v (string_at s 1132) h) (leaf_is o q)
    ∙ climbed_is o q (string_at s 1132) h (λ k less. path_at o q m k less)
    ∙ ap (λ r. node o h r) top

module _ (o : Origin) (id : length o.id ≡ 16) where
  abbrev front : List ℕ
  front = u32str (typecode o.height) ++ u32str 4

  front_length : length front ≡ 8
  front_length = omega (arith, length-append (u32str (typecode o.height)) (u32str 4), length-u32str (typecode o.height), length-u32str 4)

  key_length : length (public_key o) ≡ 56
  unfolding public_key
  key_length =
      omega (arith, length-append (front ++ o.id) (node o o.height 1), length-append front o.id, front_length, id, length-node o o.height 1)

  key_typecode : slice_range (public_key o) 0 4 ≡ u32str (typecode o.height)
  unfolding public_key
  key_typecode =
      let t = u32str (typecode o.height) in
      let e : t ++ u32str 4 ++ o.id ++ node o o.height 1 ≡ [] ++ (t ++ (u32str 4 ++ (o.id ++ node o o.height 1))) = simp append_assoc in
      ap (λ x. slice_range x 0 4) e ∙ part [] t (u32str 4 ++ (o.id ++ node o o.height 1)) 0 4 refl (omega (arith, length-u32str (typecode o.height)))

  key_one_time : slice_range (public_key o) 4 8 ≡ u32str 4
  unfolding public_key
  key_one_time =
      let t = u32str (typecode o.height) in
      let e : t ++ u32str 4 ++ o.id ++ node o o.height 1 ≡ t ++ (u32str 4 ++ (o.id ++ node o o.height 1)) = simp append_assoc in
      ap (λ x. slice_range x 4 8) e
      ∙ part t (u32str 4) (o.id ++ node o o.height 1) 4 8 (length-u32str (typecode o.height)) (omega (arith, length-u32str 4))

  key_id : slice_range (public_key o) 8 24 ≡ o.id
  unfolding public_key
  key_id =
      let e : front ++ o.id ++ node o o.height 1 ≡ front ++ (o.id ++ node o o.height 1) = append_assoc front o.id (node o o.height 1) in
      ap (λ x. slice_range x 8 24) e ∙ part front o.id (node o o.height 1) 8 24 front_length (omega (arith, id))

  key_root : slice_range (public_key o) 24 56 ≡ node o o.height 1
  unfolding public_key
  key_root =
      let e : front ++ o.id ++ node o o.height 1 ≡ (front ++ o.id) ++ (node o o.height 1 ++ []) = ap (λ x. front ++ o.id ++ x) (sym (append-nil (node o o.height 1))) in
      ap (λ x. slice_range x 24 56) e
      ∙ part (front ++ o.id) (node o o.height 1) [] 24 56 (omega (arith, length-append front o.id, front_length, id))
      (omega (arith, length-node o o.height 1))

  key_good : is_key (typecode o.height) (public_key o) ≡ true
  key_good =
      both (both (eq-eqb (length (public_key o)) 56 key_length) (same_bytes _ _ key_typecode)) (same_bytes _ _ key_one_time)

  form_good : (q : ℕ) (m : List ℕ) → q < 2 ^ o.height → q < 2 ^ 32 → is_signature (typecode o.height) o.height (signature o q m) ≡ true
  form_good q m lt fits =
      let parts = six o q m in
      let len : length (signature o q m) ≡ 1132 + 32 * o.height =
      whole_len _ _ _ _ _ _ _ parts ∙ ap (λ n. 1132 + n) (length-joined (own_path o q) o.height (are_path o q o.height)) in
      let leaf : leaf_number (signature o q m) < 2 ^ o.height = subst (λ (n : ℕ). n < 2 ^ o.height) (sym (shows_leaf o q m fits)) lt in
      both (both (both (eq-eqb _ _ len) (same_bytes _ _ (part_v _ _ _ _ _ _ _ parts))) (same_bytes _ _ (part_t _ _ _ _ _ _ _ parts)))
      (lt-ltb _ _ leaf)

  good_of_height : (q : ℕ) (m : List ℕ) → q < 2 ^ o.height → q < 2 ^ 32 → lms_of (typecode o.height) o.height (public_key o) m (signature o q m) ≡ true
  unfolding lms_of
  good_of_height q m lt fits =
      let root : root_candidate o.height (slice_range (public_key o) 8 24) m (signature o q m) ≡ slice_range (public_key o) 24 56 =
      ap (λ i. root_candidate o.height i m (signature o q m)) key_id ∙ root_is o q m lt fits ∙ sym key_root in
      both (both key_good (form_good q m lt fits)) (same_bytes _ _ root)

-- a leaf of a tree has a number of four bytes
pub leaf_fits : (h q : ℕ) → IsHeight h → q < 2 ^ h → q < 2 ^ 32
leaf_fits h q (inl e) lt = (let f : 2 ^ h ≡ 32 = ap (λ n. 2 ^ n) e in omega (arith, f))
leaf_fits h q (inr e) lt = (let f : 2 ^ h ≡ 1024 = ap (λ n. 2 ^ n) e in omega (arith, f))

pub good : (o : Origin) (q : ℕ) (m : List ℕ) → IsHeight o.height → length o.id ≡ 16 → q < 2 ^ o.height → lms (public_key o) m (signature o q m) ≡ true
unfolding lms
good o q m tall id lt =
    let key = public_key o in
    let s = signature o q m in
    let whole = good_of_height o id q m lt (leaf_fits o.height q tall lt) in
    elim tall [
      | inl e ↦ ap (λ b. b || lms_of 6 10 key m s) (subst (λ (h : ℕ). lms_of (typecode h) h key m s ≡ true) e whole)
      | inr e ↦ ap (λ b. lms_of 5 5 key m s || b) (subst (λ (h : ℕ). lms_of (typecode h) h key m s ≡ true) e whole) ∙ or-true (lms_of 5 5 key m s)
    ]

-- two signatures with different leaves differ in their first four bytes
pub apart : (o p : Origin) (q r : ℕ) (m n : List ℕ) → q < 2 ^ 32 → r < 2 ^ 32 → q ≢ r → slice_range (signature o q m) 0 4 ≢ slice_range (signature p r n) 0 4
unfolding leaf_number
apart o p q r m n hq hr differ same =
    differ (sym (shows_leaf o q m hq) ∙ ap (λ x. from_be_bytes w32 x) same ∙ shows_leaf p r n hr)
