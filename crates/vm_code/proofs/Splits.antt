-- What is read of bytes is an instruction of one of the kinds, and its bytes stand at their front.
use Rattle.std.proofs.Common.{◌≡◌, ℕ, zero, suc, ◌+◌, ◌^◌, ◌<◌, ◌≤◌, List, [], ◌∷◌, ◌++◌, length, take, drop, Ok, Err, Result, Bool, true, false, cond, refl, sym, ap, ◌∙◌, subst, inl, inr, ◌⊎◌, arith, length-append, length-take, length-drop}
use Rattle.std.specs.Prelude.{◌==◌, nat_le}
use Rattle.std.specs.Int.{w32, to_le_bytes}
use Rattle.std.proofs.lemmas.List.{append_assoc, take-append-drop}
use Rattle.std.proofs.lemmas.Bool.{cases_lt, le-leb, lt-leb, eqb-true, leb-true, and_parts}
use Rattle.hex.specs.Hex.{IsBytes}
use Rattle.vm_code.specs.Instruction.{Decoded, Misread, Short, BadOpcode, decoded, decoded_front, data_at, counted_at, jump_at, little_endian, plain, is_data, is_jump, is_plain}
use Rattle.vm_code.specs.Text.{bytes_of, IsInstruction}
use Rattle.vm_code.proofs.Hexes.{is_bytes_nil, is_bytes_cons, is_bytes_tail}
use Rattle.vm_code.proofs.Shapes.{pushing, jumping, Kind, by_length, counted_1, counted_2, counted_4, jump, alone, Field, read_1, read_2, read_4, bytes_by_length, bytes_1, bytes_2, bytes_4, bytes_jump, bytes_alone}

-- a code and the bytes after it are the bytes of an instruction and more
pub record Split (bytes : List ℕ) (d : Decoded) : Type 0 where
  pub rest : List ℕ
  pub whole : bytes ≡ bytes_of d ++ rest
  pub len : length (bytes_of d) ≡ d.len
  pub kind : Kind d

is_bytes_take : (k : ℕ) (b : List ℕ) → IsBytes b → IsBytes (take k b)
is_bytes_take zero b all = is_bytes_nil
is_bytes_take (suc k) [] all = is_bytes_nil
is_bytes_take (suc k) (x ∷ b) all = is_bytes_cons x (take k b) (all 0) (is_bytes_take k b (is_bytes_tail x b all))

-- ---- what a test and its two ways come to

by_cases : (t : Bool) (x y r : Result Decoded Misread) → cond t x y ≡ r → ((t ≡ true) × (x ≡ r)) ⊎ ((t ≡ false) × (y ≡ r))
by_cases true x y r h = inl (refl, h)
by_cases false x y r h = inr (refl, h)

fits : (t : Bool) (x d : Decoded) → cond t (Ok x) (Err Short) ≡ Ok d → (t ≡ true) × (x ≡ d)
fits true x d h = (refl, cc)
fits false x d h = cc

-- ---- data

-- the count's bytes, and what stands after them
data_parts : (field count : ℕ) (b : List ℕ) → take field b ++ (take count (drop field b) ++ drop count (drop field b)) ≡ b
data_parts field count b = ap (λ l. take field b ++ l) (take-append-drop count (drop field b)) ∙ take-append-drop field b

length_data : (field count : ℕ) (b : List ℕ) → field + count ≤ length b → length (take count (drop field b)) ≡ count
length_data field count b room = let long : count ≤ length (drop field b) = simp length-drop (omega arith) in simp length-take (omega arith)

pushing_of : ℕ → List ℕ → ℕ → ℕ → Decoded
pushing_of code p field n = record { code = code; pushed = p; target = 0; len = 1 + field + n }

split_data : (code : ℕ) (b : List ℕ) (d : Decoded) → is_data code ≡ true → data_at code 0 code b ≡ Ok d → Split (code ∷ b) d
unfolding pushing_of
split_data code b d is h =
    let both = and_parts (nat_le 1 code) (nat_le code 0x4b) is in
    let low = leb-true 1 code both.0 in
    let high = leb-true code 0x4b both.1 in
    let p = take code b in
    let e = fits (nat_le (0 + code) (length b)) (record { code = code; pushed = p; target = 0; len = 1 + 0 + code }) d h in
    let room : code ≤ length b = let le = leb-true (0 + code) (length b) e.0 in omega arith in
    let long : length p ≡ code = simp length-take (omega arith) in
    let same : pushing (length p) p 0 ≡ d = ap (λ (n : ℕ). pushing_of n p 0 n) long ∙ e.1 in
    let is_bytes : bytes_of (pushing (length p) p 0) ≡ length p ∷ p = bytes_by_length p (omega arith) in
    let joined : length p ∷ p ++ drop code b ≡ code ∷ b = ap (λ (n : ℕ). n ∷ p ++ drop code b) long ∙ ap (λ l. code ∷ l) (take-append-drop code b) in
    subst (Split (code ∷ b)) same (record {
      rest = drop code b;
      whole = rw is_bytes (sym joined);
      len = rw is_bytes (omega arith);
      kind = by_length p (omega arith) (omega arith);
    })

-- a code whose count stands in a field of k bytes, which is read by its lemma
split_counted : (code k : ℕ) (b : List ℕ) (d : Decoded) → IsBytes b → ((f : List ℕ) → length f ≡ k → IsBytes f → (little_endian f < 256 ^ k) × Field k (little_endian f) f) → ((p : List ℕ) → bytes_of (pushing code p k) ≡ code ∷ take k (to_le_bytes w32 (length p)) ++ p) → ((p : List ℕ) → length p < 256 ^ k → Kind (pushing code p k)) → counted_at code k b ≡ Ok d → Split (code ∷ b) d
unfolding pushing_of
split_counted code k b d all reads bytes kind h = elim (cases_lt (length b) k) [
  | inl short ↦ let e = rw (lt-leb k (length b) short) at h in cc
  | inr enough ↦
      let f = take k b in
      let n = little_endian f in
      let p = take n (drop k b) in
      let at : data_at code k n b ≡ Ok d = rw (le-leb k (length b) enough) at h in
      let e = fits (nat_le (k + n) (length b)) (record { code = code; pushed = p; target = 0; len = 1 + k + n }) d at in
      let room : k + n ≤ length b = leb-true (k + n) (length b) e.0 in
      let field_long : length f ≡ k = simp length-take (omega arith) in
      let long : length p ≡ n = length_data k n b room in
      let read = reads f field_long (is_bytes_take k b all) in
      let small : length p < 256 ^ k = subst (λ (m : ℕ). m < 256 ^ k) (sym long) read.0 in
      let same : pushing code p k ≡ d = ap (λ (m : ℕ). pushing_of code p k m) long ∙ e.1 in
      let is_field : take k (to_le_bytes w32 (length p)) ≡ f = ap (λ (m : ℕ). take k (to_le_bytes w32 m)) long ∙ read.1.is in
      let is_bytes : bytes_of (pushing code p k) ≡ code ∷ f ++ p = bytes p ∙ ap (λ l. code ∷ l ++ p) is_field in
      let joined : code ∷ f ++ p ++ drop n (drop k b) ≡ code ∷ b = ap (λ l. code ∷ l) (append_assoc f p (drop n (drop k b)) ∙ data_parts k n b) in
      let length_is : length (f ++ p) ≡ k + length p = simp length-append (omega arith) in
      subst (Split (code ∷ b)) same (record {
        rest = drop n (drop k b);
        whole = rw is_bytes (sym joined);
        len = rw is_bytes (omega arith);
        kind = kind p small;
      })
]

split_jump : (code : ℕ) (b : List ℕ) (d : Decoded) → IsBytes b → is_jump code ≡ true → jump_at code b ≡ Ok d → Split (code ∷ b) d
split_jump code b d all is h =
    let f = take 4 b in
    let e = fits (nat_le 4 (length b)) (jumping code (little_endian f)) d h in
    let room : 4 ≤ length b = leb-true 4 (length b) e.0 in
    let long : length f ≡ 4 = simp length-take (omega arith) in
    let read = read_4 f long (is_bytes_take 4 b all) in
    let small : little_endian f < 2 ^ 32 = omega (arith, read.0) in
    let is_bytes : bytes_of (jumping code (little_endian f)) ≡ code ∷ f = bytes_jump code (little_endian f) is ∙ ap (λ l. code ∷ l) read.1.is in
    subst (Split (code ∷ b)) e.1 (record {
      rest = drop 4 b;
      whole = rw is_bytes (sym (ap (λ l. code ∷ l) (take-append-drop 4 b)));
      len = rw is_bytes (omega arith);
      kind = jump code (little_endian f) is small;
    })

plain_ok : (t : Bool) (x d : Decoded) → cond t (Ok x) (Err BadOpcode) ≡ Ok d → (t ≡ true) × (x ≡ d)
plain_ok true x d h = (refl, cc)
plain_ok false x d h = cc

split_alone : (code : ℕ) (b : List ℕ) (d : Decoded) → cond (is_plain code) (Ok (plain code)) (Err BadOpcode) ≡ Ok d → Split (code ∷ b) d
split_alone code b d h =
    let e = plain_ok (is_plain code) (plain code) d h in
    subst (Split (code ∷ b)) e.1 (record {
      rest = b;
      whole = rw (bytes_alone code e.0) refl;
      len = rw (bytes_alone code e.0) refl;
      kind = alone code e.0;
    })

code_is : (code k : ℕ) (b : List ℕ) (d : Decoded) → (code == k) ≡ true → Split (k ∷ b) d → Split (code ∷ b) d
code_is code k b d is s = subst (λ (c : ℕ). Split (c ∷ b) d) (sym (eqb-true code k is)) s

at_code : (code k field : ℕ) (b : List ℕ) (d : Decoded) → (code == k) ≡ true → counted_at code field b ≡ Ok d → counted_at k field b ≡ Ok d
at_code code k field b d is h = subst (λ (c : ℕ). counted_at c field b ≡ Ok d) (eqb-true code k is) h

pub split_decoded : (code : ℕ) (b : List ℕ) (d : Decoded) → IsBytes b → decoded code b ≡ Ok d → Split (code ∷ b) d
split_decoded code b d all h = elim (by_cases (is_data code) _ _ _ h) [
  | inl e ↦ split_data code b d e.0 e.1
  | inr more ↦ elim (by_cases (code == 0x4c) _ _ _ more.1) [
    | inl e ↦ code_is code 0x4c b d e.0 (split_counted 0x4c 1 b d all read_1 bytes_1 counted_1 (at_code code 0x4c 1 b d e.0 e.1))
    | inr more_2 ↦ elim (by_cases (code == 0x4d) _ _ _ more_2.1) [
      | inl e ↦ code_is code 0x4d b d e.0 (split_counted 0x4d 2 b d all read_2 bytes_2 counted_2 (at_code code 0x4d 2 b d e.0 e.1))
      | inr more_4 ↦ elim (by_cases (code == 0x4e) _ _ _ more_4.1) [
        | inl e ↦ code_is code 0x4e b d e.0 (split_counted 0x4e 4 b d all read_4 bytes_4 counted_4 (at_code code 0x4e 4 b d e.0 e.1))
        | inr last ↦ elim (by_cases (is_jump code) _ _ _ last.1) [
          | inl e ↦ split_jump code b d all e.0 e.1
          | inr e ↦ split_alone code b d e.1
        ]
      ]
    ]
  ]
]

pub split_front : (b : List ℕ) (d : Decoded) → IsBytes b → decoded_front b ≡ Ok d → Split b d
split_front [] d all h = cc
split_front (code ∷ b) d all h = split_decoded code b d (is_bytes_tail code b all) h

pub kind_of : (d : Decoded) → IsInstruction d → Kind d
kind_of d i = (split_front (bytes_of d) d i.bytes i.read).kind

pub length_of : (d : Decoded) → IsInstruction d → length (bytes_of d) ≡ d.len
length_of d i = (split_front (bytes_of d) d i.bytes i.read).len
