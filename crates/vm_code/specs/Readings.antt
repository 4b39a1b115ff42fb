-- What is read in a program is read in a longer one, and what is written is read where it stands.
-- Laws with their proofs.
use Rattle.std.proofs.Common.{◌≡◌, ◌⊎◌, ℕ, ◌+◌, ◌-◌, ◌<◌, ◌≤◌, ◌^◌, List, [], ◌∷◌, ◌++◌, length, take, drop, Ok, Result}
use Rattle.std.proofs.Common.{Bool, true, false, cond, IfOk, leb, refl, ap, ◌∙◌, subst, inl, inr, arith}
use Rattle.std.proofs.Common.{length-append, length-drop}
use Rattle.std.proofs.Math.Seq.{drop-append-add}
use Rattle.std.proofs.lemmas.List.{append_assoc, drop_at, take-append-le, drop-append-le}
use Rattle.std.proofs.lemmas.Nat.{from_le_bytes-to_le_bytes_4}
use Rattle.std.proofs.lemmas.Bool.{cases_lt, le-leb, lt-leb, leb-true, eqb-true, and_parts, agree_below_at, not-true}
use Rattle.std.proofs.lemmas.Bool.{cond_both, cond-true, cond-false}
use Rattle.std.proofs.lemmas.Bool.Decides.{nat_tests}
use Rattle.std.specs.Prelude.{◌==◌, ◌&&◌, ◌||◌, not, nat_le}
use Rattle.std.specs.Int.{w32, to_le_bytes}
use Rattle.vm_code.specs.Instruction.{Decoded, Misread, instruction_at, decoded, decoded_front, data_at, counted_at}
use Rattle.vm_code.specs.Instruction.{jump_at, little_endian, is_data, is_jump, is_plain, plain, jump}
use Rattle.vm_code.specs.Text.{field_len}

data_begun : (code field count : ℕ) (b x : List ℕ) (d : Decoded) → data_at code field count b ≡ Ok d
    → data_at code field count (b ++ x) ≡ Ok d
data_begun code field count b x d h = elim (cases_lt (length b) (field + count)) [
  | inl short ↦ let e = rw (lt-leb (field + count) (length b) short) at h in cc
  | inr fits ↦
      let e = rw (le-leb (field + count) (length b) fits) at h in
      let long : field + count ≤ length (b ++ x) = simp length-append (omega arith) in
      let dropped : drop field (b ++ x) ≡ drop field b ++ x = drop-append-le field b x (omega arith) in
      let room : count ≤ length (drop field b) = simp length-drop (omega arith) in
      let taken : take count (drop field (b ++ x)) ≡ take count (drop field b) =
      ap (take count) dropped ∙ take-append-le count (drop field b) x room in
      let pushing : List ℕ → Decoded =
      λ l. record { code = code; pushed = l; target = 0; len = 1 + field + count } in
      rw (le-leb (field + count) (length (b ++ x)) long) (ap (λ l. Ok (pushing l)) taken ∙ e)
]

counted_begun : (code field : ℕ) (b x : List ℕ) (d : Decoded) → counted_at code field b ≡ Ok d
    → counted_at code field (b ++ x) ≡ Ok d
counted_begun code field b x d h = elim (cases_lt (length b) field) [
  | inl short ↦ let e = rw (lt-leb field (length b) short) at h in cc
  | inr fits ↦
      let e : data_at code field (little_endian (take field b)) b ≡ Ok d = rw (le-leb field (length b) fits) at h in
      let long : field ≤ length (b ++ x) = simp length-append (omega arith) in
      let same : little_endian (take field (b ++ x)) ≡ little_endian (take field b) =
      ap little_endian (take-append-le field b x fits) in
      rw (le-leb field (length (b ++ x)) long)
      (ap (λ n. data_at code field n (b ++ x)) same
      ∙ data_begun code field (little_endian (take field b)) b x d e)
]

jump_begun : (code : ℕ) (b x : List ℕ) (d : Decoded) → jump_at code b ≡ Ok d → jump_at code (b ++ x) ≡ Ok d
jump_begun code b x d h = elim (cases_lt (length b) 4) [
  | inl short ↦ let e = rw (lt-leb 4 (length b) short) at h in cc
  | inr fits ↦
      let e = rw (le-leb 4 (length b) fits) at h in
      let long : 4 ≤ length (b ++ x) = simp length-append (omega arith) in
      let same : little_endian (take 4 (b ++ x)) ≡ little_endian (take 4 b) =
      ap little_endian (take-append-le 4 b x fits) in
      rw (le-leb 4 (length (b ++ x)) long) (ap (λ n. Ok (jump code n)) same ∙ e)
]

-- a choice by a test: where both choices lead on, so does the whole
by_test : (t : Bool) (a b c e : Result Decoded Misread) (d : Decoded) → (a ≡ Ok d → c ≡ Ok d) → (b ≡ Ok d → e ≡ Ok d)
    → cond t a b ≡ Ok d → cond t c e ≡ Ok d
by_test true a b c e d then other h = then h
by_test false a b c e d then other h = other h

pub decoded_begun : (code : ℕ) (b x : List ℕ) (d : Decoded) → decoded code b ≡ Ok d → decoded code (b ++ x) ≡ Ok d
decoded_begun code b x d =
    by_test (is_data code) _ _ _ _ d (data_begun code 0 code b x d)
    (by_test (code == 0x4c) _ _ _ _ d (counted_begun code 1 b x d)
    (by_test (code == 0x4d) _ _ _ _ d (counted_begun code 2 b x d)
    (by_test (code == 0x4e) _ _ _ _ d (counted_begun code 4 b x d)
    (by_test (is_jump code) _ _ _ _ d (jump_begun code b x d) (λ h. h)))))

pub front_begun : (b x : List ℕ) (d : Decoded) → decoded_front b ≡ Ok d → decoded_front (b ++ x) ≡ Ok d
front_begun [] x d h = cc
front_begun (code ∷ b) x d h = decoded_begun code b x d h

-- what is read takes a byte at least, and at most this many
abbrev pub Takes : ℕ → Result Decoded Misread → Type 0
Takes room read = IfOk read (λ d. (0 < d.len) × (d.len ≤ room))

takes_test : (room : ℕ) (t : Bool) (x y : Result Decoded Misread) → Takes room x → Takes room y
    → Takes room (cond t x y)
takes_test room true x y p q = p
takes_test room false x y p q = q

data_takes : (code field count : ℕ) (b : List ℕ) → Takes (1 + length b) (data_at code field count b)
data_takes code field count b =
    cond_both (leb (field + count) (length b)) _ _ (Takes (1 + length b))
    (λ fits. let le = leb-true _ _ fits in (omega arith, omega arith)) (λ short. tt)

counted_takes : (code field : ℕ) (b : List ℕ) → Takes (1 + length b) (counted_at code field b)
counted_takes code field b =
    takes_test (1 + length b) (leb field (length b)) _ _ (data_takes code field (little_endian (take field b)) b) tt

jump_takes : (code : ℕ) (b : List ℕ) → Takes (1 + length b) (jump_at code b)
jump_takes code b =
    cond_both (leb 4 (length b)) _ _ (Takes (1 + length b))
    (λ fits. let le = leb-true _ _ fits in (omega arith, omega arith)) (λ short. tt)

decoded_takes : (code : ℕ) (b : List ℕ) → Takes (1 + length b) (decoded code b)
decoded_takes code b =
    let room = 1 + length b in
    takes_test room (is_data code) _ _ (data_takes code 0 code b)
    (takes_test room (code == 0x4c) _ _ (counted_takes code 1 b)
    (takes_test room (code == 0x4d) _ _ (counted_takes code 2 b)
    (takes_test room (code == 0x4e) _ _ (counted_takes code 4 b)
    (takes_test room (is_jump code) _ _ (jump_takes code b)
    (takes_test room (is_plain code) _ _ (omega arith, omega arith) tt)))))

pub front_takes : (b : List ℕ) (d : Decoded) → decoded_front b ≡ Ok d → (0 < d.len) × (d.len ≤ length b)
front_takes [] d h = cc
front_takes (code ∷ b) d h =
    let takes : Takes (1 + length b) (Ok d) = subst (Takes (1 + length b)) h (decoded_takes code b) in
    (takes.0, omega (arith, takes.1))

pub within : (program : List ℕ) (place : ℕ) (d : Decoded) → instruction_at program place ≡ Ok d
    → (0 < d.len) × (place + d.len ≤ length program)
unfolding instruction_at
within program place d h =
    let takes = front_takes (drop place program) d h in
    let inside : d.len ≤ length program - place = simp length-drop at takes.1 in
    (takes.0, omega (arith, takes.0))

pub begun : (program behind : List ℕ) (place : ℕ) (d : Decoded) → instruction_at program place ≡ Ok d
    → instruction_at (program ++ behind) place ≡ Ok d
unfolding instruction_at
begun program behind place d h =
    let inside = within program place d h in
    let before : place ≤ length program = omega (arith, inside.1) in
    ap decoded_front (drop-append-le place program behind before) ∙ front_begun (drop place program) behind d h

pub fronted : (front program : List ℕ) (place : ℕ)
    → instruction_at (front ++ program) (length front + place) ≡ instruction_at program place
unfolding instruction_at
fronted front program place = ap decoded_front (drop-append-add front program place)

-- ---- codes that are alone, and jumps

abbrev other_tests : ℕ → Bool
other_tests c =
    not (is_data c)
    && (not (c == 0x4c) && (not (c == 0x4d) && (not (c == 0x4e) && (not (is_jump c) && (field_len c == 0)))))

abbrev alone_test : ℕ → Bool
alone_test c = not (is_plain c) || other_tests c

alone_tests : (c : ℕ) → c < 256 → alone_test c ≡ true
alone_tests c small = agree_below_at alone_test (λ c. true) 256 c refl small

pub plain_small : (c : ℕ) → is_plain c ≡ true → c < 256
plain_small c is = grind (arith, nat_tests)

pub record Alone (c : ℕ) : Type 0 where
  pub no_data : is_data c ≡ false
  pub not_1 : (c == 0x4c) ≡ false
  pub not_2 : (c == 0x4d) ≡ false
  pub not_4 : (c == 0x4e) ≡ false
  pub no_jump : is_jump c ≡ false
  pub no_field : field_len c ≡ 0

pub is_alone : (c : ℕ) → is_plain c ≡ true → Alone c
is_alone c is =
    let all : not true || other_tests c ≡ true =
    subst (λ t. not t || other_tests c ≡ true) is (alone_tests c (plain_small c is)) in
    let a = and_parts (not (is_data c)) _ all in
    let b = and_parts (not (c == 0x4c)) _ a.1 in
    let e = and_parts (not (c == 0x4d)) _ b.1 in
    let f = and_parts (not (c == 0x4e)) _ e.1 in
    let g = and_parts (not (is_jump c)) _ f.1 in
    record {
      no_data = not-true (is_data c) a.0;
      not_1 = not-true (c == 0x4c) b.0;
      not_2 = not-true (c == 0x4d) e.0;
      not_4 = not-true (c == 0x4e) f.0;
      no_jump = not-true (is_jump c) g.0;
      no_field = eqb-true _ _ g.1;
    }

pub jump_cases : (c : ℕ) → is_jump c ≡ true → (c ≡ 0x63) ⊎ (c ≡ 0x64)
jump_cases c is =
    let both = and_parts (nat_le 0x63 c) (nat_le c 0x64) is in
    let low = leb-true 0x63 c both.0 in
    let high = leb-true c 0x64 both.1 in
    elim (cases_lt c 100) [ inl below ↦ inl (omega arith) | inr above ↦ inr (omega arith) ]

-- ---- what is written is read where it stands

-- a code and what stands after it
pub read_there : (code : ℕ) (behind before after : List ℕ)
    → instruction_at (before ++ (code ∷ behind) ++ after) (length before) ≡ decoded code (behind ++ after)
unfolding instruction_at
read_there code behind before after =
    ap decoded_front (ap (drop (length before)) (append_assoc before (code ∷ behind) after)
    ∙ drop_at before (code ∷ behind ++ after) (length before) refl)

-- a code that is alone, whatever follows it
pub decoded-plain : (code : ℕ) (after : List ℕ) → is_plain code ≡ true → decoded code after ≡ Ok (plain code)
decoded-plain code after is =
    let a = is_alone code is in
    cond-false (is_data code) _ _ a.no_data
    ∙ (cond-false (code == 0x4c) _ _ a.not_1
    ∙ (cond-false (code == 0x4d) _ _ a.not_2
    ∙ (cond-false (code == 0x4e) _ _ a.not_4
    ∙ (cond-false (is_jump code) _ _ a.no_jump
    ∙ cond-true (is_plain code) _ _ is))))

pub plain-read : (code : ℕ) (before after : List ℕ) → is_plain code ≡ true
    → instruction_at (before ++ (code ∷ []) ++ after) (length before) ≡ Ok (plain code)
plain-read code before after is = read_there code [] before after ∙ decoded-plain code after is

-- a jump, and its place in four bytes, the lowest first
place_said : (place : ℕ) → place < 2 ^ 32 → little_endian (to_le_bytes w32 place) ≡ place
place_said place small = omega (arith, from_le_bytes-to_le_bytes_4 place small)

jump_whole : (code place : ℕ) (after : List ℕ) → place < 2 ^ 32
    → jump_at code (to_le_bytes w32 place ++ after) ≡ Ok (jump code place)
jump_whole code place after small =
    let long : 4 ≤ length (to_le_bytes w32 place ++ after) = omega arith in
    rw (le-leb 4 (length (to_le_bytes w32 place ++ after)) long)
    (ap (λ n. Ok (jump code n)) (place_said place small))

pub decoded-jump : (code place : ℕ) (after : List ℕ) → is_jump code ≡ true → place < 2 ^ 32
    → decoded code (to_le_bytes w32 place ++ after) ≡ Ok (jump code place)
decoded-jump code place after is small = elim (jump_cases code is) [
  | inl e ↦ rw e (jump_whole 0x63 place after small)
  | inr e ↦ rw e (jump_whole 0x64 place after small)
]

pub jump-read : (code place : ℕ) (before after : List ℕ) → is_jump code ≡ true → place < 2 ^ 32
    → instruction_at (before ++ (code ∷ to_le_bytes w32 place) ++ after) (length before) ≡ Ok (jump code place)
jump-read code place before after is small =
    read_there code (to_le_bytes w32 place) before after ∙ decoded-jump code place after is small
