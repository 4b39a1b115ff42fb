-- What is of a kind is read of its own bytes, whatever follows them.
use Rattle.std.proofs.Common.{◌≡◌, ℕ, ◌+◌, ◌<◌, ◌≤◌, List, [], ◌∷◌, ◌++◌, length, take, drop, Ok, true, refl, sym, ap, ◌∙◌, subst, inl, inr, arith, length-append}
use Rattle.std.specs.Int.{w32, to_le_bytes}
use Rattle.std.proofs.lemmas.List.{take_at, drop_at, append-nil}
use Rattle.std.proofs.lemmas.Bool.{le-leb, cond-true, cond-false, and_from}
use Rattle.std.specs.Prelude.{◌==◌}
use Rattle.hex.specs.Hex.{IsBytes}
use Rattle.vm_code.specs.Instruction.{Decoded, decoded, decoded_front, data_at, counted_at, jump_at, little_endian, plain, is_data, is_jump, is_plain}
use Rattle.vm_code.specs.Text.{bytes_of, field_len, field_value, IsInstruction}
use Rattle.vm_code.specs.Readings.{is_alone, jump_cases, plain_small}
use Rattle.vm_code.proofs.Hexes.{is_bytes_nil, is_bytes_cons, is_bytes_tail}
use Rattle.vm_code.proofs.Shapes.{pushing, jumping, Kind, by_length, counted_1, counted_2, counted_4, jump, alone, Field, field_1, field_2, field_4, bytes_by_length, bytes_1, bytes_2, bytes_4, bytes_jump, bytes_alone}

pub is_bytes_append : (a b : List ℕ) → IsBytes a → IsBytes b → IsBytes (a ++ b)
is_bytes_append [] b first second = second
is_bytes_append (x ∷ a) b first second = is_bytes_cons x (a ++ b) (first 0) (is_bytes_append a b (is_bytes_tail x a first) second)

-- ---- reading

data_whole : (code k : ℕ) (f p : List ℕ) → length f ≡ k → data_at code k (length p) (f ++ p) ≡ Ok (pushing code p k)
data_whole code k f p long =
    let room : k + length p ≤ length (f ++ p) = simp length-append (omega arith) in
    let behind : drop k (f ++ p) ≡ p = drop_at f p k long in
    let all : take (length p) p ≡ p = ap (take (length p)) (sym (append-nil p)) ∙ take_at p [] (length p) refl in
    rw (le-leb (k + length p) (length (f ++ p)) room) (ap (λ l. Ok (record { code = code; pushed = l; target = 0; len = 1 + k + length p })) (ap (take (length p)) behind ∙ all))

counted_whole : (code k : ℕ) (f p : List ℕ) → Field k (length p) f → counted_at code k (f ++ p) ≡ Ok (pushing code p k)
counted_whole code k f p field =
    let room : k ≤ length (f ++ p) = let long = field.len in simp length-append (omega arith) in
    let front : take k (f ++ p) ≡ f = take_at f p k field.len in
    rw (le-leb k (length (f ++ p)) room) (ap (λ n. data_at code k n (f ++ p)) (ap little_endian front ∙ field.says) ∙ data_whole code k f p field.len)

jump_whole : (code place : ℕ) (f : List ℕ) → Field 4 place f → jump_at code f ≡ Ok (jumping code place)
jump_whole code place f field =
    let room : 4 ≤ length f = let long = field.len in omega arith in
    let all : take 4 f ≡ f = ap (take 4) (sym (append-nil f)) ∙ take_at f [] 4 field.len in
    rw (le-leb 4 (length f) room) (ap (λ n. Ok (jumping code n)) (ap little_endian all ∙ field.says))

read_by_length : (p : List ℕ) → 0 < length p → length p ≤ 75 → decoded (length p) p ≡ Ok (pushing (length p) p 0)
read_by_length p low high = cond-true (is_data (length p)) _ _ (and_from _ _ (le-leb 1 (length p) low) (le-leb (length p) 75 high)) ∙ data_whole (length p) 0 [] p refl

read_jump : (code place : ℕ) (f : List ℕ) → is_jump code ≡ true → Field 4 place f → decoded code f ≡ Ok (jumping code place)
read_jump code place f is field = elim (jump_cases code is) [
  | inl e ↦ subst (λ (c : ℕ). decoded c f ≡ Ok (jumping c place)) (sym e) (jump_whole 0x63 place f field)
  | inr e ↦ subst (λ (c : ℕ). decoded c f ≡ Ok (jumping c place)) (sym e) (jump_whole 0x64 place f field)
]

read_alone : (code : ℕ) → is_plain code ≡ true → decoded code [] ≡ Ok (plain code)
read_alone code is =
    let a = is_alone code is in
    cond-false (is_data code) _ _ a.no_data ∙ (cond-false (code == 0x4c) _ _ a.not_1 ∙ (cond-false (code == 0x4d) _ _ a.not_2 ∙ (cond-false (code == 0x4e) _ _ a.not_4 ∙ (cond-false (is_jump code) _ _ a.no_jump ∙ cond-true (is_plain code) _ _ is))))

-- ---- instructions of each kind

of_bytes : (d : Decoded) (bytes : List ℕ) → bytes_of d ≡ bytes → IsBytes bytes → decoded_front bytes ≡ Ok d → IsInstruction d
of_bytes d bytes is all read = record {
  bytes = subst IsBytes (sym is) all;
  read = ap decoded_front is ∙ read;
}

counted_instruction : (code k : ℕ) (p f : List ℕ) → code < 256 → Field k (length p) f → IsBytes p → bytes_of (pushing code p k) ≡ code ∷ take k (to_le_bytes w32 (length p)) ++ p → decoded code (f ++ p) ≡ counted_at code k (f ++ p) → IsInstruction (pushing code p k)
counted_instruction code k p f small field all bytes computes =
    of_bytes (pushing code p k) (code ∷ f ++ p) (bytes ∙ ap (λ l. code ∷ l ++ p) field.is) (is_bytes_cons code (f ++ p) small (is_bytes_append f p field.bytes all)) (computes ∙ counted_whole code k f p field)

jump_instruction : (code place : ℕ) (f : List ℕ) → is_jump code ≡ true → Field 4 place f → IsInstruction (jumping code place)
jump_instruction code place f is field =
    let below : code < 256 = elim (jump_cases code is) [ inl e ↦ omega arith | inr e ↦ omega arith ] in
    of_bytes (jumping code place) (code ∷ f) (bytes_jump code place is ∙ ap (λ l. code ∷ l) field.is) (is_bytes_cons code f below field.bytes) (read_jump code place f is field)

pub is_instruction : (d : Decoded) → Kind d → IsBytes d.pushed → IsInstruction d
is_instruction d (by_length p low high) all =
    of_bytes (pushing (length p) p 0) (length p ∷ p) (bytes_by_length p high) (is_bytes_cons (length p) p (omega arith) all) (read_by_length p low high)
is_instruction d (counted_1 p small) all = counted_instruction 0x4c 1 p _ (omega arith) (field_1 (length p) small) all (bytes_1 p) refl
is_instruction d (counted_2 p small) all = counted_instruction 0x4d 2 p _ (omega arith) (field_2 (length p) small) all (bytes_2 p) refl
is_instruction d (counted_4 p small) all = counted_instruction 0x4e 4 p _ (omega arith) (field_4 (length p) small) all (bytes_4 p) refl
is_instruction d (jump code place is small) all = jump_instruction code place _ is (field_4 place (omega arith))
is_instruction d (alone code is) all =
    of_bytes (plain code) (code ∷ []) (bytes_alone code is) (is_bytes_cons code [] (plain_small code is) is_bytes_nil) (read_alone code is)

-- what an instruction pushes is bytes
pub pushed_from : (front p bytes : List ℕ) → bytes ≡ front ++ p → IsBytes bytes → IsBytes p
pushed_from [] p bytes is all = subst IsBytes is all
pushed_from (x ∷ front) p bytes is all = pushed_from front p (front ++ p) refl (is_bytes_tail x (front ++ p) (subst IsBytes is all))

pub pushed_of : (d : Decoded) → IsBytes (bytes_of d) → IsBytes d.pushed
unfolding bytes_of
pushed_of d all = pushed_from (d.code ∷ take (field_len d.code) (to_le_bytes w32 (field_value d))) d.pushed (bytes_of d) refl all

pub is_bytes_pushed : (d : Decoded) → IsInstruction d → IsBytes d.pushed
is_bytes_pushed d i = pushed_of d i.bytes

pub is_bytes_front : (front p : List ℕ) → IsBytes (front ++ p) → IsBytes front
is_bytes_front [] p all = is_bytes_nil
is_bytes_front (x ∷ front) p all = is_bytes_cons x front (all 0) (is_bytes_front front p (is_bytes_tail x (front ++ p) all))
