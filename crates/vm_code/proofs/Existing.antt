-- Each program has a text or a first fault, and so has each text a program.
use Rattle.std.proofs.Common.{◌≡◌, ℕ, zero, suc, ◌+◌, ◌-◌, ◌<◌, ◌≤◌, ◌⊎◌, List, [], ◌∷◌, ◌++◌, length, drop, get_or, Option, Some, None, Ok, Err, Result, Bool, true, refl, ap, ◌∙◌, subst, inl, inr, arith}
use Rattle.std.specs.Prelude.{◌||◌, not}
use Rattle.std.proofs.lemmas.List.{append_assoc, drop_at, get_or_default}
use Rattle.std.proofs.lemmas.Bool.{cases_lt, agree_below_at}
use Rattle.std.proofs.lemmas.Bool.Decides.{nat_tests}
use Rattle.hex.specs.Hex.{IsBytes}
use Rattle.vm_code.specs.Instruction.{Decoded, Misread, decoded_front, instruction_at}
use Rattle.vm_code.specs.Names.{names, name_of, code_of}
use Rattle.vm_code.specs.Text.{bytes_of, text_of, IsInstruction}
use Rattle.vm_code.specs.Assembly.{IsAssembly, FirstMisread, FirstBadWord}
use Rattle.vm_code.specs.Word.{word_read}
use Rattle.vm_code.specs.Written.{with_word}
use Rattle.vm_code.proofs.Hexes.{is_bytes_tail}
use Rattle.vm_code.specs.Readings.{within, front_begun}
use Rattle.vm_code.proofs.Named.{is_code, code_from, has_name}
use Rattle.vm_code.proofs.Splits.{split_front}
use Rattle.vm_code.proofs.Listing.{Reached, at_start, one_more, at_end, stopped, instruction_read}
use Rattle.vm_code.proofs.Assembling.{Joined, parts, none_joined, joined_word, joined_all, bad_word}

-- ---- programs

abbrev Read : List ℕ → Type 0
Read program = ((text : List ℕ) × IsAssembly text program) ⊎ ((kind : Misread) × FirstMisread program kind)

read_next : (program text : List ℕ) (at : ℕ) (r : Result Decoded Misread) → at < length program → Reached program text at → instruction_at program at ≡ r → ((d : Decoded) → instruction_at program at ≡ Ok d → Read program) → Read program
read_next program text at (Ok d) below reached is more = more d is
read_next program text at (Err kind) below reached is more = inr (kind, stopped program text at kind reached below is)

read_from : (fuel : ℕ) (program text : List ℕ) (at : ℕ) → IsBytes program → Reached program text at → length program - at ≤ fuel → Read program
read_from zero program text at all reached left = inl (text, at_end program text at reached (omega arith))
read_from (suc fuel) program text at all reached left = elim (cases_lt at (length program)) [
  | inr past ↦ inl (text, at_end program text at reached past)
  | inl below ↦ read_next program text at (instruction_at program at) below reached refl (λ d is.
      let inside = within program at d is in
      read_from fuel program (with_word text (text_of d)) (at + d.len) all (one_more program text (with_word text (text_of d)) at d all reached is refl) (omega (arith, inside.0)))
]

pub read : (program : List ℕ) → IsBytes program → Read program
read program all = read_from (length program) program [] 0 all (at_start program) (omega arith)

-- ---- texts

abbrev Said : List ℕ → Type 0
Said text = ((program : List ℕ) × IsAssembly text program) ⊎ ((at : ℕ) × FirstBadWord text at)

said_next : (text : List ℕ) (n at : ℕ) (program word : List ℕ) (o : Option Decoded) → 0 < length text → Joined text n at program → (n < length (parts text)) × (word ≡ get_or (parts text) n word) → word_read word ≡ o → ((d : Decoded) → word_read word ≡ Some d → Said text) → Said text
said_next text n at program word None some joined turn is more = inr (at, bad_word text n at program word some joined turn is)
said_next text n at program word (Some d) some joined turn is more = more d is

said_from : (fuel : ℕ) (text : List ℕ) (n at : ℕ) (program : List ℕ) → 0 < length text → Joined text n at program → length (parts text) - n ≤ fuel → Said text
said_from zero text n at program some joined left = inl (program, joined_all text program n at joined (omega arith))
said_from (suc fuel) text n at program some joined left = elim (cases_lt n (length (parts text))) [
  | inr past ↦ inl (program, joined_all text program n at joined past)
  | inl below ↦
      let word = get_or (parts text) n [] in
      let turn : (n < length (parts text)) × (word ≡ get_or (parts text) n word) = (below, get_or_default (parts text) n [] word below) in
      said_next text n at program word (word_read word) some joined turn refl (λ d is.
      said_from fuel text (n + 1) (at + (length word + 1)) (program ++ bytes_of d) some (joined_word text n at program (program ++ bytes_of d) word d joined turn is refl) (omega arith))
]

pub said : (text : List ℕ) → Said text
said [] = inl ([], record { instructions = []; each = tt; text_is = refl; program_is = refl })
said (b ∷ text) = said_from (length (parts (b ∷ text))) (b ∷ text) 0 0 [] (omega arith) (none_joined (b ∷ text)) (omega arith)

-- ---- instructions

is_bytes_drop : (k : ℕ) (b : List ℕ) → IsBytes b → IsBytes (drop k b)
is_bytes_drop zero b all = all
is_bytes_drop (suc k) [] all = all
is_bytes_drop (suc k) (x ∷ b) all = is_bytes_drop k b (is_bytes_tail x b all)

pub stands : (program : List ℕ) (place : ℕ) (d : Decoded) → IsBytes program → instruction_at program place ≡ Ok d → IsInstruction d × (length (bytes_of d) ≡ d.len) × ((rest : List ℕ) × (drop place program ≡ bytes_of d ++ rest))
unfolding instruction_at
stands program place d all h =
    let bytes = is_bytes_drop place program all in
    let s = split_front (drop place program) d bytes h in
    (instruction_read (drop place program) d bytes h, s.len, (s.rest, s.whole))

pub again : (d : Decoded) (front behind : List ℕ) → IsInstruction d → instruction_at (front ++ bytes_of d ++ behind) (length front) ≡ Ok d
unfolding instruction_at
again d front behind i =
    ap decoded_front (ap (drop (length front)) (append_assoc front (bytes_of d) behind) ∙ drop_at front (bytes_of d ++ behind) (length front) refl) ∙ front_begun (bytes_of d) behind d i.read

-- ---- names

small_code : (c : ℕ) → has_name c ≡ true → c < 256
small_code c is = grind (arith, nat_tests)

abbrev named_test : ℕ → Bool
named_test c = not (has_name c) || is_code c (code_of (name_of c))

named_tests : (c : ℕ) → c < 256 → named_test c ≡ true
unfolding name_of code_of names
named_tests c small = agree_below_at named_test (λ c. true) 256 c refl small

pub named : (c : ℕ) → has_name c ≡ true → code_of (name_of c) ≡ Some c
named c is =
    let found = is_code c (code_of (name_of c)) in
    code_from c (code_of (name_of c)) (subst (λ t. not t || found ≡ true) is (named_tests c (small_code c is)))
