-- A push is read back whole, from wherever it stands.
use Rattle.std.proofs.Common.{◌≡◌, ℕ, ◌+◌, ◌-◌, ◌^◌, ◌<◌, ◌≤◌, List, [], ◌∷◌, ◌++◌, length, take, drop, Result, Ok, ℤ, pos, negsuc, refl, sym, ap, subst, inl, inr, ◌∙◌, arith, length-append}
use Rattle.std.proofs.lemmas.List.{append_assoc, take_at, drop_at}
use Rattle.std.proofs.lemmas.Nat.{from_le_bytes-to_le_bytes_2, from_le_bytes-to_le_bytes_4}
use Rattle.std.proofs.lemmas.Bool.{lt-leb, le-leb, cases_lt, ne_eqb}
use Rattle.std.proofs.lemmas.Bool.Decides.{nat_tests}
use Rattle.std.specs.Int.{w16, w32, to_le_bytes}
use Rattle.vm_num.specs.Item.{Item, num_bytes}
use Rattle.vm_num.specs.Push.{push_of, push_int_of}
use Rattle.vm_num.specs.Numbers.{length-num_bytes}
use Rattle.vm_num.specs.PushLaws.{push_of_minus_one, push_of_zero, push_of_small, push_of_large, push_of_negative}
use Rattle.vm_code.specs.Readings.{read_there}
use Rattle.vm_code.specs.Instruction.{Decoded, Misread, instruction_at, decoded, data_at, counted_at, little_endian, plain}
use Rattle.vm_run.specs.Row.{Context, row, push_row}
use Rattle.keyed.specs.Functions.{Check}
use Rattle.vm_run.specs.Pushes.{ReadsData, ReadsPush}

-- ---- data after a field

abbrev data_of : ℕ → ℕ → Item → Decoded
data_of code field item = record { code = code; pushed = item; target = 0; len = 1 + field + length item }

pub data_whole : (code : ℕ) (field item after : List ℕ) → data_at code (length field) (length item) ((field ++ item) ++ after) ≡ Ok (data_of code (length field) item)
data_whole code field item after =
    let joined : (field ++ item) ++ after ≡ field ++ (item ++ after) = append_assoc field item after in
    let long : length field + length item ≤ length ((field ++ item) ++ after) = simp length-append (omega arith) in
    let behind : drop (length field) ((field ++ item) ++ after) ≡ item ++ after = ap (drop (length field)) joined ∙ drop_at field (item ++ after) (length field) refl in
    let front : take (length item) (drop (length field) ((field ++ item) ++ after)) ≡ item = ap (take (length item)) behind ∙ take_at item after (length item) refl in
    rw (le-leb (length field + length item) (length ((field ++ item) ++ after)) long) (ap (λ l. Ok (record { code = code; pushed = l; target = 0; len = 1 + length field + length item })) front)

-- the same after a field that says the count
pub counted_whole : (code : ℕ) (field item after : List ℕ) → little_endian field ≡ length item → counted_at code (length field) ((field ++ item) ++ after) ≡ Ok (data_of code (length field) item)
counted_whole code field item after says =
    let joined : (field ++ item) ++ after ≡ field ++ (item ++ after) = append_assoc field item after in
    let long : length field ≤ length ((field ++ item) ++ after) = simp length-append (omega arith) in
    let front : take (length field) ((field ++ item) ++ after) ≡ field = ap (take (length field)) joined ∙ take_at field (item ++ after) (length field) refl in
    let count : little_endian (take (length field) ((field ++ item) ++ after)) ≡ length item = ap little_endian front ∙ says in
    rw (le-leb (length field) (length ((field ++ item) ++ after)) long) (ap (λ n. data_at code (length field) n ((field ++ item) ++ after)) count ∙ data_whole code field item after)

-- two and four bytes, the lowest first, are their number
little_endian_2 : (n : ℕ) → n < 2 ^ 16 → little_endian (to_le_bytes w16 n) ≡ n
little_endian_2 n h = omega (arith, from_le_bytes-to_le_bytes_2 n h)

little_endian_4 : (n : ℕ) → n < 2 ^ 32 → little_endian (to_le_bytes w32 n) ≡ n
little_endian_4 n h = omega (arith, from_le_bytes-to_le_bytes_4 n h)

-- ---- the push of an item, by its length

push_short : (item : Item) → 0 < length item → length item ≤ 75 → push_of item ≡ length item ∷ item
unfolding push_of
push_short item some short = grind (arith, nat_tests)

push_1 : (item : Item) → 75 < length item → length item < 2 ^ 8 → push_of item ≡ 76 ∷ (length item ∷ []) ++ item
unfolding push_of
push_1 item low high = grind (arith, nat_tests)

push_2 : (item : Item) → 2 ^ 8 ≤ length item → length item < 2 ^ 16 → push_of item ≡ 77 ∷ to_le_bytes w16 (length item) ++ item
unfolding push_of
push_2 item low high = grind (arith, nat_tests)

push_4 : (item : Item) → 2 ^ 16 ≤ length item → push_of item ≡ 78 ∷ to_le_bytes w32 (length item) ++ item
unfolding push_of
push_4 item low = grind (arith, nat_tests)

-- ---- what is read of a push

-- this instruction is read where these bytes stand
abbrev Reads : List ℕ → Decoded → Type 0
Reads bytes i = (before after : List ℕ) → instruction_at (before ++ bytes ++ after) (length before) ≡ Ok i

-- an instruction is read that pushes the item as its data
pub record Read (item : Item) : Type 0 where
  pub i : Decoded
  pub there : Reads (push_of item) i
  pub pushed : i.pushed ≡ item
  pub len : i.len ≡ length (push_of item)
  pub code : i.code ≤ 78

-- a push that is a code, a field and the item
from_parts : (code : ℕ) (field item : List ℕ) → code ≤ 78 → push_of item ≡ code ∷ field ++ item → ((after : List ℕ) → decoded code ((field ++ item) ++ after) ≡ Ok (data_of code (length field) item)) → Read item
from_parts code field item data_code is decodes = record {
  i = data_of code (length field) item;
  there = λ before after. rw is (read_there code (field ++ item) before after ∙ decodes after);
  pushed = refl;
  len = rw is (simp length-append (omega arith));
  code = data_code;
}

read_short : (item : Item) → 0 < length item → length item ≤ 75 → Read item
read_short item some short =
    let decodes : (after : List ℕ) → decoded (length item) (item ++ after) ≡ Ok (data_of (length item) 0 item) = λ after.
    rw (le-leb 1 (length item) some) (rw (le-leb (length item) 75 short) (data_whole (length item) [] item after)) in
    from_parts (length item) [] item (omega arith) (push_short item some short) decodes

read_empty : Read []
unfolding push_of
read_empty = record {
  i = record { code = 0; pushed = []; target = 0; len = 1 };
  there = λ before after. read_there 0 [] before after;
  pushed = refl;
  len = refl;
  code = omega arith;
}

read_1 : (item : Item) → 75 < length item → length item < 2 ^ 8 → Read item
read_1 item low high = from_parts 76 (length item ∷ []) item (omega arith) (push_1 item low high) (λ after. counted_whole 76 (length item ∷ []) item after (omega arith))

read_2 : (item : Item) → 2 ^ 8 ≤ length item → length item < 2 ^ 16 → Read item
read_2 item low high = from_parts 77 (to_le_bytes w16 (length item)) item (omega arith) (push_2 item low high) (λ after. counted_whole 77 (to_le_bytes w16 (length item)) item after (little_endian_2 (length item) high))

read_4 : (item : Item) → 2 ^ 16 ≤ length item → length item < 2 ^ 32 → Read item
read_4 item low high = from_parts 78 (to_le_bytes w32 (length item)) item (omega arith) (push_4 item low) (λ after. counted_whole 78 (to_le_bytes w32 (length item)) item after (little_endian_4 (length item) high))

pub read_push : (item : Item) → length item < 2 ^ 32 → Read item
read_push [] h = read_empty
read_push (b ∷ bs) h = elim (cases_lt 75 (length (b ∷ bs))) [
  | inr short ↦ read_short (b ∷ bs) (omega arith) short
  | inl past ↦ elim (cases_lt (length (b ∷ bs)) (2 ^ 8)) [
    | inl one ↦ read_1 (b ∷ bs) past one
    | inr more ↦ elim (cases_lt (length (b ∷ bs)) (2 ^ 16)) [
      | inl two ↦ read_2 (b ∷ bs) more two
      | inr four ↦ read_4 (b ∷ bs) four h
    ]
  ]
]

-- ---- what the table makes of it

row-data : (context : Context) (check : Check) (i : Decoded) (size : ℕ) (items alt : List Item) → i.code ≤ 78 → row context check i size items alt ≡ push_row i.pushed
unfolding row
row-data context check i size items alt data_code = rw (le-leb i.code 96 (omega arith), le-leb i.code 78 data_code) refl

pub reads_data : (item before after : List ℕ) → length item < 2 ^ 32 → ReadsData (instruction_at (before ++ push_of item ++ after) (length before)) item (length (push_of item))
reads_data item before after h =
    let r = read_push item h in
    subst (λ (read : Result Decoded Misread). ReadsData read item (length (push_of item))) (sym (r.there before after)) (r.pushed, r.len, r.code)

-- an instruction is read that pushes the item, by whichever line of the table
record Pushes (bytes : List ℕ) (item : Item) : Type 0 where
  pub i : Decoded
  pub there : Reads bytes i
  pub len : i.len ≡ length bytes
  pub rule : (context : Context) (check : Check) (size : ℕ) (items alt : List Item) → row context check i size items alt ≡ push_row item
  pub code : i.code ≤ 0x60

push_item : (item : Item) → length item < 2 ^ 32 → Pushes (push_of item) item
push_item item h =
    let r = read_push item h in
    record {
      i = r.i;
      there = r.there;
      len = r.len;
      rule = λ context check size items alt. row-data context check r.i size items alt r.code ∙ ap push_row r.pushed;
      code = omega (arith, r.code);
    }

reads_push : (bytes before after : List ℕ) (item : Item) → Pushes bytes item → ReadsPush (instruction_at (before ++ bytes ++ after) (length before)) item (length bytes)
reads_push bytes before after item p = subst (λ (read : Result Decoded Misread). ReadsPush read item (length bytes)) (sym (p.there before after)) (p.len, p.rule, p.code)

pub reads_item : (item before after : List ℕ) → length item < 2 ^ 32 → ReadsPush (instruction_at (before ++ push_of item ++ after) (length before)) item (length (push_of item))
reads_item item before after h = reads_push (push_of item) before after item (push_item item h)

-- ---- the push of a number

decoded_small : (n : ℕ) (after : List ℕ) → 0 < n → n ≤ 16 → decoded (80 + n) after ≡ Ok (plain (80 + n))
decoded_small n after some small = grind (arith, nat_tests)

row_small : (context : Context) (check : Check) (n size : ℕ) (items alt : List Item) → 0 < n → n ≤ 16 → row context check (plain (80 + n)) size items alt ≡ push_row (num_bytes (pos n))
unfolding row
row_small context check n size items alt some small =
    let same : 80 + n - 80 ≡ n = omega arith in
    rw (le-leb (80 + n) 96 (omega arith), lt-leb (80 + n) 78 (omega arith), ne_eqb (80 + n) 79 (omega arith), ne_eqb (80 + n) 80 (omega arith), same) refl

row_minus_one : (context : Context) (check : Check) (size : ℕ) (items alt : List Item) → row context check (plain 79) size items alt ≡ push_row (num_bytes (negsuc 0))
unfolding row
row_minus_one context check size items alt = refl

row_empty : (context : Context) (check : Check) (size : ℕ) (items alt : List Item) → row context check (plain 0) size items alt ≡ push_row (num_bytes (pos 0))
unfolding row num_bytes
row_empty context check size items alt = refl

push_small : (n : ℕ) → 0 < n → n ≤ 16 → Pushes ((80 + n) ∷ []) (num_bytes (pos n))
push_small n some small = record {
  i = plain (80 + n);
  there = λ before after. read_there (80 + n) [] before after ∙ decoded_small n after some small;
  len = refl;
  rule = λ context check size items alt. row_small context check n size items alt some small;
  code = omega arith;
}

push_minus_one : Pushes (79 ∷ []) (num_bytes (negsuc 0))
push_minus_one = record {
  i = plain 79;
  there = λ before after. read_there 79 [] before after;
  len = refl;
  rule = row_minus_one;
  code = omega arith;
}

push_zero : Pushes (0 ∷ []) (num_bytes (pos 0))
push_zero = record {
  i = plain 0;
  there = λ before after. read_there 0 [] before after;
  len = refl;
  rule = row_empty;
  code = omega arith;
}

push_other : (z : ℤ) → Pushes (push_of (num_bytes z)) (num_bytes z)
push_other z = push_item (num_bytes z) (omega (arith, length-num_bytes z))

push_number : (z : ℤ) → Pushes (push_int_of z) (num_bytes z)
push_number (pos n) = elim (cases_lt 16 n) [
  | inl large ↦ rw (push_of_large n large) (push_other (pos n))
  | inr small ↦ elim (cases_lt 0 n) [
    | inl some ↦ rw (push_of_small n some small) (push_small n some small)
    | inr none ↦ let is : n ≡ 0 = omega arith in rw is (rw push_of_zero push_zero)
  ]
]
push_number (negsuc n) = elim (cases_lt 0 n) [
  | inl some ↦ rw (push_of_negative n some) (push_other (negsuc n))
  | inr none ↦ let is : n ≡ 0 = omega arith in rw is (rw push_of_minus_one push_minus_one)
]

pub reads_number : (n : ℤ) (before after : List ℕ) → ReadsPush (instruction_at (before ++ push_int_of n ++ after) (length before)) (num_bytes n) (length (push_int_of n))
reads_number n before after = reads_push (push_int_of n) before after (num_bytes n) (push_number n)
