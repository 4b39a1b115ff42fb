-- The lines that make an item of strings of bytes and of numbers, the line that calls a program, and the others.
use Rattle.std.specs.Prelude.{ℕ, ◌+◌, ◌&&◌, ◌||◌, Bool, List, [], ◌∷◌, length, drop, min, Ok, Err, bytes_eq, ℤ, pos}
use Rattle.std.specs.Prelude.{negsuc, if◌then◌else◌, nat_le}
use Rattle.std.specs.Ordering.{int_eq}
use Rattle.vm_num.specs.Item.{Item, num, num_bytes, is_true}
use Rattle.vm_num.specs.declared.failure.Failure.TheVariants.{BadOpcode, BadValue, Underflow, VerifyFalse}
use Rattle.vm_ops.specs.Results.{ItemResult, truth_item, entry_at}
use Rattle.vm_ops.specs.Bytes.{bytes_result, bytes_base}
use Rattle.vm_ops.specs.Numbers.{number_result, number_base, number_count}
use Rattle.vm_run.specs.Effect.{Context, Row, Faults, Calls, does, push_row, Rule, always, on_one, on_two}
use Rattle.keyed.specs.Functions.{Check}
use Rattle.vm_run.specs.Effect.{on_three, on_size, on_part, with_number, on_number, on_two_numbers, on_three_numbers}
use Rattle.vm_run.specs.Signing.{by_counts, signature_row, signatures_row}
use Rattle.vm_run.specs.Introspection.{context_rule}

-- the item of strings of bytes in the place of so many, and its base cost; or the failure
abbrev pub string_row : ℕ → ℕ → Item → Item → ItemResult → Row
string_row code pops a b (Ok item) = does pops (item ∷ []) (bytes_base code a b item)
string_row code pops a b (Err kind) = Faults kind

-- of one string, of two, of one and a number of bytes, and of one, a place and a number of bytes
abbrev pub of_string : ℕ → Rule
of_string code = on_one (λ a. string_row code 1 a [] (bytes_result code a [] (pos 0) (pos 0)))

abbrev pub of_two_strings : ℕ → Rule
of_two_strings code = on_two (λ a b. string_row code 2 a b (bytes_result code a b (pos 0) (pos 0)))

abbrev pub of_size : ℕ → Rule
of_size code = on_size (λ a size. string_row code 2 a [] (bytes_result code a [] (pos 0) size))

abbrev pub of_part : ℕ → Rule
of_part code = on_part (λ a from size. string_row code 3 a [] (bytes_result code a [] from size))

-- SIZE: a to a and its length
abbrev pub size_row : Item → Row
size_row a = push_row (num_bytes (pos (length a)))

-- EQUALVERIFY: a b to nothing
abbrev pub equalverify_row : Item → Item → Row
equalverify_row a b = if bytes_eq a b then does 2 [] (1 + min (length a) (length b)) else Faults VerifyFalse

-- CAT, SUBSTR, LEFT, RIGHT; SIZE; INVERT, AND, OR, XOR; EQUAL, EQUALVERIFY; CATPUSHDATA
abbrev pub string_table : List (ℕ × Rule)
string_table =
    (0x7e, of_two_strings 0x7e)
    ∷ (0x7f, of_part 0x7f)
    ∷ (0x80, of_size 0x80)
    ∷ (0x81, of_size 0x81)
    ∷ (0x82, on_one size_row)
    ∷ (0x83, of_string 0x83)
    ∷ (0x84, of_two_strings 0x84)
    ∷ (0x85, of_two_strings 0x85)
    ∷ (0x86, of_two_strings 0x86)
    ∷ (0x87, of_two_strings 0x87)
    ∷ (0x88, on_two equalverify_row)
    ∷ (0x89, of_two_strings 0x89)
    ∷ []

unfoldable pub string_rule : ℕ → Rule
string_rule code = entry_at (always (Faults BadOpcode)) string_table code

-- the item of numbers in the place of so many, and its base cost; or the failure
abbrev pub number_row : ℕ → ℕ → ItemResult → Row
number_row code pops (Ok item) = does pops (item ∷ []) (number_base code)
number_row code pops (Err kind) = Faults kind

-- of one number, of two and of three, and of as many as the code takes
abbrev pub of_number : ℕ → Rule
of_number code = on_number (λ a. number_row code 1 (number_result code a (pos 0) (pos 0)))

abbrev pub of_two_numbers : ℕ → Rule
of_two_numbers code = on_two_numbers (λ a b. number_row code 2 (number_result code a b (pos 0)))

abbrev pub of_three_numbers : ℕ → Rule
of_three_numbers code = on_three_numbers (λ a b c. number_row code 3 (number_result code a b c))

abbrev pub of_numbers : ℕ → Rule
of_numbers code = entry_at (always (Faults BadOpcode)) (
    (1, of_number code) ∷ (2, of_two_numbers code) ∷ (3, of_three_numbers code) ∷ []) (number_count code)

-- BOOLAND and BOOLOR: of two truth values
abbrev pub truth_row : Bool → Row
truth_row holds = does 2 (truth_item holds ∷ []) 2

-- NUMEQUALVERIFY: two numbers to nothing
abbrev pub numequalverify_row : ℤ → ℤ → Row
numequalverify_row a b = if int_eq a b then does 2 [] 2 else Faults VerifyFalse

-- BOOLAND, BOOLOR, NUMEQUALVERIFY, and the others
abbrev pub number_table : List (ℕ × Rule)
number_table =
    (0x9a, on_two (λ a b. truth_row (is_true a && is_true b)))
    ∷ (0x9b, on_two (λ a b. truth_row (is_true a || is_true b)))
    ∷ (0x9d, on_two_numbers numequalverify_row)
    ∷ []

unfoldable pub number_rule : ℕ → Rule
number_rule code = entry_at (of_numbers code) number_table code

-- CHECKPREDICATE, by its three items, the deepest first, and the items below them
abbrev pub call_row : List Item → ℤ → Item → ℤ → Row
call_row below (pos count) program (pos asked) =
    if nat_le count (length below) then Calls program asked count else Faults Underflow
call_row below (pos count) program (negsuc n) = Faults BadValue
call_row below (negsuc n) program asked = Faults BadValue

abbrev pub calls : Rule
calls items alt =
    on_three (λ count program asked.
    with_number (λ n. with_number (call_row (drop 3 items) n program) (num asked)) (num count)) items alt

-- SHA256, CHECKSIG, CHECKMULTISIG, CHECKPREDICATE, and what the context gives
abbrev pub high_table : Check → List (ℕ × Rule)
high_table check =
    (0xa8, of_string 0xa8)
    ∷ (0xac, on_three (signature_row check))
    ∷ (0xad, by_counts (signatures_row check))
    ∷ (0xc0, calls)
    ∷ []

unfoldable pub high_rule : Context → Check → ℕ → Rule
high_rule context check code = entry_at (context_rule context code) (high_table check) code
