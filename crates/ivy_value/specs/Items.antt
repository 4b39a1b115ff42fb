-- What a spending brings, and what Ivy's operators and functions give of items, or none where that is undefined: an
-- item that cannot be read as a number, or a result that the machine does not have. No stack and no code is mentioned.
-- Public statements name it.
use Rattle.std.specs.Prelude.{◌^◌, Bool, not, ◌&&◌, ◌||◌, List, ◌++◌, length, Option, Some, None, option_map}
use Rattle.std.specs.Prelude.{option_and_then, if◌then◌else◌, nat_lt, ℤ, pos, neg_ℤ, int_lt, int_le, unsigned_abs}
use Rattle.std.specs.Prelude.{bytes_eq}
use Rattle.std.specs.Int.{int_min, int_max}
use Rattle.std.specs.Ordering.{int_eq}
use Rattle.sha2.specs.Sha256.{sha256}
use Rattle.keyed.specs.Functions.{Check}
use Rattle.vm_num.specs.Item.{Item, num, num_bytes, is_true, exact, sum_of, difference_of}
use Rattle.vm_num.specs.Operations.{product_of, quotient_of, remainder_of, left_shift_of, right_shift_of}
use Rattle.vm_num.specs.Push.{push_of}
use Rattle.vm_ops.specs.Results.{truth_item}
use Rattle.vm_ops.specs.Signatures.{is_multi_good}
use Rattle.vm_run.specs.declared.transaction.TxContext.{TxContext}

-- A spending of an output under a contract: the arguments of the contract and of one of its clauses, the input of the
-- transaction, and a check of signatures.
pub record Spending : Type 0 where
  pub held : List Item
  pub given : List Item
  pub context : TxContext
  pub check : Check

-- ---- items read and written

-- of an item that is read as a number, and of two
abbrev pub of_number : (ℤ → Option Item) → Item → Option Item
of_number f a = option_and_then f (num a)

abbrev pub of_numbers : (ℤ → ℤ → Option Item) → Item → Item → Option Item
of_numbers f a b = option_and_then (λ x. of_number (f x) b) (num a)

-- a number is written as the machine writes it, and a truth value too
abbrev pub written : Option ℤ → Option Item
written = option_map num_bytes

abbrev pub of_truth : Bool → Option Item
of_truth b = Some (truth_item b)

-- ---- numbers

-- unary `-`, and `abs`
abbrev pub negative : Item → Option Item
negative = of_number (λ x. written (exact (neg_ℤ x)))

abbrev pub absolute : Item → Option Item
absolute = of_number (λ x. written (exact (pos (unsigned_abs x))))

-- `+ - * / % << >>`: a result of more than 64 bits is undefined, and so are a divisor of 0 and a negative count
abbrev pub sum : Item → Item → Option Item
sum = of_numbers (λ x y. written (sum_of x y))

abbrev pub difference : Item → Item → Option Item
difference = of_numbers (λ x y. written (difference_of x y))

abbrev pub product : Item → Item → Option Item
product = of_numbers (λ x y. written (product_of x y))

abbrev pub quotient : Item → Item → Option Item
quotient = of_numbers (λ x y. written (quotient_of x y))

abbrev pub remainder : Item → Item → Option Item
remainder = of_numbers (λ x y. written (remainder_of x y))

abbrev pub left_shift : Item → Item → Option Item
left_shift = of_numbers (λ x y. written (left_shift_of x y))

abbrev pub right_shift : Item → Item → Option Item
right_shift = of_numbers (λ x y. written (right_shift_of x y))

-- `min` and `max`
abbrev pub least : Item → Item → Option Item
least = of_numbers (λ x y. Some (num_bytes (int_min x y)))

abbrev pub greatest : Item → Item → Option Item
greatest = of_numbers (λ x y. Some (num_bytes (int_max x y)))

-- ---- comparisons

-- `< <=`, and `> >=`
abbrev pub is_less : Item → Item → Option Item
is_less = of_numbers (λ x y. of_truth (int_lt x y))

abbrev pub is_at_most : Item → Item → Option Item
is_at_most = of_numbers (λ x y. of_truth (int_le x y))

abbrev pub is_greater : Item → Item → Option Item
is_greater = of_numbers (λ x y. of_truth (int_lt y x))

abbrev pub is_at_least : Item → Item → Option Item
is_at_least = of_numbers (λ x y. of_truth (int_le y x))

-- `==` and `!=`, of numbers, of truth values and of bytes
abbrev pub is_same_number : Item → Item → Option Item
is_same_number = of_numbers (λ x y. of_truth (int_eq x y))

abbrev pub is_other_number : Item → Item → Option Item
is_other_number = of_numbers (λ x y. of_truth (not (int_eq x y)))

abbrev pub is_same_truth : Item → Item → Option Item
is_same_truth a b = of_truth (if is_true a then is_true b else not (is_true b))

abbrev pub is_other_truth : Item → Item → Option Item
is_other_truth a b = of_truth (if is_true a then not (is_true b) else is_true b)

abbrev pub are_same_bytes : Item → Item → Option Item
are_same_bytes a b = of_truth (bytes_eq a b)

abbrev pub are_other_bytes : Item → Item → Option Item
are_other_bytes a b = of_truth (not (bytes_eq a b))

-- ---- truth values

-- `!`: the opposite of the truth of any bytes, which are not read as a number
abbrev pub opposite : Item → Option Item
opposite a = of_truth (not (is_true a))

-- `&& ||`
abbrev pub both : Item → Item → Option Item
both a b = of_truth (is_true a && is_true b)

abbrev pub either : Item → Item → Option Item
either a b = of_truth (is_true a || is_true b)

-- ---- bytes

-- `size`, `sha256`, and `bytes`, which leaves them as they are
abbrev pub size : Item → Option Item
size a = Some (num_bytes (pos (length a)))

abbrev pub hash : Item → Option Item
hash a = Some (sha256 a)

abbrev pub unchanged : Item → Option Item
unchanged a = Some a

-- `concat`, and `concatpush`, which adds the push of the second: the machine has none of 2^32 bytes or more
abbrev pub joined : Item → Item → Option Item
joined a b = Some (a ++ b)

abbrev pub joined_push : Item → Item → Option Item
joined_push a b = if nat_lt (length b) (2 ^ 32) then Some (a ++ push_of b) else None

-- ---- the transaction

-- `before`: its greatest time is less; `after`: its least time is greater
abbrev pub is_before : TxContext → Item → Option Item
is_before context = of_number (λ t. of_truth (int_lt (pos context.maxtime) t))

abbrev pub is_after : TxContext → Item → Option Item
is_after context = of_number (λ t. of_truth (int_lt t (pos context.mintime)))

-- ---- signatures

-- the signature is good for the input's hash; below, the signatures are, in their order, for some of the keys
abbrev pub is_signed : Spending → (key sig : Item) → Option Item
is_signed s key sig = of_truth (s.check key s.context.sig_hash sig)

abbrev pub are_signed : Spending → (keys sigs : List Item) → Option Item
are_signed s keys sigs = of_truth (is_multi_good s.check keys s.context.sig_hash sigs)
