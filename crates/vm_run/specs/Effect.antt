-- What an instruction does to the stacks, and what it needs of them. What a program is run for, `Context`, is the type
-- that the code has.
use Rattle.std.specs.Prelude.{ℕ, ◌<◌, ◌^◌, List, [], ◌∷◌, length, Option, Some, None, if◌then◌else◌, nat_le, ℤ}
use Rattle.std.specs.Prelude.{pos, negsuc}
use Rattle.vm_num.specs.Item.{Item, num}
use Rattle.vm_num.specs.declared.failure.Failure.{Failure}
use Rattle.vm_num.specs.declared.failure.Failure.TheVariants.{Underflow, AltUnderflow, BadNumber, BadValue}
use Rattle.vm_num.specs.declared.failure.Failure.TheVariants as failures
pub use Rattle.vm_run.specs.declared.context.Context.{Context}
pub use Rattle.vm_run.specs.declared.context.Context.TheVariants.{Nothing, Tx, Block}
pub use Rattle.vm_run.specs.declared.context.BlockContext.{BlockContext}
pub use Rattle.vm_run.specs.declared.transaction.TxContext.{TxContext}

-- the numbers of a context are 64-bit numbers
pub record TxFits (t : TxContext) : Type 0 where
  pub amount : t.amount < 2 ^ 63
  pub mintime : t.mintime < 2 ^ 63
  pub maxtime : t.maxtime < 2 ^ 63
  pub index : t.index < 2 ^ 63

abbrev pub NumbersFit : Context → Type 0
NumbersFit Nothing = Unit {0}
NumbersFit (Tx t) = TxFits t
NumbersFit (Block b) = b.time < 2 ^ 63

-- How many items are popped off the data stack and the items that are pushed in their place, the top first; the same of
-- the alt stack; the base cost; and the place that is jumped to, if any. An item that is moved is popped and pushed.
pub record Effect : Type 0 where
  pub pops : ℕ
  pub pushed : List Item
  pub alt_pops : ℕ
  pub alt_pushed : List Item
  pub base : ℕ
  pub jump : Option ℕ

-- An instruction fails; or it has an effect, where the limit allows it; or it calls a program, which is an item, on so
-- many of the items below and with the limit that is asked for it.
pub data Row : Type 0 where
  Faults : Failure → Row
  Does : Effect → Row
  Calls : (program : Item) (asked count : ℕ) → Row

-- an effect on the data stack alone
abbrev pub effect : ℕ → List Item → ℕ → Effect
effect pops pushed base =
    record { pops = pops; pushed = pushed; alt_pops = 0; alt_pushed = []; base = base; jump = None }

abbrev pub does : ℕ → List Item → ℕ → Row
does pops pushed base = Does (effect pops pushed base)

-- pushes an item
abbrev pub push_row : Item → Row
push_row item = does 0 (item ∷ []) 1

-- a line of the table: the row on the items of the data stack and of the alt stack, the top first in each
abbrev pub Rule : Type 0
Rule = List Item → List Item → Row

-- ---- what a line needs

-- nothing
abbrev pub always : Row → Rule
always row items alt = row

-- so many items
abbrev pub needs : ℕ → (List Item → Row) → Rule
needs n rule items alt = if nat_le n (length items) then rule items else Faults Underflow

-- one item, two and three, the deepest first
abbrev pub on_one : (Item → Row) → Rule
on_one rule [] alt = Faults Underflow
on_one rule (a ∷ items) alt = rule a

abbrev pub on_two : (Item → Item → Row) → Rule
on_two rule [] alt = Faults Underflow
on_two rule (b ∷ []) alt = Faults Underflow
on_two rule (b ∷ a ∷ items) alt = rule a b

abbrev pub on_three : (Item → Item → Item → Row) → Rule
on_three rule [] alt = Faults Underflow
on_three rule (c ∷ []) alt = Faults Underflow
on_three rule (c ∷ b ∷ []) alt = Faults Underflow
on_three rule (c ∷ b ∷ a ∷ items) alt = rule a b c

-- an item of the alt stack
abbrev pub on_alt : (Item → Row) → Rule
on_alt rule items [] = Faults AltUnderflow
on_alt rule items (a ∷ alt) = rule a

-- that an item is a number
abbrev pub with_number : (ℤ → Row) → Option ℤ → Row
with_number rule None = Faults BadNumber
with_number rule (Some n) = rule n

-- one, two and three numbers, the deepest first
abbrev pub on_number : (ℤ → Row) → Rule
on_number rule = on_one (λ a. with_number rule (num a))

abbrev pub on_two_numbers : (ℤ → ℤ → Row) → Rule
on_two_numbers rule = on_two (λ a b. with_number (λ x. with_number (rule x) (num b)) (num a))

abbrev pub on_three_numbers : (ℤ → ℤ → ℤ → Row) → Rule
on_three_numbers rule =
    on_three (λ a b c. with_number (λ x. with_number (λ y. with_number (rule x y) (num c)) (num b)) (num a))

-- a string and a number, and a string and two numbers, the deepest first
abbrev pub on_size : (Item → ℤ → Row) → Rule
on_size rule = on_two (λ a n. with_number (rule a) (num n))

abbrev pub on_part : (Item → ℤ → ℤ → Row) → Rule
on_part rule = on_three (λ a m n. with_number (λ x. with_number (rule a x) (num n)) (num m))

-- a number on top that counts items, and is not negative; the line takes it and the items below it
abbrev pub counted : (ℕ → Row) → ℤ → Row
counted rule (pos n) = rule n
counted rule (negsuc n) = Faults BadValue

abbrev pub by_count : (ℕ → List Item → Row) → Rule
by_count rule [] alt = Faults Underflow
by_count rule (a ∷ below) alt = with_number (counted (λ n. rule n below)) (num a)

-- a block, and an input of a transaction
abbrev pub in_block : Context → (BlockContext → Row) → Rule
in_block (Block b) rule = always (rule b)
in_block other rule = always (Faults failures.Context)

abbrev pub in_tx : Context → (TxContext → Rule) → Rule
in_tx (Tx t) rule = rule t
in_tx other rule = always (Faults failures.Context)
