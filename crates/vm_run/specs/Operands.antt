-- What the code reads off a data stack for a line, against what the line needs. Only contracts of private functions
-- name it.
use Rattle.std.specs.Prelude.{◌≡◌, ◌<◌, ◌≤◌, ◌^◌, ℕ, ◌+◌, ℤ, Bool, List, ◌∷◌, length, drop, Result, Ok, Err}
use Rattle.std.specs.Borrow.{Bor}
use Rattle.vm_num.specs.Item.{Item}
use Rattle.vm_num.specs.declared.failure.Failure.{Failure}
use Rattle.vm_stack.specs.Stacks.{item_at}
use Rattle.vm_run.specs.Effect.{Row, Faults, Calls, Rule, on_one, on_two, on_number, on_two_numbers, on_three_numbers}
use Rattle.vm_run.specs.Effect.{on_three, on_size, on_part, by_count}
use Rattle.vm_run.specs.Making.{calls}
use Rattle.vm_run.specs.Signing.{by_counts}
use Rattle.vm_run.specs.Introspection.{on_numbers, on_wanted}
use Rattle.vm_run.specs.declared.introspection.Wanted.{Wanted}

-- at these items every line of a kind is a failure
abbrev pub Fails : {Operands : Type 0} → (Operands → Rule) → List Item → Failure → Type 0
Fails {Operands} rule items kind = (row : Operands) (alt : List Item) → rule row items alt ≡ Faults kind

-- one item, and two, the deeper first
abbrev pub IsTop : List Item → Result (Bor (List ℕ)) Failure → Type 0
IsTop items (Ok a) = items ≡ a.now ∷ drop 1 items
IsTop items (Err kind) = Fails on_one items kind

abbrev pub AreTopTwo : List Item → Result (Bor (List ℕ) × Bor (List ℕ)) Failure → Type 0
AreTopTwo items (Ok p) = items ≡ p.1.now ∷ p.0.now ∷ drop 2 items
AreTopTwo items (Err kind) = Fails on_two items kind

-- one number, two and three, the deepest first
abbrev pub IsNumber : List Item → Result ℤ Failure → Type 0
IsNumber items (Ok x) =
    (1 ≤ length items) × ((rule : ℤ → Row) (alt : List Item) → on_number rule items alt ≡ rule x)
IsNumber items (Err kind) = Fails on_number items kind

abbrev pub AreTwoNumbers : List Item → Result (ℤ × ℤ) Failure → Type 0
AreTwoNumbers items (Ok p) =
    (2 ≤ length items) × ((rule : ℤ → ℤ → Row) (alt : List Item) → on_two_numbers rule items alt ≡ rule p.0 p.1)
AreTwoNumbers items (Err kind) = Fails on_two_numbers items kind

abbrev pub AreThreeNumbers : List Item → Result (ℤ × ℤ × ℤ) Failure → Type 0
AreThreeNumbers items (Ok p) =
    (3 ≤ length items)
    × ((rule : ℤ → ℤ → ℤ → Row) (alt : List Item) → on_three_numbers rule items alt ≡ rule p.0 p.1 p.2)
AreThreeNumbers items (Err kind) = Fails on_three_numbers items kind

-- a string and a number, and a string and two numbers, the deepest first
abbrev pub IsSized : List Item → Result (Bor (List ℕ) × ℤ) Failure → Type 0
IsSized items (Ok p) =
    (2 ≤ length items) × ((rule : Item → ℤ → Row) (alt : List Item) → on_size rule items alt ≡ rule p.0.now p.1)
IsSized items (Err kind) = Fails on_size items kind

abbrev pub IsPart : List Item → Result (Bor (List ℕ) × ℤ × ℤ) Failure → Type 0
IsPart items (Ok p) =
    (3 ≤ length items)
    × ((rule : Item → ℤ → ℤ → Row) (alt : List Item) → on_part rule items alt ≡ rule p.0.now p.1 p.2)
IsPart items (Err kind) = Fails on_part items kind

-- a count of items
abbrev pub IsCount : List Item → Result ℕ Failure → Type 0
IsCount items (Ok n) =
    (1 ≤ length items)
    × ((rule : ℕ → List Item → Row) (alt : List Item) → by_count rule items alt ≡ rule n (drop 1 items))
IsCount items (Err kind) = Fails by_count items kind

-- a count of items and a limit, of CHECKPREDICATE
abbrev pub IsCall : List Item → Result (ℕ × ℕ) Failure → Type 0
IsCall items (Ok p) =
    (3 + p.0 ≤ length items) × ((alt : List Item) → calls items alt ≡ Calls (item_at 1 items) p.1 p.0)
IsCall items (Err kind) = (alt : List Item) → calls items alt ≡ Faults kind

-- three items, the deepest first, and two counts
abbrev pub AreThree : List Item → Result (Bor (List ℕ) × Bor (List ℕ) × Bor (List ℕ)) Failure → Type 0
AreThree items (Ok p) = items ≡ p.2.now ∷ p.1.now ∷ p.0.now ∷ drop 3 items
AreThree items (Err kind) = Fails on_three items kind

abbrev pub AreCounts : List Item → Result (ℕ × ℕ) Failure → Type 0
AreCounts items (Ok p) =
    (2 ≤ length items)
    × (p.0 < 2 ^ 63)
    × (p.1 < 2 ^ 63)
    × ((rule : ℕ → ℕ → List Item → Row) (alt : List Item) → by_counts rule items alt ≡ rule p.0 p.1 (drop 2 items))
AreCounts items (Err kind) = Fails by_counts items kind

-- what CHECKOUTPUT wants of an output
abbrev pub AreNumbers : (place amount version : Item) → Result (ℕ × ℕ × Bool) Failure → Type 0
AreNumbers place amount version (Ok p) =
    (rule : ℕ → ℕ → Bool → Row) → on_numbers rule place amount version ≡ rule p.0 p.1 p.2
AreNumbers place amount version (Err kind) =
    (rule : ℕ → ℕ → Bool → Row) → on_numbers rule place amount version ≡ Faults kind

abbrev pub IsWanted : List Item → Result Wanted Failure → Type 0
IsWanted items (Ok wanted) =
    (6 ≤ length items)
    × ((rule : ℕ → Item → ℕ → Item → Bool → Item → Row) (alt : List Item)
    → on_wanted rule items alt
    ≡ rule wanted.place wanted.refdata.now wanted.amount wanted.asset.now wanted.version_1 wanted.program.now)
IsWanted items (Err kind) = Fails on_wanted items kind
