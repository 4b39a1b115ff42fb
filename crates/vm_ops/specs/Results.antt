-- Tables by codes, and the items that codes make of their operands.
use Rattle.std.specs.Prelude.{ℕ, ◌==◌, Bool, true, false, List, [], ◌∷◌, Option, Some, None, Result, Ok, Err}
use Rattle.std.specs.Prelude.{if◌then◌else◌, ℤ}
use Rattle.std.specs.List.{AllByRecursion}
use Rattle.vm_num.specs.Item.{Item, num_bytes}
use Rattle.vm_num.specs.declared.failure.Failure.{Failure}
use Rattle.vm_num.specs.declared.failure.Failure.TheVariants.{Range}

-- the item that is pushed, or the failure
abbrev pub ItemResult : Type 0
ItemResult = Result Item Failure

-- a number's item, where there is a 64-bit number
abbrev pub number_item : Option ℤ → ItemResult
number_item None = Err Range
number_item (Some n) = Ok (num_bytes n)

-- the item of a comparison: 01, or empty
abbrev pub truth_item : Bool → Item
truth_item true = 1 ∷ []
truth_item false = []

-- a table's entry at a code, or the other where it has none
abbrev pub entry_at : {L : Type 0} → L → List (ℕ × L) → ℕ → L
entry_at other [] code = other
entry_at other (entry ∷ entries) code = if entry.0 == code then entry.1 else entry_at other entries code

-- what holds of the other entry and of all in the table holds of the entry at every code
pub entry_at-all : {L : Type 0} (P : L → Type 0) (other : L) (entries : List (ℕ × L)) (code : ℕ)
    → P other → AllByRecursion (λ entry. P entry.1) entries → P (entry_at other entries code)
entry_at-all P other [] code rest all = rest
entry_at-all P other (entry ∷ entries) code rest all =
    elim (entry.0 == code) as (λ (b : Bool). P (if b then entry.1 else entry_at other entries code)) [
      | true ↦ all.0
      | false ↦ entry_at-all P other entries code rest all.1
    ]
