-- What holds of straight code in every program that has it at a place, for every context and check.
use Rattle.std.specs.Prelude.{◌≡◌, ℕ, ◌+◌, ◌≤◌, List, ◌++◌, length, Some}
use Rattle.keyed.specs.Functions.{Check}
use Rattle.vm_num.specs.Item.{Item, total_cost}
use Rattle.vm_run.specs.declared.context.Context.{Context}
use Rattle.vm_straight.specs.Operations.{Operation, bytes_of, AllFit, and_then, stack_after, items_cost, needed}
use Rattle.vm_straight.specs.Success.{HoldsAt, Succeeds, SucceedsWith, Reached}

-- Of code after code.
pub record JoiningLaws (context : Context) (check : Check) : Type 0 where
  -- bytes after bytes
  pub bytes : (a b : List Operation) → bytes_of (a ++ b) ≡ bytes_of a ++ bytes_of b
  -- stack after stack
  pub stacks : (a b : List Operation) (items : List Item)
      → stack_after context check (a ++ b) items
      ≡ and_then (stack_after context check a items) (stack_after context check b)
  -- what the second needs beyond the items that it finds is left by the first
  pub needs : (left more : ℕ) (a b : List Operation) (items found : List Item)
      → stack_after context check a items ≡ Some found
      → needed context check left b found ≤ items_cost found + more
      → needed context check left (a ++ b) items ≤ needed context check more a items
  -- no code needs less than the items that it finds
  pub held : (left : ℕ) (code : List Operation) (items : List Item)
      → items_cost items ≤ needed context check left code items
  -- items cost together what each costs
  pub costs : (items : List Item) → items_cost items ≡ total_cost items

-- Of code in a program.
pub record StraightLaws (context : Context) (check : Check) : Type 0 where
  -- Where the run succeeds from the code on, the code's stack is reached after it, and success follows.
  pub reached : (program : List ℕ) (code : List Operation) (at : ℕ) (items : List Item) (limit : ℕ)
      → AllFit code
      → HoldsAt program at (bytes_of code)
      → Succeeds context check program at items limit
      → Reached context check program (at + length (bytes_of code)) (stack_after context check code items)
  -- Where it succeeds after the code, with the code's stack and each limit of at least this, it succeeds from the code
  -- on with each limit that covers what the code needs to leave as much.
  pub carried : (program : List ℕ) (code : List Operation) (least at : ℕ) (items found : List Item) (limit : ℕ)
      → AllFit code
      → HoldsAt program at (bytes_of code)
      → stack_after context check code items ≡ Some found
      → needed context check least code items ≤ limit + items_cost items
      → SucceedsWith context check program (at + length (bytes_of code)) found least
      → Succeeds context check program at items limit
