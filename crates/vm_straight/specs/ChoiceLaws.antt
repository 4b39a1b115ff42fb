-- What holds of a choice among pieces of straight code, for every context and check.
use Rattle.std.specs.Prelude.{ℕ, ◌+◌, ◌<◌, ◌≤◌, ◌^◌, List, [], length, ℤ, slice_index_or}
use Rattle.keyed.specs.Functions.{Check}
use Rattle.vm_num.specs.Item.{Item}
use Rattle.vm_run.specs.declared.context.Context.{Context}
use Rattle.vm_straight.specs.Operations.{Operation}
use Rattle.vm_straight.specs.Success.{HoldsAt, Succeeds, SucceedsWith}
use Rattle.vm_straight.specs.Choice.{choices, HasNumberAt, AllKeep, ChosenRuns, ChosenNeeds, guards_need}

-- pieces with their guards at a place of a program
pub record Stands (context : Context) (check : Check) (program : List ℕ) (depth number place : ℕ)
    (pieces : List (List Operation)) (items : List Item) (chosen : ℤ) : Type 0 where
  pub long : length program < 2 ^ 32
  pub few : number + length pieces < 2 ^ 63
  pub at : HoldsAt program place (choices depth number place pieces)
  pub selects : HasNumberAt items depth chosen
  pub keep : AllKeep context check items pieces

pub record ChoiceLaws (context : Context) (check : Check) : Type 0 where
  -- Where it succeeds from the first guard on, the chosen piece does not fail, and success follows after the last
  -- piece.
  pub only : (program : List ℕ) (depth number place : ℕ) (pieces : List (List Operation)) (items : List Item)
      (chosen : ℤ) (limit : ℕ)
      → Stands context check program depth number place pieces items chosen
      → Succeeds context check program place items limit
      → ChosenRuns context check items chosen number pieces
      × ((left : ℕ) × Succeeds context check program (place + length (choices depth number place pieces)) items left)
  -- Where the chosen piece does not fail and needs no more than is due, and success follows after the last piece with
  -- each limit of at least this, it succeeds from the first guard on with each limit that covers the three.
  pub enough : (program : List ℕ) (depth number place : ℕ) (pieces : List (List Operation)) (items : List Item)
      (chosen : ℤ) (limit due least : ℕ)
      → Stands context check program depth number place pieces items chosen
      → ChosenNeeds context check items chosen due number pieces
      → SucceedsWith context check program (place + length (choices depth number place pieces)) items least
      → guards_need (slice_index_or items depth []) pieces + (due + least) ≤ limit
      → Succeeds context check program place items limit
