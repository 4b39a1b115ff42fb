-- Runs that end with a true item on top, from a place of a program on. Public statements name it.
use Rattle.std.specs.Prelude.{◌≡◌, ℕ, ◌≤◌, true, List, [], ◌++◌, length, Option, Some}
use Rattle.keyed.specs.Functions.{Check}
use Rattle.vm_num.specs.Item.{Item}
use Rattle.vm_run.specs.declared.context.Context.{Context}
use Rattle.vm_run.specs.Run.{Outcome, Run, is_good}

-- these bytes stand at a place of the program
pub record HoldsAt (program : List ℕ) (at : ℕ) (bytes : List ℕ) : Type 0 where
  pub before : List ℕ
  pub after : List ℕ
  pub is : program ≡ before ++ bytes ++ after
  pub place : length before ≡ at

-- the run from a place on, with these items, an empty alt stack and this limit left there, ends with a true item on top
pub record Succeeds (context : Context) (check : Check) (program : List ℕ) (place : ℕ) (items : List Item) (limit : ℕ)
    : Type 0 where
  pub outcome : Outcome
  pub runs : Run context check program place items [] limit outcome
  pub good : is_good outcome ≡ true

-- it does so with every limit of at least this
abbrev pub SucceedsWith : Context → Check → (program : List ℕ) → (place : ℕ) → List Item → (least : ℕ) → Type 0
SucceedsWith context check program place items least =
    (limit : ℕ) → least ≤ limit → Succeeds context check program place items limit

-- The place is reached with what is left of the limit and with this stack, if it is one, and success follows.
pub record Reached (context : Context) (check : Check) (program : List ℕ) (place : ℕ) (stack : Option (List Item))
    : Type 0 where
  pub items : List Item
  pub left : ℕ
  pub is : stack ≡ Some items
  pub rest : Succeeds context check program place items left
