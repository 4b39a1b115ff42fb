-- What the steps of reading a list of names and of looking up attributes answer. Only contracts of private functions
-- name it.
use Rattle.std.specs.Prelude.{◌≡◌, ℕ, false, List, [], ◌∷◌, length}
use Rattle.std.specs.List.{AllByRecursion}
use Rattle.filter_syntax.specs.declared.fault.FilterFault.{FilterFault}
use Rattle.filter_syntax.specs.declared.fault.FilterFault.TheVariants.{Syntax, UnknownAttribute, NoMemory}
use Rattle.filter_syntax.specs.declared.tree.RowKind.{RowKind}
use Rattle.filter_syntax.specs.Spelling.{begins_name}
use Rattle.filter_syntax.specs.By.{IsSyntaxFault}
use Rattle.filter_syntax.specs.Compared.{Compared, IsKnown}

-- It begins with no letter and no `_`.
abbrev pub BeginsNoWord : List ℕ → Type 0
BeginsNoWord [] = Unit {0}
BeginsNoWord (byte ∷ rest) = begins_name byte ≡ false

-- a text of names that are not yet looked up has a place where it goes wrong, or memory ran out
abbrev pub SplitFault : List ℕ → FilterFault → Type 0
SplitFault text (Syntax at) = IsSyntaxFault text at
SplitFault text (UnknownAttribute at) = ⊥
SplitFault text NoMemory = Unit {0}

-- The attributes are known, and so many.
pub record AllKnown (kind : RowKind) (compared : List Compared) (count : ℕ) : Type 0 where
  pub known : AllByRecursion (IsKnown kind) compared
  pub number : count ≡ length compared
