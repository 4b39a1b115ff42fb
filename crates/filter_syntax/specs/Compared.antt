-- The attributes that a condition compares, and the first unknown one of them. Public statements name it.
use Rattle.std.specs.Prelude.{◌≡◌, ℕ, Bool, List, [], ◌∷◌, ◌++◌, length, IsTrue, Option, Some, None, filter_map}
use Rattle.std.specs.List.{AllByRecursion}
use Rattle.filter_syntax.specs.declared.tree.RowKind.{RowKind}
use Rattle.filter_syntax.specs.declared.tree.Cond.{Cond}
use Rattle.filter_syntax.specs.declared.tree.Cond.TheOpen.{Cond-F}
use Rattle.filter_syntax.specs.declared.tree.Cond.TheFolds.{fold-Cond}
use Rattle.filter_syntax.specs.Token.{Name}
use Rattle.filter_syntax.specs.Tokens.{Placed}
use Rattle.filter_syntax.specs.Attributes.{attributes}
use Rattle.wire.specs.Strings.{is_among}

-- an attribute, and the scope that it stands in: none, `inputs(..)` (`Some true`) or `outputs(..)` (`Some false`)
abbrev pub Compared : Type 0
Compared = Option Bool × List ℕ

-- the attributes that a condition in a scope compares, in the text's order, from those that its parts do
abbrev pub comparisons_by : Cond-F (Option Bool → List Compared) → (scope : Option Bool) → List Compared
comparisons_by (Cond-F.Or left right) scope = left scope ++ right scope
comparisons_by (Cond-F.And left right) scope = left scope ++ right scope
comparisons_by (Cond-F.Scope inputs inner) scope = inner (Some inputs)
comparisons_by (Cond-F.Is name value) scope = (scope, name) ∷ []

-- the same of a whole condition
abbrev pub comparisons : (scope : Option Bool) → Cond → List Compared
comparisons scope condition = fold-Cond (Option Bool → List Compared) comparisons_by condition scope

-- Rows of the kind have the attribute in that scope.
abbrev pub IsKnown : RowKind → Compared → Type 0
IsKnown kind compared = IsTrue (is_among (attributes kind compared.0) compared.1)

-- The first unknown one of the attributes has this index, from 0.
pub record FirstUnknown (kind : RowKind) (compared : List Compared) (index : ℕ) : Type 0 where
  pub before : List Compared
  pub attribute : Compared
  pub behind : List Compared
  pub split : compared ≡ before ++ attribute ∷ behind
  pub known : AllByRecursion (IsKnown kind) before
  pub unknown : ¬ IsKnown kind attribute
  pub place : index ≡ length before

-- the place of a name
abbrev pub name_place : Placed → Option ℕ
name_place (Name name, at) = Some at
name_place _ = None

-- the places of the names among tokens, in order
abbrev pub places_of_names : List Placed → List ℕ
places_of_names tokens = filter_map name_place tokens
