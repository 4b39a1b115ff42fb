-- What names mean where an expression stands: in a clause of a contract. Public statements name it.
use Rattle.std.specs.Prelude.{ℕ, Bool, not, ◌&&◌, ◌||◌, List, [], ◌∷◌, Option, Some, None, bytes_eq, is_some}
use Rattle.std.specs.Prelude.{option_and_then, if◌then◌else◌}
use Rattle.std.specs.List.{list_any}
use Rattle.ivy_syntax.specs.declared.tree.Word.{Word}
use Rattle.ivy_syntax.specs.declared.tree.Group.{Group}
use Rattle.ivy_syntax.specs.declared.tree.Req.{Req}
use Rattle.ivy_syntax.specs.declared.tree.Contract.{Contract}
use Rattle.ivy_syntax.specs.declared.tree.ClauseTree.{ClauseTree}
use Rattle.ivy_check.specs.declared.types.IvyType.{IvyType}
use Rattle.ivy_check.specs.declared.scope.Scope as code
use Rattle.ivy_check.specs.Types.{type_named}

-- a clause, and the contract that it stands in
pub record Scope : Type 0 where
  pub contract : Contract
  pub clause : ClauseTree

-- where what stands in a clause of a contract stands
abbrev pub in_clause : Contract → ClauseTree → Scope
in_clause contract clause = record { contract = contract; clause = clause }

-- where the code says that an expression stands
abbrev pub scope_of : code.Scope → Scope
scope_of scope = in_clause scope.contract.now scope.clause.now

-- the word is this name
abbrev pub is_name : List ℕ → Word → Bool
is_name name word = bytes_eq word.name name

-- the name is one of these words
abbrev pub is_among : List ℕ → List Word → Bool
is_among name = list_any (is_name name)

-- ---- parameters

-- the word for the type of the parameter of this name
abbrev pub kind_word : List ℕ → List Group → Option Word
kind_word name [] = None
kind_word name (group ∷ groups) = if is_among name group.names then Some group.kind else kind_word name groups

-- a parameter of these groups has this name
abbrev pub is_parameter : List ℕ → List Group → Bool
is_parameter name groups = is_some (kind_word name groups)

-- the type of the parameter of this name
abbrev pub parameter_type : List ℕ → List Group → Option IvyType
parameter_type name groups = option_and_then (λ kind. type_named kind.name) (kind_word name groups)

-- ---- values

-- a value of this name is required
abbrev pub is_required : List ℕ → List Req → Bool
is_required name = list_any (λ req. is_name name req.name)

-- the name is a value of the clause: the locked value, or one that is required. It is so from the clause's start.
abbrev pub is_value : Scope → List ℕ → Bool
is_value scope name = is_name name scope.contract.value || is_required name scope.clause.reqs

-- ---- names in expressions

-- the name of a parameter of the clause or of the contract
abbrev pub names_parameter : Scope → List ℕ → Bool
names_parameter scope name =
    is_parameter name scope.clause.params || is_parameter name scope.contract.params

-- the name means nothing in an expression: it is no value, and no parameter
abbrev pub is_unknown : Scope → List ℕ → Bool
is_unknown scope name = not (is_value scope name) && not (names_parameter scope name)

-- the type that a name has in an expression
abbrev pub name_type : Scope → List ℕ → Option IvyType
name_type scope name =
    if is_parameter name scope.clause.params then parameter_type name scope.clause.params
    else parameter_type name scope.contract.params
