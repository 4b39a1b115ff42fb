-- The parameters of a contract and of a clause as lists, and the place of a name among them. Public statements name it.
use Rattle.std.specs.Prelude.{◌≡◌, ◌↔◌, ℕ, List, [], ◌++◌, map, length, Option, Some, None, bytes_eq, slice_get}
use Rattle.std.specs.List.{flat_map, position}
use Rattle.ivy_syntax.specs.declared.tree.Word.{Word}
use Rattle.ivy_syntax.specs.declared.tree.Group.{Group}
use Rattle.ivy_syntax.specs.declared.tree.ClauseTree.{ClauseTree}
use Rattle.ivy_syntax.specs.declared.tree.Contract.{Contract}
use Rattle.ivy_syntax.specs.TreeLimits.{params_of}
use Rattle.ivy_check.specs.declared.types.IvyType.{IvyType}
use Rattle.ivy_check.specs.declared.parameters.Param.{Param}
use Rattle.ivy_check.specs.Types.{type_named}
use Rattle.ivy_check.specs.Scope.{Scope, in_clause}
use Rattle.ivy_check.specs.Typing.{TypesExist, IsParameter}
use Rattle.ivy_check.specs.WellTyped.{ContractIsTyped, ClauseIsTyped}

-- parameters of one type, by their names; none where there is no such type
abbrev pub of_one_type : Option IvyType → List Word → List Param
of_one_type None names = []
of_one_type (Some kind) names = map (λ word. record { name = word.name; kind = kind }) names

-- those of a group, and of several in order
abbrev pub group_parameters : Group → List Param
group_parameters group = of_one_type (type_named group.kind.name) group.names

abbrev pub parameters : List Group → List Param
parameters = flat_map group_parameters

-- those of a contract, and after them those of the clause
abbrev pub all_parameters : Scope → List Param
all_parameters scope = parameters scope.contract.params ++ parameters scope.clause.params

-- the place of the first of these parameters that has this name, from 0
abbrev pub place_of : List ℕ → List Param → Option ℕ
place_of name = position (λ param. bytes_eq param.name name)

-- this is its place, and the parameter there has this type
pub record PlaceOf (name : List ℕ) (type : IvyType) (params : List Param) (place : ℕ) : Type 0 where
  pub first : place_of name params ≡ Some place
  pub there : slice_get params place ≡ Some (record { name = name; kind = type })

-- of a contract and its clauses that are well typed
pub record ParameterPlaces : Type 0 where
  -- Where an expression names a parameter of a type, the name has a place, and the parameter there has this type; and
  -- each name that has a place is that of a parameter.
  pub named : (contract : Contract) (clause : ClauseTree) (name : List ℕ) (type : IvyType)
      → ContractIsTyped contract
      → ClauseIsTyped contract clause
      → IsParameter (in_clause contract clause) name type
      ↔ ((place : ℕ) × PlaceOf name type (all_parameters (in_clause contract clause)) place)
  -- Each parameter stands at the place of its name: no other has it.
  pub own : (contract : Contract) (clause : ClauseTree) (place : ℕ) (param : Param)
      → ContractIsTyped contract
      → ClauseIsTyped contract clause
      → slice_get (all_parameters (in_clause contract clause)) place ≡ Some param
      → place_of param.name (all_parameters (in_clause contract clause)) ≡ Some place
  -- There are as many as names of the groups, where their types exist.
  pub count : (groups : List Group)
      → TypesExist groups
      → length (parameters groups) ≡ params_of groups
