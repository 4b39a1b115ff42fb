-- Declared names, and groups of parameters. Public statements name it.
use Rattle.std.specs.Prelude.{ℕ, Bool, false, ◌||◌, List, [], ◌++◌, Option, Some, None, is_some, not}
use Rattle.ivy_syntax.specs.declared.tree.Word.{Word}
use Rattle.ivy_syntax.specs.declared.tree.Group.{Group}
use Rattle.ivy_syntax.specs.declared.tree.Contract.{Contract}
use Rattle.ivy_check.specs.Tests.{Test, fault, walked}
use Rattle.ivy_check.specs.Types.{type_named}
use Rattle.ivy_check.specs.Functions.{is_reserved}
use Rattle.ivy_check.specs.Scope.{is_name, is_among, is_parameter}

-- A declared name is tested for a type's or a function's name, and then for one that is taken, which is this kind.
unfoldable pub declared : (kind : ℕ) → Word → (taken : Bool) → List Test
declared kind word taken = fault 4 word.at (is_reserved word.name) ++ fault kind word.at taken

-- the name is that of a parameter of the contract or of its value, where a clause of one is declared
abbrev pub is_contract_name : Option Contract → List ℕ → Bool
is_contract_name None name = false
is_contract_name (Some contract) name = is_parameter name contract.params || is_name name contract.value

-- a name of a group, after others of the group and after other groups
abbrev pub param_name_tests : Option Contract → (groups : List Group) → (before : List Word) → Word → List Test
param_name_tests enclosing groups before word =
    declared 2 word (is_contract_name enclosing word.name || is_parameter word.name groups || is_among word.name before)

-- a group of parameters after others: its names in order, and then its type
abbrev pub group_tests : Option Contract → (before : List Group) → Group → List Test
group_tests enclosing before group =
    walked (param_name_tests enclosing before) [] group.names
    ++ fault 5 group.kind.at (not (is_some (type_named group.kind.name)))

-- the parameters of a contract, or of a clause of this contract
abbrev pub param_tests : Option Contract → List Group → List Test
param_tests enclosing = walked (group_tests enclosing) []
