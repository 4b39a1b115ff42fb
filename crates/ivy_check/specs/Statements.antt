-- Requirements and statements of a clause, and what becomes of its values. Public statements name it.
use Rattle.std.specs.Prelude.{ℕ, Bool, false, not, List, ◌++◌}
use Rattle.std.specs.List.{list_any, flat_map}
use Rattle.ivy_syntax.specs.declared.tree.Word.{Word}
use Rattle.ivy_syntax.specs.declared.tree.Req.{Req}
use Rattle.ivy_syntax.specs.declared.tree.Stmt.{Stmt}
use Rattle.ivy_syntax.specs.declared.tree.Stmt.TheVariants.{Verify, Lock, Unlock}
use Rattle.ivy_check.specs.declared.types.IvyType.TheVariants.{Amount, Asset, Boolean, Program}
use Rattle.ivy_check.specs.declared.types.IvyType.{IvyType}
use Rattle.ivy_check.specs.declared.functions.ParamType.TheVariants.{Exactly}
use Rattle.ivy_check.specs.Tests.{Test, fault}
use Rattle.ivy_check.specs.Types.{has_type}
use Rattle.ivy_check.specs.Scope.{Scope, is_name, is_value, is_required}
use Rattle.ivy_check.specs.Expressions.{Typing, typing, whole_tests, fits_param}

-- a statement disposes of the value of this name
abbrev pub disposes : List ℕ → Stmt → Bool
disposes name (Verify at e) = false
disposes name (Lock at value program) = is_name name value
disposes name (Unlock at value) = is_name name value

abbrev pub is_disposed : List ℕ → List Stmt → Bool
is_disposed name = list_any (disposes name)

-- ---- statements

-- the word is no value
abbrev pub is_no_value : Scope → Word → Bool
is_no_value scope value = not (is_value scope value.name)

abbrev pub verify_tests : Typing → List Test
verify_tests e = whole_tests e ++ fault 11 e.from (not (has_type Boolean e.inferred.ivy_type))

abbrev pub program_tests : Typing → List Test
program_tests e = whole_tests e ++ fault 12 e.from (not (has_type Program e.inferred.ivy_type))

-- a lock of this value after these statements, with this program
abbrev pub lock_tests : Scope → (before : List Stmt) → Word → Typing → List Test
lock_tests scope before value program =
    fault 13 value.at (is_no_value scope value)
    ++ fault 16 value.at (is_disposed value.name before)
    ++ program_tests program

abbrev pub unlock_tests : Scope → (before : List Stmt) → Word → List Test
unlock_tests scope before value =
    fault 13 value.at (is_no_value scope value)
    ++ fault 15 value.at (is_required value.name scope.clause.reqs)
    ++ fault 16 value.at (is_disposed value.name before)

-- a statement after these
abbrev pub statement_tests : Scope → (before : List Stmt) → Stmt → List Test
statement_tests scope before (Verify at e) = verify_tests (typing scope e)
statement_tests scope before (Lock at value program) = lock_tests scope before value (typing scope program)
statement_tests scope before (Unlock at value) = unlock_tests scope before value

-- a value that none of these statements disposes of
abbrev pub left : List Stmt → Word → List Test
left stmts value = fault 17 value.at (not (is_disposed value.name stmts))

-- the values that are left at the end of a clause: the locked one first
abbrev pub left_tests : Scope → List Test
left_tests scope =
    left scope.clause.stmts scope.contract.value
    ++ flat_map (λ req. left scope.clause.stmts req.name) scope.clause.reqs

-- ---- requirements

-- a side of a requirement, which asks for this type
abbrev pub side_tests : IvyType → Typing → List Test
side_tests type e = whole_tests e ++ fault 10 e.from (not (fits_param (Exactly type) e.inferred))

abbrev pub sides_tests : Scope → Req → List Test
sides_tests scope req = side_tests Amount (typing scope req.amount) ++ side_tests Asset (typing scope req.asset)
