-- Expressions: their types and their tests, each from those of its parts. The parts are tested from left to right, and
-- before what they stand in. Public statements name it.
use Rattle.std.specs.Prelude.{ℕ, Bool, true, false, not, ◌&&◌, List, [], ◌∷◌, ◌++◌, length, nat_lt}
use Rattle.std.specs.Prelude.{Option, Some, None, is_some, unwrap_or, if◌then◌else◌}
use Rattle.std.specs.List.{flat_map}
use Rattle.ivy_syntax.specs.declared.tree.Op.{Op}
use Rattle.ivy_syntax.specs.declared.tree.Op.TheVariants as op
use Rattle.ivy_syntax.specs.declared.tree.Expr.{Expr, Expr-F, fold-Expr}
use Rattle.ivy_syntax.specs.declared.tree.Form.TheOpen.{Form-F}
use Rattle.ivy_check.specs.declared.types.IvyType.{IvyType}
use Rattle.ivy_check.specs.declared.types.IvyType.TheVariants.{Boolean, Hash, Integer, String}
use Rattle.ivy_check.specs.declared.functions.Function.{Function}
use Rattle.ivy_check.specs.declared.functions.Function.TheVariants as function
use Rattle.ivy_check.specs.declared.functions.ParamType.{ParamType}
use Rattle.ivy_check.specs.declared.functions.ParamType.TheVariants.{Exactly, Numeric, Plain, Any, ListOf}
use Rattle.ivy_check.specs.declared.functions.ParamTypes.{ParamTypes}
use Rattle.ivy_check.specs.declared.functions.ParamTypes.TheVariants.{One, Two}
use Rattle.ivy_check.specs.Tests.{Test, fault}
use Rattle.ivy_check.specs.Types.{is_numeric, has_type, have_one_type, has_numeric_type, has_plain_type}
use Rattle.ivy_check.specs.Functions.{function_named, param_types}
use Rattle.ivy_check.specs.Scope.{Scope, is_value, is_unknown, name_type}

-- ---- what is inferred of expressions by themselves

-- what is inferred of an expression by itself
pub record Inferred : Type 0 where
  -- a number, also under unary minuses: its place may give it another type
  pub is_literal : Bool
  -- how many members it has as a list, and nothing where it is no list
  pub members : Option ℕ
  -- its type; a list has none
  pub ivy_type : Option IvyType

-- what is no number and no list, and has this type
abbrev pub of_type : Option IvyType → Inferred
of_type type = record { is_literal = false; members = None; ivy_type = type }

-- a number is an Integer by itself
abbrev pub number_literal : Inferred
number_literal = record { is_literal = true; members = None; ivy_type = Some Integer }

-- a list of so many members has no type
abbrev pub list_of : ℕ → Inferred
list_of members = record { is_literal = false; members = Some members; ivy_type = None }

unfoldable pub is_list : Inferred → Bool
is_list inferred = is_some inferred.members

-- how many members it has
abbrev pub member_count : Inferred → ℕ
member_count inferred = unwrap_or inferred.members 0

-- The type that it has beside another operand: a number takes the other's type, where that is numeric and no number
-- too.
abbrev pub coerced_beside : (other inferred : Inferred) → Option IvyType
coerced_beside other inferred =
    if inferred.is_literal && not other.is_literal && has_numeric_type other.ivy_type then other.ivy_type
    else inferred.ivy_type

-- the type that it has where this one is expected: a number takes it, where it is numeric
abbrev pub coerced : (expected : IvyType) → Inferred → Option IvyType
coerced expected inferred = if inferred.is_literal && is_numeric expected then Some expected else inferred.ivy_type

-- two of one type
abbrev pub are_of_one_type : (left right : Inferred) → Bool
are_of_one_type left right = have_one_type (coerced_beside right left) (coerced_beside left right)

-- two of one numeric type
abbrev pub are_numeric : (left right : Inferred) → Bool
are_numeric left right = are_of_one_type left right && has_numeric_type (coerced_beside right left)

abbrev pub are_booleans : (left right : Inferred) → Bool
are_booleans left right = has_type Boolean left.ivy_type && has_type Boolean right.ivy_type

-- ---- operators

-- `!` takes a Boolean, and `-` what is numeric. No other operator stands before an operand.
abbrev pub takes_operand : Op → Inferred → Bool
takes_operand op.Not inferred = has_type Boolean inferred.ivy_type
takes_operand op.Negate inferred = has_numeric_type inferred.ivy_type
takes_operand _ inferred = false

abbrev pub unary_result : Op → Inferred → Inferred
unary_result op.Not inferred = of_type (Some Boolean)
unary_result op.Negate inferred =
    record { is_literal = inferred.is_literal; members = None; ivy_type = inferred.ivy_type }
unary_result _ inferred = of_type None

-- Neither of these two stands between operands.
abbrev pub takes_operands : Op → (left right : Inferred) → Bool
takes_operands op.Not left right = false
takes_operands op.Negate left right = false
takes_operands op.Or left right = are_booleans left right
takes_operands op.And left right = are_booleans left right
takes_operands op.Equal left right = are_of_one_type left right
takes_operands op.NotEqual left right = are_of_one_type left right
takes_operands _ left right = are_numeric left right

abbrev pub binary_type : Op → (left right : Inferred) → Option IvyType
binary_type op.Or left right = Some Boolean
binary_type op.And left right = Some Boolean
binary_type op.Equal left right = Some Boolean
binary_type op.NotEqual left right = Some Boolean
binary_type op.Less left right = Some Boolean
binary_type op.LessEqual left right = Some Boolean
binary_type op.Greater left right = Some Boolean
binary_type op.GreaterEqual left right = Some Boolean
binary_type _ left right = coerced_beside right left

-- ---- functions

-- it is an argument for such a parameter
abbrev pub fits_param : ParamType → Inferred → Bool
fits_param (Exactly type) inferred = has_type type (coerced type inferred)
fits_param Numeric inferred = has_numeric_type inferred.ivy_type
fits_param Plain inferred = has_plain_type inferred.ivy_type
fits_param Any inferred = not (is_list inferred)
fits_param (ListOf type) inferred = is_list inferred

-- the type of the members of a list, where the parameter is one
abbrev pub member_type : ParamType → Option IvyType
member_type (ListOf type) = Some type
member_type _ = None

-- the arguments of `min` and of `max` have one type
abbrev pub agree : Function → (first second : Inferred) → Bool
agree function.Min first second = are_of_one_type first second
agree function.Max first second = are_of_one_type first second
agree _ first second = true

-- of keys and signatures there are no more signatures
abbrev pub has_enough_keys : Function → (first second : Inferred) → Bool
has_enough_keys function.CheckTxMultiSig keys sigs = not (nat_lt (member_count keys) (member_count sigs))
has_enough_keys _ first second = true

-- The type of what a function gives for one argument: `before` and `after` give a Boolean.
abbrev pub result_of_one : Function → Inferred → Option IvyType
result_of_one function.Abs inferred = inferred.ivy_type
result_of_one function.Size inferred = Some Integer
result_of_one function.BytesOf inferred = Some String
result_of_one function.Sha256 inferred = Some Hash
result_of_one function.Before inferred = Some Boolean
result_of_one function.After inferred = Some Boolean
result_of_one _ inferred = None

-- The same for two: checks of signatures give a Boolean.
abbrev pub result_of_two : Function → (first second : Inferred) → Option IvyType
result_of_two function.Min first second = coerced_beside second first
result_of_two function.Max first second = coerced_beside second first
result_of_two function.Concat first second = Some String
result_of_two function.ConcatPush first second = Some String
result_of_two function.CheckTxSig first second = Some Boolean
result_of_two function.CheckTxMultiSig first second = Some Boolean
result_of_two _ first second = None

-- ---- expressions where they stand

-- the typing of an expression where it stands
pub record Typing : Type 0 where
  -- its first byte, and its literal, name, function name, operator or opening bracket
  pub from : ℕ
  pub at : ℕ
  -- what is inferred of it by itself
  pub inferred : Inferred
  -- its tests, where it may be a list of members of this type, or of any
  pub tests : Option IvyType → List Test

-- an operand: it is no list
abbrev pub operand_tests : Typing → List Test
operand_tests e = e.tests None ++ fault 9 e.at (is_list e.inferred)

-- a whole expression: it is no list
abbrev pub whole_tests : Typing → List Test
whole_tests e = e.tests None ++ fault 9 e.from (is_list e.inferred)

-- ---- lists

-- a member of a list is no list, and of this type, if one is expected
abbrev pub is_member : Option IvyType → Inferred → Bool
is_member None inferred = not (is_list inferred)
is_member (Some type) inferred = has_type type inferred.ivy_type

abbrev pub member_tests : Option IvyType → Typing → List Test
member_tests each e = e.tests None ++ fault 9 e.from (not (is_member each e.inferred))

abbrev pub list_tests : Option IvyType → List Typing → List Test
list_tests each = flat_map (member_tests each)

-- ---- operations

abbrev pub unary_tests : Op → (at : ℕ) → Typing → List Test
unary_tests op at arg = operand_tests arg ++ fault 10 at (not (takes_operand op arg.inferred))

abbrev pub binary_tests : Op → (at : ℕ) → (left right : Typing) → List Test
binary_tests op at left right =
    operand_tests left ++ operand_tests right ++ fault 10 at (not (takes_operands op left.inferred right.inferred))

-- ---- calls

-- an argument, with its type: it is a list exactly where the parameter is one
abbrev pub argument_tests : ParamType → Typing → List Test
argument_tests param e = e.tests (member_type param) ++ fault 9 e.from (not (fits_param param e.inferred))

-- what two arguments must meet together, of which the second has this first byte
abbrev pub both_tests : Function → (at from : ℕ) → (first second : Inferred) → List Test
both_tests f at from first second =
    fault 9 from (not (agree f first second)) ++ fault 8 at (not (has_enough_keys f first second))

-- the arguments of a call, as many as the function has parameters
abbrev pub called_tests : Function → (at : ℕ) → ParamTypes → List Typing → List Test
called_tests f at (One param) (e ∷ []) = argument_tests param e
called_tests f at (Two v w) (a ∷ b ∷ []) =
    argument_tests v a ++ argument_tests w b ++ both_tests f at b.from a.inferred b.inferred
called_tests f at _ _ = fault 8 at true

-- a call of a function, if the name is one
abbrev pub call_tests : Option Function → (at : ℕ) → List Typing → List Test
call_tests None at args = fault 7 at true
call_tests (Some f) at args = called_tests f at (param_types f) args

-- the type of a call
abbrev pub called_type : Function → List Typing → Option IvyType
called_type f (e ∷ []) = result_of_one f e.inferred
called_type f (a ∷ b ∷ []) = result_of_two f a.inferred b.inferred
called_type f _ = None

abbrev pub call_type : Option Function → List Typing → Option IvyType
call_type None args = None
call_type (Some f) args = called_type f args

-- ---- names

abbrev pub name_tests : Scope → (name : List ℕ) → (at : ℕ) → List Test
name_tests scope name at =
    fault 6 at (is_unknown scope name) ++ fault 14 at (is_value scope name)

-- ---- all expressions

-- the typing of an expression's form, whose places are not yet known
pub record FormTyping : Type 0 where
  pub inferred : Inferred
  -- its tests at its place, where it may be a list of members of this type, or of any
  pub tests : (at : ℕ) → Option IvyType → List Test

-- from the typing of its parts
abbrev pub form_typing : Scope → Form-F FormTyping Typing → FormTyping
form_typing scope (Form-F.Number n) = record { inferred = number_literal; tests = λ at each. [] }
form_typing scope (Form-F.Truth b) = record { inferred = of_type (Some Boolean); tests = λ at each. [] }
form_typing scope (Form-F.Hex bytes) = record { inferred = of_type (Some String); tests = λ at each. [] }
form_typing scope (Form-F.Quoted bytes) = record { inferred = of_type (Some String); tests = λ at each. [] }
form_typing scope (Form-F.Name name) =
    record { inferred = of_type (name_type scope name); tests = λ at each. name_tests scope name at }
form_typing scope (Form-F.Call name args) = record {
  inferred = of_type (call_type (function_named name) args);
  tests = λ at each. call_tests (function_named name) at args;
}
form_typing scope (Form-F.Members members) =
    record { inferred = list_of (length members); tests = λ at each. list_tests each members }
form_typing scope (Form-F.Unary op arg) =
    record { inferred = unary_result op arg.inferred; tests = λ at each. unary_tests op at arg }
form_typing scope (Form-F.Binary op left right) = record {
  inferred = of_type (binary_type op left.inferred right.inferred);
  tests = λ at each. binary_tests op at left right;
}

-- with its places
abbrev pub placed : Expr-F FormTyping Typing → Typing
placed e = record { from = e.from; at = e.at; inferred = e.form.inferred; tests = e.form.tests e.at }

-- the typing of an expression that stands in this scope
unfoldable pub typing : Scope → Expr → Typing
typing scope = fold-Expr FormTyping Typing (form_typing scope) placed
