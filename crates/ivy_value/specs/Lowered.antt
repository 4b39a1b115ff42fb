-- The walk from a contract's tree to core, or none where it is not well typed. Only contracts of private functions name
-- it.
use Rattle.std.specs.Prelude.{ℕ, List, [], ◌∷◌, ◌++◌, map, Option, Some, None, option_map, option_and_then}
use Rattle.std.specs.Prelude.{if◌then◌else◌, bytes_eq}
use Rattle.ivy_syntax.specs.declared.tree.Op.{Op}
use Rattle.ivy_syntax.specs.declared.tree.Op.TheVariants as op
use Rattle.ivy_syntax.specs.declared.tree.Expr.{Expr, fold-Expr}
use Rattle.ivy_syntax.specs.declared.tree.Form.TheOpen.{Form-F}
use Rattle.ivy_syntax.specs.declared.tree.Req.{Req}
use Rattle.ivy_syntax.specs.declared.tree.Stmt.{Stmt}
use Rattle.ivy_syntax.specs.declared.tree.Stmt.TheVariants as stmt
use Rattle.ivy_syntax.specs.declared.tree.ClauseTree.{ClauseTree}
use Rattle.ivy_check.specs.declared.functions.Function.{Function}
use Rattle.ivy_check.specs.declared.functions.Function.TheVariants as function
use Rattle.ivy_check.specs.Functions.{function_named}
use Rattle.ivy_value.specs.declared.kind.Kind.{Kind}
use Rattle.ivy_value.specs.declared.kind.Kind.TheVariants.{Number, Truth, Bytes}
use Rattle.ivy_value.specs.declared.tree.Place.{Place}
use Rattle.ivy_value.specs.declared.tree.Place.TheVariants.{Held, Given}
use Rattle.ivy_value.specs.declared.tree.UnaryOp.{UnaryOp}
use Rattle.ivy_value.specs.declared.tree.UnaryOp.TheVariants as unaries
use Rattle.ivy_value.specs.declared.tree.BinaryOp.{BinaryOp}
use Rattle.ivy_value.specs.declared.tree.BinaryOp.TheVariants as binaries
use Rattle.ivy_check.specs.declared.parameters.Param.{Param}
use Rattle.ivy_value.specs.declared.naming.Found.{Found}
use Rattle.ivy_check.specs.Parameters.{parameters}
use Rattle.ivy_value.specs.Naming.{param_named}
use Rattle.ivy_value.specs.Value.{kind_of}
use Rattle.ivy_value.specs.Holds.{requirement_of}
use Rattle.ivy_value.specs.Term.{Term}
use Rattle.ivy_value.specs.Term as term
use Rattle.ivy_value.specs.Steps.{Worth, Locked, Required, Step, Verify, Lock, Clause}

-- the parameters of a contract and of one of its clauses
pub record Names : Type 0 where
  pub held : List Param
  pub given : List Param

-- what becomes of an expression: a term and how its value is compared, or of a list the places of its members
pub data Lowered : Type 0 where
  Single : Kind → Term → Lowered
  Places : List Place → Lowered

-- ---- parts

abbrev pub held_at : Found → Lowered
held_at found = Single (kind_of found.kind) (term.Param (Held found.place))

abbrev pub given_at : Found → Lowered
given_at found = Single (kind_of found.kind) (term.Param (Given found.place))

abbrev pub found_in : (in_clause in_contract : Option Found) → Option Lowered
found_in (Some found) other = Some (given_at found)
found_in None other = option_map held_at other

abbrev pub named : Names → List ℕ → Option Lowered
named names name = found_in (param_named name names.given) (param_named name names.held)

-- of an expression that is no list, and of two
abbrev pub of_one : (Kind → Term → Option Lowered) → Option Lowered → Option Lowered
of_one f (Some (Single k a)) = f k a
of_one f _ = None

abbrev pub of_two : (Term → Term → Option Lowered) → Option Lowered → Option Lowered → Option Lowered
of_two f (Some (Single k a)) (Some (Single l b)) = f a b
of_two f _ _ = None

-- ---- operations

-- an operation, and how its value is compared
abbrev pub unary : Option (Kind × UnaryOp) → Option Lowered → Option Lowered
unary operation = of_one (λ k a. option_map (λ o. Single o.0 (term.Unary o.1 a)) operation)

abbrev pub binary : Option (Kind × BinaryOp) → Option Lowered → Option Lowered → Option Lowered
binary operation = of_two (λ a b. option_map (λ o. Single o.0 (term.Binary o.1 a b)) operation)

abbrev pub before_operand : Op → Option (Kind × UnaryOp)
before_operand op.Not = Some (Truth, unaries.Not)
before_operand op.Negate = Some (Number, unaries.Negate)
before_operand _ = None

-- operands are compared as the first one is
abbrev pub is_same : Kind → BinaryOp
is_same Number = binaries.SameNumber
is_same Truth = binaries.SameTruth
is_same Bytes = binaries.SameBytes

abbrev pub is_other : Kind → BinaryOp
is_other Number = binaries.OtherNumber
is_other Truth = binaries.OtherTruth
is_other Bytes = binaries.OtherBytes

abbrev pub between_operands : Op → Kind → Option (Kind × BinaryOp)
between_operands op.Add k = Some (Number, binaries.Add)
between_operands op.Sub k = Some (Number, binaries.Sub)
between_operands op.Mul k = Some (Number, binaries.Mul)
between_operands op.Div k = Some (Number, binaries.Div)
between_operands op.Rem k = Some (Number, binaries.Rem)
between_operands op.ShiftLeft k = Some (Number, binaries.ShiftLeft)
between_operands op.ShiftRight k = Some (Number, binaries.ShiftRight)
between_operands op.Less k = Some (Truth, binaries.Less)
between_operands op.LessEqual k = Some (Truth, binaries.LessEqual)
between_operands op.Greater k = Some (Truth, binaries.Greater)
between_operands op.GreaterEqual k = Some (Truth, binaries.GreaterEqual)
between_operands op.Equal k = Some (Truth, is_same k)
between_operands op.NotEqual k = Some (Truth, is_other k)
between_operands op.And k = Some (Truth, binaries.And)
between_operands op.Or k = Some (Truth, binaries.Or)
between_operands op.Not k = None
between_operands op.Negate k = None

abbrev pub kind_in : Option Lowered → Kind
kind_in (Some (Single k a)) = k
kind_in _ = Bytes

abbrev pub between : Op → Option Lowered → Option Lowered → Option Lowered
between o left right = binary (between_operands o (kind_in left)) left right

-- ---- functions

-- its bytes as they are
abbrev pub as_bytes : Option Lowered → Option Lowered
as_bytes = of_one (λ k a. Some (Single Bytes a))

-- a signature for a key, both of them parameters, and signatures for keys
abbrev pub signed_by : Term → Term → Option Lowered
signed_by (term.Param key) (term.Param sig) = Some (Single Truth (term.Signed key sig))
signed_by _ _ = None

abbrev pub multi_signed : Option Lowered → Option Lowered → Option Lowered
multi_signed (Some (Places keys)) (Some (Places sigs)) = Some (Single Truth (term.MultiSigned keys sigs))
multi_signed _ _ = None

abbrev pub function_of_one : Function → Option (Kind × UnaryOp)
function_of_one function.Abs = Some (Number, unaries.Abs)
function_of_one function.Size = Some (Number, unaries.Size)
function_of_one function.Sha256 = Some (Bytes, unaries.Sha256)
function_of_one function.Before = Some (Truth, unaries.Before)
function_of_one function.After = Some (Truth, unaries.After)
function_of_one _ = None

abbrev pub function_of_two : Function → Option (Kind × BinaryOp)
function_of_two function.Min = Some (Number, binaries.Min)
function_of_two function.Max = Some (Number, binaries.Max)
function_of_two function.Concat = Some (Bytes, binaries.Concat)
function_of_two function.ConcatPush = Some (Bytes, binaries.ConcatPush)
function_of_two _ = None

abbrev pub called_on_one : Function → Option Lowered → Option Lowered
called_on_one function.BytesOf = as_bytes
called_on_one f = unary (function_of_one f)

abbrev pub called_on_two : Function → Option Lowered → Option Lowered → Option Lowered
called_on_two function.CheckTxSig = of_two signed_by
called_on_two function.CheckTxMultiSig = multi_signed
called_on_two f = binary (function_of_two f)

abbrev pub called : Option Function → List (Option Lowered) → Option Lowered
called (Some f) (a ∷ []) = called_on_one f a
called (Some f) (a ∷ b ∷ []) = called_on_two f a b
called _ _ = None

-- ---- lists

-- all that each gives, one after the other, where each gives something
abbrev pub followed_by : {A : Type 0} → Option (List A) → Option (List A) → Option (List A)
followed_by None rest = None
followed_by (Some items) rest = option_map (λ more. items ++ more) rest

abbrev pub gathered : {A : Type 0} → List (Option (List A)) → Option (List A)
gathered [] = Some []
gathered (items ∷ rest) = followed_by items (gathered rest)

-- the place of a member that is a parameter
abbrev pub place_in : Option Lowered → Option (List Place)
place_in (Some (Single k (term.Param place))) = Some (place ∷ [])
place_in _ = None

-- ---- expressions

abbrev pub form_lowered : Names → Form-F (Option Lowered) (Option Lowered) → Option Lowered
form_lowered names (Form-F.Number n) = Some (Single Number (term.Number n))
form_lowered names (Form-F.Truth b) = Some (Single Truth (term.Truth b))
form_lowered names (Form-F.Hex bytes) = Some (Single Bytes (term.Bytes bytes))
form_lowered names (Form-F.Quoted bytes) = Some (Single Bytes (term.Bytes bytes))
form_lowered names (Form-F.Name name) = named names name
form_lowered names (Form-F.Call name args) = called (function_named name) args
form_lowered names (Form-F.Members members) = option_map Places (gathered (map place_in members))
form_lowered names (Form-F.Unary o arg) = unary (before_operand o) arg
form_lowered names (Form-F.Binary o left right) = between o left right

unfoldable pub lowered : Names → Expr → Option Lowered
lowered names = fold-Expr (Option Lowered) (Option Lowered) (form_lowered names) (λ e. e.form)

-- the term of an expression that is no list
abbrev pub single : Option Lowered → Option Term
single (Some (Single k a)) = Some a
single _ = None

abbrev pub lowered_term : Names → Expr → Option Term
lowered_term names e = single (lowered names e)

-- ---- statements

abbrev pub required : Option Term → Option Term → Option Worth
required (Some amount) (Some asset) = Some (Required amount asset)
required _ _ = None

abbrev pub lowered_req : Names → Req → Option Worth
lowered_req names req = required (lowered_term names req.amount) (lowered_term names req.asset)

-- a value of a clause of these requirements, where this is the name of the contract's value
abbrev pub lowered_worth : Names → (value : List ℕ) → List Req → (name : List ℕ) → Option Worth
lowered_worth names value reqs name =
    if bytes_eq value name then Some Locked else option_and_then (lowered_req names) (requirement_of name reqs)

abbrev pub locked : Option Worth → Option Term → Option Step
locked (Some worth) (Some program) = Some (Lock worth program)
locked _ _ = None

-- a statement is a step, but an unlock is none
abbrev pub one_step : Option Step → Option (List Step)
one_step = option_map (λ step. step ∷ [])

abbrev pub lowered_stmt : Names → (value : List ℕ) → List Req → Stmt → Option (List Step)
lowered_stmt names value reqs (stmt.Verify at e) = one_step (option_map Verify (lowered_term names e))
lowered_stmt names value reqs (stmt.Lock at v e) =
    one_step (locked (lowered_worth names value reqs v.name) (lowered_term names e))
lowered_stmt names value reqs (stmt.Unlock at v) = Some []

abbrev pub lowered_stmts : Names → (value : List ℕ) → List Req → List Stmt → Option (List Step)
lowered_stmts names value reqs stmts = gathered (map (lowered_stmt names value reqs) stmts)

-- ---- clauses and contracts

unfoldable pub lowered_clause : (held : List Param) → (value : List ℕ) → ClauseTree → Option Clause
lowered_clause held value clause =
    option_map (λ steps. record { given = parameters clause.params; steps = steps })
    (lowered_stmts (record { held = held; given = parameters clause.params }) value clause.reqs clause.stmts)

abbrev pub one_clause : (held : List Param) → (value : List ℕ) → ClauseTree → Option (List Clause)
one_clause held value clause = option_map (λ c. c ∷ []) (lowered_clause held value clause)

abbrev pub lowered_clauses : (held : List Param) → (value : List ℕ) → List ClauseTree → Option (List Clause)
lowered_clauses held value clauses = gathered (map (one_clause held value) clauses)
