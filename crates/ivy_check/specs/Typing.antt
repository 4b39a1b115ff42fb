-- The types of expressions, by the language's table: a rule a constructor. Public statements name it.
use Rattle.std.specs.Prelude.{◌≡◌, ◌≤◌, ℕ, Bool, true, false, List, [], ◌∷◌, map, length, codes, bytes_eq}
use Rattle.std.specs.List.{list_any, flat_map, AllByRecursion}
use Rattle.ivy_syntax.specs.declared.tree.Op.{Op}
use Rattle.ivy_syntax.specs.declared.tree.Op.TheVariants as op
use Rattle.ivy_syntax.specs.declared.tree.Expr.{Expr}
use Rattle.ivy_syntax.specs.declared.tree.Form.TheVariants as form
use Rattle.ivy_syntax.specs.declared.tree.Group.{Group}
use Rattle.ivy_check.specs.declared.types.IvyType.{IvyType}
use Rattle.ivy_check.specs.declared.types.IvyType.TheVariants.{Amount, Asset, Boolean, Hash, Integer, Program}
use Rattle.ivy_check.specs.declared.types.IvyType.TheVariants.{PublicKey, Signature, String, Time}
use Rattle.ivy_check.specs.Scope.{Scope}

-- ---- types

-- the name names this type
pub data NamesType : List ℕ → IvyType → Type 0 where
  named_amount : NamesType (codes "Amount") Amount
  named_asset : NamesType (codes "Asset") Asset
  named_boolean : NamesType (codes "Boolean") Boolean
  named_hash : NamesType (codes "Hash") Hash
  named_integer : NamesType (codes "Integer") Integer
  named_program : NamesType (codes "Program") Program
  named_public_key : NamesType (codes "PublicKey") PublicKey
  named_signature : NamesType (codes "Signature") Signature
  named_string : NamesType (codes "String") String
  named_time : NamesType (codes "Time") Time

-- Amount, Integer and Time are numeric
pub data IsNumeric : IvyType → Type 0 where
  amount : IsNumeric Amount
  integer : IsNumeric Integer
  time : IsNumeric Time

-- the values of these types are strings of bytes: neither numeric nor Boolean
pub data IsOfBytes : IvyType → Type 0 where
  asset : IsOfBytes Asset
  hash : IsOfBytes Hash
  program : IsOfBytes Program
  public_key : IsOfBytes PublicKey
  signature : IsOfBytes Signature
  string : IsOfBytes String

-- ---- names

-- the name is one of these
abbrev pub is_one_of : List (List ℕ) → List ℕ → Bool
is_one_of names name = list_any (λ other. bytes_eq other name) names

-- the names of a group of parameters, and of several
abbrev pub group_names : Group → List (List ℕ)
group_names group = map (λ word. word.name) group.names

abbrev pub parameter_names : List Group → List (List ℕ)
parameter_names = flat_map group_names

-- the names of a clause's values: the locked one, and the required ones
abbrev pub value_names : Scope → List (List ℕ)
value_names scope = scope.contract.value.name ∷ map (λ req. req.name.name) scope.clause.reqs

-- the types of these groups exist
abbrev pub TypesExist : List Group → Type 0
TypesExist = AllByRecursion (λ group. (type : IvyType) × NamesType group.kind.name type)

-- and of all parameters that an expression may name
pub record AllTypesExist (scope : Scope) : Type 0 where
  pub of_clause : TypesExist scope.clause.params
  pub of_contract : TypesExist scope.contract.params

-- these groups declare a parameter of this name and type
pub data Declares : List Group → List ℕ → IvyType → Type 0 where
  here : {group : Group} {groups : List Group} {name : List ℕ} {type : IvyType}
      → is_one_of (group_names group) name ≡ true
      → NamesType group.kind.name type
      → Declares (group ∷ groups) name type
  later : {group : Group} {groups : List Group} {name : List ℕ} {type : IvyType}
      → is_one_of (group_names group) name ≡ false
      → Declares groups name type
      → Declares (group ∷ groups) name type

-- a name that stands as an expression: no value, but a parameter of the clause, or else of the contract
pub data IsParameter (scope : Scope) (name : List ℕ) (type : IvyType) : Type 0 where
  of_clause : is_one_of (value_names scope) name ≡ false
      → Declares scope.clause.params name type
      → IsParameter scope name type
  of_contract : is_one_of (value_names scope) name ≡ false
      → is_one_of (parameter_names scope.clause.params) name ≡ false
      → Declares scope.contract.params name type
      → IsParameter scope name type

-- ---- operators

-- `+ - * / % << >>`
pub data IsArithmetic : Op → Type 0 where
  add : IsArithmetic op.Add
  sub : IsArithmetic op.Sub
  mul : IsArithmetic op.Mul
  div : IsArithmetic op.Div
  rem : IsArithmetic op.Rem
  shift_left : IsArithmetic op.ShiftLeft
  shift_right : IsArithmetic op.ShiftRight

-- `< <= > >=`
pub data IsOrder : Op → Type 0 where
  less : IsOrder op.Less
  less_equal : IsOrder op.LessEqual
  greater : IsOrder op.Greater
  greater_equal : IsOrder op.GreaterEqual

-- `== !=`
pub data IsEquality : Op → Type 0 where
  equal : IsEquality op.Equal
  not_equal : IsEquality op.NotEqual

-- `&& ||`
pub data IsLogical : Op → Type 0 where
  and : IsLogical op.And
  or : IsLogical op.Or

-- ---- expressions

-- The expression is a number, also under unary minuses.
pub data IsNumberLiteral : Expr → Type 0 where
  a_number : {e : Expr} (n : ℕ)
      → e.form ≡ form.Number n
      → IsNumberLiteral e
  after_minus : {e : Expr} (arg : Expr)
      → e.form ≡ form.Unary op.Negate arg
      → IsNumberLiteral arg
      → IsNumberLiteral e

-- a call of the function of this name with these arguments
abbrev pub IsCall : Expr → (name : List ℕ) → (args : List Expr) → Type 0
IsCall e name args = e.form ≡ form.Call name args

mutual
  -- The expression has this type by itself, so a number literal is an Integer.
  pub data HasType (scope : Scope) : Expr → IvyType → Type 0 where
    -- literals and names
    number : {e : Expr} (n : ℕ)
        → e.form ≡ form.Number n
        → HasType scope e Integer
    truth : {e : Expr} (b : Bool)
        → e.form ≡ form.Truth b
        → HasType scope e Boolean
    hex : {e : Expr} (bytes : List ℕ)
        → e.form ≡ form.Hex bytes
        → HasType scope e String
    text : {e : Expr} (bytes : List ℕ)
        → e.form ≡ form.Quoted bytes
        → HasType scope e String
    parameter : {e : Expr} {type : IvyType} (name : List ℕ)
        → e.form ≡ form.Name name
        → IsParameter scope name type
        → HasType scope e type
    -- operations
    minus : {e : Expr} {type : IvyType} (arg : Expr)
        → e.form ≡ form.Unary op.Negate arg
        → HasType scope arg type
        → IsNumeric type
        → HasType scope e type
    negation : {e : Expr} (arg : Expr)
        → e.form ≡ form.Unary op.Not arg
        → HasType scope arg Boolean
        → HasType scope e Boolean
    arithmetic : {e : Expr} {type : IvyType} (o : Op) (left right : Expr)
        → e.form ≡ form.Binary o left right
        → IsArithmetic o
        → HaveOneType scope left right type
        → IsNumeric type
        → HasType scope e type
    order : {e : Expr} (o : Op) (left right : Expr) (type : IvyType)
        → e.form ≡ form.Binary o left right
        → IsOrder o
        → HaveOneType scope left right type
        → IsNumeric type
        → HasType scope e Boolean
    equality : {e : Expr} (o : Op) (left right : Expr) (type : IvyType)
        → e.form ≡ form.Binary o left right
        → IsEquality o
        → HaveOneType scope left right type
        → HasType scope e Boolean
    logic : {e : Expr} (o : Op) (left right : Expr)
        → e.form ≡ form.Binary o left right
        → IsLogical o
        → HasType scope left Boolean
        → HasType scope right Boolean
        → HasType scope e Boolean
    -- functions
    abs : {e : Expr} {type : IvyType} (n : Expr)
        → IsCall e (codes "abs") (n ∷ [])
        → HasType scope n type
        → IsNumeric type
        → HasType scope e type
    min : {e : Expr} {type : IvyType} (m n : Expr)
        → IsCall e (codes "min") (m ∷ n ∷ [])
        → HaveOneType scope m n type
        → IsNumeric type
        → HasType scope e type
    max : {e : Expr} {type : IvyType} (m n : Expr)
        → IsCall e (codes "max") (m ∷ n ∷ [])
        → HaveOneType scope m n type
        → IsNumeric type
        → HasType scope e type
    size : {e : Expr} (b : Expr) (type : IvyType)
        → IsCall e (codes "size") (b ∷ [])
        → HasType scope b type
        → IsOfBytes type
        → HasType scope e Integer
    -- It takes what has a type, so anything but a list.
    bytes : {e : Expr} (x : Expr) (type : IvyType)
        → IsCall e (codes "bytes") (x ∷ [])
        → HasType scope x type
        → HasType scope e String
    sha256 : {e : Expr} (b : Expr) (type : IvyType)
        → IsCall e (codes "sha256") (b ∷ [])
        → HasType scope b type
        → IsOfBytes type
        → HasType scope e Hash
    concat : {e : Expr} (s t : Expr)
        → IsCall e (codes "concat") (s ∷ t ∷ [])
        → TakesType scope s String
        → TakesType scope t String
        → HasType scope e String
    concatpush : {e : Expr} (s t : Expr)
        → IsCall e (codes "concatpush") (s ∷ t ∷ [])
        → TakesType scope s String
        → TakesType scope t String
        → HasType scope e String
    check_tx_sig : {e : Expr} (key sig : Expr)
        → IsCall e (codes "checkTxSig") (key ∷ sig ∷ [])
        → TakesType scope key PublicKey
        → TakesType scope sig Signature
        → HasType scope e Boolean
    -- Lists stand only here. There are at most as many signatures as keys.
    check_tx_multi_sig : {e : Expr} (key_list sig_list : Expr) (keys sigs : List Expr)
        → IsCall e (codes "checkTxMultiSig") (key_list ∷ sig_list ∷ [])
        → key_list.form ≡ form.Members keys
        → sig_list.form ≡ form.Members sigs
        → AllHaveType scope PublicKey keys
        → AllHaveType scope Signature sigs
        → length sigs ≤ length keys
        → HasType scope e Boolean
    before : {e : Expr} (t : Expr)
        → IsCall e (codes "before") (t ∷ [])
        → TakesType scope t Time
        → HasType scope e Boolean
    after : {e : Expr} (t : Expr)
        → IsCall e (codes "after") (t ∷ [])
        → TakesType scope t Time
        → HasType scope e Boolean

  -- Two operands of an operation, of `min` or of `max` have one type, this one. A number literal takes the type of the
  -- other where that is numeric and no such literal.
  pub data HaveOneType (scope : Scope) : Expr → Expr → IvyType → Type 0 where
    both : {left right : Expr} {type : IvyType}
        → HasType scope left type
        → HasType scope right type
        → HaveOneType scope left right type
    left_takes : {left right : Expr} {type : IvyType}
        → IsNumberLiteral left
        → (IsNumberLiteral right → ⊥)
        → HasType scope right type
        → IsNumeric type
        → HaveOneType scope left right type
    right_takes : {left right : Expr} {type : IvyType}
        → IsNumberLiteral right
        → (IsNumberLiteral left → ⊥)
        → HasType scope left type
        → IsNumeric type
        → HaveOneType scope left right type

  -- Where one type is asked for, by a function or by `requires`, an expression of this type may stand, and a number
  -- literal where it is numeric.
  pub data TakesType (scope : Scope) : Expr → IvyType → Type 0 where
    has : {e : Expr} {type : IvyType}
        → HasType scope e type
        → TakesType scope e type
    takes : {e : Expr} {type : IvyType}
        → IsNumberLiteral e
        → IsNumeric type
        → TakesType scope e type

  -- the members of a list have this type
  pub data AllHaveType (scope : Scope) : IvyType → List Expr → Type 0 where
    none : {type : IvyType}
        → AllHaveType scope type []
    one_more : {type : IvyType} {e : Expr} {es : List Expr}
        → HasType scope e type
        → AllHaveType scope type es
        → AllHaveType scope type (e ∷ es)
