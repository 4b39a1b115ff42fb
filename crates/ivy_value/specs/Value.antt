-- The value of an expression of a clause, form by form over the text's tree, or none where it is undefined. Public
-- statements name it.
use Rattle.std.specs.Prelude.{ℕ, List, [], ◌∷◌, Option, Some, None, option_map, option_and_then, slice_get, pos}
use Rattle.ivy_syntax.specs.declared.tree.Op.{Op}
use Rattle.ivy_syntax.specs.declared.tree.Op.TheVariants as op
use Rattle.ivy_syntax.specs.declared.tree.Expr.{Expr, fold-Expr}
use Rattle.ivy_syntax.specs.declared.tree.Form.TheOpen.{Form-F}
use Rattle.ivy_check.specs.declared.types.IvyType.{IvyType}
use Rattle.ivy_check.specs.declared.types.IvyType.TheVariants as type
use Rattle.ivy_check.specs.declared.functions.Function.{Function}
use Rattle.ivy_check.specs.declared.functions.Function.TheVariants as function
use Rattle.ivy_check.specs.Functions.{function_named}
use Rattle.ivy_check.specs.Scope.{Scope}
use Rattle.vm_num.specs.Item.{Item, num_bytes}
use Rattle.vm_ops.specs.Results.{truth_item}
use Rattle.ivy_value.specs.declared.kind.Kind.{Kind}
use Rattle.ivy_value.specs.declared.kind.Kind.TheVariants.{Number, Truth, Bytes}
use Rattle.ivy_value.specs.Items.{negative, absolute, sum, difference, product, quotient, remainder, left_shift}
use Rattle.ivy_value.specs.Items.{right_shift, least, greatest, is_less, is_at_most, is_greater, is_at_least}
use Rattle.ivy_value.specs.Items.{is_same_number, is_other_number, is_same_truth, is_other_truth, are_same_bytes}
use Rattle.ivy_value.specs.Items.{are_other_bytes, opposite, both, either, size, hash, unchanged, joined, joined_push}
use Rattle.ivy_value.specs.Items.{Spending, is_before, is_after, is_signed, are_signed}
use Rattle.ivy_value.specs.declared.naming.Found.{Found}
use Rattle.ivy_check.specs.Parameters.{parameters}
use Rattle.ivy_value.specs.Naming.{param_named}

-- ---- values

-- how two values of a type are compared: as numbers, as truth values or byte by byte
abbrev pub kind_of : IvyType → Kind
kind_of type.Amount = Number
kind_of type.Integer = Number
kind_of type.Time = Number
kind_of type.Boolean = Truth
kind_of _ = Bytes

-- one item, and how it is compared, or those of a list
pub data Value : Type 0 where
  One : (kind : Kind) → (item : Item) → Value
  Several : (items : List Item) → Value

-- what a function gives of one item, and of two, as a value of this kind; lists have none
abbrev pub of_one : Kind → (Item → Option Item) → Option Value → Option Value
of_one kind f (Some (One k a)) = option_map (One kind) (f a)
of_one kind f _ = None

abbrev pub of_two : Kind → (Item → Item → Option Item) → Option Value → Option Value → Option Value
of_two kind f (Some (One k a)) (Some (One l b)) = option_map (One kind) (f a b)
of_two kind f _ _ = None

-- ---- names

-- the argument for a parameter that was found, of the parameter's type
abbrev pub argument : List Item → Found → Option Value
argument arguments found = option_map (One (kind_of found.kind)) (slice_get arguments found.place)

-- a name's value: the argument, as it is, for the clause's parameter of this name, or else for the contract's
abbrev pub named_in : Spending → (in_clause in_contract : Option Found) → Option Value
named_in s (Some found) other = argument s.given found
named_in s None other = option_and_then (argument s.held) other

abbrev pub named : Scope → Spending → List ℕ → Option Value
named scope s name =
    named_in s (param_named name (parameters scope.clause.params)) (param_named name (parameters scope.contract.params))

-- ---- operators

-- operands that are compared as the first one is
abbrev pub is_same : Kind → Item → Item → Option Item
is_same Number = is_same_number
is_same Truth = is_same_truth
is_same Bytes = are_same_bytes

abbrev pub is_other : Kind → Item → Item → Option Item
is_other Number = is_other_number
is_other Truth = is_other_truth
is_other Bytes = are_other_bytes

abbrev pub compared : (Kind → Item → Item → Option Item) → Option Value → Option Value → Option Value
compared f (Some (One kind a)) right = of_two Truth (f kind) (Some (One kind a)) right
compared f _ right = None

-- `!` and `-` before an operand
abbrev pub operated : Op → Option Value → Option Value
operated op.Not = of_one Truth opposite
operated op.Negate = of_one Number negative
operated _ = λ arg. None

-- an operator between its operands
abbrev pub between : Op → Option Value → Option Value → Option Value
between op.Add = of_two Number sum
between op.Sub = of_two Number difference
between op.Mul = of_two Number product
between op.Div = of_two Number quotient
between op.Rem = of_two Number remainder
between op.ShiftLeft = of_two Number left_shift
between op.ShiftRight = of_two Number right_shift
between op.Less = of_two Truth is_less
between op.LessEqual = of_two Truth is_at_most
between op.Greater = of_two Truth is_greater
between op.GreaterEqual = of_two Truth is_at_least
between op.Equal = compared is_same
between op.NotEqual = compared is_other
between op.And = of_two Truth both
between op.Or = of_two Truth either
between op.Not = λ left right. None
between op.Negate = λ left right. None

-- ---- functions

-- of two lists
abbrev pub of_lists : (List Item → List Item → Option Item) → Option Value → Option Value → Option Value
of_lists f (Some (Several keys)) (Some (Several sigs)) = option_map (One Truth) (f keys sigs)
of_lists f _ _ = None

abbrev pub called_on_one : Spending → Function → Option Value → Option Value
called_on_one s function.Abs = of_one Number absolute
called_on_one s function.Size = of_one Number size
called_on_one s function.BytesOf = of_one Bytes unchanged
called_on_one s function.Sha256 = of_one Bytes hash
called_on_one s function.Before = of_one Truth (is_before s.context)
called_on_one s function.After = of_one Truth (is_after s.context)
called_on_one s _ = λ arg. None

abbrev pub called_on_two : Spending → Function → Option Value → Option Value → Option Value
called_on_two s function.Min = of_two Number least
called_on_two s function.Max = of_two Number greatest
called_on_two s function.Concat = of_two Bytes joined
called_on_two s function.ConcatPush = of_two Bytes joined_push
called_on_two s function.CheckTxSig = of_two Truth (is_signed s)
called_on_two s function.CheckTxMultiSig = of_lists (are_signed s)
called_on_two s _ = λ first second. None

-- a call of a function, if the name is one
abbrev pub called : Spending → Option Function → List (Option Value) → Option Value
called s (Some f) (a ∷ []) = called_on_one s f a
called s (Some f) (a ∷ b ∷ []) = called_on_two s f a b
called s _ _ = None

-- ---- lists

-- the items of members, where all have one
abbrev pub one_more : Option Value → Option (List Item) → Option (List Item)
one_more (Some (One kind item)) (Some items) = Some (item ∷ items)
one_more _ _ = None

abbrev pub items_of : List (Option Value) → Option (List Item)
items_of [] = Some []
items_of (member ∷ members) = one_more member (items_of members)

-- ---- expressions

-- from the values of its parts
abbrev pub form_value : Scope → Spending → Form-F (Option Value) (Option Value) → Option Value
form_value scope s (Form-F.Number n) = Some (One Number (num_bytes (pos n)))
form_value scope s (Form-F.Truth b) = Some (One Truth (truth_item b))
form_value scope s (Form-F.Hex bytes) = Some (One Bytes bytes)
form_value scope s (Form-F.Quoted bytes) = Some (One Bytes bytes)
form_value scope s (Form-F.Name name) = named scope s name
form_value scope s (Form-F.Call name args) = called s (function_named name) args
form_value scope s (Form-F.Members members) = option_map Several (items_of members)
form_value scope s (Form-F.Unary op arg) = operated op arg
form_value scope s (Form-F.Binary op left right) = between op left right

-- the value of an expression; the places in the text do not matter
unfoldable pub value : Scope → Spending → Expr → Option Value
value scope s = fold-Expr (Option Value) (Option Value) (form_value scope s) (λ e. e.form)

-- the item of an expression that is no list
abbrev pub item : Option Value → Option Item
item (Some (One kind a)) = Some a
item _ = None

abbrev pub item_value : Scope → Spending → Expr → Option Item
item_value scope s e = item (value scope s e)
