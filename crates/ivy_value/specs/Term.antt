-- The core of an expression: a small tree without lists of expressions, in which each name is a place among the
-- arguments, and its value. Public statements name it.
use Rattle.std.specs.Prelude.{ℕ, Bool, List, [], ◌∷◌, Option, Some, None, option_and_then, slice_get, pos}
use Rattle.vm_num.specs.Item.{Item, num_bytes}
use Rattle.vm_ops.specs.Results.{truth_item}
use Rattle.vm_run.specs.declared.transaction.TxContext.{TxContext}
use Rattle.ivy_value.specs.declared.tree.Core.{Core}
use Rattle.ivy_value.specs.declared.tree.Core.TheVariants as core
use Rattle.ivy_value.specs.declared.tree.Place.{Place}
use Rattle.ivy_value.specs.declared.tree.Place.TheVariants.{Held, Given}
use Rattle.ivy_value.specs.declared.tree.UnaryOp.{UnaryOp}
use Rattle.ivy_value.specs.declared.tree.UnaryOp.TheVariants as unary
use Rattle.ivy_value.specs.declared.tree.BinaryOp.{BinaryOp}
use Rattle.ivy_value.specs.declared.tree.BinaryOp.TheVariants as binary
use Rattle.ivy_value.specs.Items.{negative, absolute, sum, difference, product, quotient, remainder, left_shift}
use Rattle.ivy_value.specs.Items.{right_shift, least, greatest, is_less, is_at_most, is_greater, is_at_least}
use Rattle.ivy_value.specs.Items.{is_same_number, is_other_number, is_same_truth, is_other_truth, are_same_bytes}
use Rattle.ivy_value.specs.Items.{are_other_bytes, opposite, both, either, size, hash, joined, joined_push}
use Rattle.ivy_value.specs.Items.{Spending, is_before, is_after, is_signed, are_signed}

-- ---- the tree

pub data Term : Type 0 where
  -- a parameter
  Param : Place → Term
  -- literals
  Bytes : List ℕ → Term
  Number : ℕ → Term
  Truth : Bool → Term
  -- one operand, and two, the one that stands first in the text first
  Unary : UnaryOp → Term → Term
  Binary : BinaryOp → Term → Term → Term
  -- the signature is good for the key; the signatures are for some of the keys, in their order
  Signed : (key sig : Place) → Term
  MultiSigned : (keys sigs : List Place) → Term

-- the tree of the code's type
abbrev pub term_of : Core → Term
term_of (core.Param place) = Param place
term_of (core.Bytes bytes) = Bytes bytes
term_of (core.Number n) = Number n
term_of (core.Truth b) = Truth b
term_of (core.Unary' op p arg) = Unary op (term_of arg)
term_of (core.Binary' op p left q right) = Binary op (term_of left) (term_of right)
term_of (core.Signed key sig) = Signed key sig
term_of (core.MultiSigned keys sigs) = MultiSigned keys sigs

-- ---- its value

-- an argument; below, arguments, where all are there
abbrev pub argument_at : (held given : List Item) → Place → Option Item
argument_at held given (Held i) = slice_get held i
argument_at held given (Given i) = slice_get given i

abbrev pub one_more : Option Item → Option (List Item) → Option (List Item)
one_more (Some item) (Some items) = Some (item ∷ items)
one_more _ _ = None

abbrev pub arguments_at : (held given : List Item) → List Place → Option (List Item)
arguments_at held given [] = Some []
arguments_at held given (place ∷ places) = one_more (argument_at held given place) (arguments_at held given places)

abbrev pub item_at : Spending → Place → Option Item
item_at s = argument_at s.held s.given

abbrev pub items_at : Spending → List Place → Option (List Item)
items_at s = arguments_at s.held s.given

abbrev pub unary_item : TxContext → UnaryOp → Item → Option Item
unary_item context unary.Negate = negative
unary_item context unary.Abs = absolute
unary_item context unary.Not = opposite
unary_item context unary.Size = size
unary_item context unary.Sha256 = hash
unary_item context unary.Before = is_before context
unary_item context unary.After = is_after context

abbrev pub binary_item : BinaryOp → Item → Item → Option Item
binary_item binary.Add = sum
binary_item binary.Sub = difference
binary_item binary.Mul = product
binary_item binary.Div = quotient
binary_item binary.Rem = remainder
binary_item binary.ShiftLeft = left_shift
binary_item binary.ShiftRight = right_shift
binary_item binary.Min = least
binary_item binary.Max = greatest
binary_item binary.Less = is_less
binary_item binary.LessEqual = is_at_most
binary_item binary.Greater = is_greater
binary_item binary.GreaterEqual = is_at_least
binary_item binary.SameNumber = is_same_number
binary_item binary.OtherNumber = is_other_number
binary_item binary.SameTruth = is_same_truth
binary_item binary.OtherTruth = is_other_truth
binary_item binary.SameBytes = are_same_bytes
binary_item binary.OtherBytes = are_other_bytes
binary_item binary.And = both
binary_item binary.Or = either
binary_item binary.Concat = joined
binary_item binary.ConcatPush = joined_push

abbrev pub of_two : (Item → Item → Option Item) → Option Item → Option Item → Option Item
of_two f (Some a) (Some b) = f a b
of_two f _ _ = None

abbrev pub of_lists : (List Item → List Item → Option Item) → Option (List Item) → Option (List Item) → Option Item
of_lists f (Some keys) (Some sigs) = f keys sigs
of_lists f _ _ = None

abbrev pub item_of : Spending → Term → Option Item
item_of s (Param place) = item_at s place
item_of s (Bytes bytes) = Some bytes
item_of s (Number n) = Some (num_bytes (pos n))
item_of s (Truth b) = Some (truth_item b)
item_of s (Unary op arg) = option_and_then (unary_item s.context op) (item_of s arg)
item_of s (Binary op left right) = of_two (binary_item op) (item_of s left) (item_of s right)
item_of s (Signed key sig) = of_two (is_signed s) (item_at s key) (item_at s sig)
item_of s (MultiSigned keys sigs) = of_lists (are_signed s) (items_at s keys) (items_at s sigs)
