-- A typed expression has a core, and core has its value.
use Rattle.std.proofs.Common.{◌≡◌, ℕ, Bool, true, false, List, [], ◌∷◌, map, Option, Some, None, option_map, refl, ap, sym, ◌∙◌, codes}
use Rattle.std.specs.Prelude.{option_and_then}
use Rattle.ivy_syntax.specs.declared.tree.Op.{Op}
use Rattle.ivy_syntax.specs.declared.tree.Op.TheVariants as op
use Rattle.ivy_syntax.specs.declared.tree.Expr.{Expr}
use Rattle.ivy_syntax.specs.declared.tree.Form.TheVariants as forms
use Rattle.ivy_check.specs.declared.types.IvyType.{IvyType}
use Rattle.ivy_check.specs.declared.types.IvyType.TheVariants.{Boolean, Hash, Integer, PublicKey, Signature, String}
use Rattle.ivy_check.specs.declared.functions.Function.{Function}
use Rattle.ivy_check.specs.declared.functions.Function.TheVariants as f
use Rattle.ivy_check.specs.Functions.{function_named}
use Rattle.ivy_check.specs.Scope.{Scope}
use Rattle.ivy_check.specs.Typing as rule
use Rattle.ivy_check.specs.Typing.{IsNumeric, IsArithmetic, IsOrder, IsEquality, IsLogical, IsNumberLiteral}
use Rattle.ivy_check.specs.Typing.{HasType, HaveOneType, TakesType, AllHaveType, IsParameter, Declares}
use Rattle.vm_num.specs.Item.{Item}
use Rattle.ivy_value.specs.declared.kind.Kind.{Kind}
use Rattle.ivy_value.specs.declared.kind.Kind.TheVariants.{Number, Truth, Bytes}
use Rattle.ivy_value.specs.declared.naming.Found.{Found}
use Rattle.ivy_value.specs.declared.tree.Place.{Place}
use Rattle.ivy_value.specs.declared.tree.Place.TheVariants.{Held, Given}
use Rattle.ivy_value.specs.declared.tree.UnaryOp.{UnaryOp}
use Rattle.ivy_value.specs.declared.tree.UnaryOp.TheVariants as unaries
use Rattle.ivy_value.specs.declared.tree.BinaryOp.{BinaryOp}
use Rattle.ivy_value.specs.declared.tree.BinaryOp.TheVariants as binaries
use Rattle.ivy_value.specs.Items.{Spending, is_signed, are_signed}
use Rattle.ivy_check.specs.Parameters.{parameters}
use Rattle.ivy_value.specs.Naming.{param_named}
use Rattle.ivy_value.specs.Value.{kind_of, Value, One, Several, form_value, value, named, of_one, of_two, of_lists, compared, items_of}
use Rattle.ivy_value.specs.Value as values
use Rattle.ivy_value.specs.Term.{Term, item_at, items_at, unary_item, binary_item, item_of}
use Rattle.ivy_value.specs.Term as term
use Rattle.ivy_value.specs.Lowered.{Names, Lowered, Single, Places, unary, binary, gathered, place_in, form_lowered, lowered}
use Rattle.ivy_value.specs.Lowered.{between_operands, kind_in, called_on_one, called_on_two}
use Rattle.ivy_value.specs.Lowered as low
use Rattle.ivy_value.proofs.Folds as folds
use Rattle.ivy_value.proofs.Found.{declared_found, not_declared}

-- ---- values of one item and of two

one_value : (kind l : Kind) (g : Item → Option Item) (o : Option Item)
    → of_one kind g (option_map (One l) o) ≡ option_map (One kind) (option_and_then g o)
one_value kind l g None = refl
one_value kind l g (Some a) = refl

two_value : (kind l m : Kind) (g : Item → Item → Option Item) (o p : Option Item)
    → of_two kind g (option_map (One l) o) (option_map (One m) p) ≡ option_map (One kind) (term.of_two g o p)
two_value kind l m g None p = refl
two_value kind l m g (Some a) None = refl
two_value kind l m g (Some a) (Some b) = refl

compared_value : (g : Kind → Item → Item → Option Item) (l : Kind) (o : Option Item) (right : Option Value)
    → compared g (option_map (One l) o) right ≡ of_two Truth (g l) (option_map (One l) o) right
compared_value g l None right = refl
compared_value g l (Some a) right = refl

-- of no list
same_bytes : (l : Kind) (o : Option Item) → of_one Bytes (λ a. Some a) (option_map (One l) o) ≡ option_map (One Bytes) o
same_bytes l None = refl
same_bytes l (Some a) = refl

list_value : (g : List Item → List Item → Option Item) (o p : Option (List Item))
    → of_lists g (option_map Several o) (option_map Several p) ≡ option_map (One Truth) (term.of_lists g o p)
list_value g None p = refl
list_value g (Some a) None = refl
list_value g (Some a) (Some b) = refl

numeric_kind : {type : IvyType} → IsNumeric type → kind_of type ≡ Number
numeric_kind rule.amount = refl
numeric_kind rule.integer = refl
numeric_kind rule.time = refl

-- the types of which only a parameter is
abbrev is_key : IvyType → Bool
is_key PublicKey = true
is_key Signature = true
is_key _ = false

numeric_no_key : {type : IvyType} → IsNumeric type → is_key type ≡ false
numeric_no_key rule.amount = refl
numeric_no_key rule.integer = refl
numeric_no_key rule.time = refl

not_key : (type : IvyType) → is_key type ≡ true → is_key type ≡ false → ⊥
not_key type h k = cc

key_kind : (type : IvyType) → is_key type ≡ true → kind_of type ≡ Bytes
key_kind PublicKey h = refl
key_kind Signature h = refl
key_kind _ h = absurd cc

one_place : (s : Spending) (place : Place) (places : List Place)
    → values.one_more (option_map (One Bytes) (item_at s place)) (items_at s places) ≡ items_at s (place ∷ places)
one_place s place places = one_item (item_at s place) (items_at s places)
  where
    one_item : (o : Option Item) (p : Option (List Item)) → values.one_more (option_map (One Bytes) o) p ≡ term.one_more o p
    one_item None p = refl
    one_item (Some a) None = refl
    one_item (Some a) (Some b) = refl

module _ (scope : Scope) where
  abbrev pub names : Names
  names = record { held = parameters scope.contract.params; given = parameters scope.clause.params }

  -- the expression has a core, whose value is its own and is compared so
  pub record Agrees (e : Expr) (kind : Kind) : Type 0 where
    pub core : Term
    pub lowers : lowered names e ≡ Some (Single kind core)
    pub same : (s : Spending) → value scope s e ≡ option_map (One kind) (item_of s core)

  -- and that is a parameter
  record IsPlace (e : Expr) : Type 0 where
    place : Place
    lowers : lowered names e ≡ Some (Single Bytes (term.Param place))
    same : (s : Spending) → value scope s e ≡ option_map (One Bytes) (item_at s place)

  record ArePlaces (members : List Expr) : Type 0 where
    places : List Place
    lowers : gathered (map place_in (map (lowered names) members)) ≡ Some places
    same : (s : Spending) → items_of (map (value scope s) members) ≡ items_at s places

  agrees_as : {e : Expr} {k l : Kind} → k ≡ l → Agrees e k → Agrees e l
  agrees_as {e} {k} {l} is a = record {
    core = a.core;
    lowers = a.lowers ∙ ap (λ (k : Kind). Some (Single k a.core)) is;
    same = λ s. a.same s ∙ ap (λ (k : Kind). option_map (One k) (item_of s a.core)) is;
  }

  -- ---- literals

  leaf_agrees : (e : Expr) (kind : Kind) (core : Term) → lowered names e ≡ Some (Single kind core)
      → ((s : Spending) → value scope s e ≡ option_map (One kind) (item_of s core))
      → Agrees e kind
  leaf_agrees e kind core lowers same = record { core = core; lowers = lowers; same = same }

  number_agrees : (e : Expr) (n : ℕ) → e.form ≡ forms.Number n → Agrees e Number
  unfolding lowered value
  number_agrees e n is =
      leaf_agrees e Number (term.Number n) (folds.at_number (Option Lowered) (form_lowered names) e n is)
      (λ s. folds.at_number (Option Value) (form_value scope s) e n is)

  truth_agrees : (e : Expr) (b : Bool) → e.form ≡ forms.Truth b → Agrees e Truth
  unfolding lowered value
  truth_agrees e b is =
      leaf_agrees e Truth (term.Truth b) (folds.at_truth (Option Lowered) (form_lowered names) e b is)
      (λ s. folds.at_truth (Option Value) (form_value scope s) e b is)

  hex_agrees : (e : Expr) (bytes : List ℕ) → e.form ≡ forms.Hex bytes → Agrees e Bytes
  unfolding lowered value
  hex_agrees e bytes is =
      leaf_agrees e Bytes (term.Bytes bytes) (folds.at_hex (Option Lowered) (form_lowered names) e bytes is)
      (λ s. folds.at_hex (Option Value) (form_value scope s) e bytes is)

  text_agrees : (e : Expr) (bytes : List ℕ) → e.form ≡ forms.Quoted bytes → Agrees e Bytes
  unfolding lowered value
  text_agrees e bytes is =
      leaf_agrees e Bytes (term.Bytes bytes) (folds.at_text (Option Lowered) (form_lowered names) e bytes is)
      (λ s. folds.at_text (Option Value) (form_value scope s) e bytes is)

  -- ---- names

  -- the parameter of a name is found, and this is its place
  record NameIs (name : List ℕ) (kind : Kind) : Type 0 where
    place : Place
    lowers : low.named names name ≡ Some (Single kind (term.Param place))
    same : (s : Spending) → named scope s name ≡ option_map (One kind) (item_at s place)

  name_is : (name : List ℕ) (type : IvyType) → IsParameter scope name type → NameIs name (kind_of type)
  name_is name type (rule.of_clause no_value declares) =
      let found = declared_found 0 declares in record {
        place = Given found.0.place;
        lowers = ap (λ (o : Option Found). low.found_in o (param_named name names.held)) found.1
            ∙ ap (λ (t : IvyType). Some (Single (kind_of t) (term.Param (Given found.0.place)))) found.2;
        same = λ s.
            ap (λ (o : Option Found). values.named_in s o (param_named name names.held)) found.1
            ∙ ap (λ (t : IvyType). option_map (One (kind_of t)) (item_at s (Given found.0.place))) found.2;
      }
  name_is name type (rule.of_contract no_value not_given declares) =
      let found = declared_found 0 declares in
      let none = not_declared 0 scope.clause.params name not_given in record {
        place = Held found.0.place;
        lowers = ap (λ (o : Option Found). low.found_in o (param_named name names.held)) none
            ∙ ap (λ (o : Option Found). low.found_in None o) found.1
            ∙ ap (λ (t : IvyType). Some (Single (kind_of t) (term.Param (Held found.0.place)))) found.2;
        same = λ s.
            ap (λ (o : Option Found). values.named_in s o (param_named name names.held)) none
            ∙ ap (λ (o : Option Found). values.named_in s None o) found.1
            ∙ ap (λ (t : IvyType). option_map (One (kind_of t)) (item_at s (Held found.0.place))) found.2;
      }

  name_agrees : (e : Expr) (name : List ℕ) (type : IvyType) → e.form ≡ forms.Name name → IsParameter scope name type
      → Agrees e (kind_of type)
  unfolding lowered value
  name_agrees e name type is p =
      let n = name_is name type p in record {
        core = term.Param n.place;
        lowers = folds.at_name (Option Lowered) (form_lowered names) e name is ∙ n.lowers;
        same = λ s. folds.at_name (Option Value) (form_value scope s) e name is ∙ n.same s;
      }

  -- ---- operations

  -- of one operand, and of two
  one_agrees : (e a : Expr) (kind l : Kind) (o : UnaryOp) → Agrees a l
      → lowered names e ≡ unary (Some (kind, o)) (lowered names a)
      → ((s : Spending) → value scope s e ≡ of_one kind (unary_item s.context o) (value scope s a))
      → Agrees e kind
  one_agrees e a kind l o given lowers same = record {
    core = term.Unary o given.core;
    lowers = lowers ∙ ap (unary (Some (kind, o))) given.lowers;
    same = λ s. same s ∙ ap (of_one kind (unary_item s.context o)) (given.same s)
        ∙ one_value kind l (unary_item s.context o) (item_of s given.core);
  }

  two_agrees : (e a b : Expr) (kind l m : Kind) (o : BinaryOp) → Agrees a l → Agrees b m
      → lowered names e ≡ binary (Some (kind, o)) (lowered names a) (lowered names b)
      → ((s : Spending) → value scope s e ≡ of_two kind (binary_item o) (value scope s a) (value scope s b))
      → Agrees e kind
  two_agrees e a b kind l m o left right lowers same = record {
    core = term.Binary o left.core right.core;
    lowers = lowers ∙ (λ i. binary (Some (kind, o)) (left.lowers i) (right.lowers i));
    same = λ s. same s ∙ (λ i. of_two kind (binary_item o) (left.same s i) (right.same s i))
        ∙ two_value kind l m (binary_item o) (item_of s left.core) (item_of s right.core);
  }

  minus_agrees : (e a : Expr) (l : Kind) → e.form ≡ forms.Unary op.Negate a → Agrees a l → Agrees e Number
  unfolding lowered value
  minus_agrees e a l is given =
      one_agrees e a Number l unaries.Negate given
      (folds.at_unary (Option Lowered) (form_lowered names) e op.Negate a is)
      (λ s. folds.at_unary (Option Value) (form_value scope s) e op.Negate a is)

  not_agrees : (e a : Expr) (l : Kind) → e.form ≡ forms.Unary op.Not a → Agrees a l → Agrees e Truth
  unfolding lowered value
  not_agrees e a l is given =
      one_agrees e a Truth l unaries.Not given
      (folds.at_unary (Option Lowered) (form_lowered names) e op.Not a is)
      (λ s. folds.at_unary (Option Value) (form_value scope s) e op.Not a is)

  -- an operator whose operation does not go by how operands are compared
  record IsOperation (o : Op) (kind : Kind) : Type 0 where
    core : BinaryOp
    lowers : (l : Kind) → between_operands o l ≡ Some (kind, core)
    same : (left right : Option Value) → values.between o left right ≡ of_two kind (binary_item core) left right

  arithmetic_is : {o : Op} → IsArithmetic o → IsOperation o Number
  arithmetic_is rule.add = record { core = binaries.Add; lowers = λ l. refl; same = λ left right. refl }
  arithmetic_is rule.sub = record { core = binaries.Sub; lowers = λ l. refl; same = λ left right. refl }
  arithmetic_is rule.mul = record { core = binaries.Mul; lowers = λ l. refl; same = λ left right. refl }
  arithmetic_is rule.div = record { core = binaries.Div; lowers = λ l. refl; same = λ left right. refl }
  arithmetic_is rule.rem = record { core = binaries.Rem; lowers = λ l. refl; same = λ left right. refl }
  arithmetic_is rule.shift_left = record { core = binaries.ShiftLeft; lowers = λ l. refl; same = λ left right. refl }
  arithmetic_is rule.shift_right = record { core = binaries.ShiftRight; lowers = λ l. refl; same = λ left right. refl }

  order_is : {o : Op} → IsOrder o → IsOperation o Truth
  order_is rule.less = record { core = binaries.Less; lowers = λ l. refl; same = λ left right. refl }
  order_is rule.less_equal = record { core = binaries.LessEqual; lowers = λ l. refl; same = λ left right. refl }
  order_is rule.greater = record { core = binaries.Greater; lowers = λ l. refl; same = λ left right. refl }
  order_is rule.greater_equal = record { core = binaries.GreaterEqual; lowers = λ l. refl; same = λ left right. refl }

  logical_is : {o : Op} → IsLogical o → IsOperation o Truth
  logical_is rule.and = record { core = binaries.And; lowers = λ l. refl; same = λ left right. refl }
  logical_is rule.or = record { core = binaries.Or; lowers = λ l. refl; same = λ left right. refl }

  operation_agrees : (e a b : Expr) (o : Op) (kind l m : Kind) → e.form ≡ forms.Binary o a b → IsOperation o kind
      → Agrees a l → Agrees b m → Agrees e kind
  unfolding lowered value
  operation_agrees e a b o kind l m is operation left right =
      two_agrees e a b kind l m operation.core left right
      (folds.at_binary (Option Lowered) (form_lowered names) e o a b is
      ∙ ap (λ (entry : Option (Kind × BinaryOp)). binary entry (lowered names a) (lowered names b))
      (operation.lowers (kind_in (lowered names a))))
      (λ s. folds.at_binary (Option Value) (form_value scope s) e o a b is ∙ operation.same (value scope s a) (value scope s b))

  -- one that goes by it
  record IsComparison (o : Op) : Type 0 where
    core : Kind → BinaryOp
    lowers : (l : Kind) → between_operands o l ≡ Some (Truth, core l)
    same : (left right : Option Value) → values.between o left right ≡ compared (λ l. binary_item (core l)) left right

  is_same_is : (l : Kind) → values.is_same l ≡ binary_item (low.is_same l)
  is_same_is Number = refl
  is_same_is Truth = refl
  is_same_is Bytes = refl

  is_other_is : (l : Kind) → values.is_other l ≡ binary_item (low.is_other l)
  is_other_is Number = refl
  is_other_is Truth = refl
  is_other_is Bytes = refl

  compared_same : (g h : Kind → Item → Item → Option Item) → ((l : Kind) → g l ≡ h l) → (left right : Option Value)
      → compared g left right ≡ compared h left right
  compared_same g h each None right = refl
  compared_same g h each (Some (Several items)) right = refl
  compared_same g h each (Some (One l a)) right = ap (λ (k : Item → Item → Option Item). of_two Truth k (Some (One l a)) right) (each l)

  equality_is : {o : Op} → IsEquality o → IsComparison o
  equality_is rule.equal = record {
    core = low.is_same;
    lowers = λ l. refl;
    same = compared_same values.is_same (λ l. binary_item (low.is_same l)) is_same_is;
  }
  equality_is rule.not_equal = record {
    core = low.is_other;
    lowers = λ l. refl;
    same = compared_same values.is_other (λ l. binary_item (low.is_other l)) is_other_is;
  }

  equality_agrees : (e a b : Expr) (o : Op) (l m : Kind) → e.form ≡ forms.Binary o a b → IsEquality o
      → Agrees a l → Agrees b m → Agrees e Truth
  unfolding lowered value
  equality_agrees e a b o l m is is_op left right =
      let comparison = equality_is is_op in
      two_agrees e a b Truth l m (comparison.core l) left right
      (folds.at_binary (Option Lowered) (form_lowered names) e o a b is
      ∙ ap (λ (entry : Option (Kind × BinaryOp)). binary entry (lowered names a) (lowered names b))
      (ap (λ (o2 : Option Lowered). between_operands o (kind_in o2)) left.lowers ∙ comparison.lowers l))
      (λ s. folds.at_binary (Option Value) (form_value scope s) e o a b is
      ∙ comparison.same (value scope s a) (value scope s b)
      ∙ ap (λ (v : Option Value). compared (λ l. binary_item (comparison.core l)) v (value scope s b)) (left.same s)
      ∙ compared_value (λ l. binary_item (comparison.core l)) l (item_of s left.core) (value scope s b)
      ∙ ap (λ (v : Option Value). of_two Truth (binary_item (comparison.core l)) v (value scope s b)) (sym (left.same s)))

  -- ---- calls

  one_call : (e a : Expr) (name : List ℕ) (function : Function) → function_named name ≡ Some function
      → e.form ≡ forms.Call name (a ∷ [])
      → (lowered names e ≡ called_on_one function (lowered names a))
      × ((s : Spending) → value scope s e ≡ values.called_on_one s function (value scope s a))
  unfolding lowered value
  one_call e a name function names_it is = (
    folds.at_call (Option Lowered) (form_lowered names) e name (a ∷ []) is
        ∙ ap (λ (o : Option Function). low.called o (lowered names a ∷ [])) names_it,
    λ s. folds.at_call (Option Value) (form_value scope s) e name (a ∷ []) is
        ∙ ap (λ (o : Option Function). values.called s o (value scope s a ∷ [])) names_it,
  )

  two_call : (e a b : Expr) (name : List ℕ) (function : Function) → function_named name ≡ Some function
      → e.form ≡ forms.Call name (a ∷ b ∷ [])
      → (lowered names e ≡ called_on_two function (lowered names a) (lowered names b))
      × ((s : Spending) → value scope s e ≡ values.called_on_two s function (value scope s a) (value scope s b))
  unfolding lowered value
  two_call e a b name function names_it is = (
    folds.at_call (Option Lowered) (form_lowered names) e name (a ∷ b ∷ []) is
        ∙ ap (λ (o : Option Function). low.called o (lowered names a ∷ lowered names b ∷ [])) names_it,
    λ s. folds.at_call (Option Value) (form_value scope s) e name (a ∷ b ∷ []) is
        ∙ ap (λ (o : Option Function). values.called s o (value scope s a ∷ value scope s b ∷ [])) names_it,
  )

  abs_agrees : (e a : Expr) (l : Kind) → rule.IsCall e (codes "abs") (a ∷ []) → Agrees a l → Agrees e Number
  abs_agrees e a l is given =
      let c = one_call e a (codes "abs") f.Abs refl is in
      one_agrees e a Number l unaries.Abs given c.0 c.1

  size_agrees : (e a : Expr) (l : Kind) → rule.IsCall e (codes "size") (a ∷ []) → Agrees a l → Agrees e Number
  size_agrees e a l is given =
      let c = one_call e a (codes "size") f.Size refl is in
      one_agrees e a Number l unaries.Size given c.0 c.1

  sha256_agrees : (e a : Expr) (l : Kind) → rule.IsCall e (codes "sha256") (a ∷ []) → Agrees a l → Agrees e Bytes
  sha256_agrees e a l is given =
      let c = one_call e a (codes "sha256") f.Sha256 refl is in
      one_agrees e a Bytes l unaries.Sha256 given c.0 c.1

  before_agrees : (e a : Expr) (l : Kind) → rule.IsCall e (codes "before") (a ∷ []) → Agrees a l → Agrees e Truth
  before_agrees e a l is given =
      let c = one_call e a (codes "before") f.Before refl is in
      one_agrees e a Truth l unaries.Before given c.0 c.1

  after_agrees : (e a : Expr) (l : Kind) → rule.IsCall e (codes "after") (a ∷ []) → Agrees a l → Agrees e Truth
  after_agrees e a l is given =
      let c = one_call e a (codes "after") f.After refl is in
      one_agrees e a Truth l unaries.After given c.0 c.1

  bytes_agrees : (e a : Expr) (l : Kind) → rule.IsCall e (codes "bytes") (a ∷ []) → Agrees a l → Agrees e Bytes
  bytes_agrees e a l is given =
      let c = one_call e a (codes "bytes") f.BytesOf refl is in record {
        core = given.core;
        lowers = c.0 ∙ ap low.as_bytes given.lowers;
        same = λ s. c.1 s ∙ ap (of_one Bytes (λ x. Some x)) (given.same s) ∙ same_bytes l (item_of s given.core);
      }

  min_agrees : (e a b : Expr) (l m : Kind) → rule.IsCall e (codes "min") (a ∷ b ∷ []) → Agrees a l → Agrees b m
      → Agrees e Number
  min_agrees e a b l m is left right =
      let c = two_call e a b (codes "min") f.Min refl is in
      two_agrees e a b Number l m binaries.Min left right c.0 c.1

  max_agrees : (e a b : Expr) (l m : Kind) → rule.IsCall e (codes "max") (a ∷ b ∷ []) → Agrees a l → Agrees b m
      → Agrees e Number
  max_agrees e a b l m is left right =
      let c = two_call e a b (codes "max") f.Max refl is in
      two_agrees e a b Number l m binaries.Max left right c.0 c.1

  concat_agrees : (e a b : Expr) (l m : Kind) → rule.IsCall e (codes "concat") (a ∷ b ∷ []) → Agrees a l → Agrees b m
      → Agrees e Bytes
  concat_agrees e a b l m is left right =
      let c = two_call e a b (codes "concat") f.Concat refl is in
      two_agrees e a b Bytes l m binaries.Concat left right c.0 c.1

  concatpush_agrees : (e a b : Expr) (l m : Kind) → rule.IsCall e (codes "concatpush") (a ∷ b ∷ []) → Agrees a l
      → Agrees b m → Agrees e Bytes
  concatpush_agrees e a b l m is left right =
      let c = two_call e a b (codes "concatpush") f.ConcatPush refl is in
      two_agrees e a b Bytes l m binaries.ConcatPush left right c.0 c.1

  -- ---- keys and signatures

  place_of_name : (e : Expr) (name : List ℕ) (type : IvyType) → kind_of type ≡ Bytes → e.form ≡ forms.Name name
      → IsParameter scope name type → IsPlace e
  unfolding lowered value
  place_of_name e name type kind is p =
      let n = name_is name type p in record {
        place = n.place;
        lowers = folds.at_name (Option Lowered) (form_lowered names) e name is ∙ n.lowers
            ∙ ap (λ (k : Kind). Some (Single k (term.Param n.place))) kind;
        same = λ s. folds.at_name (Option Value) (form_value scope s) e name is ∙ n.same s
            ∙ ap (λ (k : Kind). option_map (One k) (item_at s n.place)) kind;
      }

  -- what has one of these types is a parameter
  parameter_is : {e : Expr} {type : IvyType} → HasType scope e type → is_key type ≡ true → IsPlace e
  parameter_is (rule.number n is) k = absurd (not_key Integer k refl)
  parameter_is (rule.truth b is) k = absurd (not_key Boolean k refl)
  parameter_is (rule.hex bytes is) k = absurd (not_key String k refl)
  parameter_is (rule.text bytes is) k = absurd (not_key String k refl)
  parameter_is (rule.parameter {e = e} {type = type} name is p) k = place_of_name e name type (key_kind type k) is p
  parameter_is (rule.minus {type = type} arg is h n) k = absurd (not_key type k (numeric_no_key n))
  parameter_is (rule.negation arg is h) k = absurd (not_key Boolean k refl)
  parameter_is (rule.arithmetic {type = type} o a b is is_op h n) k = absurd (not_key type k (numeric_no_key n))
  parameter_is (rule.order o a b type is is_op h n) k = absurd (not_key Boolean k refl)
  parameter_is (rule.equality o a b type is is_op h) k = absurd (not_key Boolean k refl)
  parameter_is (rule.logic o a b is is_op h i) k = absurd (not_key Boolean k refl)
  parameter_is (rule.abs {type = type} a is h n) k = absurd (not_key type k (numeric_no_key n))
  parameter_is (rule.min {type = type} a b is h n) k = absurd (not_key type k (numeric_no_key n))
  parameter_is (rule.max {type = type} a b is h n) k = absurd (not_key type k (numeric_no_key n))
  parameter_is (rule.size b type is h n) k = absurd (not_key Integer k refl)
  parameter_is (rule.bytes x type is h) k = absurd (not_key String k refl)
  parameter_is (rule.sha256 b type is h n) k = absurd (not_key Hash k refl)
  parameter_is (rule.concat a b is h i) k = absurd (not_key String k refl)
  parameter_is (rule.concatpush a b is h i) k = absurd (not_key String k refl)
  parameter_is (rule.check_tx_sig a b is h i) k = absurd (not_key Boolean k refl)
  parameter_is (rule.check_tx_multi_sig a b keys sigs is key_list sig_list h i few) k = absurd (not_key Boolean k refl)
  parameter_is (rule.before t is h) k = absurd (not_key Boolean k refl)
  parameter_is (rule.after t is h) k = absurd (not_key Boolean k refl)

  taken_parameter_is : {e : Expr} {type : IvyType} → TakesType scope e type → is_key type ≡ true → IsPlace e
  taken_parameter_is (rule.has h) k = parameter_is h k
  taken_parameter_is (rule.takes {type = type} literal n) k = absurd (not_key type k (numeric_no_key n))

  -- the members of a list of keys or of signatures
  places_are : {type : IvyType} {members : List Expr} → AllHaveType scope type members → is_key type ≡ true
      → ArePlaces members
  places_are rule.none k = record { places = []; lowers = refl; same = λ s. refl }
  places_are (rule.one_more {e = e} {es = es} h all) k =
      let first = parameter_is h k in
      let rest = places_are all k in record {
        places = first.place ∷ rest.places;
        lowers = λ i. low.followed_by (place_in (first.lowers i)) (rest.lowers i);
        same = λ s. (λ i. values.one_more (first.same s i) (rest.same s i)) ∙ one_place s first.place rest.places;
      }

  list_is : (e : Expr) (members : List Expr) → e.form ≡ forms.Members members → (all : ArePlaces members)
      → (lowered names e ≡ Some (Places all.places)) × ((s : Spending) → value scope s e ≡ option_map Several (items_at s all.places))
  unfolding lowered value
  list_is e members is all = (
    folds.at_list (Option Lowered) (form_lowered names) e members is ∙ ap (option_map (λ p. Places p)) all.lowers,
    λ s. folds.at_list (Option Value) (form_value scope s) e members is ∙ ap (option_map (λ p. Several p)) (all.same s),
  )

  signed_agrees : (e a b : Expr) → rule.IsCall e (codes "checkTxSig") (a ∷ b ∷ []) → IsPlace a → IsPlace b → Agrees e Truth
  signed_agrees e a b is key sig =
      let c = two_call e a b (codes "checkTxSig") f.CheckTxSig refl is in record {
        core = term.Signed key.place sig.place;
        lowers = c.0 ∙ (λ i. low.of_two low.signed_by (key.lowers i) (sig.lowers i));
        same = λ s. c.1 s ∙ (λ i. of_two Truth (is_signed s) (key.same s i) (sig.same s i))
            ∙ two_value Truth Bytes Bytes (is_signed s) (item_at s key.place) (item_at s sig.place);
      }

  multi_signed_agrees : (e a b : Expr) (keys sigs : List Expr) → rule.IsCall e (codes "checkTxMultiSig") (a ∷ b ∷ [])
      → a.form ≡ forms.Members keys → b.form ≡ forms.Members sigs → ArePlaces keys → ArePlaces sigs → Agrees e Truth
  multi_signed_agrees e a b keys sigs is a_is b_is all_keys all_sigs =
      let c = two_call e a b (codes "checkTxMultiSig") f.CheckTxMultiSig refl is in
      let first = list_is a keys a_is all_keys in
      let second = list_is b sigs b_is all_sigs in record {
        core = term.MultiSigned all_keys.places all_sigs.places;
        lowers = c.0 ∙ (λ i. low.multi_signed (first.0 i) (second.0 i));
        same = λ s. c.1 s ∙ (λ i. of_lists (are_signed s) (first.1 s i) (second.1 s i))
            ∙ list_value (are_signed s) (items_at s all_keys.places) (items_at s all_sigs.places);
      }

  -- ---- all expressions

  literal_agrees : {e : Expr} → IsNumberLiteral e → Agrees e Number
  literal_agrees (rule.a_number {e = e} n is) = number_agrees e n is
  literal_agrees (rule.after_minus {e = e} arg is l) = minus_agrees e arg Number is (literal_agrees l)

  mutual
    pub agrees : {e : Expr} {type : IvyType} → HasType scope e type → Agrees e (kind_of type)
    agrees (rule.number {e = e} n is) = number_agrees e n is
    agrees (rule.truth {e = e} b is) = truth_agrees e b is
    agrees (rule.hex {e = e} bytes is) = hex_agrees e bytes is
    agrees (rule.text {e = e} bytes is) = text_agrees e bytes is
    agrees (rule.parameter {e = e} {type = type} name is p) = name_agrees e name type is p
    agrees (rule.minus {e = e} {type = type} arg is h n) =
        agrees_as (sym (numeric_kind n)) (minus_agrees e arg (kind_of type) is (agrees h))
    agrees (rule.negation {e = e} arg is h) = not_agrees e arg Truth is (agrees h)
    agrees (rule.arithmetic {e = e} {type = type} o a b is is_op h n) =
        let both = alike h in
        agrees_as (sym (numeric_kind n))
        (operation_agrees e a b o Number (kind_of type) (kind_of type) is (arithmetic_is is_op) both.0 both.1)
    agrees (rule.order {e = e} o a b type is is_op h n) =
        let both = alike h in operation_agrees e a b o Truth (kind_of type) (kind_of type) is (order_is is_op) both.0 both.1
    agrees (rule.equality {e = e} o a b type is is_op h) =
        let both = alike h in equality_agrees e a b o (kind_of type) (kind_of type) is is_op both.0 both.1
    agrees (rule.logic {e = e} o a b is is_op h k) =
        operation_agrees e a b o Truth Truth Truth is (logical_is is_op) (agrees h) (agrees k)
    agrees (rule.abs {e = e} {type = type} a is h n) =
        agrees_as (sym (numeric_kind n)) (abs_agrees e a (kind_of type) is (agrees h))
    agrees (rule.min {e = e} {type = type} a b is h n) =
        let both = alike h in
        agrees_as (sym (numeric_kind n)) (min_agrees e a b (kind_of type) (kind_of type) is both.0 both.1)
    agrees (rule.max {e = e} {type = type} a b is h n) =
        let both = alike h in
        agrees_as (sym (numeric_kind n)) (max_agrees e a b (kind_of type) (kind_of type) is both.0 both.1)
    agrees (rule.size {e = e} b type is h n) = size_agrees e b (kind_of type) is (agrees h)
    agrees (rule.bytes {e = e} x type is h) = bytes_agrees e x (kind_of type) is (agrees h)
    agrees (rule.sha256 {e = e} b type is h n) = sha256_agrees e b (kind_of type) is (agrees h)
    agrees (rule.concat {e = e} a b is h k) = concat_agrees e a b Bytes Bytes is (taken h) (taken k)
    agrees (rule.concatpush {e = e} a b is h k) = concatpush_agrees e a b Bytes Bytes is (taken h) (taken k)
    agrees (rule.check_tx_sig {e = e} a b is h k) =
        signed_agrees e a b is (taken_parameter_is h refl) (taken_parameter_is k refl)
    agrees (rule.check_tx_multi_sig {e = e} a b keys sigs is key_list sig_list h k few) =
        multi_signed_agrees e a b keys sigs is key_list sig_list (places_are h refl) (places_are k refl)
    agrees (rule.before {e = e} t is h) = before_agrees e t Number is (taken h)
    agrees (rule.after {e = e} t is h) = after_agrees e t Number is (taken h)

    alike : {a b : Expr} {type : IvyType} → HaveOneType scope a b type → Agrees a (kind_of type) × Agrees b (kind_of type)
    alike (rule.both h k) = (agrees h, agrees k)
    alike (rule.left_takes l not h n) = (agrees_as (sym (numeric_kind n)) (literal_agrees l), agrees h)
    alike (rule.right_takes l not h n) = (agrees h, agrees_as (sym (numeric_kind n)) (literal_agrees l))

    pub taken : {e : Expr} {type : IvyType} → TakesType scope e type → Agrees e (kind_of type)
    taken (rule.has h) = agrees h
    taken (rule.takes l n) = agrees_as (sym (numeric_kind n)) (literal_agrees l)
