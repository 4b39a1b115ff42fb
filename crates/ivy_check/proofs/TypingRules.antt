-- What has a type by the table passes its tests, and its type is inferred.
use Rattle.std.proofs.Common.{◌≡◌, ◌≤◌, ℕ, Bool, true, false, not, ◌&&◌, ◌∷◌, List, [], ◌++◌, Option, Some, None, refl, ap, sym, ◌∙◌, subst}
use Rattle.std.proofs.Common.{codes, map, length, is_some, nat_lt, if◌then◌else◌, ◌||◌}
use Rattle.std.specs.Prelude.{option_and_then}
use Rattle.std.proofs.lemmas.Bool.{le-ltb}
use Rattle.std.proofs.lemmas.List.{length-map}
use Rattle.ivy_syntax.specs.declared.tree.Op.{Op}
use Rattle.ivy_syntax.specs.declared.tree.Op.TheVariants as op
use Rattle.ivy_syntax.specs.declared.tree.Expr.{Expr}
use Rattle.ivy_syntax.specs.declared.tree.Form.{Form}
use Rattle.ivy_syntax.specs.declared.tree.Form.TheOpen.{Form-F}
use Rattle.ivy_syntax.specs.declared.tree.Form.TheVariants as forms
use Rattle.ivy_syntax.specs.declared.tree.Word.{Word}
use Rattle.ivy_check.specs.declared.types.IvyType.{IvyType}
use Rattle.ivy_check.specs.declared.types.IvyType.TheVariants.{Boolean, Hash, Integer, PublicKey, Signature, String, Time}
use Rattle.ivy_check.specs.Expressions.{Inferred}
use Rattle.ivy_check.specs.declared.functions.Function.{Function}
use Rattle.ivy_check.specs.declared.functions.Function.TheVariants as f
use Rattle.ivy_check.specs.declared.functions.ParamType.{ParamType}
use Rattle.ivy_check.specs.declared.functions.ParamType.TheVariants.{Exactly, Numeric, Plain, Any, ListOf}
use Rattle.ivy_check.specs.declared.functions.ParamTypes.{ParamTypes}
use Rattle.ivy_check.specs.declared.functions.ParamTypes.TheVariants.{One, Two}
use Rattle.ivy_check.specs.Tests.{Test, fault, first_of}
use Rattle.ivy_check.specs.Types.{type_named, is_numeric, has_type, have_one_type, has_numeric_type, has_plain_type}
use Rattle.ivy_check.specs.Scope.{Scope, is_value, is_parameter, names_parameter, name_type, parameter_type, is_unknown}
use Rattle.ivy_check.specs.Functions.{function_named, param_types}
use Rattle.ivy_check.specs.Expressions.{of_type, number_literal, is_list, coerced_beside, coerced, are_of_one_type, are_numeric, are_booleans}
use Rattle.ivy_check.specs.Expressions.{takes_operand, unary_result, takes_operands, binary_type, fits_param, member_type, agree}
use Rattle.ivy_check.specs.Expressions.{member_count, result_of_one, result_of_two}
use Rattle.ivy_check.specs.Expressions.{has_enough_keys, Typing, form_typing, typing, operand_tests, member_tests, list_tests}
use Rattle.ivy_check.specs.Expressions.{argument_tests, both_tests, called_tests, call_tests, called_type, call_type, whole_tests}
use Rattle.ivy_check.specs.Typing as rule
use Rattle.ivy_check.specs.Typing.{IsNumeric, IsOfBytes, IsArithmetic, IsOrder, IsEquality, IsLogical, IsNumberLiteral}
use Rattle.ivy_check.specs.Typing.{HasType, HaveOneType, TakesType, AllHaveType, IsParameter, is_one_of, value_names, parameter_names}
use Rattle.ivy_check.proofs.TestLemmas.{first_after}
use Rattle.ivy_check.proofs.TypeWords.{not_both, numeric_holds, bytes_hold, same_self, declared_word, value_is, parameter_is}
use Rattle.ivy_check.proofs.FormTypings.{placed_at, by_forms, expr_of, AllWithin}
use Rattle.ivy_check.proofs.FormTypings as typings

-- ---- tests

abbrev pub Passes : List Test → Type 0
Passes tests = first_of tests ≡ None

pub both_pass : (a b : List Test) → Passes a → Passes b → Passes (a ++ b)
both_pass a b p q = sym (first_after a b None (sym p) (sym q))

pub passes_if : (kind at : ℕ) (b : Bool) → b ≡ false → Passes (fault kind at b)
passes_if kind at true h = absurd cc
passes_if kind at false h = refl

pub passes_unless : (kind at : ℕ) (b : Bool) → b ≡ true → Passes (fault kind at (not b))
passes_unless kind at b h = passes_if kind at (not b) (ap not h)

pub and_true : (x y : Bool) → x ≡ true → y ≡ true → (x && y) ≡ true
and_true true y h k = k
and_true false y h k = absurd cc

if_both : {A : Type 0} (b : Bool) (x y z : A) → x ≡ z → y ≡ z → (if b then x else y) ≡ z
if_both true x y z h k = h
if_both false x y z h k = k

if_yes : {A : Type 0} (b : Bool) (x y z : A) → b ≡ true → x ≡ z → (if b then x else y) ≡ z
if_yes true x y z h k = k
if_yes false x y z h k = absurd cc

if_no : {A : Type 0} (b : Bool) (x y z : A) → b ≡ false → y ≡ z → (if b then x else y) ≡ z
if_no true x y z h k = absurd cc
if_no false x y z h k = k

-- ---- what is known of an expression that has a type

-- it is no list, and passes its tests
abbrev pub Stands : Typing → Type 0
Stands t = (t.inferred.members ≡ None) × ((each : Option IvyType) → Passes (t.tests each))

abbrev pub Typed : Typing → IvyType → Type 0
Typed t type = (t.inferred.ivy_type ≡ Some type) × (t.inferred.members ≡ None)
    × ((each : Option IvyType) → Passes (t.tests each))

no_list : (i : Inferred) → i.members ≡ None → is_list i ≡ false
unfolding is_list
no_list i h = ap (λ (o : Option ℕ). is_some o) h

pub operand_passes : (t : Typing) → Stands t → Passes (operand_tests t)
operand_passes t s =
    both_pass (t.tests None) (fault 9 t.at (is_list t.inferred)) (s.1 None)
    (passes_if 9 t.at (is_list t.inferred) (no_list t.inferred s.0))

pub whole_passes : (t : Typing) → Stands t → Passes (whole_tests t)
whole_passes t s =
    both_pass (t.tests None) (fault 9 t.from (is_list t.inferred)) (s.1 None)
    (passes_if 9 t.from (is_list t.inferred) (no_list t.inferred s.0))

pub has_it : (type : IvyType) (o : Option IvyType) → o ≡ Some type → has_type type o ≡ true
has_it type o h = ap (has_type type) h ∙ same_self type

pub has_numeric : (type : IvyType) (o : Option IvyType) → IsNumeric type → o ≡ Some type → has_numeric_type o ≡ true
has_numeric type o n h = ap has_numeric_type h ∙ numeric_holds n

has_bytes : (type : IvyType) (o : Option IvyType) → IsOfBytes type → o ≡ Some type → has_plain_type o ≡ true
has_bytes type o n h = ap has_plain_type h ∙ bytes_hold n

-- ---- operands

-- both take one type beside one another
abbrev pub OneType : (a b : Inferred) → IvyType → Type 0
OneType a b type = (coerced_beside b a ≡ Some type) × (coerced_beside a b ≡ Some type)

pub one_of_both : (a b : Inferred) (type : IvyType) → a.ivy_type ≡ Some type → b.ivy_type ≡ Some type → OneType a b type
one_of_both a b type h k = (
  if_both (a.is_literal && not b.is_literal && has_numeric_type b.ivy_type) b.ivy_type a.ivy_type (Some type) k h,
  if_both (b.is_literal && not a.is_literal && has_numeric_type a.ivy_type) a.ivy_type b.ivy_type (Some type) h k,
)

-- the first is a number literal
one_of_second : (a b : Inferred) (type : IvyType) → a.is_literal ≡ true → b.is_literal ≡ false
    → IsNumeric type → b.ivy_type ≡ Some type → OneType a b type
one_of_second a b type is not_is n h = (
  if_yes (a.is_literal && not b.is_literal && has_numeric_type b.ivy_type) b.ivy_type a.ivy_type (Some type)
      (λ i. is i && not (not_is i) && has_numeric type b.ivy_type n h i) h,
  if_no (b.is_literal && not a.is_literal && has_numeric_type a.ivy_type) a.ivy_type b.ivy_type (Some type)
      (ap (λ (x : Bool). x && not a.is_literal && has_numeric_type a.ivy_type) not_is) h,
)

pub are_one : (a b : Inferred) (type : IvyType) → OneType a b type → are_of_one_type a b ≡ true
are_one a b type h = (λ i. have_one_type (h.0 i) (h.1 i)) ∙ same_self type

are_numbers : (a b : Inferred) (type : IvyType) → OneType a b type → IsNumeric type → are_numeric a b ≡ true
are_numbers a b type h n =
    and_true (are_of_one_type a b) (has_numeric_type (coerced_beside b a)) (are_one a b type h)
    (has_numeric type (coerced_beside b a) n h.0)

-- what is known of two operands of one type
pub record Alike (a b : Typing) (type : IvyType) : Type 0 where
  pub left : Stands a
  pub right : Stands b
  pub one : OneType a.inferred b.inferred type
  -- each is numeric by itself, where the type is
  pub left_numeric : IsNumeric type → has_numeric_type a.inferred.ivy_type ≡ true
  pub right_numeric : IsNumeric type → has_numeric_type b.inferred.ivy_type ≡ true

-- ---- operators

arithmetic_takes : {o : Op} → IsArithmetic o → (l r : Inferred)
    → (takes_operands o l r ≡ are_numeric l r) × (binary_type o l r ≡ coerced_beside r l)
arithmetic_takes rule.add l r = (refl, refl)
arithmetic_takes rule.sub l r = (refl, refl)
arithmetic_takes rule.mul l r = (refl, refl)
arithmetic_takes rule.div l r = (refl, refl)
arithmetic_takes rule.rem l r = (refl, refl)
arithmetic_takes rule.shift_left l r = (refl, refl)
arithmetic_takes rule.shift_right l r = (refl, refl)

order_takes : {o : Op} → IsOrder o → (l r : Inferred)
    → (takes_operands o l r ≡ are_numeric l r) × (binary_type o l r ≡ Some Boolean)
order_takes rule.less l r = (refl, refl)
order_takes rule.less_equal l r = (refl, refl)
order_takes rule.greater l r = (refl, refl)
order_takes rule.greater_equal l r = (refl, refl)

equality_takes : {o : Op} → IsEquality o → (l r : Inferred)
    → (takes_operands o l r ≡ are_of_one_type l r) × (binary_type o l r ≡ Some Boolean)
equality_takes rule.equal l r = (refl, refl)
equality_takes rule.not_equal l r = (refl, refl)

logical_takes : {o : Op} → IsLogical o → (l r : Inferred)
    → (takes_operands o l r ≡ are_booleans l r) × (binary_type o l r ≡ Some Boolean)
logical_takes rule.and l r = (refl, refl)
logical_takes rule.or l r = (refl, refl)

-- what an operator is before an operand: `!`, `-` or none
pub data UnaryView : Op → Type 0 where
  is_not : UnaryView op.Not
  is_minus : UnaryView op.Negate
  is_none : {o : Op}
      → ((i : Inferred) → takes_operand o i ≡ false)
      → ((i : Inferred) → unary_result o i ≡ of_type None)
      → UnaryView o

pub unary_view : (o : Op) → UnaryView o
unary_view op.Not = is_not
unary_view op.Negate = is_minus
unary_view _ = is_none (λ i. refl) (λ i. refl)

-- ---- the rules, over what is known of the parts

module _ (scope : Scope) (e : Expr) where
  minus_typed : (arg : Typing) (type : IvyType) → Typed arg type → IsNumeric type
      → Typed (placed_at e (form_typing scope (Form-F.Unary op.Negate arg))) type
  minus_typed arg type t n = (
    t.0,
    refl,
    λ each. both_pass (operand_tests arg) (fault 10 e.at (not (takes_operand op.Negate arg.inferred)))
        (operand_passes arg (t.1, t.2))
        (passes_unless 10 e.at (takes_operand op.Negate arg.inferred) (has_numeric type arg.inferred.ivy_type n t.0)),
  )

  not_typed : (arg : Typing) → Typed arg Boolean → Typed (placed_at e (form_typing scope (Form-F.Unary op.Not arg))) Boolean
  not_typed arg t = (
    refl,
    refl,
    λ each. both_pass (operand_tests arg) (fault 10 e.at (not (takes_operand op.Not arg.inferred)))
        (operand_passes arg (t.1, t.2))
        (passes_unless 10 e.at (takes_operand op.Not arg.inferred) (has_it Boolean arg.inferred.ivy_type t.0)),
  )

  binary_typed : (o : Op) (a b : Typing) (type : IvyType) → Stands a → Stands b
      → takes_operands o a.inferred b.inferred ≡ true → binary_type o a.inferred b.inferred ≡ Some type
      → Typed (placed_at e (form_typing scope (Form-F.Binary o a b))) type
  binary_typed o a b type s t h k = (
    k,
    refl,
    λ each. both_pass (operand_tests a ++ operand_tests b) (fault 10 e.at (not (takes_operands o a.inferred b.inferred)))
        (both_pass (operand_tests a) (operand_tests b) (operand_passes a s) (operand_passes b t))
        (passes_unless 10 e.at (takes_operands o a.inferred b.inferred) h),
  )

  call_typed : (name : List ℕ) (function : Function) (args : List Typing) (type : IvyType)
      → function_named name ≡ Some function → called_type function args ≡ Some type
      → Passes (called_tests function e.at (param_types function) args)
      → Typed (placed_at e (form_typing scope (Form-F.Call name args))) type
  call_typed name function args type is t passes = (
    ap (λ (o : Option Function). call_type o args) is ∙ t,
    refl,
    λ each. ap (λ (o : Option Function). first_of (call_tests o e.at args)) is ∙ passes,
  )

pub argument_passes : (param : ParamType) (t : Typing) → Passes (t.tests (member_type param))
    → fits_param param t.inferred ≡ true → Passes (argument_tests param t)
argument_passes param t s fits =
    both_pass (t.tests (member_type param)) (fault 9 t.from (not (fits_param param t.inferred))) s
    (passes_unless 9 t.from (fits_param param t.inferred) fits)

pair_passes : (function : Function) (at : ℕ) (v w : ParamType) (a b : Typing)
    → Passes (argument_tests v a) → Passes (argument_tests w b)
    → agree function a.inferred b.inferred ≡ true → has_enough_keys function a.inferred b.inferred ≡ true
    → Passes (argument_tests v a ++ argument_tests w b ++ both_tests function at b.from a.inferred b.inferred)
pair_passes function at v w a b p q agrees enough =
    both_pass (argument_tests v a ++ argument_tests w b) (both_tests function at b.from a.inferred b.inferred)
    (both_pass (argument_tests v a) (argument_tests w b) p q)
    (both_pass (fault 9 b.from (not (agree function a.inferred b.inferred)))
    (fault 8 at (not (has_enough_keys function a.inferred b.inferred)))
    (passes_unless 9 b.from (agree function a.inferred b.inferred) agrees)
    (passes_unless 8 at (has_enough_keys function a.inferred b.inferred) enough))

-- ---- number literals

module _ (scope : Scope) where
  pub literal_typed : {e : Expr} → IsNumberLiteral e
      → ((typing scope e).inferred ≡ number_literal) × ((each : Option IvyType) → Passes ((typing scope e).tests each))
  literal_typed (rule.a_number {e = e} n is) =
      let typed = typings.number_typing scope e n is in (
        ap (λ (t : Typing). t.inferred) typed,
        λ each. ap (λ (t : Typing). first_of (t.tests each)) typed,
      )
  literal_typed (rule.after_minus {e = e} arg is l) =
      let typed = typings.one_typing scope e op.Negate arg is in
      let ih = literal_typed l in
      let rule = minus_typed scope e (typing scope arg) Integer
      (ap (λ (i : Inferred). i.ivy_type) ih.0, ap (λ (i : Inferred). i.members) ih.0, ih.1) rule.integer in (
        ap (λ (t : Typing). t.inferred) typed
            ∙ ap (λ (i : Inferred). record { is_literal = i.is_literal; members = None; ivy_type = i.ivy_type }) ih.0,
        λ each. ap (λ (t : Typing). first_of (t.tests each)) typed ∙ rule.2 each,
      )

  -- what the code takes for a number literal is one
  abbrev LiteralIs : Expr → Type 0
  LiteralIs e = (typing scope e).inferred.is_literal ≡ true → IsNumberLiteral e

  no_literal : (e : Expr) (t : Typing) → typing scope e ≡ t → t.inferred.is_literal ≡ false → LiteralIs e
  no_literal e t is h k =
      not_both t.inferred.is_literal (sym (ap (λ (t : Typing). t.inferred.is_literal) is) ∙ k) h

  literal_unary : (e : Expr) (o : Op) (arg : Expr) → e.form ≡ forms.Unary o arg → UnaryView o → LiteralIs arg → LiteralIs e
  literal_unary e op.Not arg is is_not ih = no_literal e _ (typings.one_typing scope e op.Not arg is) refl
  literal_unary e op.Negate arg is is_minus ih = λ h.
      rule.after_minus arg is
      (ih (sym (ap (λ (t : Typing). t.inferred.is_literal) (typings.one_typing scope e op.Negate arg is)) ∙ h))
  literal_unary e o arg is (is_none takes gives) ih =
      no_literal e _ (typings.one_typing scope e o arg is)
      (ap (λ (i : Inferred). i.is_literal) (gives (typing scope arg).inferred))

  literal_step : (from at : ℕ) (x : Form-F Form Expr) → AllWithin LiteralIs x → LiteralIs (expr_of from at x)
  literal_step from at (Form-F.Number n) all = λ h. rule.a_number n refl
  literal_step from at (Form-F.Truth b) all =
      no_literal (expr_of from at (Form-F.Truth b)) _ (typings.truth_typing scope _ b refl) refl
  literal_step from at (Form-F.Hex bytes) all =
      no_literal (expr_of from at (Form-F.Hex bytes)) _ (typings.hex_typing scope _ bytes refl) refl
  literal_step from at (Form-F.Quoted bytes) all =
      no_literal (expr_of from at (Form-F.Quoted bytes)) _ (typings.text_typing scope _ bytes refl) refl
  literal_step from at (Form-F.Name name) all =
      no_literal (expr_of from at (Form-F.Name name)) _ (typings.name_typing scope _ name refl) refl
  literal_step from at (Form-F.Call name args) all =
      no_literal (expr_of from at (Form-F.Call name args)) _ (typings.call_typing scope _ name args refl) refl
  literal_step from at (Form-F.Members items) all =
      no_literal (expr_of from at (Form-F.Members items)) _ (typings.list_typing scope _ items refl) refl
  literal_step from at (Form-F.Unary o arg) all =
      literal_unary (expr_of from at (Form-F.Unary o arg)) o arg refl (unary_view o) all
  literal_step from at (Form-F.Binary o left right) all =
      no_literal (expr_of from at (Form-F.Binary o left right)) _ (typings.two_typing scope _ o left right refl) refl

  pub literal_is : (e : Expr) → LiteralIs e
  literal_is = by_forms LiteralIs literal_step

  not_literal : (e : Expr) (b : Bool) → (typing scope e).inferred.is_literal ≡ b → (IsNumberLiteral e → ⊥) → b ≡ false
  not_literal e true h isnt = absurd (isnt (literal_is e h))
  not_literal e false h isnt = refl

  pub no_such_literal : (e : Expr) → (IsNumberLiteral e → ⊥) → (typing scope e).inferred.is_literal ≡ false
  no_such_literal e isnt = not_literal e (typing scope e).inferred.is_literal refl isnt

  -- ---- names

  name_stands : (e : Expr) (name : List ℕ) (type : IvyType) → is_one_of (value_names scope) name ≡ false
      → names_parameter scope name ≡ true → name_type scope name ≡ Some type
      → Typed (placed_at e (form_typing scope (Form-F.Name name))) type
  name_stands e name type no_value names h =
      let not_value : is_value scope name ≡ false = value_is scope name ∙ no_value in (
        h,
        refl,
        λ each. both_pass (fault 6 e.at (is_unknown scope name)) (fault 14 e.at (is_value scope name))
            (passes_if 6 e.at (is_unknown scope name) (λ i. not (not_value i) && not (names i)))
            (passes_if 14 e.at (is_value scope name) not_value),
      )

  parameter_stands : (e : Expr) (name : List ℕ) (type : IvyType) → IsParameter scope name type
      → Typed (placed_at e (form_typing scope (Form-F.Name name))) type
  parameter_stands e name type (rule.of_clause no_value d) =
      let w = declared_word scope.clause.params name type d in
      let here : is_parameter name scope.clause.params ≡ true = ap (λ (o : Option Word). is_some o) w.found in
      name_stands e name type no_value
      (ap (λ (b : Bool). b || is_parameter name scope.contract.params) here)
      (if_yes (is_parameter name scope.clause.params) (parameter_type name scope.clause.params)
      (parameter_type name scope.contract.params) (Some type) here
      (ap (option_and_then (λ (kind : Word). type_named kind.name)) w.found ∙ w.names))
  parameter_stands e name type (rule.of_contract no_value no_clause d) =
      let w = declared_word scope.contract.params name type d in
      let here : is_parameter name scope.contract.params ≡ true = ap (λ (o : Option Word). is_some o) w.found in
      let not_here : is_parameter name scope.clause.params ≡ false = parameter_is name scope.clause.params ∙ no_clause in
      name_stands e name type no_value
      ((λ i. not_here i || here i))
      (if_no (is_parameter name scope.clause.params) (parameter_type name scope.clause.params)
      (parameter_type name scope.contract.params) (Some type) not_here
      (ap (option_and_then (λ (kind : Word). type_named kind.name)) w.found ∙ w.names))

  -- ---- all rules

  by_typing : (e : Expr) {t : Typing} {type : IvyType} → typing scope e ≡ t → Typed t type → Typed (typing scope e) type
  by_typing e {type = type} is t = subst (λ (t : Typing). Typed t type) (sym is) t

  -- of an argument of which one type is asked
  abbrev Takes : Typing → IvyType → Type 0
  Takes t type = Stands t × (fits_param (Exactly type) t.inferred ≡ true)

  takes_its : (t : Typing) (type : IvyType) → Typed t type → Takes t type
  takes_its t type h = (
    (h.1, h.2),
    has_it type (coerced type t.inferred)
        (if_both (t.inferred.is_literal && is_numeric type) (Some type) t.inferred.ivy_type (Some type) refl h.0),
  )

  takes_other : (t : Typing) (type : IvyType) → IsNumeric type → t.inferred ≡ number_literal
      → ((each : Option IvyType) → Passes (t.tests each)) → Takes t type
  takes_other t type n is passes = (
    (ap (λ (i : Inferred). i.members) is, passes),
    has_it type (coerced type t.inferred)
        (if_yes (t.inferred.is_literal && is_numeric type) (Some type) t.inferred.ivy_type (Some type)
        (λ i. (is i).is_literal && numeric_holds n i) refl),
  )

  module _ (e a b : Expr) (type : IvyType) (h : Alike (typing scope a) (typing scope b) type) where
    pub arithmetic_typed : (o : Op) → e.form ≡ forms.Binary o a b → IsArithmetic o → IsNumeric type → Typed (typing scope e) type
    arithmetic_typed o is is_op n =
        let t = arithmetic_takes is_op (typing scope a).inferred (typing scope b).inferred in
        by_typing e (typings.two_typing scope e o a b is)
        (binary_typed scope e o (typing scope a) (typing scope b) type h.left h.right
        (t.0 ∙ are_numbers (typing scope a).inferred (typing scope b).inferred type h.one n) (t.1 ∙ h.one.0))

    pub order_typed : (o : Op) → e.form ≡ forms.Binary o a b → IsOrder o → IsNumeric type → Typed (typing scope e) Boolean
    order_typed o is is_op n =
        let t = order_takes is_op (typing scope a).inferred (typing scope b).inferred in
        by_typing e (typings.two_typing scope e o a b is)
        (binary_typed scope e o (typing scope a) (typing scope b) Boolean h.left h.right
        (t.0 ∙ are_numbers (typing scope a).inferred (typing scope b).inferred type h.one n) t.1)

    pub equality_typed : (o : Op) → e.form ≡ forms.Binary o a b → IsEquality o → Typed (typing scope e) Boolean
    equality_typed o is is_op =
        let t = equality_takes is_op (typing scope a).inferred (typing scope b).inferred in
        by_typing e (typings.two_typing scope e o a b is)
        (binary_typed scope e o (typing scope a) (typing scope b) Boolean h.left h.right
        (t.0 ∙ are_one (typing scope a).inferred (typing scope b).inferred type h.one) t.1)

    -- `min` and `max`
    pub extreme_typed : (name : List ℕ) (function : Function) → e.form ≡ forms.Call name (a ∷ b ∷ [])
        → function_named name ≡ Some function → param_types function ≡ Two Numeric Numeric
        → agree function (typing scope a).inferred (typing scope b).inferred
        ≡ are_of_one_type (typing scope a).inferred (typing scope b).inferred
        → has_enough_keys function (typing scope a).inferred (typing scope b).inferred ≡ true
        → result_of_two function (typing scope a).inferred (typing scope b).inferred
        ≡ coerced_beside (typing scope b).inferred (typing scope a).inferred
        → IsNumeric type → Typed (typing scope e) type
    extreme_typed name function is is_named params agrees enough gives n =
        by_typing e (typings.call_typing scope e name (a ∷ b ∷ []) is)
        (call_typed scope e name function (typing scope a ∷ typing scope b ∷ []) type is_named (gives ∙ h.one.0)
        (ap (λ (p : ParamTypes). first_of (called_tests function e.at p (typing scope a ∷ typing scope b ∷ []))) params
        ∙ pair_passes function e.at Numeric Numeric (typing scope a) (typing scope b)
        (argument_passes Numeric (typing scope a) (h.left.1 None) (h.left_numeric n))
        (argument_passes Numeric (typing scope b) (h.right.1 None) (h.right_numeric n))
        (agrees ∙ are_one (typing scope a).inferred (typing scope b).inferred type h.one) enough))

  logic_typed : (e a b : Expr) (o : Op) → e.form ≡ forms.Binary o a b → IsLogical o
      → Typed (typing scope a) Boolean → Typed (typing scope b) Boolean → Typed (typing scope e) Boolean
  logic_typed e a b o is is_op h k =
      let t = logical_takes is_op (typing scope a).inferred (typing scope b).inferred in
      by_typing e (typings.two_typing scope e o a b is)
      (binary_typed scope e o (typing scope a) (typing scope b) Boolean (h.1, h.2) (k.1, k.2)
      (t.0 ∙ and_true (has_type Boolean (typing scope a).inferred.ivy_type) (has_type Boolean (typing scope b).inferred.ivy_type)
      (has_it Boolean (typing scope a).inferred.ivy_type h.0) (has_it Boolean (typing scope b).inferred.ivy_type k.0)) t.1)

  -- a call of one argument
  one_typed : (e a : Expr) (name : List ℕ) (function : Function) (param : ParamType) (type : IvyType)
      → e.form ≡ forms.Call name (a ∷ []) → function_named name ≡ Some function → param_types function ≡ One param
      → ((each : Option IvyType) → Passes ((typing scope a).tests each))
      → fits_param param (typing scope a).inferred ≡ true
      → result_of_one function (typing scope a).inferred ≡ Some type
      → Typed (typing scope e) type
  one_typed e a name function param type is is_named params passes fits gives =
      by_typing e (typings.call_typing scope e name (a ∷ []) is)
      (call_typed scope e name function (typing scope a ∷ []) type is_named gives
      (ap (λ (p : ParamTypes). first_of (called_tests function e.at p (typing scope a ∷ []))) params
      ∙ argument_passes param (typing scope a) (passes (member_type param)) fits))

  -- a call of two arguments of which one type each is asked
  two_typed : (e a b : Expr) (name : List ℕ) (function : Function) (v w type : IvyType)
      → e.form ≡ forms.Call name (a ∷ b ∷ []) → function_named name ≡ Some function
      → param_types function ≡ Two (Exactly v) (Exactly w)
      → Takes (typing scope a) v → Takes (typing scope b) w
      → agree function (typing scope a).inferred (typing scope b).inferred ≡ true
      → has_enough_keys function (typing scope a).inferred (typing scope b).inferred ≡ true
      → result_of_two function (typing scope a).inferred (typing scope b).inferred ≡ Some type
      → Typed (typing scope e) type
  two_typed e a b name function v w type is is_named params s t agrees enough gives =
      by_typing e (typings.call_typing scope e name (a ∷ b ∷ []) is)
      (call_typed scope e name function (typing scope a ∷ typing scope b ∷ []) type is_named gives
      (ap (λ (p : ParamTypes). first_of (called_tests function e.at p (typing scope a ∷ typing scope b ∷ []))) params
      ∙ pair_passes function e.at (Exactly v) (Exactly w) (typing scope a) (typing scope b)
      (argument_passes (Exactly v) (typing scope a) (s.0.1 None) s.1)
      (argument_passes (Exactly w) (typing scope b) (t.0.1 None) t.1) agrees enough))

  -- a list of members of a type, as an argument
  list_argument : (e : Expr) (type : IvyType) (members : List Expr) → e.form ≡ forms.Members members
      → Passes (list_tests (Some type) (map (typing scope) members))
      → Passes (argument_tests (ListOf type) (typing scope e)) × (member_count (typing scope e).inferred ≡ length members)
  unfolding is_list
  list_argument e type members is passes =
      let typed = typings.list_typing scope e members is in (
        argument_passes (ListOf type) (typing scope e)
            (ap (λ (t : Typing). first_of (t.tests (Some type))) typed ∙ passes)
            (ap (λ (t : Typing). fits_param (ListOf type) t.inferred) typed),
        ap (λ (t : Typing). member_count t.inferred) typed ∙ length-map members (typing scope),
      )

  signatures_typed : (e a b : Expr) (keys sigs : List Expr) → e.form ≡ forms.Call (codes "checkTxMultiSig") (a ∷ b ∷ [])
      → a.form ≡ forms.Members keys → b.form ≡ forms.Members sigs
      → Passes (list_tests (Some PublicKey) (map (typing scope) keys))
      → Passes (list_tests (Some Signature) (map (typing scope) sigs))
      → length sigs ≤ length keys
      → Typed (typing scope e) Boolean
  signatures_typed e a b keys sigs is a_is b_is s t few =
      let one = list_argument a PublicKey keys a_is s in
      let other = list_argument b Signature sigs b_is t in
      by_typing e (typings.call_typing scope e (codes "checkTxMultiSig") (a ∷ b ∷ []) is)
      (call_typed scope e (codes "checkTxMultiSig") f.CheckTxMultiSig (typing scope a ∷ typing scope b ∷ []) Boolean refl refl
      (pair_passes f.CheckTxMultiSig e.at (ListOf PublicKey) (ListOf Signature) (typing scope a) (typing scope b) one.0 other.0 refl
      ((λ i. not (nat_lt (one.1 i) (other.1 i))) ∙ ap not (le-ltb (length keys) (length sigs) few))))

  member_passes : (type : IvyType) (t : Typing) → Typed t type → Passes (member_tests (Some type) t)
  member_passes type t h =
      both_pass (t.tests None) (fault 9 t.from (not (has_type type t.inferred.ivy_type))) (h.2 None)
      (passes_unless 9 t.from (has_type type t.inferred.ivy_type) (has_it type t.inferred.ivy_type h.0))

  mutual
    pub typed : {e : Expr} {type : IvyType} → HasType scope e type → Typed (typing scope e) type
    typed (rule.number {e = e} n is) = by_typing e (typings.number_typing scope e n is) (refl, refl, λ each. refl)
    typed (rule.truth {e = e} b is) = by_typing e (typings.truth_typing scope e b is) (refl, refl, λ each. refl)
    typed (rule.hex {e = e} bytes is) = by_typing e (typings.hex_typing scope e bytes is) (refl, refl, λ each. refl)
    typed (rule.text {e = e} bytes is) = by_typing e (typings.text_typing scope e bytes is) (refl, refl, λ each. refl)
    typed (rule.parameter {e = e} {type = type} name is p) =
        by_typing e (typings.name_typing scope e name is) (parameter_stands e name type p)
    typed (rule.minus {e = e} {type = type} arg is h n) =
        by_typing e (typings.one_typing scope e op.Negate arg is) (minus_typed scope e (typing scope arg) type (typed h) n)
    typed (rule.negation {e = e} arg is h) =
        by_typing e (typings.one_typing scope e op.Not arg is) (not_typed scope e (typing scope arg) (typed h))
    typed (rule.arithmetic {e = e} {type = type} o a b is is_op h n) = arithmetic_typed e a b type (typed_alike h) o is is_op n
    typed (rule.order {e = e} o a b type is is_op h n) = order_typed e a b type (typed_alike h) o is is_op n
    typed (rule.equality {e = e} o a b type is is_op h) = equality_typed e a b type (typed_alike h) o is is_op
    typed (rule.logic {e = e} o a b is is_op h k) = logic_typed e a b o is is_op (typed h) (typed k)
    typed (rule.abs {e = e} {type = type} a is h n) =
        let t = typed h in
        one_typed e a (codes "abs") f.Abs Numeric type is refl refl t.2 (has_numeric type (typing scope a).inferred.ivy_type n t.0) t.0
    typed (rule.min {e = e} {type = type} a b is h n) =
        extreme_typed e a b type (typed_alike h) (codes "min") f.Min is refl refl refl refl refl n
    typed (rule.max {e = e} {type = type} a b is h n) =
        extreme_typed e a b type (typed_alike h) (codes "max") f.Max is refl refl refl refl refl n
    typed (rule.size {e = e} a type is h n) =
        let t = typed h in
        one_typed e a (codes "size") f.Size Plain Integer is refl refl t.2 (has_bytes type (typing scope a).inferred.ivy_type n t.0) refl
    typed (rule.bytes {e = e} a type is h) =
        let t = typed h in
        one_typed e a (codes "bytes") f.BytesOf Any String is refl refl t.2 (ap not (no_list (typing scope a).inferred t.1)) refl
    typed (rule.sha256 {e = e} a type is h n) =
        let t = typed h in
        one_typed e a (codes "sha256") f.Sha256 Plain Hash is refl refl t.2 (has_bytes type (typing scope a).inferred.ivy_type n t.0) refl
    typed (rule.concat {e = e} a b is s t) =
        two_typed e a b (codes "concat") f.Concat String String String is refl refl (typed_takes s) (typed_takes t) refl refl refl
    typed (rule.concatpush {e = e} a b is s t) =
        two_typed e a b (codes "concatpush") f.ConcatPush String String String is refl refl (typed_takes s) (typed_takes t) refl refl refl
    typed (rule.check_tx_sig {e = e} a b is s t) =
        two_typed e a b (codes "checkTxSig") f.CheckTxSig PublicKey Signature Boolean is refl refl (typed_takes s) (typed_takes t)
        refl refl refl
    typed (rule.check_tx_multi_sig {e = e} a b keys sigs is a_is b_is s t few) =
        signatures_typed e a b keys sigs is a_is b_is (typed_all s) (typed_all t) few
    typed (rule.before {e = e} a is s) =
        let t = typed_takes s in one_typed e a (codes "before") f.Before (Exactly Time) Boolean is refl refl t.0.1 t.1 refl
    typed (rule.after {e = e} a is s) =
        let t = typed_takes s in one_typed e a (codes "after") f.After (Exactly Time) Boolean is refl refl t.0.1 t.1 refl

    pub typed_alike : {a b : Expr} {type : IvyType} → HaveOneType scope a b type → Alike (typing scope a) (typing scope b) type
    typed_alike (rule.both {left = a} {right = b} {type = type} h k) =
        let s = typed h in
        let t = typed k in
        record {
          left = (s.1, s.2);
          right = (t.1, t.2);
          one = one_of_both (typing scope a).inferred (typing scope b).inferred type s.0 t.0;
          left_numeric = λ n. has_numeric type (typing scope a).inferred.ivy_type n s.0;
          right_numeric = λ n. has_numeric type (typing scope b).inferred.ivy_type n t.0;
        }
    typed_alike (rule.left_takes {left = a} {right = b} {type = type} l isnt k n) =
        let s = literal_typed l in
        let t = typed k in
        record {
          left = (ap (λ (i : Inferred). i.members) s.0, s.1);
          right = (t.1, t.2);
          one = one_of_second (typing scope a).inferred (typing scope b).inferred type
              (ap (λ (i : Inferred). i.is_literal) s.0) (no_such_literal b isnt) n t.0;
          left_numeric = λ n. ap (λ (i : Inferred). has_numeric_type i.ivy_type) s.0;
          right_numeric = λ n. has_numeric type (typing scope b).inferred.ivy_type n t.0;
        }
    typed_alike (rule.right_takes {left = a} {right = b} {type = type} l isnt k n) =
        let s = literal_typed l in
        let t = typed k in
        let one = one_of_second (typing scope b).inferred (typing scope a).inferred type
        (ap (λ (i : Inferred). i.is_literal) s.0) (no_such_literal a isnt) n t.0 in
        record {
          left = (t.1, t.2);
          right = (ap (λ (i : Inferred). i.members) s.0, s.1);
          one = (one.1, one.0);
          left_numeric = λ n. has_numeric type (typing scope a).inferred.ivy_type n t.0;
          right_numeric = λ n. ap (λ (i : Inferred). has_numeric_type i.ivy_type) s.0;
        }

    pub typed_takes : {e : Expr} {type : IvyType} → TakesType scope e type → Takes (typing scope e) type
    typed_takes (rule.has {e = e} {type = type} h) = takes_its (typing scope e) type (typed h)
    typed_takes (rule.takes {e = e} {type = type} l n) =
        let s = literal_typed l in takes_other (typing scope e) type n s.0 s.1

    pub typed_all : {type : IvyType} {es : List Expr} → AllHaveType scope type es
        → Passes (list_tests (Some type) (map (typing scope) es))
    typed_all rule.none = refl
    typed_all (rule.one_more {type = type} {e = e} {es = es} h hs) =
        both_pass (member_tests (Some type) (typing scope e)) (list_tests (Some type) (map (typing scope) es))
        (member_passes type (typing scope e) (typed h)) (typed_all hs)
