-- What passes its tests has a type by the table, where the types of the scope's parameters exist.
use Rattle.std.proofs.Common.{◌≡◌, ◌≤◌, ◌<◌, ℕ, Bool, true, false, not, ◌&&◌, ◌||◌, ◌∷◌, List, [], ◌++◌, Option, Some, None, refl, ap, sym, ◌∙◌, subst, inl, inr, ◌⊎◌}
use Rattle.std.proofs.Common.{map, length, is_some, unwrap_or, nat_lt, if◌then◌else◌}
use Rattle.std.specs.List.{AllByRecursion}
use Rattle.std.proofs.lemmas.Bool.{cases_lt, lt-ltb}
use Rattle.std.proofs.lemmas.List.{length-map}
use Rattle.ivy_syntax.specs.declared.tree.Op.{Op}
use Rattle.ivy_syntax.specs.declared.tree.Op.TheVariants as op
use Rattle.ivy_syntax.specs.declared.tree.Expr.{Expr}
use Rattle.ivy_syntax.specs.declared.tree.Form.{Form}
use Rattle.ivy_syntax.specs.declared.tree.Form.TheOpen.{Form-F}
use Rattle.ivy_syntax.specs.declared.tree.Form.TheVariants as forms
use Rattle.ivy_syntax.specs.declared.tree.Word.{Word}
use Rattle.ivy_syntax.specs.declared.tree.Group.{Group}
use Rattle.ivy_check.specs.declared.types.IvyType.{IvyType}
use Rattle.ivy_check.specs.declared.types.IvyType.TheVariants.{Boolean, Hash, Integer, PublicKey, Signature, String, Time}
use Rattle.ivy_check.specs.Expressions.{Inferred}
use Rattle.ivy_check.specs.declared.functions.Function.{Function}
use Rattle.ivy_check.specs.declared.functions.Function.TheVariants as f
use Rattle.ivy_check.specs.declared.functions.ParamType.{ParamType}
use Rattle.ivy_check.specs.declared.functions.ParamType.TheVariants.{Exactly, Numeric, Plain, Any, ListOf}
use Rattle.ivy_check.specs.declared.functions.ParamTypes.{ParamTypes}
use Rattle.ivy_check.specs.declared.functions.ParamTypes.TheVariants.{One, Two}
use Rattle.ivy_check.specs.Tests.{fault, first_of}
use Rattle.ivy_check.specs.Types.{type_named, is_numeric, has_type, have_one_type, has_numeric_type, has_plain_type}
use Rattle.ivy_check.specs.Scope.{Scope, is_value, is_parameter, is_among, kind_word, names_parameter, is_unknown}
use Rattle.ivy_check.specs.Functions.{function_named, param_types}
use Rattle.ivy_check.specs.Expressions.{is_list, coerced_beside, are_of_one_type, are_numeric, are_booleans}
use Rattle.ivy_check.specs.Expressions.{unary_result, takes_operand, takes_operands, fits_param, member_type, agree, member_count}
use Rattle.ivy_check.specs.Expressions.{has_enough_keys, Typing, form_typing, typing, operand_tests, member_tests, list_tests}
use Rattle.ivy_check.specs.Expressions.{argument_tests, both_tests, called_tests, call_tests, whole_tests, name_tests}
use Rattle.ivy_check.specs.Typing as rule
use Rattle.ivy_check.specs.Typing.{IsNumeric, IsOfBytes, IsArithmetic, IsOrder, IsEquality, IsLogical, IsNumberLiteral, Declares}
use Rattle.ivy_check.specs.Typing.{HasType, HaveOneType, TakesType, AllHaveType, IsParameter, NamesType, TypesExist}
use Rattle.ivy_check.proofs.WholeLemmas.{none_both}
use Rattle.ivy_check.proofs.TypeWords.{not_both, numeric_is, bytes_are, same_is, word_declares, value_is, parameter_is, function_name_is, name_of, type_name_names}
use Rattle.ivy_check.proofs.FormTypings.{placed_at, by_forms, expr_of, AllWithin}
use Rattle.ivy_check.proofs.FormTypings as typings
use Rattle.ivy_check.proofs.TypingRules.{Passes, UnaryView, is_not, is_minus, is_none, unary_view, literal_is, literal_typed, typed, typed_alike}

-- ---- tests that passed

pub passed_if : (kind at : ℕ) (b : Bool) → Passes (fault kind at b) → b ≡ false
passed_if kind at true h = absurd cc
passed_if kind at false h = refl

pub passed_unless : (kind at : ℕ) (b : Bool) → Passes (fault kind at (not b)) → b ≡ true
passed_unless kind at true h = refl
passed_unless kind at false h = absurd cc

true_and : (x y : Bool) → (x && y) ≡ true → (x ≡ true) × (y ≡ true)
true_and true y h = (refl, h)
true_and false y h = absurd cc

not_true_is : (b : Bool) → not b ≡ true → b ≡ false
not_true_is true h = absurd cc
not_true_is false h = refl

no_members : (i : Inferred) (o : Option ℕ) → i.members ≡ o → is_list i ≡ false → i.members ≡ None
unfolding is_list
no_members i None is h = is
no_members i (Some n) is h = not_both (is_list i) (ap (λ (o : Option ℕ). is_some o) is) h

pub is_no_list : (i : Inferred) → is_list i ≡ false → i.members ≡ None
is_no_list i h = no_members i i.members refl h

some_members : (i : Inferred) (o : Option ℕ) → i.members ≡ o → is_list i ≡ true → (n : ℕ) × (i.members ≡ Some n)
unfolding is_list
some_members i None is h = not_both (is_list i) h (ap (λ (o : Option ℕ). is_some o) is)
some_members i (Some n) is h = (n, is)

pub has_is : (expected type : IvyType) (o : Option IvyType) → o ≡ Some type → has_type expected o ≡ true → type ≡ expected
has_is expected type o is h = same_is type expected (sym (ap (has_type expected) is) ∙ h)

-- ---- operators between operands

data BinaryView : Op → Type 0 where
  is_arithmetic : {o : Op} → IsArithmetic o
      → ((l r : Inferred) → takes_operands o l r ≡ are_numeric l r) → BinaryView o
  is_order : {o : Op} → IsOrder o
      → ((l r : Inferred) → takes_operands o l r ≡ are_numeric l r) → BinaryView o
  is_equality : {o : Op} → IsEquality o
      → ((l r : Inferred) → takes_operands o l r ≡ are_of_one_type l r) → BinaryView o
  is_logical : {o : Op} → IsLogical o
      → ((l r : Inferred) → takes_operands o l r ≡ are_booleans l r) → BinaryView o
  is_neither : {o : Op} → ((l r : Inferred) → takes_operands o l r ≡ false) → BinaryView o

binary_view : (o : Op) → BinaryView o
binary_view op.Or = is_logical rule.or (λ l r. refl)
binary_view op.And = is_logical rule.and (λ l r. refl)
binary_view op.Equal = is_equality rule.equal (λ l r. refl)
binary_view op.NotEqual = is_equality rule.not_equal (λ l r. refl)
binary_view op.Less = is_order rule.less (λ l r. refl)
binary_view op.LessEqual = is_order rule.less_equal (λ l r. refl)
binary_view op.Greater = is_order rule.greater (λ l r. refl)
binary_view op.GreaterEqual = is_order rule.greater_equal (λ l r. refl)
binary_view op.ShiftLeft = is_arithmetic rule.shift_left (λ l r. refl)
binary_view op.ShiftRight = is_arithmetic rule.shift_right (λ l r. refl)
binary_view op.Add = is_arithmetic rule.add (λ l r. refl)
binary_view op.Sub = is_arithmetic rule.sub (λ l r. refl)
binary_view op.Mul = is_arithmetic rule.mul (λ l r. refl)
binary_view op.Div = is_arithmetic rule.div (λ l r. refl)
binary_view op.Rem = is_arithmetic rule.rem (λ l r. refl)
binary_view op.Not = is_neither (λ l r. refl)
binary_view op.Negate = is_neither (λ l r. refl)

numeric_either : (c : Bool) (x y : Option IvyType) → has_numeric_type x ≡ true → has_numeric_type y ≡ true
    → has_numeric_type (if c then x else y) ≡ true
numeric_either true x y h k = h
numeric_either false x y h k = k

few_enough : (keys sigs : ℕ) → not (nat_lt keys sigs) ≡ true → sigs ≤ keys
few_enough keys sigs h = few_in keys sigs (cases_lt keys sigs) h
  where
    few_in : (keys sigs : ℕ) → (keys < sigs) ⊎ (sigs ≤ keys) → not (nat_lt keys sigs) ≡ true → sigs ≤ keys
    few_in keys sigs (inl less) h = not_both (nat_lt keys sigs) (lt-ltb keys sigs less) (not_true_is (nat_lt keys sigs) h)
    few_in keys sigs (inr le) h = le

unary_members : (o : Op) (i : Inferred) → UnaryView o → (unary_result o i).members ≡ None
unary_members op.Not i is_not = refl
unary_members op.Negate i is_minus = refl
unary_members o i (is_none takes gives) = ap (λ (r : Inferred). r.members) (gives i)

-- the types of all parameters of these groups exist
abbrev pub AreKnown : List Group → Type 0
AreKnown groups = (name : List ℕ) (word : Word) → kind_word name groups ≡ Some word
    → (type : IvyType) × (type_named word.name ≡ Some type)

module _ (scope : Scope) (clause_known : AreKnown scope.clause.params) (contract_known : AreKnown scope.contract.params) where
  -- it has a type
  abbrev HasSome : Expr → Type 0
  HasSome e = (type : IvyType) × HasType scope e type

  -- it is a list, whose members have the type that is asked for
  abbrev IsListOf : Option IvyType → Expr → Type 0
  IsListOf each e = (es : List Expr) × (e.form ≡ forms.Members es)
      × ((type : IvyType) → each ≡ Some type → AllHaveType scope type es)

  abbrev Found : Option IvyType → Expr → Typing → Type 0
  Found each e t = (t.inferred.members ≡ None → HasSome e)
      × ((n : ℕ) → t.inferred.members ≡ Some n → IsListOf each e)

  abbrev Finds : Expr → Typing → Type 0
  Finds e t = (each : Option IvyType) → Passes (t.tests each) → Found each e t

  abbrev FindsIt : Expr → Type 0
  FindsIt e = Finds e (typing scope e)

  by_typing : (e : Expr) (t : Typing) → typing scope e ≡ t → Finds e t → FindsIt e
  by_typing e t is h = subst (Finds e) (sym is) h

  found_type : (each : Option IvyType) (e : Expr) (t : Typing) → t.inferred.members ≡ None → HasSome e → Found each e t
  found_type each e t none h = ((λ is. h), (λ n is. absurd cc))

  inferred_is : (e : Expr) (h : HasSome e) → (typing scope e).inferred.ivy_type ≡ Some h.0
  inferred_is e h = (typed scope h.1).0

  as_type : (e : Expr) (expected : IvyType) → HasSome e → has_type expected (typing scope e).inferred.ivy_type ≡ true
      → HasType scope e expected
  as_type e expected h holds =
      subst (HasType scope e) (has_is expected h.0 (typing scope e).inferred.ivy_type (inferred_is e h) holds) h.1

  is_numeric_type : (type : IvyType) (o : Option IvyType) → o ≡ Some type → has_numeric_type o ≡ true → IsNumeric type
  is_numeric_type type o is h = numeric_is type (sym (ap has_numeric_type is) ∙ h)

  is_of_bytes : (type : IvyType) (o : Option IvyType) → o ≡ Some type → has_plain_type o ≡ true → IsOfBytes type
  is_of_bytes type o is h = bytes_are type (sym (ap has_plain_type is) ∙ h)

  -- an operand has a type
  operand_found : (e : Expr) → FindsIt e → Passes (operand_tests (typing scope e)) → HasSome e
  operand_found e finds h =
      let t : Typing = typing scope e in
      let both = none_both (t.tests None) (fault 9 t.at (is_list t.inferred)) h in
      (finds None both.0).0 (is_no_list t.inferred (passed_if 9 t.at (is_list t.inferred) both.1))

  pub whole_found : (e : Expr) → FindsIt e → Passes (whole_tests (typing scope e)) → HasSome e
  whole_found e finds h =
      let t : Typing = typing scope e in
      let both = none_both (t.tests None) (fault 9 t.from (is_list t.inferred)) h in
      (finds None both.0).0 (is_no_list t.inferred (passed_if 9 t.from (is_list t.inferred) both.1))

  -- ---- operands of one type

  no_number : (e : Expr) → (typing scope e).inferred.is_literal ≡ false → IsNumberLiteral e → ⊥
  no_number e h l = not_both (typing scope e).inferred.is_literal (ap (λ (i : Inferred). i.is_literal) (literal_typed scope l).0) h

  module _ (a b : Expr) (s : HasSome a) (t : HasSome b) where
    abbrev i : Inferred
    i = (typing scope a).inferred

    abbrev j : Inferred
    j = (typing scope b).inferred

    alike_in : (c d : Bool) → (i.is_literal && not j.is_literal && has_numeric_type j.ivy_type) ≡ c
        → (j.is_literal && not i.is_literal && has_numeric_type i.ivy_type) ≡ d
        → have_one_type (if c then j.ivy_type else i.ivy_type) (if d then i.ivy_type else j.ivy_type) ≡ true
        → (type : IvyType) × HaveOneType scope a b type
    alike_in true d c_is d_is h =
        let outer = true_and (i.is_literal && not j.is_literal) (has_numeric_type j.ivy_type) c_is in
        let inner = true_and i.is_literal (not j.is_literal) outer.0 in (
          t.0,
          rule.left_takes (literal_is scope a inner.0) (no_number b (not_true_is j.is_literal inner.1)) t.1
              (is_numeric_type t.0 j.ivy_type (inferred_is b t) outer.1),
        )
    alike_in false true c_is d_is h =
        let outer = true_and (j.is_literal && not i.is_literal) (has_numeric_type i.ivy_type) d_is in
        let inner = true_and j.is_literal (not i.is_literal) outer.0 in (
          s.0,
          rule.right_takes (literal_is scope b inner.0) (no_number a (not_true_is i.is_literal inner.1)) s.1
              (is_numeric_type s.0 i.ivy_type (inferred_is a s) outer.1),
        )
    alike_in false false c_is d_is h =
        let same : t.0 ≡ s.0 = same_is t.0 s.0 (sym (λ k. have_one_type (inferred_is a s k) (inferred_is b t k)) ∙ h) in
        (s.0, rule.both s.1 (subst (HasType scope b) same t.1))

    pub alike_found : are_of_one_type i j ≡ true → (type : IvyType) × HaveOneType scope a b type
    alike_found h =
        alike_in (i.is_literal && not j.is_literal && has_numeric_type j.ivy_type)
        (j.is_literal && not i.is_literal && has_numeric_type i.ivy_type) refl refl h

    numbers_found : are_numeric i j ≡ true → (type : IvyType) × HaveOneType scope a b type × IsNumeric type
    numbers_found h =
        let both = true_and (are_of_one_type i j) (has_numeric_type (coerced_beside j i)) h in
        let found = alike_found both.0 in
        (found.0, found.1, is_numeric_type found.0 (coerced_beside j i) (typed_alike scope found.1).one.0 both.1)

    binary_found : (e : Expr) (o : Op) → e.form ≡ forms.Binary o a b → BinaryView o → takes_operands o i j ≡ true → HasSome e
    binary_found e o is (is_arithmetic is_op takes) h =
        let found = numbers_found (sym (takes i j) ∙ h) in (found.0, rule.arithmetic o a b is is_op found.1 found.2)
    binary_found e o is (is_order is_op takes) h =
        let found = numbers_found (sym (takes i j) ∙ h) in (Boolean, rule.order o a b found.0 is is_op found.1 found.2)
    binary_found e o is (is_equality is_op takes) h =
        let found = alike_found (sym (takes i j) ∙ h) in (Boolean, rule.equality o a b found.0 is is_op found.1)
    binary_found e o is (is_neither takes) h = not_both (takes_operands o i j) h (takes i j)
    binary_found e o is (is_logical is_op takes) h =
        let both = true_and (has_type Boolean i.ivy_type) (has_type Boolean j.ivy_type) (sym (takes i j) ∙ h) in
        (Boolean, rule.logic o a b is is_op (as_type a Boolean s both.0) (as_type b Boolean t both.1))

  unary_found : (e : Expr) (o : Op) (arg : Expr) → e.form ≡ forms.Unary o arg → UnaryView o → HasSome arg
      → takes_operand o (typing scope arg).inferred ≡ true → HasSome e
  unary_found e op.Not arg is is_not s h = (Boolean, rule.negation arg is (as_type arg Boolean s h))
  unary_found e op.Negate arg is is_minus s h =
      (s.0, rule.minus arg is s.1 (is_numeric_type s.0 (typing scope arg).inferred.ivy_type (inferred_is arg s) h))
  unary_found e o arg is (is_none takes gives) s h =
      not_both (takes_operand o (typing scope arg).inferred) h (takes (typing scope arg).inferred)

  -- ---- names

  known_word : (groups : List Group) → AreKnown groups → (name : List ℕ) (o : Option Word) → kind_word name groups ≡ o
      → is_some o ≡ true → (type : IvyType) × Declares groups name type
  known_word groups known name None is h = absurd cc
  known_word groups known name (Some word) is h =
      let type = known name word is in (type.0, word_declares groups name type.0 word is type.1)

  name_in : (e : Expr) (name : List ℕ) → e.form ≡ forms.Name name → (b c : Bool) → is_parameter name scope.clause.params ≡ b
      → is_parameter name scope.contract.params ≡ c → (b || c) ≡ true → is_value scope name ≡ false → HasSome e
  name_in e name is true c b_is c_is h no_value =
      let d = known_word scope.clause.params clause_known name (kind_word name scope.clause.params) refl b_is in
      (d.0, rule.parameter name is (rule.of_clause (sym (value_is scope name) ∙ no_value) d.1))
  name_in e name is false true b_is c_is h no_value =
      let d = known_word scope.contract.params contract_known name (kind_word name scope.contract.params) refl c_is in (
        d.0,
        rule.parameter name is (rule.of_contract (sym (value_is scope name) ∙ no_value)
            (sym (parameter_is name scope.clause.params) ∙ b_is) d.1),
      )
  name_in e name is false false b_is c_is h no_value = absurd cc

  known_name : (v k : Bool) → (not v && not k) ≡ false → v ≡ false → k ≡ true
  known_name v true h not_value = refl
  known_name true false h not_value = absurd cc
  known_name false false h not_value = absurd cc

  name_found : (e : Expr) (name : List ℕ) → e.form ≡ forms.Name name → Passes (name_tests scope name e.at) → HasSome e
  name_found e name is h =
      let both = none_both (fault 6 e.at (is_unknown scope name)) (fault 14 e.at (is_value scope name)) h in
      let no_value = passed_if 14 e.at (is_value scope name) both.1 in
      name_in e name is (is_parameter name scope.clause.params) (is_parameter name scope.contract.params) refl refl
      (known_name (is_value scope name) (names_parameter scope name) (passed_if 6 e.at (is_unknown scope name) both.0) no_value)
      no_value

  -- ---- arguments

  abbrev PassesAs : ParamType → Expr → Type 0
  PassesAs param e = Passes (argument_tests param (typing scope e))

  argument_parts : (param : ParamType) (e : Expr) → FindsIt e → PassesAs param e
      → Found (member_type param) e (typing scope e) × (fits_param param (typing scope e).inferred ≡ true)
  argument_parts param e finds h =
      let t : Typing = typing scope e in
      let both = none_both (t.tests (member_type param)) (fault 9 t.from (not (fits_param param t.inferred))) h in
      (finds (member_type param) both.0, passed_unless 9 t.from (fits_param param t.inferred) both.1)

  -- a list has no type
  list_untyped : (e : Expr) (es : List Expr) → e.form ≡ forms.Members es → (typing scope e).inferred.ivy_type ≡ None
  list_untyped e es is = ap (λ (t : Typing). t.inferred.ivy_type) (typings.list_typing scope e es is)

  by_members : (each : Option IvyType) (e : Expr) (o : Option ℕ) → (typing scope e).inferred.members ≡ o
      → Found each e (typing scope e) → ((typing scope e).inferred.ivy_type ≡ None → ⊥) → HasSome e
  by_members each e None is found has_one = found.0 is
  by_members each e (Some n) is found has_one =
      let l = found.1 n is in absurd (has_one (list_untyped e l.0 l.1))

  typed_argument : (each : Option IvyType) (e : Expr) → Found each e (typing scope e)
      → ((typing scope e).inferred.ivy_type ≡ None → ⊥) → HasSome e
  typed_argument each e found has_one = by_members each e (typing scope e).inferred.members refl found has_one

  numeric_argument : (e : Expr) → FindsIt e → PassesAs Numeric e → (type : IvyType) × HasType scope e type × IsNumeric type
  numeric_argument e finds h =
      let parts = argument_parts Numeric e finds h in
      let o : Option IvyType = (typing scope e).inferred.ivy_type in
      let found = typed_argument None e parts.0
      (λ none. not_both (has_numeric_type (typing scope e).inferred.ivy_type) parts.1 (ap has_numeric_type none)) in
      (found.0, found.1, is_numeric_type found.0 o (inferred_is e found) parts.1)

  bytes_argument : (e : Expr) → FindsIt e → PassesAs Plain e → (type : IvyType) × HasType scope e type × IsOfBytes type
  bytes_argument e finds h =
      let parts = argument_parts Plain e finds h in
      let o : Option IvyType = (typing scope e).inferred.ivy_type in
      let found = typed_argument None e parts.0
      (λ none. not_both (has_plain_type (typing scope e).inferred.ivy_type) parts.1 (ap has_plain_type none)) in
      (found.0, found.1, is_of_bytes found.0 o (inferred_is e found) parts.1)

  any_argument : (e : Expr) → FindsIt e → PassesAs Any e → HasSome e
  any_argument e finds h =
      let parts = argument_parts Any e finds h in
      parts.0.0 (is_no_list (typing scope e).inferred (not_true_is (is_list (typing scope e).inferred) parts.1))

  takes_in : (type : IvyType) (e : Expr) → Found None e (typing scope e) → (c : Bool)
      → ((typing scope e).inferred.is_literal && is_numeric type) ≡ c
      → has_type type (if c then Some type else (typing scope e).inferred.ivy_type) ≡ true
      → TakesType scope e type
  takes_in type e found true c_is h =
      let both = true_and (typing scope e).inferred.is_literal (is_numeric type) c_is in
      rule.takes (literal_is scope e both.0) (numeric_is type both.1)
  takes_in type e found false c_is h =
      rule.has (as_type e type
      (typed_argument None e found
      (λ none. not_both (has_type type (typing scope e).inferred.ivy_type) h (ap (has_type type) none))) h)

  pub takes_found : (type : IvyType) (e : Expr) → Found None e (typing scope e)
      → fits_param (Exactly type) (typing scope e).inferred ≡ true → TakesType scope e type
  takes_found type e found h =
      takes_in type e found ((typing scope e).inferred.is_literal && is_numeric type) refl h

  one_type_argument : (type : IvyType) (e : Expr) → FindsIt e → PassesAs (Exactly type) e → TakesType scope e type
  one_type_argument type e finds h =
      let parts = argument_parts (Exactly type) e finds h in takes_found type e parts.0 parts.1

  list_argument : (type : IvyType) (e : Expr) → FindsIt e → PassesAs (ListOf type) e
      → (es : List Expr) × (e.form ≡ forms.Members es) × AllHaveType scope type es
      × (member_count (typing scope e).inferred ≡ length es)
  list_argument type e finds h =
      let parts = argument_parts (ListOf type) e finds h in
      let n = some_members (typing scope e).inferred (typing scope e).inferred.members refl parts.1 in
      let found = parts.0.1 n.0 n.1 in (
        found.0,
        found.1,
        found.2 type refl,
        ap (λ (t : Typing). member_count t.inferred) (typings.list_typing scope e found.0 found.1)
            ∙ length-map found.0 (typing scope),
      )

  -- ---- calls

  abbrev CallPasses : Function → ParamTypes → ℕ → List Expr → Type 0
  CallPasses function params at args = Passes (called_tests function at params (map (typing scope) args))

  -- the one argument
  one_argument : (function : Function) (at : ℕ) (param : ParamType) (args : List Expr) → AllByRecursion FindsIt args
      → CallPasses function (One param) at args
      → (a : Expr) × (args ≡ a ∷ []) × FindsIt a × PassesAs param a
  one_argument function at param [] finds h = absurd cc
  one_argument function at param (a ∷ []) finds h = (a, refl, finds.0, h)
  one_argument function at param (a ∷ b ∷ args) finds h = absurd cc

  -- what is known of two arguments
  abbrev BothPass : Function → ParamType → ParamType → Expr → Expr → Type 0
  BothPass function v w a b = PassesAs v a × PassesAs w b
      × (agree function (typing scope a).inferred (typing scope b).inferred ≡ true)
      × (has_enough_keys function (typing scope a).inferred (typing scope b).inferred ≡ true)

  both_parts : (function : Function) (at : ℕ) (v w : ParamType) (a b : Expr)
      → CallPasses function (Two v w) at (a ∷ b ∷ []) → BothPass function v w a b
  both_parts function at v w a b h =
      let s : Typing = typing scope a in
      let t : Typing = typing scope b in
      let outer = none_both (argument_tests v s ++ argument_tests w t) (both_tests function at t.from s.inferred t.inferred) h in
      let args = none_both (argument_tests v s) (argument_tests w t) outer.0 in
      let both = none_both (fault 9 t.from (not (agree function s.inferred t.inferred)))
      (fault 8 at (not (has_enough_keys function s.inferred t.inferred))) outer.1 in (
        args.0,
        args.1,
        passed_unless 9 t.from (agree function s.inferred t.inferred) both.0,
        passed_unless 8 at (has_enough_keys function s.inferred t.inferred) both.1,
      )

  two_arguments : (function : Function) (at : ℕ) (v w : ParamType) (args : List Expr) → AllByRecursion FindsIt args
      → CallPasses function (Two v w) at args
      → (a : Expr) × (b : Expr) × (args ≡ a ∷ b ∷ []) × FindsIt a × FindsIt b × BothPass function v w a b
  two_arguments function at v w [] finds h = absurd cc
  two_arguments function at v w (a ∷ []) finds h = absurd cc
  two_arguments function at v w (a ∷ b ∷ []) finds h = (a, b, refl, finds.0, finds.1.0, both_parts function at v w a b h)
  two_arguments function at v w (a ∷ b ∷ c ∷ args) finds h = absurd cc

  extremes : (function : Function) (a b : Expr) → FindsIt a → FindsIt b → BothPass function Numeric Numeric a b
      → agree function (typing scope a).inferred (typing scope b).inferred
      ≡ are_of_one_type (typing scope a).inferred (typing scope b).inferred
      → (type : IvyType) × HaveOneType scope a b type × IsNumeric type
  extremes function a b finds finds_too h agrees =
      let s = numeric_argument a finds h.0 in
      let t = numeric_argument b finds_too h.1 in
      let found = alike_found a b (s.0, s.1) (t.0, t.1) (sym agrees ∙ h.2) in
      let i : Inferred = (typing scope a).inferred in
      let j : Inferred = (typing scope b).inferred in (
        found.0,
        found.1,
        is_numeric_type found.0 (coerced_beside j i) (typed_alike scope found.1).one.0
            (numeric_either (i.is_literal && not j.is_literal && has_numeric_type j.ivy_type) j.ivy_type i.ivy_type
            (argument_parts Numeric b finds_too h.1).1 (argument_parts Numeric a finds h.0).1),
      )

  module _ (e : Expr) (args : List Expr) (finds : AllByRecursion FindsIt args) where
    abbrev CallIs : Function → Type 0
    CallIs function = e.form ≡ forms.Call (name_of function) args

    with_args : (function : Function) (es : List Expr) → CallIs function → args ≡ es
        → e.form ≡ forms.Call (name_of function) es
    with_args function es is args_are = is ∙ ap (λ (xs : List Expr). forms.Call (name_of function) xs) args_are

    function_found : (function : Function) → CallIs function → CallPasses function (param_types function) e.at args
        → HasSome e
    function_found f.Abs is h =
        let x = one_argument f.Abs e.at Numeric args finds h in
        let t = numeric_argument x.0 x.2 x.3 in
        (t.0, rule.abs x.0 (with_args f.Abs (x.0 ∷ []) is x.1) t.1 t.2)
    function_found f.Min is h =
        let x = two_arguments f.Min e.at Numeric Numeric args finds h in
        let t = extremes f.Min x.0 x.1 x.3 x.4 x.5 refl in
        (t.0, rule.min x.0 x.1 (with_args f.Min (x.0 ∷ x.1 ∷ []) is x.2) t.1 t.2)
    function_found f.Max is h =
        let x = two_arguments f.Max e.at Numeric Numeric args finds h in
        let t = extremes f.Max x.0 x.1 x.3 x.4 x.5 refl in
        (t.0, rule.max x.0 x.1 (with_args f.Max (x.0 ∷ x.1 ∷ []) is x.2) t.1 t.2)
    function_found f.Size is h =
        let x = one_argument f.Size e.at Plain args finds h in
        let t = bytes_argument x.0 x.2 x.3 in
        (Integer, rule.size x.0 t.0 (with_args f.Size (x.0 ∷ []) is x.1) t.1 t.2)
    function_found f.BytesOf is h =
        let x = one_argument f.BytesOf e.at Any args finds h in
        let t = any_argument x.0 x.2 x.3 in
        (String, rule.bytes x.0 t.0 (with_args f.BytesOf (x.0 ∷ []) is x.1) t.1)
    function_found f.Sha256 is h =
        let x = one_argument f.Sha256 e.at Plain args finds h in
        let t = bytes_argument x.0 x.2 x.3 in
        (Hash, rule.sha256 x.0 t.0 (with_args f.Sha256 (x.0 ∷ []) is x.1) t.1 t.2)
    function_found f.Concat is h =
        let x = two_arguments f.Concat e.at (Exactly String) (Exactly String) args finds h in (
          String,
          rule.concat x.0 x.1 (with_args f.Concat (x.0 ∷ x.1 ∷ []) is x.2)
              (one_type_argument String x.0 x.3 x.5.0) (one_type_argument String x.1 x.4 x.5.1),
        )
    function_found f.ConcatPush is h =
        let x = two_arguments f.ConcatPush e.at (Exactly String) (Exactly String) args finds h in (
          String,
          rule.concatpush x.0 x.1 (with_args f.ConcatPush (x.0 ∷ x.1 ∷ []) is x.2)
              (one_type_argument String x.0 x.3 x.5.0) (one_type_argument String x.1 x.4 x.5.1),
        )
    function_found f.CheckTxSig is h =
        let x = two_arguments f.CheckTxSig e.at (Exactly PublicKey) (Exactly Signature) args finds h in (
          Boolean,
          rule.check_tx_sig x.0 x.1 (with_args f.CheckTxSig (x.0 ∷ x.1 ∷ []) is x.2)
              (one_type_argument PublicKey x.0 x.3 x.5.0) (one_type_argument Signature x.1 x.4 x.5.1),
        )
    function_found f.CheckTxMultiSig is h =
        let x = two_arguments f.CheckTxMultiSig e.at (ListOf PublicKey) (ListOf Signature) args finds h in
        let s = list_argument PublicKey x.0 x.3 x.5.0 in
        let t = list_argument Signature x.1 x.4 x.5.1 in (
          Boolean,
          rule.check_tx_multi_sig x.0 x.1 s.0 t.0 (with_args f.CheckTxMultiSig (x.0 ∷ x.1 ∷ []) is x.2) s.1 t.1 s.2 t.2
              (few_enough (length s.0) (length t.0)
              (sym (λ k. not (nat_lt (s.3 k) (t.3 k))) ∙ x.5.3)),
        )
    function_found f.Before is h =
        let x = one_argument f.Before e.at (Exactly Time) args finds h in
        (Boolean, rule.before x.0 (with_args f.Before (x.0 ∷ []) is x.1) (one_type_argument Time x.0 x.2 x.3))
    function_found f.After is h =
        let x = one_argument f.After e.at (Exactly Time) args finds h in
        (Boolean, rule.after x.0 (with_args f.After (x.0 ∷ []) is x.1) (one_type_argument Time x.0 x.2 x.3))

    call_found : (name : List ℕ) (o : Option Function) → e.form ≡ forms.Call name args → function_named name ≡ o
        → Passes (call_tests o e.at (map (typing scope) args)) → HasSome e
    call_found name None is named h = absurd cc
    call_found name (Some function) is named h =
        function_found function
        (is ∙ ap (λ (n : List ℕ). forms.Call n args) (function_name_is name function named)) h

  members_found : (type : IvyType) (es : List Expr) → AllByRecursion FindsIt es
      → Passes (list_tests (Some type) (map (typing scope) es)) → AllHaveType scope type es
  members_found type [] finds h = rule.none
  members_found type (e ∷ es) finds h =
      let t : Typing = typing scope e in
      let outer = none_both (member_tests (Some type) t) (list_tests (Some type) (map (typing scope) es)) h in
      let both = none_both (t.tests None) (fault 9 t.from (not (has_type type t.inferred.ivy_type))) outer.0 in
      let is : has_type type t.inferred.ivy_type ≡ true = passed_unless 9 t.from (has_type type t.inferred.ivy_type) both.1 in
      rule.one_more
      (as_type e type (typed_argument None e (finds.0 None both.0)
      (λ none. not_both (has_type type (typing scope e).inferred.ivy_type) is (ap (has_type type) none))) is)
      (members_found type es finds.1 outer.1)

  step : (from at : ℕ) (x : Form-F Form Expr) → AllWithin FindsIt x → FindsIt (expr_of from at x)
  step from at (Form-F.Number n) finds =
      let e : Expr = expr_of from at (Form-F.Number n) in
      by_typing e _ (typings.number_typing scope e n refl) (λ each h. found_type each e
      (placed_at e (form_typing scope (Form-F.Number n))) refl (Integer, rule.number n refl))
  step from at (Form-F.Truth b) finds =
      let e : Expr = expr_of from at (Form-F.Truth b) in
      by_typing e _ (typings.truth_typing scope e b refl) (λ each h. found_type each e
      (placed_at e (form_typing scope (Form-F.Truth b))) refl (Boolean, rule.truth b refl))
  step from at (Form-F.Hex bytes) finds =
      let e : Expr = expr_of from at (Form-F.Hex bytes) in
      by_typing e _ (typings.hex_typing scope e bytes refl) (λ each h. found_type each e
      (placed_at e (form_typing scope (Form-F.Hex bytes))) refl (String, rule.hex bytes refl))
  step from at (Form-F.Quoted bytes) finds =
      let e : Expr = expr_of from at (Form-F.Quoted bytes) in
      by_typing e _ (typings.text_typing scope e bytes refl) (λ each h. found_type each e
      (placed_at e (form_typing scope (Form-F.Quoted bytes))) refl (String, rule.text bytes refl))
  step from at (Form-F.Name name) finds =
      let e : Expr = expr_of from at (Form-F.Name name) in
      by_typing e _ (typings.name_typing scope e name refl) (λ each h. found_type each e
      (placed_at e (form_typing scope (Form-F.Name name))) refl (name_found e name refl h))
  step from at (Form-F.Call name args) finds =
      let e : Expr = expr_of from at (Form-F.Call name args) in
      by_typing e _ (typings.call_typing scope e name args refl)
      (λ each h. found_type each e
      (placed_at e (form_typing scope (Form-F.Call name (map (typing scope) args)))) refl (call_found e args finds name (function_named name) refl refl h))
  step from at (Form-F.Members items) finds =
      let e : Expr = expr_of from at (Form-F.Members items) in
      by_typing e _ (typings.list_typing scope e items refl)
      (λ each h. (
        (λ is. absurd cc),
        (λ n is. (
          items,
          refl,
          (λ type each_is. members_found type items finds
              (sym (ap (λ (o : Option IvyType). first_of (list_tests o (map (typing scope) items))) each_is) ∙ h)),
        )),
      ))
  step from at (Form-F.Unary o arg) finds =
      let e : Expr = expr_of from at (Form-F.Unary o arg) in
      let t : Typing = typing scope arg in
      by_typing e _ (typings.one_typing scope e o arg refl)
      (λ each h.
      let both = none_both (operand_tests t) (fault 10 at (not (takes_operand o t.inferred))) h in
      let m = unary_members o t.inferred (unary_view o) in
      found_type each e
      (placed_at e (form_typing scope (Form-F.Unary o (typing scope arg)))) m (unary_found e o arg refl (unary_view o) (operand_found arg finds both.0)
      (passed_unless 10 at (takes_operand o t.inferred) both.1)))
  step from at (Form-F.Binary o left right) finds =
      let e : Expr = expr_of from at (Form-F.Binary o left right) in
      let s : Typing = typing scope left in
      let t : Typing = typing scope right in
      by_typing e _ (typings.two_typing scope e o left right refl)
      (λ each h.
      let outer = none_both (operand_tests s ++ operand_tests t) (fault 10 at (not (takes_operands o s.inferred t.inferred))) h in
      let both = none_both (operand_tests s) (operand_tests t) outer.0 in
      found_type each e
      (placed_at e (form_typing scope (Form-F.Binary o (typing scope left) (typing scope right)))) refl (binary_found left right (operand_found left finds.0 both.0) (operand_found right finds.1 both.1)
      e o refl (binary_view o) (passed_unless 10 at (takes_operands o s.inferred t.inferred) outer.1)))

  -- what passes its tests has a type, or is a list
  pub finds_type : (e : Expr) → FindsIt e
  finds_type = by_forms FindsIt step

-- a parameter's type exists where those of all groups do
known_in : (g : Group) (gs : List Group) (name : List ℕ) (word : Word) (b : Bool)
    → (type : IvyType) × NamesType g.kind.name type
    → (kind_word name gs ≡ Some word → (type : IvyType) × (type_named word.name ≡ Some type))
    → (if b then Some g.kind else kind_word name gs) ≡ Some word
    → (type : IvyType) × (type_named word.name ≡ Some type)
known_in g gs name word true h later is =
    (h.0, sym (ap (λ (o : Option Word). type_named (unwrap_or o word).name) is) ∙ type_name_names h.1)
known_in g gs name word false h later is = later is

pub are_known : (groups : List Group) → TypesExist groups → AreKnown groups
are_known [] h = λ name word is. absurd cc
are_known (g ∷ gs) h = λ name word is.
    known_in g gs name word (is_among name g.names) h.0 (are_known gs h.1 name word) is
