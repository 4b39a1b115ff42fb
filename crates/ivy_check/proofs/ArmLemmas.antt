-- How the answers for the parts of an expression make up that for the whole.
use Rattle.std.proofs.Common.{◌≡◌, ◌<◌, ◌+◌, ℕ, List, [], ◌∷◌, ◌++◌, Option, Some, None, Result, map, not}
use Rattle.std.proofs.Common.{refl, ap, sym, subst, ◌∙◌, length, get_or, drop}
use Rattle.std.proofs.lemmas.List.{length-map}
use Rattle.ivy_syntax.specs.declared.tree.Op.{Op}
use Rattle.ivy_syntax.specs.declared.tree.Expr.{Expr}
use Rattle.ivy_syntax.specs.declared.tree.Form.TheVariants.{Unary, Binary, Members}
use Rattle.ivy_check.specs.declared.types.IvyType.{IvyType}
use Rattle.ivy_check.specs.Expressions.{Inferred}
use Rattle.ivy_check.specs.declared.fault.Fault.{Fault}
use Rattle.ivy_check.specs.declared.functions.Function.{Function}
use Rattle.ivy_check.specs.declared.functions.ParamType.{ParamType}
use Rattle.ivy_check.specs.declared.functions.ParamTypes.{ParamTypes}
use Rattle.ivy_check.specs.declared.functions.ParamTypes.TheVariants.{Two}
use Rattle.ivy_check.specs.declared.inferred.Inferred as found
use Rattle.ivy_check.specs.Walk.{Infers}
use Rattle.ivy_check.specs.Tests.{Test, Reported, fault, first_of}
use Rattle.ivy_check.specs.Scope.{Scope}
use Rattle.ivy_check.specs.Functions.{param_types}
use Rattle.ivy_check.specs.Expressions.{Typing, typing, operand_tests, unary_tests, binary_tests, list_of}
use Rattle.ivy_check.specs.Expressions.{takes_operand, takes_operands, member_tests, list_tests, argument_tests, both_tests, called_tests, call_tests}
use Rattle.ivy_check.proofs.TestLemmas.{first_after, first_in_prefix, drop_at}
use Rattle.ivy_check.proofs.TypingLemmas.{from_typing}
use Rattle.ivy_check.proofs.FormTypings.{one_typing, two_typing, list_typing}

module _ (scope : Scope) where
  -- ---- lists

  pub member_here : (each : Option IvyType) (members : List Expr) (k : ℕ) (e : Expr) (reported : Reported)
      → k < length members → e ≡ get_or members k e
      → Some reported ≡ first_of (member_tests each (typing scope e))
      → Some reported ≡ first_of (list_tests each (map (typing scope) (drop k members)))
  member_here each members k e reported h is here =
      first_in_prefix (member_tests each (typing scope e)) (list_tests each (map (typing scope) (drop (k + 1) members))) reported here
      ∙ ap (λ (es : List Expr). first_of (list_tests each (map (typing scope) es))) (sym (drop_at members k e h is))

  pub members_on : (each : Option IvyType) (members : List Expr) (k : ℕ) (e : Expr)
      → k < length members → e ≡ get_or members k e
      → None ≡ first_of (member_tests each (typing scope e))
      → first_of (list_tests each (map (typing scope) (drop (k + 1) members)))
      ≡ first_of (list_tests each (map (typing scope) (drop k members)))
  members_on each members k e h is none =
      first_after (member_tests each (typing scope e)) (list_tests each (map (typing scope) (drop (k + 1) members))) _ none refl
      ∙ ap (λ (es : List Expr). first_of (list_tests each (map (typing scope) es))) (sym (drop_at members k e h is))

  -- ---- operations

  module _ (e : Expr) (each : Option IvyType) where
    abbrev Gives : Option Reported → Type 0
    Gives answer = answer ≡ first_of ((typing scope e).tests each)

    unary_is : (op : Op) (arg : Expr) → e.form ≡ Unary op arg
        → (typing scope e).tests each ≡ unary_tests op e.at (typing scope arg)
    unary_is op arg is = ap (λ (t : Typing). t.tests each) (one_typing scope e op arg is)

    binary_is : (op : Op) (left right : Expr) → e.form ≡ Binary op left right
        → (typing scope e).tests each ≡ binary_tests op e.at (typing scope left) (typing scope right)
    binary_is op left right is =
        ap (λ (t : Typing). t.tests each) (two_typing scope e op left right is)

    pub in_unary : (op : Op) (arg got : Expr) (reported : Reported) → e.form ≡ Unary op arg → got ≡ arg
        → Some reported ≡ first_of (operand_tests (typing scope got)) → Gives (Some reported)
    in_unary op arg got reported is same h =
        first_in_prefix (operand_tests (typing scope arg)) (fault 10 e.at (not (takes_operand op (typing scope arg).inferred))) reported
        (h ∙ ap (λ (a : Expr). first_of (operand_tests (typing scope a))) same)
        ∙ sym (ap first_of (unary_is op arg is))

    pub of_unary : (op : Op) (arg got : Expr) (inferred : Inferred) (answer : Option Reported) → e.form ≡ Unary op arg → got ≡ arg
        → None ≡ first_of (operand_tests (typing scope got)) → inferred ≡ (typing scope got).inferred
        → answer ≡ first_of (fault 10 e.at (not (takes_operand op inferred))) → Gives answer
    of_unary op arg got inferred answer is same none inferred_is h =
        first_after (operand_tests (typing scope arg)) (fault 10 e.at (not (takes_operand op (typing scope arg).inferred))) answer
        (none ∙ ap (λ (a : Expr). first_of (operand_tests (typing scope a))) same)
        (h ∙ ap (λ (o : Inferred). first_of (fault 10 e.at (not (takes_operand op o))))
        (inferred_is ∙ ap (λ (a : Expr). (typing scope a).inferred) same))
        ∙ sym (ap first_of (unary_is op arg is))

    pub in_left : (op : Op) (left right got : Expr) (reported : Reported) → e.form ≡ Binary op left right → got ≡ left
        → Some reported ≡ first_of (operand_tests (typing scope got)) → Gives (Some reported)
    in_left op left right got reported is same h =
        let front : List Test = operand_tests (typing scope left) in
        let more : List Test = operand_tests (typing scope right) in
        first_in_prefix (front ++ more) (fault 10 e.at (not (takes_operands op (typing scope left).inferred (typing scope right).inferred)))
        reported (first_in_prefix front more reported (h ∙ ap (λ (a : Expr). first_of (operand_tests (typing scope a))) same))
        ∙ sym (ap first_of (binary_is op left right is))

    pub in_right : (op : Op) (left right got_left got : Expr) (reported : Reported) → e.form ≡ Binary op left right
        → got_left ≡ left → got ≡ right
        → None ≡ first_of (operand_tests (typing scope got_left))
        → Some reported ≡ first_of (operand_tests (typing scope got)) → Gives (Some reported)
    in_right op left right got_left got reported is same_left same none h =
        let front : List Test = operand_tests (typing scope left) in
        let more : List Test = operand_tests (typing scope right) in
        first_in_prefix (front ++ more) (fault 10 e.at (not (takes_operands op (typing scope left).inferred (typing scope right).inferred)))
        reported (first_after front more (Some reported)
        (none ∙ ap (λ (a : Expr). first_of (operand_tests (typing scope a))) same_left)
        (h ∙ ap (λ (a : Expr). first_of (operand_tests (typing scope a))) same))
        ∙ sym (ap first_of (binary_is op left right is))

    pub of_binary : (op : Op) (left right got_left got : Expr) (a b : Inferred) (answer : Option Reported)
        → e.form ≡ Binary op left right → got_left ≡ left → got ≡ right
        → None ≡ first_of (operand_tests (typing scope got_left))
        → None ≡ first_of (operand_tests (typing scope got))
        → a ≡ (typing scope got_left).inferred → b ≡ (typing scope got).inferred
        → answer ≡ first_of (fault 10 e.at (not (takes_operands op a b))) → Gives answer
    of_binary op left right got_left got a b answer is same_left same none none_right a_is b_is h =
        let front : List Test = operand_tests (typing scope left) in
        let more : List Test = operand_tests (typing scope right) in
        let a_inferred : a ≡ (typing scope left).inferred = a_is ∙ ap (λ (x : Expr). (typing scope x).inferred) same_left in
        let b_inferred : b ≡ (typing scope right).inferred = b_is ∙ ap (λ (x : Expr). (typing scope x).inferred) same in
        first_after (front ++ more) (fault 10 e.at (not (takes_operands op (typing scope left).inferred (typing scope right).inferred)))
        answer (first_after front more None
        (none ∙ ap (λ (x : Expr). first_of (operand_tests (typing scope x))) same_left)
        (none_right ∙ ap (λ (x : Expr). first_of (operand_tests (typing scope x))) same))
        (h ∙ (λ i. first_of (fault 10 e.at (not (takes_operands op (a_inferred i) (b_inferred i))))))
        ∙ sym (ap first_of (binary_is op left right is))

    pub members_inferred : (members got : List Expr) (r : Result found.Inferred Fault) → e.form ≡ Members members
        → got ≡ members → Infers r (list_of (length got)) → Infers r (typing scope e).inferred
    members_inferred members got r is same h =
        let len : length got ≡ length (map (typing scope) members) =
        ap (λ (es : List Expr). length es) same ∙ sym (length-map members (typing scope)) in
        let inferred_is : list_of (length got) ≡ (typing scope e).inferred =
        ap list_of len ∙ sym (ap (λ (t : Typing). t.inferred) (list_typing scope e members is)) in
        subst (Infers r) inferred_is h

  -- ---- calls of two arguments

  module _ (named : Option Function) (f : Function) (at : ℕ) (v w : ParamType) (args : List Expr) (a b : Expr)
      (is_named : named ≡ Some f) (is_params : param_types f ≡ Two v w) (is_args : args ≡ a ∷ b ∷ []) where
    abbrev tests_of_both : List Test
    tests_of_both = both_tests f at (typing scope b).from (typing scope a).inferred (typing scope b).inferred

    two_is : call_tests named at (map (typing scope) args)
        ≡ argument_tests v (typing scope a) ++ argument_tests w (typing scope b) ++ tests_of_both
    two_is =
        (λ i. call_tests (is_named i) at (map (typing scope) (is_args i)))
        ∙ ap (λ (expected : ParamTypes). called_tests f at expected (typing scope a ∷ typing scope b ∷ [])) is_params

    abbrev one : List Test
    one = argument_tests v (typing scope a)

    abbrev other : List Test
    other = argument_tests w (typing scope b)

    abbrev both : List Test
    both = one ++ other

    abbrev Answers : Option Reported → Type 0
    Answers answer = answer ≡ first_of (call_tests named at (map (typing scope) args))

    pub in_first : (reported : Reported) → Some reported ≡ first_of (argument_tests v (typing scope a)) → Answers (Some reported)
    in_first reported h =
        first_in_prefix both tests_of_both reported (first_in_prefix one other reported h) ∙ sym (ap first_of two_is)

    pub in_second : (reported : Reported) → None ≡ first_of (argument_tests v (typing scope a))
        → Some reported ≡ first_of (argument_tests w (typing scope b)) → Answers (Some reported)
    in_second reported none h =
        first_in_prefix both tests_of_both reported (first_after one other (Some reported) none h)
        ∙ sym (ap first_of two_is)

    pub of_both : (answer : Option Reported) (first second : Inferred) → None ≡ first_of (argument_tests v (typing scope a))
        → None ≡ first_of (argument_tests w (typing scope b))
        → first ≡ (typing scope a).inferred → second ≡ (typing scope b).inferred
        → answer ≡ first_of (both_tests f at b.from first second) → Answers answer
    of_both answer first second none none_second is_first is_second h =
        first_after both tests_of_both answer (first_after one other None none none_second)
        (h ∙ (λ i. first_of (both_tests f at (sym (from_typing scope b) i) (is_first i) (is_second i))))
        ∙ sym (ap first_of two_is)
