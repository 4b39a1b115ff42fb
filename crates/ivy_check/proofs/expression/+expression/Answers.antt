-- Each exit has the first test that holds of those of its expression.
use Rattle.std.proofs.Common.{◌≡◌, ◌∷◌, [], Some, sym, ◌∙◌}
use Rattle.ivy_check.specs.declared.functions.ParamTypes.TheVariants.{Two}
use Rattle.ivy_check.specs.Functions.{function_named, param_types}
use Rattle.ivy_check.specs.Scope.{scope_of}
use Rattle.ivy_check.proofs.TestLemmas.{passed}
use Rattle.ivy_check.proofs.TypingLemmas.{two_args}
use Rattle.ivy_check.proofs.ArmLemmas.{member_here, members_on, in_unary, of_unary, in_left, in_right, of_binary}
use Rattle.ivy_check.proofs.ArmLemmas.{members_inferred, in_first, in_second, of_both}
use Rattle.ivy_check.proofs.expression.+expression.Goals as goal

pub expression-returns-in_err-inferred-in-Unary-clause-fault : goal.expression-returns-in_err-inferred-in-Unary-clause-fault
expression-returns-in_err-inferred-in-Unary-clause-fault t c =
    passed _ _ c.from_residual.ensures.1
    ∙ in_unary (scope_of c.args.scope) c.args.e.now c.args.each _ _ _ _ c.in-Unary.is c.get.ensures
    c.in_err-inferred-in-Unary.ensures.fault

pub expression-returns-in_ok-inferred-in-Unary-clause-fault : goal.expression-returns-in_ok-inferred-in-Unary-clause-fault
expression-returns-in_ok-inferred-in-Unary-clause-fault t c =
    of_unary (scope_of c.args.scope) c.args.e.now c.args.each _ _ _ _ _ c.in-Unary.is c.get.ensures
    c.in_ok-inferred-in-Unary.ensures.fault c.in_ok-inferred-in-Unary.ensures.inferred c.unary.ensures.fault

pub expression-returns-in_err-first-in-Binary-clause-fault :
    goal.expression-returns-in_err-first-in-Binary-clause-fault
expression-returns-in_err-first-in-Binary-clause-fault t c =
    passed _ _ c.from_residual-in_err-first-in-Binary.ensures.1
    ∙ in_left (scope_of c.args.scope) c.args.e.now c.args.each _ _ _ _ _ c.in-Binary.is c.get-in-Binary.ensures
    c.in_err-first-in-Binary.ensures.fault

pub expression-returns-in_err-second-in-Binary-clause-fault :
    goal.expression-returns-in_err-second-in-Binary-clause-fault
expression-returns-in_err-second-in-Binary-clause-fault t c =
    passed _ _ c.from_residual-in_err-second-in-Binary.ensures.1
    ∙ in_right (scope_of c.args.scope) c.args.e.now c.args.each _ _ _ _ _ _ c.in-Binary.is c.get-in-Binary.ensures
    c.get-in-Binary-2.ensures c.in_ok-first-in-Binary.ensures.fault c.in_err-second-in-Binary.ensures.fault

pub expression-returns-in_ok-second-in-Binary-clause-fault :
    goal.expression-returns-in_ok-second-in-Binary-clause-fault
expression-returns-in_ok-second-in-Binary-clause-fault t c =
    of_binary (scope_of c.args.scope) c.args.e.now c.args.each _ _ _ _ _ _ _ _ c.in-Binary.is
    c.get-in-Binary.ensures c.get-in-Binary-2.ensures c.in_ok-first-in-Binary.ensures.fault
    c.in_ok-second-in-Binary.ensures.fault c.in_ok-first-in-Binary.ensures.inferred c.in_ok-second-in-Binary.ensures.inferred
    c.binary.ensures.fault

pub expression-returns-in-Members-clause-inferred : goal.expression-returns-in-Members-clause-inferred
expression-returns-in-Members-clause-inferred t c =
    members_inferred (scope_of c.args.scope) c.args.e.now c.args.each _ _ _ c.in-Members.is c.as_slice-in-Members.ensures
    c.list.ensures.inferred

pub list-returns-in_err-member-clause-fault : goal.list-returns-in_err-member-clause-fault
list-returns-in_err-member-clause-fault t c =
    passed _ _ c.from_residual.ensures.1
    ∙ member_here (scope_of c.args.scope) c.args.each c.args.members.now c.loop-e.e-index _ _ c.loop-e-test.true
    c.e-item.is c.in_err-member.ensures
    ∙ c.loop-e.invariant

pub list-loop-e-preserved : goal.list-loop-e-preserved
list-loop-e-preserved t c =
    members_on (scope_of c.args.scope) c.args.each c.args.members.now c.loop-e.e-index _ c.loop-e-test.true
    c.e-item.is c.in_ok-member.ensures
    ∙ c.loop-e.invariant

pub call-returns-in_err-first-in-Two-len2-clause-fault : goal.call-returns-in_err-first-in-Two-len2-clause-fault
call-returns-in_err-first-in-Two-len2-clause-fault t c =
    let named : function_named c.args.name.now ≡ Some c.in-Some.function = sym c.in-Some.ensures.found in
    let expected : param_types c.in-Some.function ≡ Two c.in-Two-len2.v c.in-Two-len2.w = cc in
    let args : c.args.args.now ≡ c.a-item.result ∷ c.b-item.result ∷ [] =
    two_args c.args.args.now _ _ c.in-Two-len2.len_at_least c.in-Two-len2.len_below c.a-item.is c.b-item.is in
    passed _ _ c.from_residual-in_err-first-in-Two-len2.ensures.1
    ∙ in_first (scope_of c.args.scope) _ _ c.args.at _ _ _ _ _ named expected args _
    c.in_err-first-in-Two-len2.ensures.fault

pub call-returns-in_err-second-in-Two-len2-clause-fault : goal.call-returns-in_err-second-in-Two-len2-clause-fault
call-returns-in_err-second-in-Two-len2-clause-fault t c =
    let named : function_named c.args.name.now ≡ Some c.in-Some.function = sym c.in-Some.ensures.found in
    let expected : param_types c.in-Some.function ≡ Two c.in-Two-len2.v c.in-Two-len2.w = cc in
    let args : c.args.args.now ≡ c.a-item.result ∷ c.b-item.result ∷ [] =
    two_args c.args.args.now _ _ c.in-Two-len2.len_at_least c.in-Two-len2.len_below c.a-item.is c.b-item.is in
    passed _ _ c.from_residual-in_err-second-in-Two-len2.ensures.1
    ∙ in_second (scope_of c.args.scope) _ _ c.args.at _ _ _ _ _ named expected args _
    c.in_ok-first-in-Two-len2.ensures.fault c.in_err-second-in-Two-len2.ensures.fault

pub call-returns-in_ok-second-in-Two-len2-clause-fault : goal.call-returns-in_ok-second-in-Two-len2-clause-fault
call-returns-in_ok-second-in-Two-len2-clause-fault t c =
    let named : function_named c.args.name.now ≡ Some c.in-Some.function = sym c.in-Some.ensures.found in
    let expected : param_types c.in-Some.function ≡ Two c.in-Two-len2.v c.in-Two-len2.w = cc in
    let args : c.args.args.now ≡ c.a-item.result ∷ c.b-item.result ∷ [] =
    two_args c.args.args.now _ _ c.in-Two-len2.len_at_least c.in-Two-len2.len_below c.a-item.is c.b-item.is in
    of_both (scope_of c.args.scope) _ _ c.args.at _ _ _ _ _ named expected args _ _ _
    c.in_ok-first-in-Two-len2.ensures.fault c.in_ok-second-in-Two-len2.ensures.fault
    c.in_ok-first-in-Two-len2.ensures.inferred c.in_ok-second-in-Two-len2.ensures.inferred c.call_of_two.ensures.fault
