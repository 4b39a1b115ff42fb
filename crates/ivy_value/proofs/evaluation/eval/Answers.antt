use Rattle.std.proofs.Common.{◌≡◌, ap, ◌∙◌, subst, length, Option, IfOk}
use Rattle.std.specs.List.{slice_get}
use Rattle.std.proofs.lemmas.Option.{get_or_from_slice_get}
use Rattle.vm_num.specs.Item.{Item}
use Rattle.ivy_check.specs.Parameters.{parameters}
use Rattle.ivy_value.specs.Value.{item_value}
use Rattle.ivy_value.specs.Evaluated.{spent}
use Rattle.ivy_value.proofs.evaluation.eval.Goals as goal

pub returns : goal.returns
returns g c = record {
  value = λ scope stands.
      let check = g.C.SigCheck.good_of c.args.sigs.now in
      let contract_is =
      c.index-as_slice-contract.is
      ∙ get_or_from_slice_get c.as_slice.result.now c.args.contract scope.contract _
      (ap (λ xs. slice_get xs c.args.contract) (c.as_slice.ensures ∙ ap (λ s. s.contracts) c.source.ensures.source) ∙ stands.contract_at) in
      let clause_is =
      c.index-as_slice-clause.is
      ∙ get_or_from_slice_get c.as_slice-2.result.now c.args.clause scope.clause _
      (ap (λ xs. slice_get xs c.args.clause) (c.as_slice-2.ensures ∙ ap (λ t. t.clauses) contract_is) ∙ stands.clause_at) in
      let held_is = c.in_ok-held.ensures ∙ ap parameters (c.as_slice-3.ensures ∙ ap (λ t. t.params) contract_is) in
      let given_is = c.in_ok-given.ensures ∙ ap parameters (c.as_slice-4.ensures ∙ ap (λ t. t.params) clause_is) in
      let core_is = c.in_ok-core.ensures scope
      (record { held = c.as_slice-5.ensures ∙ held_is; given = c.as_slice-6.ensures ∙ given_is }) stands.typed in
      let spent_is = c.split.ensures check
      ∙ (λ i. spent ((c.len.ensures ∙ ap length held_is) i) (c.as_slice-7.ensures i) c.args.context.now check) in
      subst (λ (o : Option Item). IfOk c.evaluate.result (λ made. made ≡ o)) (core_is _ ∙ ap (λ t. item_value scope t c.args.e.now) spent_is)
      c.evaluate.ensures;
}
