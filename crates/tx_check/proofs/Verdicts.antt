-- Verdicts on the programs of inputs.
use Rattle.std.proofs.Common.{◌≡◌, ℕ, List, Some, sym, ◌∙◌, ap, subst}
use Rattle.std.specs.Prelude.{slice_get}
use Rattle.wire.specs.Tables.{HoldsNot}
use Rattle.data_model.specs.declared.input.Input.{Input}
use Rattle.data_model.specs.declared.tx.Tx.{Tx}
use Rattle.keyed.specs.Functions.{Hash}
use Rattle.vm_run.specs.declared.context.Context.{Context}
use Rattle.vm_run.specs.declared.context.Context.TheVariants as contexts
use Rattle.vm_run.specs.declared.verdict.Verdict.{Verdict}
use Rattle.vm_run.specs.declared.verdict.Verdict.TheVariants.{Succeeded, Failed}
use Rattle.keyed.specs.Functions.{Check}
use Rattle.vm_run.specs.Verdict.{HasVerdict}
use Rattle.tx_check.specs.Parts.{args_in, program_in}
use Rattle.tx_check.specs.Contexts.{context_at, FailsAs, InputVerdict, IsContext, VerdictAt}

-- a program has one verdict, as the machine's law says
abbrev pub OneVerdict : Type 0
OneVerdict =
    (context : Context) (check : Check) (program : List ℕ) (args : List (List ℕ)) (limit : ℕ) (a b : Verdict)
    → HasVerdict context check program args limit a
    → HasVerdict context check program args limit b
    → a ≡ b

same_input : (tx : Tx) (k : ℕ) (a b : Input) → slice_get tx.inputs k ≡ Some a → slice_get tx.inputs k ≡ Some b → a ≡ b
same_input tx k a b p q = cc (sym p ∙ q)

pub verdict_at : (hash : Hash) (check : Check) (tx : Tx) (k : ℕ) (input : Input) (context : Context) (program : List ℕ) (args : List (List ℕ)) (verdict : Verdict)
    → slice_get tx.inputs k ≡ Some input
    → IsContext hash tx k context
    → program ≡ program_in input
    → args ≡ args_in input
    → HasVerdict context check program args 10000 verdict
    → VerdictAt hash check tx k verdict
verdict_at hash check tx k input context program args verdict there is program_is args_are h =
    let same = same_input tx k is.input input is.there there in
    let context_is = is.is ∙ ap (λ (i : Input). contexts.Tx (context_at hash tx k i)) same in
    record {
      input = input;
      there = there;
      is = subst (λ (c : Context). HasVerdict c check (program_in input) (args_in input) 10000 verdict) context_is
          (subst (λ (p : List ℕ). HasVerdict context check p (args_in input) 10000 verdict) program_is
          (subst (λ (a : List (List ℕ)). HasVerdict context check program a 10000 verdict) args_are h));
    }

-- the verdict of the input that stands there
pub verdict_of : (hash : Hash) (check : Check) (tx : Tx) (k : ℕ) (input : Input) (verdict : Verdict) → slice_get tx.inputs k ≡ Some input → VerdictAt hash check tx k verdict → InputVerdict hash check tx k input verdict
verdict_of hash check tx k input verdict there at =
    subst (λ (i : Input). InputVerdict hash check tx k i verdict) (same_input tx k at.input input at.there there) at.is

-- a program that succeeds does not fail
pub does_not_fail : OneVerdict → (hash : Hash) (check : Check) (tx : Tx) (k : ℕ) (input : Input) (left : ℕ) → InputVerdict hash check tx k input (Succeeded left) → HoldsNot (FailsAs hash check tx k input)
does_not_fail one hash check tx k input left h reported fails =
    let same : Succeeded left ≡ Failed reported.1 reported.2 = one _ check _ _ 10000 (Succeeded left) (Failed reported.1 reported.2) h fails.0 in
    cc
