-- Each cause of the table is decided and reports one thing, so the table has one answer.
use Rattle.std.proofs.Common.{◌≡◌, ℕ, ◌++◌, ◌^◌, List, Option, Some, refl, sym, ◌∙◌, inl, inr}
use Rattle.std.specs.Prelude.{◌⊎◌, slice_get}
use Rattle.wire.specs.Tables.{HoldsNot, OneAnswer, one_answer_of, causes_of_parts, Cause, Reports, IsCause, AreCauses}
use Rattle.data_model.specs.declared.input.Input.{Input}
use Rattle.data_model.specs.declared.output.Output.{Output}
use Rattle.data_model.specs.declared.tx.Tx.{Tx}
use Rattle.entry_ids.specs.declared.input.Named.{Named}
use Rattle.keyed.specs.Functions.{Hash}
use Rattle.entry_ids.specs.Ids.{asset_id}
use Rattle.vm_num.specs.declared.failure.Failure.{Failure}
use Rattle.vm_run.specs.declared.context.Context.{Context}
use Rattle.vm_run.specs.declared.context.Context.TheVariants as contexts
use Rattle.vm_run.specs.declared.verdict.Verdict.{Verdict}
use Rattle.vm_run.specs.declared.verdict.Verdict.TheVariants.{Succeeded, Failed}
use Rattle.keyed.specs.Functions.{Check}
use Rattle.vm_run.specs.Verdict.{HasVerdict}
use Rattle.tx_check.specs.declared.refusal.TxRefusal.{TxRefusal}
use Rattle.tx_check.specs.declared.refusal.TxRefusal.TheVariants.{X6, X14}
use Rattle.tx_check.specs.FirstPlace.{AtFirst}
use Rattle.tx_check.specs.Parts.{args_in, program_in}
use Rattle.tx_check.specs.Contexts.{InputVerdict, context_at}
use Rattle.tx_check.specs.View.{State}
use Rattle.tx_check.specs.Table.{UsesNonce, TellsApart, IsSpend, IsNonce, IssuesAnother, AreUnbalanced, SpendsNone, UsesLive, IsControl, FailsThere, named_by, time_causes, name_causes, asset_causes, state_causes, program_causes, tx_causes, Refusal}
use Rattle.tx_check.proofs.Decisions.{named_decided, unspent_decided}
use Rattle.wire.specs.Decisions.{Decided, bytes_decided, nat_decided, lt_decided, le_decided, nil_decided}
use Rattle.wire.specs.Decisions.{not_decided, both_decided, or_decided, contains_decided}
use Rattle.wire.specs.Tables.{decided_cause, ◌&◌}
use Rattle.tx_check.specs.FirstPlaces.{at_first_line, everywhere}
use Rattle.tx_check.proofs.Verdicts.{OneVerdict}

-- each program has a verdict
abbrev pub SomeVerdict : Type 0
SomeVerdict =
    (context : Context) (check : Check) (program : List ℕ) (args : List (List ℕ)) (limit : ℕ)
    → (verdict : Verdict) × HasVerdict context check program args limit verdict

-- ---- what is decided of an input and of an output

uses_nonce : (input : Input) → Decided (UsesNonce input)
uses_nonce (Input.Issue issue) = not_decided (nil_decided issue.nonce)
uses_nonce (Input.Spend spend) = inr (λ h. h)

sets_apart : (input : Input) → Decided (TellsApart input)
sets_apart (Input.Issue issue) = not_decided (nil_decided issue.nonce)
sets_apart (Input.Spend spend) = inl tt

is_spend : (name : Named) → Decided (IsSpend name)
is_spend Named.Nothing = inr (λ h. h)
is_spend (Named.Nonce id) = inr (λ h. h)
is_spend (Named.Output id) = inl tt

is_nonce : (name : Named) → Decided (IsNonce name)
is_nonce Named.Nothing = inr (λ h. h)
is_nonce (Named.Nonce id) = inl tt
is_nonce (Named.Output id) = inr (λ h. h)

issues_another : (hash : Hash) (initial : List ℕ) (input : Input) → Decided (IssuesAnother hash initial input)
issues_another hash initial (Input.Issue issue) =
    not_decided (bytes_decided issue.asset (asset_id hash initial issue.program issue.definition))
issues_another hash initial (Input.Spend spend) = inr (λ h. h)

unbalanced : (into out : ℕ) → Decided (AreUnbalanced into out)
unbalanced into out =
    or_decided (not_decided (nat_decided into out)) (or_decided (le_decided (2 ^ 63) into) (le_decided (2 ^ 63) out))

spends_none : (hash : Hash) (state : State) (input : Input) → Decided (SpendsNone hash state input)
spends_none hash state (Input.Issue issue) = inr (λ h. h)
spends_none hash state (Input.Spend spend) = not_decided (contains_decided unspent_decided state.unspent _)

uses_live : (state : State) (name : Named) → Decided (UsesLive state name)
uses_live state Named.Nothing = inr (λ h. h)
uses_live state (Named.Nonce id) = contains_decided bytes_decided state.live id
uses_live state (Named.Output id) = inr (λ h. h)

is_control : (output : Output) → Decided (IsControl output)
is_control (Output.Control control) = inl tt
is_control (Output.Retire retire) = inr (λ h. h)

-- an input that sets a transaction apart, or none
abbrev apart : ℕ → Input → Cause TxRefusal
apart k input = Reports (TellsApart input) X6

abbrev pub NoneApart : List Input → Type 0
NoneApart inputs = (k : ℕ) (input : Input) → slice_get inputs k ≡ Some input → TellsApart input → ⊥

some_or_none : (inputs : List Input) → ((reported : TxRefusal) × AtFirst apart inputs reported) ⊎ HoldsNot (AtFirst apart inputs) → Decided (NoneApart inputs)
some_or_none inputs (inl h) = inr (λ none. none h.1.place h.1.item h.1.there h.1.reports.0)
some_or_none inputs (inr none) = inl (λ k input e h. everywhere apart inputs none k input e X6 (h, refl))

none_apart : (inputs : List Input) → Decided (NoneApart inputs)
none_apart inputs = some_or_none inputs (at_first_line apart inputs (λ k input e. decided_cause (sets_apart input))).decided

-- where it is not none, there is one
one_apart : (inputs : List Input) → ((reported : TxRefusal) × AtFirst apart inputs reported) ⊎ HoldsNot (AtFirst apart inputs) → (NoneApart inputs → ⊥) → (k : ℕ) × (input : Input) × (slice_get inputs k ≡ Some input) × TellsApart input
one_apart inputs (inl h) some = (h.1.place, h.1.item, h.1.there, h.1.reports.0)
one_apart inputs (inr none) some = absurd (some (λ k input e h. everywhere apart inputs none k input e X6 (h, refl)))

pub some_apart : (inputs : List Input) → (NoneApart inputs → ⊥) → (k : ℕ) × (input : Input) × (slice_get inputs k ≡ Some input) × TellsApart input
some_apart inputs some = one_apart inputs (at_first_line apart inputs (λ k input e. decided_cause (sets_apart input))).decided some

-- ---- the parts of the table

time_are : (time : ℕ) (tx : Tx) → AreCauses (time_causes time tx)
time_are time tx =
    decided_cause (not_decided (nat_decided tx.version 1))
    & decided_cause (both_decided (not_decided (nat_decided tx.maxtime 0)) (lt_decided tx.maxtime tx.mintime))
    & decided_cause (lt_decided time tx.mintime)
    & decided_cause (both_decided (not_decided (nat_decided tx.maxtime 0)) (lt_decided tx.maxtime time))
    & tt

name_are : (hash : Hash) (tx : Tx) → AreCauses (name_causes hash tx)
name_are hash tx =
    at_first_line _ tx.inputs (λ k input e. decided_cause (both_decided (uses_nonce input) (nat_decided tx.maxtime 0)))
    & decided_cause (none_apart tx.inputs)
    & at_first_line _ (named_by hash tx) (λ k name e. decided_cause (both_decided (is_spend name) (contains_decided named_decided _ name)))
    & at_first_line _ (named_by hash tx) (λ k name e. decided_cause (both_decided (is_nonce name) (contains_decided named_decided _ name)))
    & tt

asset_are : (hash : Hash) (initial : List ℕ) (tx : Tx) → AreCauses (asset_causes hash initial tx)
asset_are hash initial tx =
    at_first_line _ tx.inputs (λ k input e. decided_cause (issues_another hash initial input))
    & at_first_line _ _ (λ k asset e. decided_cause (unbalanced _ _))
    & tt

state_are : (hash : Hash) (state : State) (tx : Tx) → AreCauses (state_causes hash state tx)
state_are hash state tx =
    at_first_line _ tx.inputs (λ k input e. decided_cause (spends_none hash state input))
    & at_first_line _ (named_by hash tx) (λ k name e. decided_cause (uses_live state name))
    & at_first_line _ tx.outputs (λ k output e. decided_cause (both_decided (is_control output)
    (or_decided (contains_decided bytes_decided _ _) (contains_decided bytes_decided _ _))))
    & tt

same_failure : (k l : Failure) (a b : ℕ) → Failed k a ≡ Failed l b → (k ≡ l) × (a ≡ b)
same_failure k l a b e = (cc, cc)

failed_or_succeeded : (kind : Failure) (at left : ℕ) → Failed kind at ≡ Succeeded left → ⊥
failed_or_succeeded kind at left e = cc

module _ (some : SomeVerdict) (one : OneVerdict) (hash : Hash) (check : Check) where
  module _ (tx : Tx) (k : ℕ) (input : Input) where
    one_of : (a b : Verdict) → InputVerdict hash check tx k input a → InputVerdict hash check tx k input b → a ≡ b
    one_of a b p q = one _ check _ _ 10000 a b p q

    pub not_there : (left : ℕ) → InputVerdict hash check tx k input (Succeeded left) → HoldsNot (FailsThere hash check tx k input)
    not_there left has reported h = failed_or_succeeded h.0 h.1 left (one_of (Failed h.0 h.1) (Succeeded left) h.2 has)

    decided_there : (v : Verdict) → InputVerdict hash check tx k input v → ((reported : TxRefusal) × FailsThere hash check tx k input reported) ⊎ HoldsNot (FailsThere hash check tx k input)
    decided_there (Failed kind at) has = inl (X14 k kind at, (kind, at, has, refl))
    decided_there (Succeeded left) has = inr (not_there left has)

    one_there : (a b : TxRefusal) → FailsThere hash check tx k input a → FailsThere hash check tx k input b → a ≡ b
    one_there a b p q =
        let same = same_failure p.0 q.0 p.1 q.1 (one_of (Failed p.0 p.1) (Failed q.0 q.1) p.2 q.2) in
        let kinds : p.0 ≡ q.0 = same.0 in
        let places : p.1 ≡ q.1 = same.1 in
        p.3 ∙ (λ i. X14 k (kinds i) (places i)) ∙ sym q.3

    fails_line : IsCause (FailsThere hash check tx k input)
    fails_line =
        let v = some (contexts.Tx (context_at hash tx k input)) check (program_in input) (args_in input) 10000 in
        record { decided = decided_there v.0 v.1; one = one_there }

    -- a program that does not fail succeeds
    pub succeeds_there : HoldsNot (FailsThere hash check tx k input) → (left : ℕ) × InputVerdict hash check tx k input (Succeeded left)
    succeeds_there none =
        let v = some (contexts.Tx (context_at hash tx k input)) check (program_in input) (args_in input) 10000 in
        go v.0 v.1
      where
        go : (v : Verdict) → InputVerdict hash check tx k input v → (left : ℕ) × InputVerdict hash check tx k input (Succeeded left)
        go (Succeeded left) has = (left, has)
        go (Failed kind at) has = absurd (none (X14 k kind at) (kind, at, has, refl))

  program_are : (tx : Tx) → AreCauses (program_causes hash check tx)
  program_are tx = at_first_line _ tx.inputs (λ k input e. fails_line tx k input) & tt

  tx_are : (state : State) (time : ℕ) (tx : Tx) → AreCauses (tx_causes hash check state time tx)
  tx_are state time tx =
      let from_state = state_causes hash state tx ++ program_causes hash check tx in
      let from_assets = asset_causes hash state.initial tx ++ from_state in
      causes_of_parts (time_causes time tx) (name_causes hash tx ++ from_assets) (time_are time tx)
      (causes_of_parts (name_causes hash tx) from_assets (name_are hash tx)
      (causes_of_parts (asset_causes hash state.initial tx) from_state (asset_are hash state.initial tx)
      (causes_of_parts (state_causes hash state tx) (program_causes hash check tx) (state_are hash state tx) (program_are tx))))

  pub one_answer : (state : State) (time : ℕ) (tx : Tx) → OneAnswer (tx_causes hash check state time tx)
  one_answer state time tx = one_answer_of (tx_causes hash check state time tx) (tx_are state time tx)

  pub some_refusal : (state : State) (time : ℕ) (tx : Tx) → (cause : Option TxRefusal) × Refusal hash check state time tx cause
  some_refusal state time tx = (let answer = (one_answer state time tx).some in (answer.0, record { first = answer.1 }))

  pub one_refusal : (state : State) (time : ℕ) (tx : Tx) (a b : Option TxRefusal) → Refusal hash check state time tx a → Refusal hash check state time tx b → a ≡ b
  one_refusal state time tx a b p q = (one_answer state time tx).one a b p.first q.first
