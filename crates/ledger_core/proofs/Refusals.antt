-- Of each table there is one answer, and a block that is offered has one refusal, or none.
use Rattle.std.proofs.Common.{◌≡◌, ℕ, ◌+◌, ◌-◌, ◌<◌, List, ◌∷◌, length, get_or, Option, Some, None, refl, sym, ◌∙◌, subst, inl, inr}
use Rattle.std.specs.Prelude.{◌⊎◌}
use Rattle.wire.specs.Tables.{HoldsNot, First, OneAnswer, one_answer_of, causes_of_parts, decided_cause, free_cause}
use Rattle.wire.specs.Tables.{first_of_front, first_of_later, Cause, IsCause, AreCauses}
use Rattle.data_model.specs.declared.header.Header.{Header}
use Rattle.data_model.specs.declared.block.Block.{Block}
use Rattle.entry_ids.specs.Entry.{header_id}
use Rattle.vm_num.specs.declared.failure.Failure.{Failure}
use Rattle.vm_run.specs.declared.verdict.Verdict.{Verdict}
use Rattle.vm_run.specs.declared.verdict.Verdict.TheVariants.{Succeeded, Failed}
use Rattle.vm_run.specs.declared.context.Context.{Context}
use Rattle.keyed.specs.Functions.{Check}
use Rattle.vm_run.specs.Verdict.{HasVerdict}
use Rattle.ledger_core.specs.declared.refusal.BlockRefusal.{BlockRefusal}
use Rattle.ledger_core.specs.declared.refusal.BlockRefusal.TheVariants.{B7}
use Rattle.ledger_core.specs.declared.refusal.OfferFault.{OfferFault}
use Rattle.ledger_core.specs.declared.refusal.OfferFault.TheVariants.{Refused, NoMemory}
use Rattle.ledger_core.specs.Roots.{tx_root}
use Rattle.keyed.specs.Functions.{Hash}
use Rattle.ledger_core.specs.Start.{start_causes}
use Rattle.ledger_core.specs.Refusal.{Refusal, UnsealedRefusal, Refuses, RefusesUnsealed, ValidNext, HasVerdictAfter}
use Rattle.ledger_core.specs.Refusal.{ProgramFails, header_causes, state_causes, block_causes, unsealed_causes}
use Rattle.ledger_core.specs.Refusal.{context_after, tip_of}
use Rattle.tx_check.specs.Contexts.{run_limit}
use Rattle.ledger_core.specs.Offering.{RefusesBy}
use Rattle.wire.specs.Decisions.{bytes_decided, nat_decided, nil_decided, not_decided, or_decided}
use Rattle.wire.specs.Decisions.{le_decided}
use Rattle.wire.specs.Tables.{differs, ◌&◌}
use Rattle.ledger_core.proofs.RefusedTxs.{TxLaws, refused_tx_line}
use Rattle.ledger_core.proofs.Tips.{some_tip}

-- each program has a verdict
abbrev pub SomeVerdict : Type 0
SomeVerdict = (context : Context) (check : Check) (program : List ℕ) (args : List (List ℕ)) (limit : ℕ) → (verdict : Verdict) × HasVerdict context check program args limit verdict

-- and no two
abbrev pub OneVerdict : Type 0
OneVerdict = (context : Context) (check : Check) (program : List ℕ) (args : List (List ℕ)) (limit : ℕ) (a b : Verdict) → HasVerdict context check program args limit a → HasVerdict context check program args limit b → a ≡ b

-- ---- the initial block

start_are_causes : (root : List ℕ) (block : Block) → AreCauses (start_causes root block)
start_are_causes root block =
    differs (nat_decided block.header.height 1)
    & differs (bytes_decided block.header.previous _)
    & differs (nat_decided block.header.version 1)
    & decided_cause (or_decided (not_decided (nil_decided block.txs)) (not_decided (nil_decided block.args)))
    & decided_cause (or_decided (not_decided (bytes_decided block.header.tx_root root)) (not_decided (bytes_decided block.header.unspent_root root)))
    & tt

pub one_start : (root : List ℕ) (block : Block) → OneAnswer (start_causes root block)
one_start root block = one_answer_of (start_causes root block) (start_are_causes root block)

-- ---- the block after

header_are_causes : (tip_id computed : List ℕ) (tip header : Header) → AreCauses (header_causes tip_id computed tip header)
header_are_causes tip_id computed tip header =
    differs (bytes_decided header.previous tip_id)
    & differs (nat_decided header.height (tip.height + 1))
    & decided_cause (le_decided header.time tip.time)
    & differs (nat_decided header.version 1)
    & free_cause
    & differs (bytes_decided header.tx_root computed)
    & tt

same_failure : (k l : Failure) (a b : ℕ) → Failed k a ≡ Failed l b → (k ≡ l) × (a ≡ b)
same_failure k l a b e = (cc, cc)

failed_or_succeeded : (kind : Failure) (at left : ℕ) → Failed kind at ≡ Succeeded left → ⊥
failed_or_succeeded kind at left e = cc

module _ (one : OneVerdict) (hash : Hash) (check : Check) (tip : Header) (block : Block) where
  -- a program that succeeds does not fail
  pub not_failed : (left : ℕ) → HasVerdictAfter hash check tip block.header block.args (Succeeded left) → HoldsNot (ProgramFails hash check tip block)
  not_failed left has = λ reported h. failed_or_succeeded h.0 h.1 left (one _ check _ block.args run_limit (Failed h.0 h.1) (Succeeded left) h.2 has)

  program_of : (v : Verdict) → HasVerdictAfter hash check tip block.header block.args v → ((reported : BlockRefusal) × ProgramFails hash check tip block reported) ⊎ HoldsNot (ProgramFails hash check tip block)
  program_of (Failed kind at) has = inl (B7 kind at, (kind, at, has, refl))
  program_of (Succeeded left) has = inr (not_failed left has)

  one_failure : (a b : BlockRefusal) → ProgramFails hash check tip block a → ProgramFails hash check tip block b → a ≡ b
  one_failure a b p q =
      let same = same_failure p.0 q.0 p.1 q.1 (one _ check _ block.args run_limit (Failed p.0 p.1) (Failed q.0 q.1) p.2 q.2) in
      let kinds : p.0 ≡ q.0 = same.0 in
      let places : p.1 ≡ q.1 = same.1 in
      p.3 ∙ (λ i. B7 (kinds i) (places i)) ∙ sym q.3

  program_line : SomeVerdict → IsCause (ProgramFails hash check tip block)
  program_line some =
      let v = some (context_after hash tip block.header) check tip.next_program block.args run_limit in
      record { decided = program_of v.0 v.1; one = one_failure }

-- what is known of programs and of transactions
pub record Known : Type 0 where
  pub some : SomeVerdict
  pub one : OneVerdict
  pub txs : TxLaws

module _ (k : Known) (hash : Hash) (check : Check) (blocks : List Block) (tip : Header) (block : Block) where
  known_header : AreCauses (header_causes (header_id hash tip) (tx_root hash block) tip block.header)
  known_header = header_are_causes (header_id hash tip) (tx_root hash block) tip block.header

  state_are_causes : AreCauses (state_causes hash check blocks block)
  state_are_causes = refused_tx_line k.txs hash check blocks block.header.time block.txs & differs (bytes_decided block.header.unspent_root _) & tt

  block_are_causes : AreCauses (block_causes hash check blocks tip block)
  block_are_causes =
      causes_of_parts (header_causes (header_id hash tip) (tx_root hash block) tip block.header) (ProgramFails hash check tip block ∷ state_causes hash check blocks block) known_header
      (program_line k.one hash check tip block k.some & state_are_causes)

  unsealed_are_causes : AreCauses (unsealed_causes hash check blocks tip block)
  unsealed_are_causes = causes_of_parts (header_causes (header_id hash tip) (tx_root hash block) tip block.header) (state_causes hash check blocks block) known_header state_are_causes

  pub one_refusal_of_blocks : OneAnswer (block_causes hash check blocks tip block)
  one_refusal_of_blocks = one_answer_of (block_causes hash check blocks tip block) block_are_causes

  pub one_unsealed_line : OneAnswer (unsealed_causes hash check blocks tip block)
  one_unsealed_line = one_answer_of (unsealed_causes hash check blocks tip block) unsealed_are_causes

module _ (k : Known) (hash : Hash) (check : Check) (blocks : List Block) (block : Block) where
  pub some_refusal : 0 < length blocks → (cause : Option BlockRefusal) × Refusal hash check blocks block cause
  some_refusal h =
      let tip = get_or blocks (length blocks - 1) block in
      let answer = (one_refusal_of_blocks k hash check blocks tip.header block).some in
      (answer.0, record { tip = tip; is_tip = some_tip blocks block h; first = answer.1 })

  pub one_refusal : (a b : Option BlockRefusal) → Refusal hash check blocks block a → Refusal hash check blocks block b → a ≡ b
  one_refusal a b r s =
      let both : Some r.tip ≡ Some s.tip = sym r.is_tip ∙ s.is_tip in
      let tips : s.tip ≡ r.tip = cc both in
      let there = subst (λ (tip : Block). First (block_causes hash check blocks tip.header block) b) tips s.first in
      (one_refusal_of_blocks k hash check blocks r.tip.header block).one a b r.first there

  pub some_unsealed : 0 < length blocks → (cause : Option BlockRefusal) × UnsealedRefusal hash check blocks block cause
  some_unsealed h =
      let tip = get_or blocks (length blocks - 1) block in
      let answer = (one_unsealed_line k hash check blocks tip.header block).some in
      (answer.0, record { tip = tip; is_tip = some_tip blocks block h; first = answer.1 })

  pub one_unsealed : (a b : Option BlockRefusal) → UnsealedRefusal hash check blocks block a → UnsealedRefusal hash check blocks block b → a ≡ b
  one_unsealed a b r s =
      let both : Some r.tip ≡ Some s.tip = sym r.is_tip ∙ s.is_tip in
      let tips : s.tip ≡ r.tip = cc both in
      let there = subst (λ (tip : Block). First (unsealed_causes hash check blocks tip.header block) b) tips s.first in
      (one_unsealed_line k hash check blocks r.tip.header block).one a b r.first there

-- ---- what the code finds out, one after the other

-- what is known of a block that is offered: the tip and its id
pub record IsOffered (hash : Hash) (blocks : List Block) (tip : Block) (tip_id : List ℕ) : Type 0 where
  pub is_tip : tip_of blocks ≡ Some tip
  pub is_id : tip_id ≡ header_id hash tip.header

module _ (hash : Hash) (check : Check) (blocks : List Block) (block tip : Block) (tip_id : List ℕ) (o : IsOffered hash blocks tip tip_id) where
  abbrev ByHeader : Option BlockRefusal → Type 0
  ByHeader cause = First (header_causes tip_id (tx_root hash block) tip.header block.header) cause

  abbrev header : List (Cause BlockRefusal)
  header = header_causes (header_id hash tip.header) (tx_root hash block) tip.header block.header

  abbrev state : List (Cause BlockRefusal)
  state = state_causes hash check blocks block

  known : (cause : Option BlockRefusal) → ByHeader cause → First header cause
  known cause h = subst (λ (id : List ℕ). First (header_causes id (tx_root hash block) tip.header block.header) cause) o.is_id h

  abbrev Verdicts : Verdict → Type 0
  Verdicts v = HasVerdictAfter hash check tip.header block.header block.args v

  of_later : (cause : Option BlockRefusal) → ByHeader None → First (ProgramFails hash check tip.header block ∷ state) cause → Refusal hash check blocks block cause
  of_later cause none h = record {
    tip = tip;
    is_tip = o.is_tip;
    first = first_of_later header (ProgramFails hash check tip.header block ∷ state) cause (known None none) h;
  }

  -- a cause of the header, whatever the program does
  pub by_header : (cause : BlockRefusal) → ByHeader (Some cause) → Refusal hash check blocks block (Some cause)
  by_header cause h = record {
    tip = tip;
    is_tip = o.is_tip;
    first = first_of_front header (ProgramFails hash check tip.header block ∷ state) cause (known (Some cause) h);
  }

  -- the program fails
  pub by_program : (kind : Failure) (at : ℕ) → ByHeader None → Verdicts (Failed kind at) → Refusal hash check blocks block (Some (B7 kind at))
  by_program kind at none has = of_later (Some (B7 kind at)) none (inl (kind, at, has, refl))

  module _ (one : OneVerdict) (left : ℕ) (none : ByHeader None) (has : Verdicts (Succeeded left)) where
    -- a transaction is refused, or the root of what is unspent is another one
    pub by_state : (cause : BlockRefusal) → First state (Some cause) → Refusal hash check blocks block (Some cause)
    by_state cause h = of_later (Some cause) none (inr (not_failed one hash check tip.header block left has, h))

    -- no cause holds
    pub by_nothing : First state None → ValidNext hash check blocks block
    by_nothing h = of_later None none (not_failed one hash check tip.header block left has, h)

  -- ---- the same of a block that is not sealed

  pub unsealed_by_header : (cause : BlockRefusal) → ByHeader (Some cause) → UnsealedRefusal hash check blocks block (Some cause)
  unsealed_by_header cause h = record { tip = tip; is_tip = o.is_tip; first = first_of_front header state cause (known (Some cause) h) }

  pub unsealed_by_state : (cause : Option BlockRefusal) → ByHeader None → First state cause → UnsealedRefusal hash check blocks block cause
  unsealed_by_state cause none h = record { tip = tip; is_tip = o.is_tip; first = first_of_later header state cause (known None none) h }

-- ---- by what is reported of a fault

module _ (hash : Hash) (check : Check) (blocks : List Block) (block tip : Block) (tip_id : List ℕ) (o : IsOffered hash blocks tip tip_id) where
  pub refuses_by_header : (fault : OfferFault) → RefusesBy (header_causes tip_id (tx_root hash block) tip.header block.header) fault → Refuses hash check blocks block fault
  refuses_by_header (Refused cause) h = by_header hash check blocks block tip tip_id o cause h
  refuses_by_header NoMemory h = tt

  pub refuses_by_state : OneVerdict → (left : ℕ) → First (header_causes tip_id (tx_root hash block) tip.header block.header) None → HasVerdictAfter hash check tip.header block.header block.args (Succeeded left) → (fault : OfferFault) → RefusesBy (state_causes hash check blocks block) fault → Refuses hash check blocks block fault
  refuses_by_state one left none has (Refused cause) h = by_state hash check blocks block tip tip_id o one left none has cause h
  refuses_by_state one left none has NoMemory h = tt

  pub unsealed_refuses_by_header : (fault : OfferFault) → RefusesBy (header_causes tip_id (tx_root hash block) tip.header block.header) fault → RefusesUnsealed hash check blocks block fault
  unsealed_refuses_by_header (Refused cause) h = unsealed_by_header hash check blocks block tip tip_id o cause h
  unsealed_refuses_by_header NoMemory h = tt

  pub unsealed_refuses_by_state : First (header_causes tip_id (tx_root hash block) tip.header block.header) None → (fault : OfferFault) → RefusesBy (state_causes hash check blocks block) fault → RefusesUnsealed hash check blocks block fault
  unsealed_refuses_by_state none (Refused cause) h = unsealed_by_state hash check blocks block tip tip_id o (Some cause) none h
  unsealed_refuses_by_state none NoMemory h = tt
