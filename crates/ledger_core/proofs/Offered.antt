-- What is found out of an offered block: what its transactions change, and the root of what is unspent after them.
use Rattle.std.proofs.Common.{◌≡◌, ◌≢◌, ℕ, ◌-◌, List, ◌++◌, length, get_or, Some, None, Ok, Err, sym, ◌∙◌, ap, subst, inl, inr}
use Rattle.std.specs.Prelude.{Result, IfErr, IsErrAnd}
use Rattle.wire.specs.Tables.{HoldsNot, First, Cause}
use Rattle.data_model.specs.declared.block.Block.{Block}
use Rattle.data_model.specs.declared.tx.Tx.{Tx}
use Rattle.merkle.specs.Roots.{set_root}
use Rattle.vm_num.specs.declared.failure.Failure.{Failure}
use Rattle.vm_run.specs.declared.verdict.Verdict.{Verdict}
use Rattle.vm_run.specs.declared.verdict.Verdict.TheVariants.{Succeeded, Failed}
use Rattle.keyed.specs.Functions.{Check}
use Rattle.ledger_core.specs.declared.refusal.BlockRefusal.{BlockRefusal}
use Rattle.ledger_core.specs.declared.refusal.BlockRefusal.TheVariants.{B7, B9}
use Rattle.ledger_core.specs.declared.refusal.OfferFault.{OfferFault}
use Rattle.ledger_core.specs.declared.unfinished.Changes.{Changes}
use Rattle.ledger_core.specs.Blocks.{tip_of, txs_of}
use Rattle.ledger_core.specs.Chain.{StandsFor}
use Rattle.ledger_core.specs.LedgerModel.{LedgerModel}
use Rattle.ledger_core.specs.Offering.{AreChanges, RefusesBy}
use Rattle.ledger_core.specs.Refusal.{Refusal, Refuses, RefusesUnsealed, UnsealedRefusal, ValidNext, HasVerdictAfter, HasRefusedTx, header_causes, state_causes}
use Rattle.ledger_core.specs.Roots.{output_ids, tx_root, unspent_root}
use Rattle.keyed.specs.Functions.{Hash}
use Rattle.ledger_core.specs.Unspent.{unspent_after}
use Rattle.ledger_core.proofs.Chains.{not_empty}
use Rattle.ledger_core.proofs.Refusals.{OneVerdict, IsOffered, by_program, by_nothing, refuses_by_header, refuses_by_state, unsealed_by_state, unsealed_refuses_by_header, unsealed_refuses_by_state}
use Rattle.ledger_core.proofs.Tips.{some_tip}

module _ (hash : Hash) (check : Check) (blocks : List Block) (block : Block) (txs : List Tx) (same : txs ≡ block.txs) (changes : Changes) (computed : List ℕ)
    (none : HoldsNot (HasRefusedTx hash check blocks block.header.time txs)) (are : AreChanges hash txs changes)
    (root : (all : List Tx) → AreChanges hash all changes → computed ≡ set_root hash (output_ids (unspent_after hash (txs_of blocks ++ all)))) where
  is_root : computed ≡ unspent_root hash blocks block
  is_root = root block.txs (subst (λ (all : List Tx). AreChanges hash all changes) same are)

  none_refused : HoldsNot (HasRefusedTx hash check blocks block.header.time block.txs)
  none_refused = subst (λ (all : List Tx). HoldsNot (HasRefusedTx hash check blocks block.header.time all)) same none

  -- the block names another root
  pub by_another_root : block.header.unspent_root ≢ computed → First (state_causes hash check blocks block) (Some (B9 computed block.header.unspent_root))
  by_another_root differs = inr (none_refused, inl ((λ e. differs (e ∙ sym is_root)), ap (λ (found : List ℕ). B9 found block.header.unspent_root) is_root))

  -- it names this one
  pub by_this_root : block.header.unspent_root ≡ computed → First (state_causes hash check blocks block) None
  by_this_root e = (none_refused, (λ reported h. h.0 (e ∙ is_root), tt))

-- ---- a fault that is passed on

pub passed : {T : Type 0} (Tells : OfferFault → Type 0) (fault : OfferFault) (r : Result T OfferFault) → IsErrAnd r (λ other. other ≡ fault) → Tells fault → IfErr r Tells
passed Tells fault (Ok x) is h = tt
passed Tells fault (Err other) is h = subst Tells (sym is) h

-- ---- to a ledger

module _ (hash : Hash) (check : Check) (ledger : LedgerModel) (block : Block) (stands : StandsFor hash check ledger) where
  -- B1 to B6, by what the ledger keeps
  abbrev Header : Block → List (Cause BlockRefusal)
  Header tip = header_causes ledger.tip_id (tx_root hash block) tip.header block.header

  -- what holds of the last block
  abbrev AtTip : (Block → Type 0) → Type 0
  AtTip Holds = (tip : Block) → tip_of ledger.blocks ≡ Some tip → Holds tip

  abbrev NoneOfHeader : Type 0
  NoneOfHeader = AtTip (λ tip. First (Header tip) None)

  abbrev tip : Block
  tip = get_or ledger.blocks (length ledger.blocks - 1) block

  is_tip : tip_of ledger.blocks ≡ Some tip
  is_tip = some_tip ledger.blocks block (not_empty hash check ledger.blocks stands.chain)

  offered : (last : Block) → tip_of ledger.blocks ≡ Some last → IsOffered hash ledger.blocks last ledger.tip_id
  offered last is_last = record { is_tip = is_last; is_id = stands.tip_id last is_last }

  pub refused_begun : (fault : OfferFault) → AtTip (λ last. RefusesBy (Header last) fault) → Refuses hash check ledger.blocks block fault
  refused_begun fault h = refuses_by_header hash check ledger.blocks block tip ledger.tip_id (offered tip is_tip) fault (h tip is_tip)

  module _ (last : Block) (is_last : tip_of ledger.blocks ≡ Some last) (none : NoneOfHeader) (verdict : Verdict) (has : HasVerdictAfter hash check last.header block.header block.args verdict) where
    abbrev Has : Verdict → Type 0
    Has v = HasVerdictAfter hash check last.header block.header block.args v

    pub refused_program : (kind : Failure) (at : ℕ) → verdict ≡ Failed kind at → Refusal hash check ledger.blocks block (Some (B7 kind at))
    refused_program kind at is = by_program hash check ledger.blocks block last ledger.tip_id (offered last is_last) kind at (none last is_last) (subst Has is has)

    -- the block as it is lent and given back
    module _ (one : OneVerdict) (left : ℕ) (is : verdict ≡ Succeeded left) (lent : Block) (same : lent ≡ block) where
      pub refused_state : (fault : OfferFault) → RefusesBy (state_causes hash check ledger.blocks lent) fault → Refuses hash check ledger.blocks block fault
      refused_state fault h =
          refuses_by_state hash check ledger.blocks block last ledger.tip_id (offered last is_last) one left (none last is_last) (subst Has is has) fault
          (subst (λ (b : Block). RefusesBy (state_causes hash check ledger.blocks b) fault) same h)

      pub accepted : First (state_causes hash check ledger.blocks lent) None → ValidNext hash check ledger.blocks block
      accepted h =
          by_nothing hash check ledger.blocks block last ledger.tip_id (offered last is_last) one left (none last is_last) (subst Has is has)
          (subst (λ (b : Block). First (state_causes hash check ledger.blocks b) None) same h)

  -- ---- the same of a block that is not sealed

  pub unsealed_begun : (fault : OfferFault) → AtTip (λ last. RefusesBy (Header last) fault) → RefusesUnsealed hash check ledger.blocks block fault
  unsealed_begun fault h = unsealed_refuses_by_header hash check ledger.blocks block tip ledger.tip_id (offered tip is_tip) fault (h tip is_tip)

  pub unsealed_state : NoneOfHeader → (fault : OfferFault) → RefusesBy (state_causes hash check ledger.blocks block) fault → RefusesUnsealed hash check ledger.blocks block fault
  unsealed_state none fault h = unsealed_refuses_by_state hash check ledger.blocks block tip ledger.tip_id (offered tip is_tip) (none tip is_tip) fault h

  pub unsealed_accepted : NoneOfHeader → First (state_causes hash check ledger.blocks block) None → UnsealedRefusal hash check ledger.blocks block None
  unsealed_accepted none h = unsealed_by_state hash check ledger.blocks block tip ledger.tip_id (offered tip is_tip) None (none tip is_tip) h
