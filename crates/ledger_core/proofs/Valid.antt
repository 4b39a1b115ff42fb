-- What blocks have that start a chain or extend one.
use Rattle.std.proofs.Common.{◌≡◌, ◌≢◌, ℕ, ◌+◌, ◌≤◌, ◌<◌, List, [], ◌∷◌, Some, None, refl, sym, ◌∙◌, ap, inl, inr, arith}
use Rattle.std.specs.Prelude.{◌⊎◌}
use Rattle.std.proofs.lemmas.Bool.{cases_lt}
use Rattle.wire.specs.Tables.{HoldsNot, First, first_of_later, none_of_parts, Reports}
use Rattle.data_model.specs.declared.block.Block.{Block}
use Rattle.entry_ids.specs.Entry.{header_id}
use Rattle.vm_run.specs.declared.verdict.Verdict.{Verdict}
use Rattle.vm_run.specs.declared.verdict.Verdict.TheVariants.{Succeeded, Failed}
use Rattle.keyed.specs.Functions.{Check}
use Rattle.ledger_core.specs.declared.refusal.BlockRefusal.{BlockRefusal}
use Rattle.ledger_core.specs.declared.refusal.BlockRefusal.TheVariants.{B7}
use Rattle.ledger_core.specs.declared.refusal.StartFault.TheVariants.{NotEmpty, RootsNotEmpty}
use Rattle.ledger_core.specs.Roots.{root_of_none, tx_root}
use Rattle.keyed.specs.Functions.{Hash}
use Rattle.ledger_core.specs.Start.{start_causes, StartRefusal}
use Rattle.ledger_core.specs.Refusal.{header_causes, state_causes, ProgramFails, HasVerdictAfter, ValidNext}
use Rattle.ledger_core.specs.Refusal.{context_after, tip_of}
use Rattle.tx_check.specs.Contexts.{run_limit}
use Rattle.ledger_core.specs.Valid.{IsInitial, Extends}
use Rattle.wire.specs.Tables.{◌&◌}
use Rattle.wire.specs.Decisions.{bytes_decided, nat_decided, nil_decided}
use Rattle.wire.specs.Tables.{same, no_difference}
use Rattle.ledger_core.proofs.RefusedTxs.{valid_txs, no_refused_tx}
use Rattle.ledger_core.proofs.Refusals.{Known, not_failed}

-- ---- two things that may differ, in one cause

module _ {R X Y : Type 0} (a b : X) (c d : Y) (values : R) where
  abbrev Either : R → Type 0
  Either = Reports ((a ≢ b) ⊎ (c ≢ d)) values

  first_same : (a ≡ b) ⊎ (a ≢ b) → HoldsNot Either → a ≡ b
  first_same (inl e) h = e
  first_same (inr n) h = absurd (h values (inl n, refl))

  second_same : (c ≡ d) ⊎ (c ≢ d) → HoldsNot Either → c ≡ d
  second_same (inl e) h = e
  second_same (inr n) h = absurd (h values (inr n, refl))

  neither : a ≡ b → c ≡ d → HoldsNot Either
  neither e f = λ reported h. differ e f h.0
    where
      differ : a ≡ b → c ≡ d → (a ≢ b) ⊎ (c ≢ d) → ⊥
      differ e f (inl n) = n e
      differ e f (inr n) = n f

-- ---- the initial block

pub initial_from : (hash : Hash) (block : Block) → StartRefusal hash block None → IsInitial hash block
initial_from hash block h = record {
  height = same (nat_decided block.header.height 1) h.first.0;
  previous = same (bytes_decided block.header.previous _) h.first.1.0;
  version = same (nat_decided block.header.version 1) h.first.1.1.0;
  txs = first_same block.txs [] block.args [] NotEmpty (nil_decided block.txs) h.first.1.1.1.0;
  args = second_same block.txs [] block.args [] NotEmpty (nil_decided block.args) h.first.1.1.1.0;
  tx_root = first_same block.header.tx_root (root_of_none hash) block.header.unspent_root (root_of_none hash) RootsNotEmpty (bytes_decided _ _) h.first.1.1.1.1.0;
  unspent_root = second_same block.header.tx_root (root_of_none hash) block.header.unspent_root (root_of_none hash) RootsNotEmpty (bytes_decided _ _) h.first.1.1.1.1.0;
}

initial_first : (hash : Hash) (block : Block) → IsInitial hash block → First (start_causes (root_of_none hash) block) None
initial_first hash block i =
    no_difference i.height
    & no_difference i.previous
    & no_difference i.version
    & neither block.txs [] block.args [] NotEmpty i.txs i.args
    & neither block.header.tx_root (root_of_none hash) block.header.unspent_root (root_of_none hash) RootsNotEmpty i.tx_root i.unspent_root
    & tt

pub initial_to : (hash : Hash) (block : Block) → IsInitial hash block → StartRefusal hash block None
initial_to hash block i = record { first = initial_first hash block i }

-- ---- the block after

later : {t u : ℕ} {values : BlockRefusal} → HoldsNot (Reports (t ≤ u) values) → u < t
later {t} {u} {values} h = elim (cases_lt u t) [
  | inl less ↦ less
  | inr le ↦ absurd (h values (le, refl))
]

module _ (hash : Hash) (check : Check) where
  abbrev Succeeds : Block → Block → Type 0
  Succeeds tip block = (left : ℕ) × HasVerdictAfter hash check tip.header block.header block.args (Succeeded left)

  succeeds : (tip block : Block) → HoldsNot (ProgramFails hash check tip.header block) → (v : Verdict) → HasVerdictAfter hash check tip.header block.header block.args v → Succeeds tip block
  succeeds tip block h (Succeeded left) has = (left, has)
  succeeds tip block h (Failed kind at) has = absurd (h (B7 kind at) (kind, at, has, refl))

  abbrev parts_of : (blocks : List Block) (block : Block) (v : ValidNext hash check blocks block) → First (header_causes (header_id hash v.tip.header) (tx_root hash block) v.tip.header block.header) None
      × First (ProgramFails hash check v.tip.header block ∷ state_causes hash check blocks block) None
  parts_of blocks block v = none_of_parts (header_causes (header_id hash v.tip.header) (tx_root hash block) v.tip.header block.header) (ProgramFails hash check v.tip.header block ∷ state_causes hash check blocks block) v.first

  pub next_from : Known → (blocks : List Block) (block : Block) → ValidNext hash check blocks block → (tip : Block) × (tip_of blocks ≡ Some tip) × Extends hash check blocks tip block
  next_from known blocks block v =
      let header = (parts_of blocks block v).0 in
      let state = (parts_of blocks block v).1 in
      let verdict = known.some (context_after hash v.tip.header block.header) check v.tip.header.next_program block.args run_limit in (
        v.tip,
        v.is_tip,
        record {
          previous = same (bytes_decided block.header.previous _) header.0;
          height = same (nat_decided block.header.height _) header.1.0;
          time = later header.1.1.0;
          version = same (nat_decided block.header.version 1) header.1.1.1.0;
          is_tx_root = same (bytes_decided block.header.tx_root _) header.1.1.1.1.1.0;
          succeeds = succeeds v.tip block state.0 verdict.0 verdict.1;
          txs = valid_txs known.txs hash check blocks block.header.time block.txs state.1.0;
          is_unspent_root = same (bytes_decided block.header.unspent_root _) state.1.1.0;
        },
      )

  pub next_to : Known → (blocks : List Block) (block : Block) → ((tip : Block) × (tip_of blocks ≡ Some tip) × Extends hash check blocks tip block) → ValidNext hash check blocks block
  next_to known blocks block h =
      let x = h.2 in
      let none : HoldsNot {R = BlockRefusal} (λ reported. ⊥) = λ reported f. f in
      let by_header : First (header_causes (header_id hash h.0.header) (tx_root hash block) h.0.header block.header) None =
      no_difference x.previous
      & no_difference x.height
      & (λ reported t. absurd (omega (arith, t.0, x.time)))
      & no_difference x.version
      & none
      & no_difference x.is_tx_root
      & tt in
      let by_state : First (ProgramFails hash check h.0.header block ∷ state_causes hash check blocks block) None =
      not_failed known.one hash check h.0.header block x.succeeds.0 x.succeeds.1
      & no_refused_tx known.txs hash check blocks block.header.time block.txs x.txs
      & no_difference x.is_unspent_root
      & tt in
      record {
        tip = h.0;
        is_tip = h.1;
        first = first_of_later (header_causes (header_id hash h.0.header) (tx_root hash block) h.0.header block.header) (ProgramFails hash check h.0.header block ∷ state_causes hash check blocks block) None by_header by_state;
      }

-- ---- heights

pub height_of_next : (hash : Hash) (check : Check) (blocks : List Block) (block tip : Block) → ValidNext hash check blocks block → tip_of blocks ≡ Some tip → block.header.height ≡ tip.header.height + 1
height_of_next hash check blocks block tip v e =
    let header = (parts_of hash check blocks block v).0 in
    let both : Some v.tip ≡ Some tip = sym v.is_tip ∙ e in
    let tips : v.tip ≡ tip = cc both in
    same (nat_decided block.header.height _) header.1.0 ∙ ap (λ (t : Block). t.header.height + 1) tips

pub height_of_initial : (hash : Hash) (block : Block) → StartRefusal hash block None → block.header.height ≡ 1
height_of_initial hash block h = (initial_from hash block h).height
