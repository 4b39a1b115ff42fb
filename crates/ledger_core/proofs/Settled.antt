-- A ledger with one valid block more stands for its hash and its check.
use Rattle.std.proofs.Common.{◌≡◌, ℕ, ◌≤◌, List, [], ◌∷◌, ◌++◌, Some, Option, refl, sym, ◌∙◌, ap, subst, arith, append-nil, inl, inr}
use Rattle.std.specs.Prelude.{slice_get}
use Rattle.std.specs.List.{AllByRecursion, flat_map}
use Rattle.std.proofs.lemmas.Grind.{flat_map-append}
use Rattle.std.proofs.lemmas.Bool.{cases_lt}
use Rattle.data_model.specs.declared.block.Block.{Block}
use Rattle.data_model.specs.declared.tx.Tx.{Tx}
use Rattle.entry_ids.specs.Entry.{header_id}
use Rattle.keyed.specs.Functions.{Check}
use Rattle.tx_check.specs.View.{Unspent}
use Rattle.ledger_core.specs.declared.refusal.BlockRefusal.TheVariants.{B3}
use Rattle.ledger_core.specs.declared.unfinished.LiveNonce.{LiveNonce}
use Rattle.ledger_core.specs.Blocks.{tip_of, txs_of, time_of}
use Rattle.ledger_core.specs.LedgerModel.{LedgerModel, IsSpellable}
use Rattle.keyed.specs.Functions.{Hash}
use Rattle.ledger_core.specs.Refusal.{ValidNext}
use Rattle.ledger_core.specs.Chain.{Chain, StandsFor}
use Rattle.ledger_core.specs.State.{id_of}
use Rattle.ledger_core.specs.Unspent.{left_of, spent_by, unspent_after, live_at, used}
use Rattle.ledger_core.proofs.Tips.{tip_of_more}
use Rattle.ledger_core.proofs.Chains.{grows}
use Rattle.ledger_core.proofs.Unspents.{unspent_more, used_more, live_later}

-- ---- the blocks

spellable_more : (blocks : List Block) (block : Block) → AllByRecursion IsSpellable blocks → IsSpellable block → AllByRecursion IsSpellable (blocks ++ block ∷ [])
spellable_more [] block h one = (one, tt)
spellable_more (b ∷ blocks) block h one = (h.0, spellable_more blocks block h.1 one)

pub txs_more : (blocks : List Block) (block : Block) → txs_of (blocks ++ block ∷ []) ≡ txs_of blocks ++ block.txs
txs_more blocks block =
    flat_map-append (λ (b : Block). b.txs) blocks (block ∷ []) ∙ ap (λ (txs : List Tx). txs_of blocks ++ txs) (append-nil block.txs)

first_kept : (blocks : List Block) (block : Block) (hash : Hash) (check : Check) → Chain hash check blocks → slice_get (blocks ++ block ∷ []) 0 ≡ slice_get blocks 0
first_kept [] block hash check chain = absurd chain
first_kept (b ∷ blocks) block hash check chain = refl

-- a valid block is later than the last one
later : (hash : Hash) (check : Check) (blocks : List Block) (block : Block) → ValidNext hash check blocks block → time_of (tip_of blocks) ≤ block.header.time
later hash check blocks block valid = elim (cases_lt valid.tip.header.time block.header.time) [
  | inl earlier ↦ (let tip = ap time_of valid.is_tip in omega (arith, tip, earlier))
  | inr late ↦ absurd (valid.first.1.1.0 (B3 valid.tip.header.time block.header.time) (late, refl))
]

-- ---- the ledger

-- what a ledger keeps with a block more
pub record IsSettled (hash : Hash) (ledger : LedgerModel) (block : Block) (after : LedgerModel) : Type 0 where
  pub blocks : after.blocks ≡ ledger.blocks ++ block ∷ []
  pub tip_id : after.tip_id ≡ header_id hash block.header
  pub initial : after.initial ≡ ledger.initial
  pub empty_root : after.empty_root ≡ ledger.empty_root
  pub unspent : after.unspent ≡ left_of (flat_map (spent_by hash) block.txs) ledger.unspent ++ unspent_after hash block.txs
  pub live : after.live ≡ live_at block.header.time (ledger.live ++ used hash block.txs)

pub stands_settled : (hash : Hash) (check : Check) (ledger : LedgerModel) (block : Block) (after : LedgerModel) → StandsFor hash check ledger
    → ValidNext hash check ledger.blocks block → IsSpellable block → IsSettled hash ledger block after → StandsFor hash check after
stands_settled hash check ledger block after stands valid within h = record {
  chain = subst (Chain hash check) (sym h.blocks) (grows hash check ledger.blocks block stands.chain valid);
  within = subst (AllByRecursion IsSpellable) (sym h.blocks) (spellable_more ledger.blocks block stands.within within);
  tip_id = λ tip e.
      let there = subst (λ (bs : List Block). tip_of bs ≡ Some tip) h.blocks e in
      let both : Some block ≡ Some tip = sym (tip_of_more ledger.blocks block) ∙ there in
      let same : block ≡ tip = cc both in
      h.tip_id ∙ ap (λ (b : Block). header_id hash b.header) same;
  empty_root = h.empty_root ∙ stands.empty_root;
  initial = h.initial ∙ stands.initial
      ∙ ap (λ (b : Option Block). id_of hash b) (sym (first_kept ledger.blocks block hash check stands.chain) ∙ ap (λ (bs : List Block). slice_get bs 0) (sym h.blocks));
  unspent = h.unspent
      ∙ ap (λ (outputs : List Unspent). left_of (flat_map (spent_by hash) block.txs) outputs ++ unspent_after hash block.txs) stands.unspent
      ∙ sym (unspent_more hash (txs_of ledger.blocks) block.txs)
      ∙ ap (λ (txs : List Tx). unspent_after hash txs) (sym (txs_more ledger.blocks block) ∙ ap (λ (bs : List Block). txs_of bs) (sym h.blocks));
  live =
      let time = block.header.time in
      let tip : time_of (tip_of after.blocks) ≡ time = ap (λ (bs : List Block). time_of (tip_of bs)) h.blocks ∙ ap time_of (tip_of_more ledger.blocks block) in
      let txs : txs_of after.blocks ≡ txs_of ledger.blocks ++ block.txs = ap (λ (bs : List Block). txs_of bs) h.blocks ∙ txs_more ledger.blocks block in
      h.live
      ∙ ap (λ (nonces : List LiveNonce). live_at time (nonces ++ used hash block.txs)) stands.live
      ∙ live_later (time_of (tip_of ledger.blocks)) time (used hash (txs_of ledger.blocks)) (used hash block.txs) (later hash check ledger.blocks block valid)
      ∙ ap (λ (nonces : List LiveNonce). live_at time nonces) (sym (used_more hash (txs_of ledger.blocks) block.txs) ∙ ap (λ (ts : List Tx). used hash ts) (sym txs))
      ∙ ap (λ (t : ℕ). live_at t (used hash (txs_of after.blocks))) (sym tip);
}
