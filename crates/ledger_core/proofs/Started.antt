-- The ledger of an initial block stands for its hash and any check.
use Rattle.std.proofs.Common.{◌≡◌, List, [], ◌∷◌, Some, None, refl, sym, ◌∙◌, ap, subst, inl, arith, append-nil}
use Rattle.data_model.specs.declared.block.Block.{Block}
use Rattle.data_model.specs.declared.tx.Tx.{Tx}
use Rattle.data_model.specs.Spelling.{IsHeader, AreTxs}
use Rattle.entry_ids.specs.Entry.{header_id}
use Rattle.keyed.specs.Functions.{Check}
use Rattle.ledger_core.specs.declared.refusal.StartFault.TheVariants.{NotEmpty}
use Rattle.ledger_core.specs.Blocks.{tip_of, txs_of, time_of}
use Rattle.ledger_core.specs.LedgerModel.{LedgerModel, IsSpellable}
use Rattle.ledger_core.specs.Roots.{root_of_none}
use Rattle.keyed.specs.Functions.{Hash}
use Rattle.ledger_core.specs.Start.{StartRefusal}
use Rattle.ledger_core.specs.Chain.{StandsFor}
use Rattle.ledger_core.specs.Unspent.{unspent_after, live_at, used}

-- an initial block has no transactions
pub no_txs : (hash : Hash) (block : Block) → StartRefusal hash block None → block.txs ≡ []
no_txs hash block h = go block.txs refl
  where
    go : (txs : List Tx) → block.txs ≡ txs → block.txs ≡ []
    go [] e = e
    go (tx ∷ txs) e = absurd (h.first.1.1.1.0 NotEmpty (inl (λ none. cc (sym e ∙ none)), refl))

pub spellable : (block : Block) → IsHeader block.header → block.txs ≡ [] → IsSpellable block
spellable block header none = record {
  header = header;
  txs = subst (λ (txs : List Tx). AreTxs txs) (sym none) (record { count = omega arith; each = tt; within = omega arith });
}

pub stands_started : (hash : Hash) (check : Check) (block : Block) (held : LedgerModel) → StartRefusal hash block None → IsHeader block.header
    → held.blocks ≡ block ∷ [] → held.initial ≡ header_id hash block.header → held.tip_id ≡ header_id hash block.header
    → held.empty_root ≡ root_of_none hash → held.unspent ≡ [] → held.live ≡ [] → StandsFor hash check held
stands_started hash check block held starts header blocks initial tip_id empty_root unspent live =
    let none = no_txs hash block starts in
    let txs : txs_of held.blocks ≡ [] = ap (λ (bs : List Block). txs_of bs) blocks ∙ append-nil block.txs ∙ none in
    record {
      chain = rw blocks (starts, tt);
      within = rw blocks (spellable block header none, tt);
      tip_id = λ tip e.
          (let there = subst (λ (bs : List Block). tip_of bs ≡ Some tip) blocks e in
          let same : block ≡ tip = cc there in
          tip_id ∙ ap (λ (b : Block). header_id hash b.header) same);
      empty_root = empty_root;
      initial = rw blocks initial;
      unspent = unspent ∙ ap (λ (ts : List Tx). unspent_after hash ts) (sym txs);
      live = live ∙ ap (λ (ts : List Tx). live_at (time_of (tip_of held.blocks)) (used hash ts)) (sym txs);
    }
