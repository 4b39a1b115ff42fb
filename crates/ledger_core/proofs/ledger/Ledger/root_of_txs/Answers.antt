use Rattle.std.proofs.Common.{◌∙◌, List, ap}
use Rattle.std.specs.Prelude.{map}
use Rattle.std.proofs.lemmas.List.{take_all}
use Rattle.entry_ids.specs.declared.tx.TxIds.{TxIds}
use Rattle.merkle.specs.Roots.{list_root}
use Rattle.ledger_core.specs.LedgerModel.{LedgerModel}
use Rattle.ledger_core.proofs.Rooted.{ids_of_txs, root_of_no_txs, no_ids}
use Rattle.ledger_core.proofs.ledger.Ledger.root_of_txs.Goals as goal

pub returns-then-is_empty : goal.returns-then-is_empty
returns-then-is_empty g c = λ txs are.
    let hash = g.H.IdHash.hash_of c.args.hash.now in
    ap (λ (held : LedgerModel). held.empty_root) c.self.view_is ∙ c.requires
    ∙ root_of_no_txs hash txs c.args.ids.now are (no_ids c.args.ids.now c.is_empty.result c.is_empty.ensures c.if-is_empty.true)

pub returns : goal.returns
returns g c = λ txs are.
    let hash = g.H.IdHash.hash_of c.args.hash.now in
    c.list_root.ensures
    ∙ ap (list_root hash)
    (c.as_slice.ensures.value ∙ c.loop-one.invariant
    ∙ ap (λ (ids : List TxIds). map (λ (one : TxIds). one.tx) ids) (take_all c.loop-one.one-index c.args.ids.now c.loop-one-test.false)
    ∙ ids_of_txs hash txs c.args.ids.now are)
