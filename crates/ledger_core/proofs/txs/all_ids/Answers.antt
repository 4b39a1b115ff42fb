use Rattle.std.proofs.Common.{List, subst}
use Rattle.std.proofs.lemmas.List.{take_all}
use Rattle.data_model.specs.declared.tx.Tx.{Tx}
use Rattle.ledger_core.specs.Offering.{AreAllIds}
use Rattle.ledger_core.proofs.Taken.{is_tx, ids_next}
use Rattle.ledger_core.proofs.txs.all_ids.Goals as goal

pub tx_ids-requires : goal.tx_ids-requires
tx_ids-requires g c =
    is_tx c.args.txs.now c.loop-tx.tx-index c.tx-item.result c.requires (record { there = c.loop-tx-test.true; is = c.tx-item.is })

pub loop-tx-preserved : goal.loop-tx-preserved
loop-tx-preserved g c =
    let hash = g.H.IdHash.hash_of c.args.hash.now in
    let txs = c.args.txs.now in
    let k = c.loop-tx.tx-index in
    let one = c.in_ok-tx_ids.field-0 in
    rw c.in_ok-push.ensures.items
    (ids_next hash txs k c.loop-tx.ids.items c.tx-item.result one (record { there = c.loop-tx-test.true; is = c.tx-item.is }) c.loop-tx.invariant c.in_ok-tx_ids.ensures)

pub returns : goal.returns
returns g c =
    let hash = g.H.IdHash.hash_of c.args.hash.now in
    subst (λ (txs : List Tx). AreAllIds hash txs c.loop-tx.ids.items) (take_all c.loop-tx.tx-index c.args.txs.now c.loop-tx-test.false) c.loop-tx.invariant
