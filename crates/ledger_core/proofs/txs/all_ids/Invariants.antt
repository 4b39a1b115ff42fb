use Rattle.std.proofs.Common.{take}
use Rattle.ledger_core.specs.Offering.{AreAllIds}
use Rattle.ledger_core.proofs.txs.all_ids.Given as goal

abbrev pub invariant-loop-tx : goal.invariant-loop-tx
invariant-loop-tx g l = AreAllIds (g.H.IdHash.hash_of l.hash) (take l.tx-index l.txs) l.ids.items
