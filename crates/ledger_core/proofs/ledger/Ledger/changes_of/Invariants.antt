use Rattle.std.proofs.Common.{◌≡◌, length, take}
use Rattle.ledger_core.specs.Offering.{AreChanges}
use Rattle.ledger_core.proofs.Changing.{NoneRefused}
use Rattle.ledger_core.proofs.ledger.Ledger.changes_of.Given as goal

abbrev pub invariant-loop-k : goal.invariant-loop-k
invariant-loop-k g l =
    let hash = g.H.IdHash.hash_of l.hash in
    record {
      changes : AreChanges hash (take l.k l.txs) l.changes;
      none : NoneRefused hash (g.C.SigCheck.good_of l.sigs) l.self.blocks l.time l.txs l.k;
      many : length l.ids ≡ length l.txs;
    }
