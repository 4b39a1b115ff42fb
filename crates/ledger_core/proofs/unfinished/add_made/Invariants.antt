use Rattle.std.proofs.Common.{◌≡◌, ◌++◌, take}
use Rattle.keyed.specs.Functions.{Hash}
use Rattle.entry_ids.specs.Ids.{AreIds, mux_id}
use Rattle.ledger_core.specs.Unspent.{made_at}
use Rattle.ledger_core.proofs.Made.{all_from}
use Rattle.ledger_core.proofs.unfinished.add_made.Given as goal

abbrev pub invariant-loop-k : goal.invariant-loop-k
invariant-loop-k l =
    (hash : Hash) → AreIds hash l.tx l.ids
    → l.made.items ≡ l.fn.made.items ++ all_from (made_at hash (mux_id hash l.tx)) 0 (take l.k l.outputs)
