use Rattle.std.proofs.Common.{◌≡◌}
use Rattle.keyed.specs.Functions.{Hash}
use Rattle.entry_ids.specs.Ids.{result_ids}
use Rattle.tx_check.specs.Table.{TakesId}
use Rattle.tx_check.specs.FirstPlaces.{NoneBelow}
use Rattle.tx_check.proofs.shown.taken_id.Given as goal

abbrev pub invariant-loop-k : goal.invariant-loop-k
invariant-loop-k g l =
    (hash : Hash) → l.results ≡ result_ids hash l.tx
    → NoneBelow (TakesId hash (g.V.View.state_of l.view) l.tx) l.outputs l.k
