use Rattle.std.proofs.Common.{◌≡◌}
use Rattle.wire.specs.Tables.{Reports}
use Rattle.keyed.specs.Functions.{Hash}
use Rattle.tx_check.specs.declared.refusal.TxRefusal.TheVariants.{X11}
use Rattle.tx_check.specs.Table.{SpendsNone, named_by}
use Rattle.tx_check.specs.FirstPlaces.{NoneBelow}
use Rattle.tx_check.proofs.shown.spent_none.Given as goal

abbrev pub invariant-loop-k : goal.invariant-loop-k
invariant-loop-k g l =
    (hash : Hash) → l.named ≡ named_by hash l.tx
    → NoneBelow (λ k input. Reports (SpendsNone hash (g.V.View.state_of l.view) input) (X11 k)) l.inputs l.k
