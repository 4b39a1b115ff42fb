use Rattle.wire.specs.Tables.{Reports}
use Rattle.tx_check.specs.declared.refusal.TxRefusal.TheVariants.{X12}
use Rattle.tx_check.specs.Table.{UsesLive}
use Rattle.tx_check.specs.FirstPlaces.{NoneBelow}
use Rattle.tx_check.proofs.shown.live_nonce.Given as goal

abbrev pub invariant-loop-k : goal.invariant-loop-k
invariant-loop-k g l =
    NoneBelow (λ k name. Reports (UsesLive (g.V.View.state_of l.view) name) (X12 k)) l.named l.k
