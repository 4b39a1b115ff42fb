use Rattle.wire.specs.Tables.{Reports}
use Rattle.tx_check.specs.declared.refusal.TxRefusal.TheVariants.{X9}
use Rattle.tx_check.specs.Table.{IssuesAnother}
use Rattle.tx_check.specs.FirstPlaces.{NoneBelow}
use Rattle.tx_check.proofs.assets.another_asset.Given as goal

abbrev pub invariant-loop-k : goal.invariant-loop-k
invariant-loop-k g l =
    NoneBelow (λ k input. Reports (IssuesAnother (g.H.IdHash.hash_of l.hash) l.initial_id input) (X9 k)) l.inputs l.k
