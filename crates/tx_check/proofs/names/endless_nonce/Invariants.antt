use Rattle.std.proofs.Common.{◌≡◌}
use Rattle.wire.specs.Tables.{Reports}
use Rattle.tx_check.specs.declared.refusal.TxRefusal.TheVariants.{X5}
use Rattle.tx_check.specs.Table.{UsesNonce}
use Rattle.tx_check.specs.FirstPlaces.{NoneBelow}
use Rattle.tx_check.proofs.names.endless_nonce.Given as goal

abbrev pub invariant-loop-k : goal.invariant-loop-k
invariant-loop-k l = NoneBelow (λ k input. Reports (UsesNonce input × (l.tx.maxtime ≡ 0)) (X5 k)) l.inputs l.k
