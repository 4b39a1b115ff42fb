use Rattle.std.specs.Prelude.{take, Contains}
use Rattle.wire.specs.Tables.{Reports}
use Rattle.tx_check.specs.declared.refusal.TxRefusal.TheVariants.{X8}
use Rattle.tx_check.specs.Table.{IsNonce}
use Rattle.tx_check.specs.FirstPlaces.{NoneBelow}
use Rattle.tx_check.proofs.names.used_twice.Given as goal

abbrev pub invariant-loop-k : goal.invariant-loop-k
invariant-loop-k l =
    NoneBelow (λ k name. Reports (IsNonce name × Contains (take k l.named) name) (X8 k)) l.named l.k
