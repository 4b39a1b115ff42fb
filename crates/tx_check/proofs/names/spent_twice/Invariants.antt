use Rattle.std.specs.Prelude.{take, Contains}
use Rattle.wire.specs.Tables.{Reports}
use Rattle.tx_check.specs.declared.refusal.TxRefusal.TheVariants.{X7}
use Rattle.tx_check.specs.Table.{IsSpend}
use Rattle.tx_check.specs.FirstPlaces.{NoneBelow}
use Rattle.tx_check.proofs.names.spent_twice.Given as goal

abbrev pub invariant-loop-k : goal.invariant-loop-k
invariant-loop-k l =
    NoneBelow (λ k name. Reports (IsSpend name × Contains (take k l.named) name) (X7 k)) l.named l.k
