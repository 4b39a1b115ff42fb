use Rattle.std.proofs.Common.{Result, subst, arith}
use Rattle.wire.specs.Places.{Fault, Gives}
use Rattle.data_model.specs.declared.tx.Tx.{Tx}
use Rattle.data_model.specs.TransactionReading.{tx_at}
use Rattle.data_model.proofs.decode.decode_tx.Goals as goal

pub returns-clause-told : goal.returns-clause-told
unfolding tx_at
returns-clause-told c = λ f h.
    subst (λ (reading : Result Tx Fault). Gives c.decode.result reading) ((c.tx_readings.ensures.fault c.args.b.now f (λ i. omega (arith, c.type_inv.b i))).1 h) c.decode.ensures.exact
