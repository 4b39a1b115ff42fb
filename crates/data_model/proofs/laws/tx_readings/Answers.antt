use Rattle.wire.specs.Declaring.{record_laws, named_stand}
use Rattle.data_model.specs.Transaction.{tx_layout, tx_parts, IsTx, tx_spelling}
use Rattle.data_model.specs.TransactionReading.{next_tx_at, tx_at}
use Rattle.data_model.specs.Fitting.{tx_fits}
use Rattle.data_model.proofs.TransactionRecords.{tx_made, tx_declared}
use Rattle.data_model.proofs.laws.tx_readings.Goals as goal

pub returns : goal.returns
unfolding tx_spelling tx_at
returns c =
    record_laws tx_layout IsTx tx_spelling tx_made (named_stand tx_layout tx_made tx_parts IsTx tx_fits tx_declared.has)
    c.layout_readings.ensures c.record_readings.ensures.spellings next_tx_at c.record_readings.ensures.whole
