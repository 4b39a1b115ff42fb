use Rattle.std.proofs.Common.{arith}
use Rattle.std.proofs.lemmas.Grind.{common_steps}
use Rattle.data_model.proofs.TransactionRecords.{tx_spelled}
use Rattle.data_model.proofs.tx_records.TxRecord.write.Goals as goal

pub returns : goal.returns
returns c = rw (tx_spelled c.args.self.now) (grind (arith, common_steps))
