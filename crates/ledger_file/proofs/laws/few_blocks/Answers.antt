use Rattle.ledger_file.proofs.FewBlocks.{few_read}
use Rattle.ledger_file.proofs.laws.few_blocks.Goals as goal

pub returns : goal.returns
returns c = few_read
