use Rattle.ledger_file.proofs.Loads.{load_laws}
use Rattle.ledger_file.proofs.laws.one_load.Goals as goal

pub returns : goal.returns
returns c = λ hash check. load_laws c.block_files.ensures hash check (c.one_refusal_of_blocks.ensures hash check) (c.one_refusal.ensures hash check) (c.growing_chains.ensures hash check)
