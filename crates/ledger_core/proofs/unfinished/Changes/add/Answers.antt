use Rattle.ledger_core.proofs.Made.{as_many_results, as_many_hashes}
use Rattle.ledger_core.proofs.unfinished.Changes.add.Goals as goal

pub add_made-requires-clause-results : goal.add_made-requires-clause-results
add_made-requires-clause-results c = as_many_results c.requires.ids.0 c.args.tx.now c.args.ids.now c.requires.ids.1

pub add_made-requires-clause-hashes : goal.add_made-requires-clause-hashes
add_made-requires-clause-hashes c = as_many_hashes c.requires.ids.0 c.args.tx.now c.args.ids.now c.requires.ids.1
