use Rattle.tx_check.proofs.ContextIds.{all_have_ids}
use Rattle.tx_check.proofs.Limits.{all_numbers_fit}
use Rattle.tx_check.proofs.context.context_of.Goals as goal

pub returns-clause-numbers : goal.returns-clause-numbers
returns-clause-numbers g c =
    all_numbers_fit (g.H.IdHash.hash_of c.args.hash.now) c.args.tx.now c.args.k c.context_with.result c.requires.tx c.context_with.ensures

pub returns-clause-ids : goal.returns-clause-ids
returns-clause-ids g c =
    let hash = g.H.IdHash.hash_of c.args.hash.now in
    all_have_ids hash (g.met.H.IdHash.hash_length c.args.hash.now) c.args.tx.now c.args.k c.context_with.result c.requires.tx
    c.context_with.ensures
