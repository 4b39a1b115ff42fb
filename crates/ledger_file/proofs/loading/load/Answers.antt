use Rattle.ledger_file.proofs.Loaded.{gives-loaded}
use Rattle.ledger_file.proofs.loading.load.Goals as goal

pub returns-clause-told : goal.returns-clause-told
returns-clause-told g c = λ answer is.
    let hash = g.H.IdHash.hash_of c.args.hash.now in
    let check = g.C.SigCheck.good_of c.args.sigs.now in
    gives-loaded hash check c.args.bytes.now (c.one_load.ensures hash check) c.are_bytes.ensures _ answer c.load_frames.ensures.loads is
