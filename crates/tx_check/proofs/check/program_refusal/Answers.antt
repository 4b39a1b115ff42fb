use Rattle.tx_check.proofs.Failing.{told_failing, none_failing}
use Rattle.tx_check.proofs.check.program_refusal.Goals as goal

pub returns-in-Ok-Some : goal.returns-in-Ok-Some
returns-in-Ok-Some g c =
    told_failing (g.H.IdHash.hash_of c.args.hash.now) (g.C.SigCheck.good_of c.args.sigs.now) c.args.tx.now
    c.in-Ok-Some.input c.in-Ok-Some.kind c.in-Ok-Some.at
    (rw c.in-Ok-Some.field-0-is at c.in-Ok-Some.ensures)

pub returns-in-Ok-None : goal.returns-in-Ok-None
returns-in-Ok-None g c =
    none_failing (g.H.IdHash.hash_of c.args.hash.now) (g.C.SigCheck.good_of c.args.sigs.now) c.args.tx.now
    (rw c.in-Ok-None.field-0-is at c.in-Ok-None.ensures)
