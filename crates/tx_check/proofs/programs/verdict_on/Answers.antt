use Rattle.std.proofs.Common.{◌∙◌, length, refl}
use Rattle.std.proofs.lemmas.Option.{slice_get_read}
use Rattle.tx_check.proofs.Limits.{numbers_fit}
use Rattle.tx_check.proofs.Verdicts.{verdict_at}
use Rattle.tx_check.proofs.programs.verdict_on.Goals as goal

pub verify-requires-clause-numbers : goal.verify-requires-clause-numbers
verify-requires-clause-numbers g c =
    numbers_fit (g.H.IdHash.hash_of c.args.hash.now) c.args.tx.now c.args.k _ c.requires.tx c.in_ok-context.ensures

pub returns-clause-verdict : goal.returns-clause-verdict
returns-clause-verdict g c =
    let tx = c.args.tx.now in
    let input = c.index-as_slice-k.result in
    verdict_at (g.H.IdHash.hash_of c.args.hash.now) (g.C.SigCheck.good_of c.args.sigs.now) tx c.args.k input _ _ _ _
    (slice_get_read tx.inputs (length tx.inputs) c.args.k input refl c.requires.there (rw c.as_slice.ensures at c.index-as_slice-k.is))
    c.in_ok-context.ensures
    (c.as_slice-program.ensures ∙ c.program_in.ensures)
    c.args_in.ensures
    c.in_ok-verdict.ensures.verdict
