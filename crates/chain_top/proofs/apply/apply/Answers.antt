use Rattle.std.proofs.Common.{rules, ◌≡◌, ℕ, Ok, inl, inr, refl, length, subst}
use Rattle.replies.specs.Asking.{fit_together}
use Rattle.replies.specs.Recipe.{gives}
use Rattle.replies.specs.Runs.{Refuses}
use Rattle.std.specs.Vec.Iter.{into_iter_items}
use Rattle.replies.specs.Recipes.{passed_on}
use Rattle.chain_top.proofs.Offering.{offers-run}
use Rattle.chain_top.proofs.apply.apply.Goals as goal

pub returns-in_err-offered : goal.returns-in_err-offered
returns-in_err-offered g c = inr (_, _, c.in_ok-file.ensures.read, inl (_, c.in_err-offered.ensures.read, passed_on _ _ c.from_residual-in_err-offered.ensures.1))

pub returns-in_err-fit_together : goal.returns-in_err-fit_together
returns-in_err-fit_together g c =
    let size : c.len.result ≡ length c.in_ok-offered.offered.bytes.items = search rules in
    let bad = subst (λ (n : ℕ). Refuses (gives (fit_together 2 c.in_ok-file.file.size n)) c.in_err-fit_together.field-0.0) size c.in_err-fit_together.ensures in
    inr (_, _, c.in_ok-file.ensures.read, inr (_, _, c.in_ok-offered.ensures.read, inl (_, bad, refl, passed_on _ _ c.from_residual-in_err-fit_together.ensures.1)))

pub returns : goal.returns
returns g c =
    let hash = g.H.IdHash.hash_of c.args.hash.now in
    let check = g.C.SigCheck.good_of c.args.sigs.now in
    let size : c.len.result ≡ length c.in_ok-offered.offered.bytes.items = search rules in
    let fits = subst (λ (n : ℕ). gives (fit_together 2 c.in_ok-file.file.size n) (Ok tt)) size c.in_ok-fit_together.ensures in
    let runs = offers-run hash check c.args.ledger.now c.in_ok-file.file.ledger.blocks (into_iter_items c.in_ok-offered.offered.blocks) _ _ c.offer_all.result c.offer_all.ensures in
    inr (_, _, c.in_ok-file.ensures.read, inr (_, _, c.in_ok-offered.ensures.read, inr (tt, fits, runs)))
