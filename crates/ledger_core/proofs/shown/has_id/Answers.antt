use Rattle.std.proofs.Common.{◌≡◌, ◌≢◌, rules}
use Rattle.std.proofs.lemmas.Iterator.{cases_from_any, YieldsList-from_slice}
use Rattle.ledger_core.proofs.Found.{found_mapped}
use Rattle.ledger_core.proofs.shown.has_id.Goals as goal
use borrow.Author.Tests.{tests}

pub returns : goal.returns
returns c =
    found_mapped (λ x. x.id) c.args.id.now c.args.outputs.now c.any.result
    (cases_from_any _ _ _ (λ x. x.id ≡ c.args.id.now) (λ x. x.id ≢ c.args.id.now) c.any.ensures.ran (YieldsList-from_slice c.args.outputs.now cc) (λ x q k. search (rules, tests)) (λ x q k. search (rules, tests)))
