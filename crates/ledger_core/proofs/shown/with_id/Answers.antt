use Rattle.std.proofs.Common.{◌≡◌, ◌≢◌, rules}
use Rattle.std.proofs.lemmas.Iterator.{first_from_find, YieldsList-from_slice}
use Rattle.ledger_core.proofs.Found.{found_output, found_none}
use Rattle.ledger_core.proofs.shown.with_id.Goals as goal
use borrow.Author.Tests.{tests}

pub returns-clause-found : goal.returns-clause-found
returns-clause-found c =
    found_output c.args.outputs.now c.args.id.now c.find.result
    (first_from_find _ _ _ (λ x. x.id ≡ c.args.id.now) (λ x. x.id ≢ c.args.id.now) c.find.ensures.ran (YieldsList-from_slice c.args.outputs.now cc) (λ x q k. search (rules, tests)) (λ x q k. search (rules, tests)))

pub returns-clause-none : goal.returns-clause-none
returns-clause-none c =
    found_none c.args.outputs.now c.args.id.now c.find.result
    (first_from_find _ _ _ (λ x. x.id ≡ c.args.id.now) (λ x. x.id ≢ c.args.id.now) c.find.ensures.ran (YieldsList-from_slice c.args.outputs.now cc) (λ x q k. search (rules, tests)) (λ x q k. search (rules, tests)))
