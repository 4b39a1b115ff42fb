use Rattle.std.proofs.Common.{arith, refl}
use Rattle.ledger_core.proofs.Started.{no_txs, spellable, stands_started}
use Rattle.ledger_core.proofs.ledger.Ledger.start.Goals as goal

pub invariant_of-result : goal.invariant_of-result
invariant_of-result g c =
    let none = no_txs _ c.args.initial c.in_ok-tip_id.ensures.initial in
    rw (c.in_ok-push.ensures.ok, c.new-blocks.ensures) (omega arith, (spellable c.args.initial c.requires none, tt))

pub returns-clause-stands : goal.returns-clause-stands
returns-clause-stands g c = λ check.
    stands_started _ check c.args.initial _ c.in_ok-tip_id.ensures.initial c.requires
    (rw (c.in_ok-push.ensures.ok, c.new-blocks.ensures) refl)
    c.in_ok-tip_id.ensures.id
    c.in_ok-tip_id.ensures.id
    (rw c.hash-empty_root.ensures refl)
    c.new.ensures.items
    c.new-2.ensures.items
