use Rattle.trials.proofs.ledger_core_calls.is_extended.Goals as goal

-- a ledger that was started stands for any check of signatures
pub offer-requires-clause-stands : goal.offer-requires-clause-stands
offer-requires-clause-stands c = c.in-Ok.ensures.stands _
