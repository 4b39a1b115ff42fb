use Rattle.ledger_core.specs.Refusal.{RefusesUnsealed}
use Rattle.ledger_core.proofs.Offered.{passed, unsealed_begun, unsealed_state, unsealed_accepted}
use Rattle.ledger_core.proofs.ledger.Ledger.check_unsealed.Goals as goal

pub returns-in_err-ids-clause-refused : goal.returns-in_err-ids-clause-refused
returns-in_err-ids-clause-refused g c =
    passed (RefusesUnsealed (g.H.IdHash.hash_of c.args.hash.now) (g.C.SigCheck.good_of c.args.sigs.now) c.args.self.now.blocks c.args.block.now) c.in_err-ids.field-0.0 c.from_residual.result c.from_residual.ensures.1
    (unsealed_begun _ _ c.args.self.now c.args.block.now c.requires.stands _ c.in_err-ids.ensures.refused)

pub returns-in_err-check_state-clause-refused : goal.returns-in_err-check_state-clause-refused
returns-in_err-check_state-clause-refused g c =
    passed (RefusesUnsealed (g.H.IdHash.hash_of c.args.hash.now) (g.C.SigCheck.good_of c.args.sigs.now) c.args.self.now.blocks c.args.block.now) c.in_err-check_state.field-0.0 c.from_residual-in_err-check_state.result c.from_residual-in_err-check_state.ensures.1
    (unsealed_state _ _ c.args.self.now c.args.block.now c.requires.stands c.in_ok-ids.ensures.valid _ c.in_err-check_state.ensures.refused)

pub returns-clause-valid : goal.returns-clause-valid
returns-clause-valid g c = unsealed_accepted _ _ c.args.self.now c.args.block.now c.requires.stands c.in_ok-ids.ensures.valid c.in_ok-check_state.ensures.valid
