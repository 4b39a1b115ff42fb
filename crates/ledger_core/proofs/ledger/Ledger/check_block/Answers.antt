use Rattle.ledger_core.specs.Refusal.{Refuses}
use Rattle.ledger_core.proofs.Offered.{passed, refused_begun, refused_program, refused_state, accepted}
use Rattle.ledger_core.proofs.ledger.Ledger.check_block.Goals as goal

pub returns-in_err-ids-clause-refused : goal.returns-in_err-ids-clause-refused
returns-in_err-ids-clause-refused g c =
    passed (Refuses (g.H.IdHash.hash_of c.args.hash.now) (g.C.SigCheck.good_of c.args.sigs.now) c.args.self.now.blocks c.args.block.now) c.in_err-ids.field-0.0 c.from_residual.result c.from_residual.ensures.1
    (refused_begun _ _ c.args.self.now c.args.block.now c.requires.stands _ c.in_err-ids.ensures.refused)

pub returns-in-Failed-clause-refused : goal.returns-in-Failed-clause-refused
returns-in-Failed-clause-refused g c =
    refused_program _ _ c.args.self.now c.args.block.now c.requires.stands c.tip_block.result.now c.tip_block.ensures.tip c.in_ok-ids.ensures.valid c.in_ok-verdict.verdict
    (c.in_ok-verdict.ensures.verdict (g.H.IdHash.hash_of c.args.hash.now) c.in_ok-id.ensures)
    c.in-Failed.kind
    c.in-Failed.at
    c.in-Failed.is

pub returns-in_err-changes-clause-refused : goal.returns-in_err-changes-clause-refused
returns-in_err-changes-clause-refused g c =
    passed (Refuses (g.H.IdHash.hash_of c.args.hash.now) (g.C.SigCheck.good_of c.args.sigs.now) c.args.self.now.blocks c.args.block.now) c.in_err-changes.field-0.0 c.from_residual-in_err-changes.result c.from_residual-in_err-changes.ensures.1
    (refused_state _ _ c.args.self.now c.args.block.now c.requires.stands c.tip_block.result.now c.tip_block.ensures.tip c.in_ok-ids.ensures.valid c.in_ok-verdict.verdict
    (c.in_ok-verdict.ensures.verdict (g.H.IdHash.hash_of c.args.hash.now) c.in_ok-id.ensures)
    c.one_verdict.ensures.one
    c.in_default.field-0
    c.in_default.is
    c.verdict_after.new.block
    c.in_ok-verdict.ensures.same
    _
    c.in_err-changes.ensures.refused)

pub returns-clause-valid : goal.returns-clause-valid
returns-clause-valid g c =
    accepted _ _ c.args.self.now c.args.block.now c.requires.stands c.tip_block.result.now c.tip_block.ensures.tip c.in_ok-ids.ensures.valid c.in_ok-verdict.verdict
    (c.in_ok-verdict.ensures.verdict (g.H.IdHash.hash_of c.args.hash.now) c.in_ok-id.ensures)
    c.one_verdict.ensures.one
    c.in_default.field-0
    c.in_default.is
    c.verdict_after.new.block
    c.in_ok-verdict.ensures.same
    c.in_ok-changes.ensures.valid
