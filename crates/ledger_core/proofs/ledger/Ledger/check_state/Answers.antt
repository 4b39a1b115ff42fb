use Rattle.wire.specs.Decisions.{others_where_not, same_where_not}
use Rattle.ledger_core.proofs.Offered.{by_another_root, by_this_root}
use Rattle.ledger_core.proofs.ledger.Ledger.check_state.Goals as goal

pub returns-then-ne-clause-refused : goal.returns-then-ne-clause-refused
returns-then-ne-clause-refused g c =
    by_another_root _ _ c.args.self.now.blocks c.args.block.now c.as_slice.result.now c.as_slice.ensures c.in_ok-changes.changes c.in_ok-computed.computed
    c.in_ok-changes.ensures.valid
    c.in_ok-changes.ensures.changes
    c.in_ok-computed.ensures
    (others_where_not c.args.block.now.header.unspent_root c.in_ok-computed.computed c.ne.result c.ne.ensures c.if-ne.true)

pub returns-clause-valid : goal.returns-clause-valid
returns-clause-valid g c =
    by_this_root _ _ c.args.self.now.blocks c.args.block.now c.as_slice.result.now c.as_slice.ensures c.in_ok-changes.changes c.in_ok-computed.computed
    c.in_ok-changes.ensures.valid
    c.in_ok-changes.ensures.changes
    c.in_ok-computed.ensures
    (same_where_not c.args.block.now.header.unspent_root c.in_ok-computed.computed c.ne.result c.ne.ensures c.if-ne.false)
