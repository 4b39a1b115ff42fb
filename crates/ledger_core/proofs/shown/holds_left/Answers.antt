use Rattle.std.proofs.Common.{true, false, refl}
use Rattle.wire.specs.Strings.{is_among}
use Rattle.ledger_core.proofs.Left.{left_output}
use Rattle.ledger_core.proofs.shown.holds_left.Goals as goal

pub returns-then-holds : goal.returns-then-holds
returns-then-holds c =
    left_output c.args.spent.now c.args.outputs.now (record { id = c.args.id.now; body = c.args.body.now }) true c.is_among.result c.if-holds.ensures c.is_among.ensures

pub returns-else-holds : goal.returns-else-holds
returns-else-holds c =
    rw c.if-holds.false (left_output c.args.spent.now c.args.outputs.now (record { id = c.args.id.now; body = c.args.body.now }) false (is_among c.args.spent.now c.args.id.now) c.if-holds.ensures refl)
