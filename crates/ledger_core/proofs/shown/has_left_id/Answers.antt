use Rattle.std.proofs.Common.{true, false, refl}
use Rattle.wire.specs.Strings.{is_among}
use Rattle.ledger_core.proofs.Left.{left_id}
use Rattle.ledger_core.proofs.shown.has_left_id.Goals as goal

pub returns-then-has_id : goal.returns-then-has_id
returns-then-has_id c =
    left_id c.args.spent.now c.args.outputs.now c.args.id.now true c.is_among.result c.if-has_id.ensures c.is_among.ensures

pub returns-else-has_id : goal.returns-else-has_id
returns-else-has_id c =
    rw c.if-has_id.false (left_id c.args.spent.now c.args.outputs.now c.args.id.now false (is_among c.args.spent.now c.args.id.now) c.if-has_id.ensures refl)
