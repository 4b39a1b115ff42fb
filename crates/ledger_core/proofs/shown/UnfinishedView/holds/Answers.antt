use Rattle.std.proofs.Common.{◌∙◌, List, true, false, ap, subst}
use Rattle.std.specs.Prelude.{◌↔◌, IsTrue, Contains}
use Rattle.tx_check.specs.View.{Unspent}
use Rattle.ledger_core.specs.Unspent.{left_of}
use Rattle.ledger_core.proofs.Left.{in_first, in_second, same_left}
use Rattle.ledger_core.proofs.shown.UnfinishedView.holds.Goals as goal

pub returns-then-holds_left : goal.returns-then-holds_left
returns-then-holds_left c =
    let changes = c.args.self.now.changes.now in
    let output : Unspent = record { id = c.args.id.now; body = c.args.body.now } in
    let left = left_of changes.spent.items c.args.self.now.ledger.now.unspent in
    let same = same_left c.as_slice-2.ensures.value (c.as_slice.ensures.value ∙ ap (λ l. l.unspent) c.ledger.view_is) in
    rw c.if-holds_left.true
    (in_first left changes.made.items output
    (subst (λ (zs : List Unspent). IsTrue true ↔ Contains zs output) same c.if-holds_left.ensures))

pub returns-else-holds_left : goal.returns-else-holds_left
returns-else-holds_left c =
    let changes = c.args.self.now.changes.now in
    let output : Unspent = record { id = c.args.id.now; body = c.args.body.now } in
    let left = left_of changes.spent.items c.args.self.now.ledger.now.unspent in
    let same = same_left c.as_slice-2.ensures.value (c.as_slice.ensures.value ∙ ap (λ l. l.unspent) c.ledger.view_is) in
    in_second left changes.made.items output c.holds.result
    (subst (λ (zs : List Unspent). IsTrue false ↔ Contains zs output) same c.if-holds_left.ensures)
    (subst (λ (zs : List Unspent). IsTrue c.holds.result ↔ Contains zs output) c.as_slice-else-holds_left.ensures.value c.holds.ensures)
