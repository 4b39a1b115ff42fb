use Rattle.std.proofs.Common.{◌∙◌, List, true, false, ap, subst}
use Rattle.std.specs.Prelude.{◌↔◌, IsTrue, Contains}
use Rattle.tx_check.specs.View.{Unspent}
use Rattle.ledger_core.specs.Roots.{output_ids}
use Rattle.ledger_core.specs.Unspent.{left_of}
use Rattle.ledger_core.proofs.Left.{mapped_first, mapped_second, same_left}
use Rattle.ledger_core.proofs.shown.UnfinishedView.has_id.Goals as goal

pub returns-then-has_left_id : goal.returns-then-has_left_id
returns-then-has_left_id c =
    let changes = c.args.self.now.changes.now in
    let left = left_of changes.spent.items c.args.self.now.ledger.now.unspent in
    let same = same_left c.as_slice-2.ensures.value (c.as_slice.ensures.value ∙ ap (λ l. l.unspent) c.ledger.view_is) in
    rw c.if-has_left_id.true
    (mapped_first (λ o. o.id) left changes.made.items c.args.id.now
    (subst (λ (zs : List Unspent). IsTrue true ↔ Contains (output_ids zs) c.args.id.now) same c.if-has_left_id.ensures))

pub returns-else-has_left_id : goal.returns-else-has_left_id
returns-else-has_left_id c =
    let changes = c.args.self.now.changes.now in
    let left = left_of changes.spent.items c.args.self.now.ledger.now.unspent in
    let same = same_left c.as_slice-2.ensures.value (c.as_slice.ensures.value ∙ ap (λ l. l.unspent) c.ledger.view_is) in
    mapped_second (λ o. o.id) left changes.made.items c.args.id.now c.has_id.result
    (subst (λ (zs : List Unspent). IsTrue false ↔ Contains (output_ids zs) c.args.id.now) same c.if-has_left_id.ensures)
    (subst (λ (zs : List Unspent). IsTrue c.has_id.result ↔ Contains (output_ids zs) c.args.id.now) c.as_slice-else-has_left_id.ensures.value c.has_id.ensures)
