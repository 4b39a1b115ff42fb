use Rattle.std.proofs.Common.{◌∙◌, List, true, false, ap, subst}
use Rattle.std.specs.Prelude.{◌↔◌, IsTrue, Contains}
use Rattle.ledger_core.specs.State.{ids_of}
use Rattle.ledger_core.specs.declared.unfinished.LiveNonce.{LiveNonce}
use Rattle.ledger_core.proofs.Left.{in_first, in_second}
use Rattle.ledger_core.proofs.shown.UnfinishedView.live_nonce.Goals as goal

pub returns-then-is_live : goal.returns-then-is_live
returns-then-is_live c =
    let used = c.args.self.now.changes.now.used.items in
    let live = c.args.self.now.ledger.now.live in
    rw c.if-is_live.true
    (in_first (ids_of live) (ids_of used) c.args.id.now
    (subst (λ (zs : List LiveNonce). IsTrue true ↔ Contains (ids_of zs) c.args.id.now) (c.as_slice.ensures.value ∙ ap (λ l. l.live) c.ledger.view_is) c.if-is_live.ensures))

pub returns-else-is_live : goal.returns-else-is_live
returns-else-is_live c =
    let used = c.args.self.now.changes.now.used.items in
    let live = c.args.self.now.ledger.now.live in
    in_second (ids_of live) (ids_of used) c.args.id.now c.is_live-else-is_live.result
    (subst (λ (zs : List LiveNonce). IsTrue false ↔ Contains (ids_of zs) c.args.id.now) (c.as_slice.ensures.value ∙ ap (λ l. l.live) c.ledger.view_is) c.if-is_live.ensures)
    (subst (λ (zs : List LiveNonce). IsTrue c.is_live-else-is_live.result ↔ Contains (ids_of zs) c.args.id.now) c.as_slice-else-is_live.ensures.value c.is_live-else-is_live.ensures)
