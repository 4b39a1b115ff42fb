use Rattle.std.proofs.Common.{arith}
use Rattle.std.proofs.lemmas.Grind.{common_steps}
use Rattle.std.proofs.lemmas.List.Elements.{All-push}
use Rattle.merkle.specs.Laws.{IsId}
use Rattle.ledger_core.proofs.roots.add_ids.Goals as goal
use Rattle.ledger_core.proofs.roots.add_ids.Goals.{then-not-is_among+in_ok-push, else-not-is_among}

pub loop-output-preserved : goal.loop-output-preserved
loop-output-preserved c = record {
  items = elim c.if-not-is_among.branch [
    | then-not-is_among+in_ok-push w ↦ grind (arith, common_steps)
    | else-not-is_among w ↦ grind (arith, common_steps)
  ];
  ids = elim c.if-not-is_among.branch [
    | then-not-is_among+in_ok-push w ↦ (λ all. rw (w.ids-is, w.in_ok-push.ensures.items) (All-push IsId c.loop-output.ids.items c.output.inside.id (c.loop-output.invariant.ids all) c.is_id.ensures))
    | else-not-is_among w ↦ (λ all. rw w.ids-is (c.loop-output.invariant.ids all))
  ];
}
