use Rattle.std.proofs.Common.{◌++◌, ◌∷◌, [], List, ℕ, ap, ◌∙◌}
use Rattle.filter_syntax.proofs.Once.{step_again, step_new}
use Rattle.filter_syntax.proofs.by.each_once.Goals as goal
use Rattle.filter_syntax.proofs.by.each_once.Goals.{then-not-is_among+in_ok-from_slice+in_ok-push, else-not-is_among}

pub loop-name-preserved : goal.loop-name-preserved
loop-name-preserved c =
    elim c.if-not-is_among.branch [
      | then-not-is_among+in_ok-from_slice+in_ok-push w ↦ step_new c.args.names.now c.loop-name.name-index _
          c.loop-name.kept c.as_slice.result.now c.if-not-is_among.kept c.is_among.result
          c.loop-name-test.true c.loop-name.invariant c.as_slice.ensures c.is_among.ensures w.if-not-is_among.true
          (w.kept-is ∙ w.in_ok-push.ensures.ok
          ∙ ap (λ (name : List ℕ). c.loop-name.kept ++ name ∷ []) w.in_ok-from_slice.ensures)
      | else-not-is_among w ↦ w.kept-is
          ∙ step_again c.args.names.now c.loop-name.name-index _ c.loop-name.kept c.as_slice.result.now
          c.is_among.result
          c.loop-name-test.true c.loop-name.invariant c.as_slice.ensures c.is_among.ensures w.if-not-is_among.false
    ]
