-- The first parameter that is not used is reported.
use Rattle.std.proofs.Common.{◌∙◌, ap, List}
use Rattle.std.specs.List.{flat_map}
use Rattle.ivy_syntax.specs.declared.tree.ClauseTree.{ClauseTree}
use Rattle.ivy_syntax.specs.declared.tree.Group.{Group}
use Rattle.ivy_syntax.specs.declared.tree.Word.{Word}
use Rattle.ivy_check.specs.Tests.{Test, first_of}
use Rattle.ivy_check.specs.Uses.{word_unused}
use Rattle.ivy_check.proofs.TestLemmas.{passed, flat_here, flat_on}
use Rattle.ivy_check.proofs.uses.all_used.Goals as goal

group_unused : List ClauseTree → Group → List Test
group_unused clauses group = flat_map (word_unused clauses) group.names

pub returns-in_err-group_used : goal.returns-in_err-group_used
unfolding group_unused
returns-in_err-group_used c =
    passed _ _ c.from_residual.ensures.1
    ∙ flat_here (group_unused c.args.clauses.now) c.args.params.now c.loop-group.group-index _ c.loop-group-test.true
    c.group-item.is _
    (c.in_err-group_used.ensures ∙ ap (λ (ws : List Word). first_of (flat_map (word_unused c.args.clauses.now) ws)) c.as_slice.ensures)
    ∙ c.loop-group.invariant

pub loop-group-preserved : goal.loop-group-preserved
unfolding group_unused
loop-group-preserved c =
    flat_on (group_unused c.args.clauses.now) c.args.params.now c.loop-group.group-index _ c.loop-group-test.true
    c.group-item.is
    (c.in_ok-group_used.ensures ∙ ap (λ (ws : List Word). first_of (flat_map (word_unused c.args.clauses.now) ws)) c.as_slice.ensures)
    ∙ c.loop-group.invariant
