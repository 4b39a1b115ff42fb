-- The first name that is not used is reported.
use Rattle.std.proofs.Common.{◌∙◌}
use Rattle.ivy_check.specs.Uses.{word_unused}
use Rattle.ivy_check.proofs.TestLemmas.{passed, flat_here, flat_on}
use Rattle.ivy_check.proofs.uses.group_used.Goals as goal

pub returns-in_err-used : goal.returns-in_err-used
returns-in_err-used c =
    passed _ _ c.from_residual.ensures.1
    ∙ flat_here (word_unused c.args.clauses.now) c.args.names.now c.loop-word.word-index _ c.loop-word-test.true
    c.word-item.is _ c.in_err-used.ensures
    ∙ c.loop-word.invariant

pub loop-word-preserved : goal.loop-word-preserved
loop-word-preserved c =
    flat_on (word_unused c.args.clauses.now) c.args.names.now c.loop-word.word-index _ c.loop-word-test.true
    c.word-item.is c.in_ok-used.ensures
    ∙ c.loop-word.invariant
