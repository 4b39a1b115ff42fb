-- The first with a fault is reported, with its first.
use Rattle.std.proofs.Common.{◌∙◌}
use Rattle.ivy_check.specs.TypeFault.{clause_tests}
use Rattle.ivy_check.proofs.TestLemmas.{passed, walked_here, walked_on}
use Rattle.ivy_check.proofs.contract.clauses.Goals as goal

pub returns-in_err-clause : goal.returns-in_err-clause
returns-in_err-clause c =
    passed _ _ c.from_residual.ensures.1
    ∙ walked_here (clause_tests c.args.contract.now) c.args.clauses.now c.loop-k.k _ c.loop-k-test.true c.index-clauses-k.is _ c.in_err-clause.ensures
    ∙ c.loop-k.invariant

pub loop-k-preserved : goal.loop-k-preserved
loop-k-preserved c =
    walked_on (clause_tests c.args.contract.now) c.args.clauses.now c.loop-k.k _ c.loop-k-test.true c.index-clauses-k.is c.in_ok-clause.ensures
    ∙ c.loop-k.invariant
