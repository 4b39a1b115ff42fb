-- The first with a fault is reported, with its first.
use Rattle.std.proofs.Common.{◌∙◌}
use Rattle.ivy_check.specs.TypeFault.{contract_tests}
use Rattle.ivy_check.proofs.TestLemmas.{passed, walked_here, walked_on}
use Rattle.ivy_check.proofs.contract.contracts.Goals as goal

pub returns-in_err-contract : goal.returns-in_err-contract
returns-in_err-contract c =
    passed _ _ c.from_residual.ensures.1
    ∙ walked_here contract_tests c.args.contracts.now c.loop-k.k _ c.loop-k-test.true c.index-contracts-k.is _ c.in_err-contract.ensures
    ∙ c.loop-k.invariant

pub loop-k-preserved : goal.loop-k-preserved
loop-k-preserved c =
    walked_on contract_tests c.args.contracts.now c.loop-k.k _ c.loop-k-test.true c.index-contracts-k.is c.in_ok-contract.ensures
    ∙ c.loop-k.invariant
