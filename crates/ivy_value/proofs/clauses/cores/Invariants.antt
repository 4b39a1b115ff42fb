-- These are the cores of the contracts that were passed.
use Rattle.std.proofs.Common.{take}
use Rattle.ivy_value.specs.Laws.{AreCores}
use Rattle.ivy_value.proofs.clauses.cores.Given as goal

abbrev pub invariant-loop-contract : goal.invariant-loop-contract
invariant-loop-contract l = AreCores (take l.contract-index l.contract-items) l.made
