use Rattle.std.proofs.Common.{◌≡◌, take}
use Rattle.ivy_syntax.specs.Sizes.{within_word, total, contract_literals}
use Rattle.ivy_syntax.proofs.sizes.contracts_literals.Given as goal

abbrev pub invariant-loop-contract : goal.invariant-loop-contract
invariant-loop-contract l = l.sum ≡ within_word (total contract_literals (take l.contract-index l.contracts))
