use Rattle.std.proofs.Common.{◌≡◌, take}
use Rattle.ivy_syntax.specs.Sizes.{within_word, total, contract_nodes}
use Rattle.ivy_syntax.proofs.sizes.contracts_nodes.Given as goal

abbrev pub invariant-loop-contract : goal.invariant-loop-contract
invariant-loop-contract l = l.sum ≡ within_word (total contract_nodes (take l.contract-index l.contracts))
