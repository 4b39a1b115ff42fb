use Rattle.std.proofs.Common.{◌≡◌, ◌++◌, take}
use Rattle.std.specs.List.{flat_map}
use Rattle.ivy_syntax.specs.Shown.{contract_tokens}
use Rattle.ivy_syntax.specs.Spaced.{spaced}
use Rattle.ivy_syntax.proofs.printer.put_contracts.Given as goal

-- those that were passed were added
abbrev pub invariant-loop-contract : goal.invariant-loop-contract
invariant-loop-contract l = l.text ≡ l.fn.text ++ spaced (flat_map contract_tokens (take l.contract-index l.contracts))
