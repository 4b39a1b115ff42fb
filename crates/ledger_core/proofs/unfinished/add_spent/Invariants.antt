use Rattle.std.proofs.Common.{◌≡◌, ◌++◌, take}
use Rattle.std.specs.List.{flat_map}
use Rattle.ledger_core.specs.Unspent.{output_named}
use Rattle.ledger_core.proofs.unfinished.add_spent.Given as goal

abbrev pub invariant-loop-name : goal.invariant-loop-name
invariant-loop-name l = l.spent.items ≡ l.fn.spent.items ++ flat_map output_named (take l.name-index l.named)
