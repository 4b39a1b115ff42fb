use Rattle.std.proofs.Common.{◌≡◌, ◌++◌, take}
use Rattle.std.specs.List.{flat_map}
use Rattle.ledger_core.specs.Unspent.{nonce_named}
use Rattle.ledger_core.proofs.unfinished.add_used.Given as goal

abbrev pub invariant-loop-name : goal.invariant-loop-name
invariant-loop-name l = l.used.items ≡ l.fn.used.items ++ flat_map (nonce_named l.maxtime) (take l.name-index l.named)
