use Rattle.std.proofs.Common.{◌≡◌, [], take, reverse}
use Rattle.vm_run.proofs.verdict.pile.Given as goal

abbrev pub invariant-loop-item : goal.invariant-loop-item
invariant-loop-item l = l.stack ≡ record { items = reverse (take l.item-index l.items); alt = [] }
