use Rattle.std.proofs.Common.{◌≡◌, ◌-◌}
use Rattle.hash_sigs.specs.OneTime.{chain}
use Rattle.hash_sigs.proofs.one_time.chained.Given as goal

abbrev pub invariant-loop-j : goal.invariant-loop-j
invariant-loop-j l = l.reached ≡ chain l.id l.q l.i l.from (l.j - l.from) l.fn.value
