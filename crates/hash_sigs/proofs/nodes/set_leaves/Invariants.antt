use Rattle.std.proofs.Common.{◌≡◌, ℕ, ◌+◌, ◌<◌, [], get_or}
use Rattle.hash_sigs.specs.Key.{node}
use Rattle.hash_sigs.proofs.nodes.set_leaves.Given as goal

abbrev pub invariant-loop-q : goal.invariant-loop-q
invariant-loop-q l = (q : ℕ) → q < l.q → get_or l.nodes (l.leaves + q) [] ≡ node l.origin 0 (l.leaves + q)
