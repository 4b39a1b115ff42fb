use Rattle.std.proofs.Common.{◌≡◌, ◌≤◌, ◌*◌, length}
use Rattle.hash_sigs.specs.Nodes.{HasNodes}
use Rattle.hash_sigs.proofs.nodes.set_others.Given as goal

abbrev pub invariant-loop-first : goal.invariant-loop-first
invariant-loop-first l = record {
  low : 1 ≤ l.first;
  high : l.first ≤ l.leaves;
  len : length l.nodes ≡ l.leaves * 2;
  nodes : HasNodes l.origin l.nodes l.first;
}

abbrev pub decreases-loop-first : goal.decreases-loop-first
decreases-loop-first l = l.first
