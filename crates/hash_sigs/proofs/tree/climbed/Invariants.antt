use Rattle.std.proofs.Common.{◌≡◌, ◌/◌, ◌^◌}
use Rattle.hash_sigs.specs.Strings.{string_at}
use Rattle.hash_sigs.specs.Tree.{climbed}
use Rattle.hash_sigs.proofs.tree.climbed.Given as goal

abbrev pub invariant-loop-level : goal.invariant-loop-level
invariant-loop-level l = record {
  number : l.number ≡ l.node / 2 ^ l.level;
  reached : l.reached ≡ climbed l.id l.node l.fn.value (string_at l.signature l.at) l.level;
}
