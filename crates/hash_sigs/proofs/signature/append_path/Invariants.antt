use Rattle.std.proofs.Common.{◌≡◌, ◌+◌, ◌/◌, ◌^◌, ◌++◌}
use Rattle.hash_sigs.specs.Strings.{joined}
use Rattle.hash_sigs.specs.Key.{own_path}
use Rattle.hash_sigs.proofs.signature.append_path.Given as goal

abbrev pub invariant-loop-level : goal.invariant-loop-level
invariant-loop-level l = record {
  node : l.node ≡ (2 ^ l.origin.height + l.q) / 2 ^ l.level;
  bytes : l.bytes.items ≡ l.initial.bytes.items ++ joined (own_path l.origin l.q) l.level;
}
