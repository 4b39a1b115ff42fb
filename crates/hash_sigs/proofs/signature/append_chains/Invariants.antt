use Rattle.std.proofs.Common.{◌≡◌, ◌++◌, get_or}
use Rattle.hash_sigs.specs.Strings.{joined}
use Rattle.hash_sigs.specs.Key.{own_chain}
use Rattle.hash_sigs.proofs.signature.append_chains.Given as goal

abbrev pub invariant-loop-i : goal.invariant-loop-i
invariant-loop-i l =
    l.bytes.items ≡ l.initial.bytes.items ++ joined (λ i. own_chain l.origin l.q i (get_or l.digits i 0)) l.i
