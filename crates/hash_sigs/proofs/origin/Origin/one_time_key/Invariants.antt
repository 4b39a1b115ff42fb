use Rattle.std.proofs.Common.{◌++◌}
use Rattle.sha2.specs.Hashers.{Holds256}
use Rattle.hash_sigs.specs.Strings.{u32str, u16str, joined}
use Rattle.hash_sigs.specs.Key.{own_chain}
use Rattle.hash_sigs.proofs.origin.Origin.one_time_key.Given as goal

abbrev pub invariant-loop-i : goal.invariant-loop-i
invariant-loop-i l =
    Holds256 l.hasher
    (l.self.id ++ u32str l.q ++ u16str 0x8080 ++ joined (λ i. own_chain l.self l.q i 255) l.i)
