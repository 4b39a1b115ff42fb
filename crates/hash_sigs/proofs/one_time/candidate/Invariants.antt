use Rattle.std.proofs.Common.{◌-◌, ◌++◌, get_or}
use Rattle.sha2.specs.Hashers.{Holds256}
use Rattle.hash_sigs.specs.Strings.{u32str, u16str, joined, string_at}
use Rattle.hash_sigs.specs.OneTime.{chain}
use Rattle.hash_sigs.proofs.one_time.candidate.Given as goal

abbrev pub invariant-loop-i : goal.invariant-loop-i
invariant-loop-i l =
    Holds256 l.hasher (l.id ++ u32str l.q ++ u16str 0x8080
    ++ joined (λ i. chain l.id l.q i (get_or l.digits i 0) (255 - get_or l.digits i 0) (string_at l.signature l.at i)) l.i)
