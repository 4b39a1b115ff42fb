use Rattle.std.proofs.Common.{◌≡◌, ◌++◌, List, ℕ, length}
use Rattle.std.specs.Io.KnownBytes.{Appends}
use Rattle.outside.proofs.whole.write_whole.Given as goal

-- some bytes were written, and these with the rest are all of them
abbrev pub invariant-loop-rest : goal.invariant-loop-rest
invariant-loop-rest g l =
    (done : List ℕ) × (done ++ l.rest ≡ l.bytes) × Appends (g.W.Write.contents l.initial.out) (g.W.Write.contents l.out) done

abbrev pub decreases-loop-rest : goal.decreases-loop-rest
decreases-loop-rest g l = length l.rest
