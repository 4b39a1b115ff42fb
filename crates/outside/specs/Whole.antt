-- What a loop over a writer leaves, where the writer says what it holds. Only contracts of private functions name
-- it.
use Rattle.std.specs.Prelude.{ℕ, List, take, Option, Result, MatchResult}
use Rattle.std.specs.Io.KnownBytes.{Appends}

-- all the bytes at Ok, and some of them, in order, at Err
abbrev pub WritesWhole : {T E : Type 0} → Option (List ℕ) → Option (List ℕ) → List ℕ → Result T E → Type 0
WritesWhole old new bytes result =
    MatchResult result (λ _. Appends old new bytes) (λ _. (n : ℕ) × Appends old new (take n bytes))
