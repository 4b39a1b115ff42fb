-- What a sink holds.
use Rattle.std.specs.Prelude.{◌≡◌, ℕ, List, ◌++◌, take, Option}
use Rattle.std.specs.Option.{option_map}

-- what it held and then the piece
abbrev pub output_with : Option (List ℕ) → List ℕ → Option (List ℕ)
output_with output piece = option_map (λ h. h ++ piece) output

-- what it held and then a prefix of the piece
abbrev pub OutputsPart : Option (List ℕ) → List ℕ → Option (List ℕ) → Type 0
OutputsPart output piece new = (n : ℕ) × (new ≡ output_with output (take n piece))
