-- Hex words that are read one by one.
use Rattle.std.proofs.Common.{ℕ, List, ◌++◌, Result, Ok, Err}

-- items before what was read
abbrev pub onto : List (List ℕ) → Result (List (List ℕ)) (List ℕ) → Result (List (List ℕ)) (List ℕ)
onto items (Ok rest) = Ok (items ++ rest)
onto items (Err line) = Err line
