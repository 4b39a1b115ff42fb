-- A hash and a check of signatures, as the functions that they stand for.
use Rattle.std.specs.Prelude.{ℕ, Bool, List}

-- a hash, as a function of bytes
abbrev pub Hash : Type 0
Hash = List ℕ → List ℕ

-- whether a signature is good, by the key, the message and the signature
abbrev pub Check : Type 0
Check = List ℕ → List ℕ → List ℕ → Bool
