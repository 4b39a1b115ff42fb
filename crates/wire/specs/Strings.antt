-- Strings of bytes among others.
use Rattle.std.specs.Prelude.{ℕ, Bool, List}
use Rattle.std.specs.List.{list_any}
use Rattle.std.specs.Str.{bytes_eq}

-- one of these is the string
abbrev pub is_among : List (List ℕ) → List ℕ → Bool
is_among strings string = list_any (λ other. bytes_eq other string) strings
