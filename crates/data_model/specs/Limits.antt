-- The limits of the fields that records share, and a list of arguments.
use Rattle.std.specs.Prelude.{ℕ, ◌^◌, ◌≤◌, ◌<◌, List, length, None}
use Rattle.std.specs.List.{AllByRecursion}
use Rattle.wire.specs.Layout.{Layout, Text, Many}

-- the longest string in bytes, and the most arguments
abbrev pub longest : ℕ
longest = 65536

abbrev pub most_args : ℕ
most_args = 64

abbrev pub args_layout : Layout
args_layout = Many most_args None (Text longest)

-- ---- within the limits

-- an amount is a number that is not 0
pub record IsAmount (n : ℕ) : Type 0 where
  pub some : 0 < n
  pub small : n < 2 ^ 63

abbrev pub IsString : List ℕ → Type 0
IsString text = length text ≤ longest

-- at most so many, each within its limits
pub record AtMost {X : Type 0} (most : ℕ) (fits : X → Type 0) (xs : List X) : Type 0 where
  pub count : length xs ≤ most
  pub each : AllByRecursion fits xs

abbrev pub AreArgs : List (List ℕ) → Type 0
AreArgs = AtMost most_args IsString
