-- What a function answers that refuses.
use Rattle.std.specs.Prelude.{◌≡◌, ℕ, List, string_bytes}
use Rattle.replies.specs.declared.stop.Stop.{Stop}
use Rattle.replies.specs.declared.stop.Stop.TheVariants as stops

-- it refuses by this line; out of memory is free
abbrev pub RefusesBy : List ℕ → Stop → Type 0
RefusesBy line (stops.Refused text) = string_bytes text ≡ line
RefusesBy line stops.ReadFault = ⊥
RefusesBy line stops.WriteFault = ⊥
RefusesBy line stops.NoMemory = Unit {0}
