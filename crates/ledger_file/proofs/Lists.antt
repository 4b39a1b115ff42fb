-- Small steps.
use Rattle.std.proofs.Common.{List, [], ◌∷◌, length, ◌≡◌, refl, arith}

pub empty-list : {X : Type 0} (xs : List X) → length xs ≡ 0 → xs ≡ []
empty-list [] none = refl
empty-list (x ∷ xs) none = absurd (omega (arith, none))
