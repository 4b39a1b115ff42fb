-- The first place of a list at which something is to be reported.
use Rattle.std.specs.Prelude.{◌≡◌, ◌<◌, ℕ, List, slice_get, Option, Some, None}
use Rattle.wire.specs.Tables.{HoldsNot, Cause}

-- At a place, counted from 0, a cause holds of the place and of what stands there, and reports this; at no place
-- before it does it hold.
pub record AtFirst {R X : Type 0} (cause : ℕ → X → Cause R) (xs : List X) (reported : R) : Type 0 where
  pub place : ℕ
  pub item : X
  pub there : slice_get xs place ≡ Some item
  pub reports : cause place item reported
  pub none_before : (k : ℕ) (other : X) → k < place → slice_get xs k ≡ Some other → HoldsNot (cause k other)

-- what is found out of a cause: what it reports, or that it does not hold
abbrev pub Found : {R : Type 0} → Cause R → Option R → Type 0
Found cause None = HoldsNot cause
Found cause (Some reported) = cause reported
