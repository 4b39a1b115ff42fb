-- Counts of faults.
use Rattle.std.specs.Prelude.{◌≡◌, ◌<◌, ◌≤◌, ◌⊎◌, ◌-◌, ◌^◌, ℕ, Result, IsErrOf}
use Rattle.outside.specs.declared.fault.FileFault.{FileFault}
use Rattle.outside.specs.declared.fault.FileFault.TheVariants.{Failed}

-- the count rose, or stands at its end
abbrev pub Rose : ℕ → ℕ → Type 0
Rose before now = (before < now) ⊎ (now ≡ 2 ^ 64 - 1)

-- Failed is answered only where the count rose, and every other answer leaves the count
pub record Counts {T : Type 0} (before now : ℕ) (result : Result T FileFault) : Type 0 where
  pub never_falls : before ≤ now
  pub failed : IsErrOf result Failed → Rose before now
  pub kept : ¬ IsErrOf result Failed → now ≡ before
