-- What holds of verdicts on wrapped programs, for every context and check.
use Rattle.std.specs.Prelude.{ℕ, ◌+◌, ◌<◌, ◌≤◌, ◌^◌, List, ◌++◌, length, reverse}
use Rattle.std.specs.List.{AllByRecursion}
use Rattle.keyed.specs.Functions.{Check}
use Rattle.vm_num.specs.Item.{Item, total_cost}
use Rattle.vm_run.specs.declared.context.Context.{Context}
use Rattle.vm_run.specs.Verdict.{HasVerdict}
use Rattle.vm_run.specs.declared.verdict.Verdict.TheVariants.{Succeeded}
use Rattle.vm_straight.specs.Success.{Succeeds, SucceedsWith}
use Rattle.vm_straight.specs.Wrapped.{wrapped, pushes_need}

-- a body and the items that are pushed for it, whose lengths can be written
pub record CanWrap (body : List ℕ) (held : List Item) : Type 0 where
  pub body_fits : length body < 2 ^ 32
  pub held_fit : AllByRecursion (λ item. length item < 2 ^ 32) held
  pub few : length held < 2 ^ 62

pub record WrappedLaws (context : Context) (check : Check) : Type 0 where
  -- Where the wrapped program succeeds on arguments, the body does from its start on, with the items that were pushed
  -- on top of the arguments, whose last is uppermost.
  pub only : (body : List ℕ) (held given : List Item) (limit left : ℕ)
      → CanWrap body held
      → limit < 2 ^ 63
      → HasVerdict context check (wrapped body held) given limit (Succeeded left)
      → (rest : ℕ) × Succeeds context check body 0 (held ++ reverse given) rest
  -- Where the body succeeds so with each limit of at least this, the wrapped program succeeds with each limit that
  -- covers it, the arguments, the pushes, and 291 and the body's length.
  pub enough : (body : List ℕ) (held given : List Item) (limit least : ℕ)
      → CanWrap body held
      → limit < 2 ^ 63
      → SucceedsWith context check body 0 (held ++ reverse given) least
      → total_cost given + pushes_need held + (291 + length body + least) ≤ limit
      → (left : ℕ) × HasVerdict context check (wrapped body held) given limit (Succeeded left)
