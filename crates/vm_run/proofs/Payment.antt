-- Payment for an effect by a machine.
use Rattle.std.proofs.Common.{◌≡◌, ℕ, ◌+◌, ◌<◌, ◌≤◌, List, ◌++◌, take, drop, refl, ap, Ok, Err, arith}
use Rattle.vm_num.specs.Item.{Item, total_cost}
use Rattle.vm_num.specs.declared.failure.Failure.TheVariants.{RunLimit}
use Rattle.vm_run.specs.Effect.{Effect, effect, does}
use Rattle.vm_run.specs.declared.machine.Machine.{Machine}
use Rattle.vm_run.specs.declared.fault.StepFault.TheVariants.{Failed}
use Rattle.vm_run.specs.Run.{Goes, paid, popped_cost, pushed_cost, next_place}
use Rattle.vm_run.specs.Follows.{base_of, Follows}
use Rattle.vm_run.specs.Moves.{short_of_base, short_of_price, goes}

-- with this left after it, and these stacks
pays : (behind limit : ℕ) (items alt : List Item) (e : Effect) (left : ℕ) (items' alt' : List Item) → e.base ≤ limit
    → left + e.base + pushed_cost e ≡ limit + popped_cost e items alt
    → items' ≡ e.pushed ++ drop e.pops items
    → alt' ≡ e.alt_pushed ++ drop e.alt_pops alt
    → paid behind items alt limit e
    ≡ Goes (next_place behind e.jump) items' alt' left (base_of (paid behind items alt limit e))
pays behind limit items alt e left items' alt' covers sum on_items on_alt =
    rw (goes behind limit items alt e left covers sum, on_items, on_alt) refl

-- ---- an effect on the data stack of a machine that goes on after its instruction

module _ (m m' : Machine) (n : ℕ) (pushed : List Item) (base : ℕ) where
  pub done : base ≤ m.left → m'.left + base + total_cost pushed ≡ m.left + total_cost (take n m.stack.items) → m'.stack ≡ record m.stack { items = pushed ++ drop n m.stack.items } → m'.at ≡ m.at → Follows m (does n pushed base) (Ok tt) m'
  done covers sum stack place =
      rw place (pays m.at m.left m.stack.items m.stack.alt (effect n pushed base) m'.left m'.stack.items m'.stack.alt covers (omega arith) (ap (λ s. s.items) stack) (ap (λ s. s.alt) stack))

  pub base_short : m.left < base → Follows m (does n pushed base) (Err (Failed RunLimit)) m'
  base_short short = short_of_base m.at m.left m.stack.items m.stack.alt (effect n pushed base) short

  pub price_short : base ≤ m.left → m.left + total_cost (take n m.stack.items) < base + total_cost pushed → Follows m (does n pushed base) (Err (Failed RunLimit)) m'
  price_short covers short = short_of_price m.at m.left m.stack.items m.stack.alt (effect n pushed base) covers (omega arith)
