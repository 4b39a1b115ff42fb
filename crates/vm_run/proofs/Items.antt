-- Items that are copied and moved from under others.
use Rattle.std.proofs.Common.{◌≡◌, ℕ, ◌+◌, ◌-◌, ◌*◌, ◌<◌, ◌≤◌, List, [], ◌∷◌, ◌++◌, length, take, drop, refl, sym, ◌∙◌, ap, Ok, Err, arith, length-drop, length-take}
use Rattle.std.proofs.lemmas.List.{get_or-append-add, get_or-drop, get_or-take, drop_more}
use Rattle.std.proofs.lemmas.List.Sums.{sum_by-take-drop, sum_by-cons}
use Rattle.vm_num.specs.Item.{Item, cost, total_cost}
use Rattle.vm_stack.specs.Stacks.{Stacks, item_at}
use Rattle.vm_run.specs.declared.machine.Machine.{Machine}
use Rattle.vm_run.specs.declared.fault.StepFault.{StepFault}
use Rattle.vm_run.specs.declared.fault.StepFault.TheVariants.{Failed, NoMemory}
use Rattle.vm_run.specs.Follows.{Pushed, Copies}

pub items-cost : (items : List Item) → 8 * length items ≤ total_cost items
items-cost [] = omega arith
items-cost (a ∷ items) = omega (arith, items-cost items, sum_by-cons cost a items)

-- ---- copies of n items that stand under so many

abbrev pub chunk : ℕ → ℕ → List Item → List Item
chunk under n items = take n (drop under items)

module _ (under n k : ℕ) (items : List Item) (there : under + n ≤ length items) (more : k < n) where
  pub chunk-length : length (chunk under n items) ≡ n
  chunk-length = simp (length-take, length-drop) (omega arith)

  -- the next deepest, once those from k + 1 on are on top
  pub next_copy : item_at (under + n - 1) (drop (k + 1) (chunk under n items) ++ items) ≡ item_at k (chunk under n items)
  next_copy =
      let over : length (drop (k + 1) (chunk under n items)) ≡ n - (k + 1) = simp (length-drop, chunk-length) refl in
      let place : under + n - 1 ≡ length (drop (k + 1) (chunk under n items)) + (under + k) = omega arith in
      rw place (get_or-append-add (drop (k + 1) (chunk under n items)) items (under + k) []
      ∙ sym (get_or-drop under items k [])
      ∙ sym (get_or-take n (drop under items) k [] more))

  pub copied : drop k (chunk under n items) ≡ item_at k (chunk under n items) ∷ drop (k + 1) (chunk under n items)
  copied = drop_more (chunk under n items) k [] (omega (arith, chunk-length))

abbrev on_top : List Item → Stacks → Stacks
on_top items s = record s { items = items }

-- a machine on which those from k + 1 on are on top and paid for, before and after one more
module _ (m l l' : Machine) (under n w k : ℕ) (there : under + n ≤ length m.stack.items) (more : k < n) (next : w ≡ k + 1) where
  abbrev copies : ℕ → List Item
  copies j = drop j (chunk under n m.stack.items)

  module _ (stack : l.stack ≡ record m.stack { items = copies w ++ m.stack.items }) (place : l.at ≡ m.at) (spent : l.left + total_cost (copies w) ≡ m.left) where
    item : item_at (under + n - 1) l.stack.items ≡ item_at k (copies 0)
    item = ap (λ s. item_at (under + n - 1) s.items) stack ∙ ap (λ j. item_at (under + n - 1) (copies j ++ m.stack.items)) next ∙ next_copy under n k m.stack.items there more

    one_more : copies k ≡ item_at k (copies 0) ∷ copies w
    one_more = copied under n k m.stack.items there more ∙ ap (λ j. item_at k (copies 0) ∷ copies j) (sym next)

    costs : total_cost (copies k) ≡ cost (item_at k (copies 0)) + total_cost (copies w)
    costs = ap total_cost one_more ∙ sum_by-cons cost (item_at k (copies 0)) (copies w)

    pub copy_went : Pushed l (item_at (under + n - 1) l.stack.items) (Ok tt) l' → (l'.stack ≡ record m.stack { items = copies k ++ m.stack.items }) × (l'.at ≡ m.at) × (l'.left + total_cost (copies k) ≡ m.left)
    copy_went pushed =
        let price : cost (item_at (under + n - 1) l.stack.items) ≡ cost (item_at k (copies 0)) = ap cost item in (
          pushed.0 ∙ ap (λ (s : Stacks). on_top (item_at (under + n - 1) l.stack.items ∷ s.items) s) stack ∙ ap (λ a. on_top (a ∷ copies w ++ m.stack.items) m.stack) item ∙ ap (λ c. on_top (c ++ m.stack.items) m.stack) (sym one_more),
          pushed.1 ∙ place,
          omega (arith, costs, pushed.2),
        )

    pub copy_failed : (fault : StepFault) → Pushed l (item_at (under + n - 1) l.stack.items) (Err fault) l' → Copies m (copies 0) (Err fault) l'
    copy_failed (Failed kind) pushed =
        let price : cost (item_at (under + n - 1) l.stack.items) ≡ cost (item_at k (copies 0)) = ap cost item in
        let all = sum_by-take-drop cost (copies 0) k in
        (omega (arith, costs, pushed.0), pushed.1)
    copy_failed NoMemory pushed = tt
