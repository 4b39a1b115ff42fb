-- What items total_cost, whatever their order.
use Rattle.std.proofs.Common.{◌≡◌, ℕ, ◌+◌, ◌<◌, ◌≤◌, List, [], ◌∷◌, ◌++◌, length, take, drop, reverse, get_or, arith}
use Rattle.std.proofs.lemmas.List.{take_rest}
use Rattle.std.proofs.lemmas.List.Sums.{sum_by_push, sum_by-take-drop, sum_by-remove}
use Rattle.std.proofs.lemmas.List.Sorted.{IsPermutation-reverse, sum_by-IsPermutation}
use Rattle.std.specs.List.{remove}
use Rattle.vm_num.specs.Item.{Item, cost, total_cost}

pub cost-push : (items : List Item) (item : Item) → total_cost (items ++ item ∷ []) ≡ total_cost items + (8 + length item)
cost-push items item = sum_by_push cost items item

pub cost-reverse : (items : List Item) → total_cost (reverse items) ≡ total_cost items
cost-reverse items = sum_by-IsPermutation cost items (reverse items) (IsPermutation-reverse items)

pub cost-take : (n : ℕ) (items : List Item) → total_cost (take n items) + total_cost (drop n items) ≡ total_cost items
cost-take n items = sum_by-take-drop cost items n

pub cost-drop : (n : ℕ) (items : List Item) → total_cost (drop n items) ≤ total_cost items
cost-drop n items = omega (arith, cost-take n items)

pub cost-last : (items : List Item) (at : ℕ) → at < length items → total_cost (remove items at ++ get_or items at [] ∷ []) ≡ total_cost items
cost-last items at within = omega (arith, cost-push (remove items at) (get_or items at []), sum_by-remove cost items at [] within)

pub ruleset costs = (cost-push, cost-reverse, cost-take, cost-drop, take_rest)
