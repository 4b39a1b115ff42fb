-- Items that are moved onto the top.
use Rattle.std.proofs.Common.{◌≡◌, ℕ, suc, ◌+◌, ◌<◌, ◌≤◌, List, [], ◌∷◌, ◌++◌, length, take, drop, get_or, refl, ◌∙◌, ap, Ok, arith, length-take}
use Rattle.std.proofs.lemmas.Bool.{le-leb, lt-ltb}
use Rattle.std.proofs.lemmas.List.{get_or_append_left, get_or-take, drop_more, drop_at, drop-drop, take-append-le, take-take}
use Rattle.std.proofs.lemmas.List.Sums.{sum_by-append}
use Rattle.std.proofs.Math.Seq.{take-add, drop-cons}
use Rattle.vm_num.specs.Item.{Item, cost, total_cost}
use Rattle.vm_stack.specs.Stacks.{Stacks, item_at, rolled}
use Rattle.vm_run.specs.declared.machine.Machine.{Machine}
use Rattle.vm_run.specs.Follows.{Follows}
use Rattle.vm_run.specs.Moving.{moves, roll_row}
use Rattle.vm_run.proofs.Payment.{done}

-- the items as they stand after a move
abbrev pub brought : ℕ → ℕ → List Item → List Item
brought under n items = take n (drop under items) ++ take under items

pub roll-one : (k : ℕ) (items : List Item) → k < length items → rolled k items ≡ brought k 1 items ++ drop (k + 1) items
roll-one k items there =
    let front : take 1 (drop k items) ≡ item_at k items ∷ [] = ap (take 1) (drop_more items k [] there) in
    let behind : suc k ≡ k + 1 = omega arith in
    rw (front, behind) refl

two_under : (k : ℕ) (items : List Item) → suc k < length items → take 2 (drop k items) ≡ item_at k items ∷ item_at (suc k) items ∷ []
two_under k items there =
    let first : drop k items ≡ item_at k items ∷ drop (suc k) items = drop-cons items k [] (omega arith) in
    let second : drop (suc k) items ≡ item_at (suc k) items ∷ drop (suc (suc k)) items = drop-cons items (suc k) [] there in
    ap (take 2) first ∙ ap (λ l. item_at k items ∷ take 1 l) second

twice : (k : ℕ) (items : List Item) → suc k < length items → rolled (suc k) (rolled (suc k) items) ≡ brought k 2 items ++ drop (suc (suc k)) items
twice k items there =
    let above : List Item = take (suc k) items in
    let below : List Item = drop (suc (suc k)) items in
    let long : length above ≡ suc k = simp length-take (omega arith) in
    let next : get_or (above ++ below) k [] ≡ item_at k items = get_or_append_left above below [] k (omega arith) ∙ get_or-take (suc k) items k [] (omega arith) in
    let front : take k (above ++ below) ≡ take k items = take-append-le k above below (omega arith) ∙ take-take k (suc k) items (omega arith) in
    let back : drop (suc k) (above ++ below) ≡ below = drop_at above below (suc k) long in
    rw (next, front, back, two_under k items there) refl

pub roll-two : (under : ℕ) (items : List Item) → under + 1 < length items → rolled (under + 1) (rolled (under + 1) items) ≡ brought under 2 items ++ drop (under + 2) items
roll-two under items there =
    let one : under + 1 ≡ suc under = omega arith in
    let two : under + 2 ≡ suc (suc under) = omega arith in
    rw (one, two) (twice under items (omega arith))

pub cost-brought : (under n : ℕ) (items : List Item) → total_cost (brought under n items) ≡ total_cost (take (under + n) items)
cost-brought under n items =
    let split = ap total_cost (take-add under n items) in
    omega (arith, split, sum_by-append cost (take under items) (take n (drop under items)), sum_by-append cost (take n (drop under items)) (take under items))

pub moved : (m m' : Machine) (under n base : ℕ) → under + n ≤ length m.stack.items → base ≤ m.left → m'.left + base ≡ m.left → m'.stack ≡ record m.stack { items = brought under n m.stack.items ++ drop (under + n) m.stack.items } → m'.at ≡ m.at → Follows m (moves under n base m.stack.items m.stack.alt) (Ok tt) m'
moved m m' under n base there covers spent stack place =
    rw (le-leb (under + n) (length m.stack.items) there) (done m m' (under + n) (brought under n m.stack.items) base covers (omega (arith, cost-brought under n m.stack.items)) stack place)

-- a machine whose count was popped, and whose item under n was then moved
pub rolls : (m p m' : Machine) (n : ℕ) → n < length (drop 1 m.stack.items) → 2 ≤ m.left → p.left + 2 ≡ m.left + total_cost (take 1 m.stack.items) → m'.stack ≡ record m.stack { items = rolled n (drop 1 m.stack.items) } → m'.at ≡ m.at → m'.left ≡ p.left → Follows m (roll_row n (drop 1 m.stack.items)) (Ok tt) m'
rolls m p m' n there covers paid stack place rest =
    let below : List Item = drop 1 m.stack.items in
    let behind : rolled n below ≡ brought n 1 below ++ drop (2 + n) m.stack.items = roll-one n below there ∙ ap (λ l. brought n 1 below ++ l) (drop-drop (n + 1) 1 m.stack.items ∙ ap (λ k. drop k m.stack.items) (omega arith)) in
    let split : total_cost (take (1 + (n + 1)) m.stack.items) ≡ total_cost (take 1 m.stack.items ++ take (n + 1) below) = ap total_cost (take-add 1 (n + 1) m.stack.items) in
    let joined = sum_by-append cost (take 1 m.stack.items) (take (n + 1) below) in
    let count : total_cost (take (2 + n) m.stack.items) ≡ total_cost (take (1 + (n + 1)) m.stack.items) = ap (λ k. total_cost (take k m.stack.items)) (omega arith) in
    let on_top : List Item → Stacks = λ items. record m.stack { items = items } in
    rw (lt-ltb n (length below) there) (done m m' (2 + n) (brought n 1 below) 2 covers (omega (arith, cost-brought n 1 below)) (stack ∙ ap on_top behind) place)
