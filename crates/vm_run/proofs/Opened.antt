-- A child that is opened.
use Rattle.std.proofs.Common.{◌≡◌, ℕ, ◌+◌, ◌-◌, ◌≤◌, List, [], take, drop, length, refl, sym, ◌∙◌, ap, Ok, arith, length-take}
use Rattle.std.proofs.lemmas.List.{get_or-take}
use Rattle.vm_num.specs.Item.{Item}
use Rattle.vm_code.specs.Instruction.{Decoded}
use Rattle.vm_stack.specs.Stacks.{Stacks, item_at, held_cost}
use Rattle.vm_run.specs.declared.machine.Machine.{Machine}
use Rattle.vm_run.specs.Effect.{Context, Calls}
use Rattle.keyed.specs.Functions.{Check}
use Rattle.vm_run.specs.Making.{calls, high_rule}
use Rattle.vm_run.specs.Row.{rule}
use Rattle.vm_run.specs.Run.{Opens, row_move, child_limit}
use Rattle.vm_run.specs.Follows.{IsOpened, call_move}
use Rattle.vm_run.specs.Moves.{opening}

-- the line of CHECKPREDICATE
pub rule-calls : (context : Context) (check : Check) (i : Decoded) (size : ℕ) (items alt : List Item) → i.code ≡ 0xc0 → rule context check i size items alt ≡ calls items alt
unfolding high_rule
rule-calls context check i size items alt is = rw is refl

alike : {program program' : List ℕ} {items items' : List Item} {limit limit' : ℕ} {at at' : ℕ} {both both' : Stacks} {left left' : ℕ} → program ≡ program' → items ≡ items' → limit ≡ limit' → at ≡ at' → both ≡ both' → left ≡ left' → Opens (record { program = program; items = items; limit = limit }) at both.items both.alt left ≡ Opens (record { program = program'; items = items'; limit = limit' }) at' both'.items both'.alt left'
alike p i l a d n = rw (p, i, l, a, d, n) refl

-- a machine whose three items and the counted ones were split off
pub opens : (m m' : Machine) (child popped : Stacks) (count asked limit : ℕ) → calls m.stack.items m.stack.alt ≡ Calls (item_at 1 m.stack.items) asked count → 3 + count ≤ length m.stack.items → 256 ≤ m.left → asked ≤ m.left - 256 → limit ≡ child_limit asked (m.left - 256) → popped ≡ record { items = take 3 m.stack.items; alt = [] } → child ≡ record { items = take count (drop 3 m.stack.items); alt = [] } → m'.stack ≡ record m.stack { items = drop count (drop 3 m.stack.items) } → m'.at ≡ m.at → m'.left ≡ m.left - 256 - limit + 192 + held_cost popped → IsOpened (call_move m) (Ok (record { child = record { stack = child; left = limit; at = 0 }; popped = popped })) m'
opens m m' child popped count asked limit rule there covers enough given top moved stack place left =
    let three : length (take 3 m.stack.items) ≡ 3 = simp length-take (omega arith) in
    let long : length popped.items ≡ length (take 3 m.stack.items) = ap (λ (s : Stacks). length s.items) top in
    let program : item_at 1 m.stack.items ≡ item_at 1 popped.items = sym (ap (λ (s : Stacks). item_at 1 s.items) top ∙ get_or-take 3 m.stack.items 1 [] (omega arith)) in
    let back = ap held_cost top in (
      omega (arith, three, long),
      refl,
      ap (λ (s : Stacks). s.alt) moved,
      ap (row_move m.at m.stack.items m.stack.alt m.left) rule
          ∙ opening m.at m.left m.stack.items m.stack.alt (item_at 1 m.stack.items) asked count covers enough
          ∙ alike program (sym (ap (λ (s : Stacks). s.items) moved)) (sym given) (sym place) (sym stack) (omega (arith, left, given, back)),
    )
