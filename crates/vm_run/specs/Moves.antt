-- The move at a place, and payment for an instruction, by cases. Laws with their proofs.
use Rattle.std.proofs.Common.{◌≡◌, ℕ, ◌+◌, ◌-◌, ◌<◌, ◌≤◌, ◌==◌, Bool, true, false, cond, List, ◌++◌, take, drop, length}
use Rattle.std.proofs.Common.{Result, refl, ap, ◌∙◌, inl, inr, arith}
use Rattle.std.proofs.lemmas.Bool.{cases_lt, lt-ltb, le-ltb, ne_eqb}
use Rattle.std.proofs.lemmas.Bool.Decides.{nat_tests}
use Rattle.std.proofs.lemmas.List.Sums.{sum_by-take-drop}
use Rattle.vm_num.specs.Item.{Item, cost, total_cost}
use Rattle.vm_num.specs.declared.failure.Failure.TheVariants.{RunLimit}
use Rattle.keyed.specs.Functions.{Check}
use Rattle.vm_code.specs.Instruction.{Decoded, Misread, instruction_at}
use Rattle.vm_run.specs.Effect.{Effect, Context}
use Rattle.vm_run.specs.Run.{Stops, Goes, Opens, paid, popped_cost, pushed_cost, next_place, opened, child_limit}
use Rattle.vm_run.specs.Run.{instruction_move, move}

-- ---- the move at a place, by the instruction that is read there

pub move-read : (context : Context) (check : Check) (program : List ℕ) (place : ℕ) (items alt : List Item) (limit : ℕ)
    (read : Result Decoded Misread)
    → instruction_at program place ≡ read
    → move context check program place items alt limit
    ≡ instruction_move context check (length program) place items alt limit read
unfolding move
move-read context check program place items alt limit read is =
    ap (instruction_move context check (length program) place items alt limit) is

-- ---- an effect

module _ (behind limit : ℕ) (items alt : List Item) (e : Effect) where
  pub short_of_base : limit < e.base → paid behind items alt limit e ≡ Stops RunLimit
  short_of_base short = grind (arith, nat_tests)

  pub short_of_price : e.base ≤ limit → limit + popped_cost e items alt < e.base + pushed_cost e
      → paid behind items alt limit e ≡ Stops RunLimit
  short_of_price covers short = grind (arith, nat_tests)

  pub covered : e.base ≤ limit → pushed_cost e ≤ limit - e.base + popped_cost e items alt
      → paid behind items alt limit e
      ≡ Goes (next_place behind e.jump) (e.pushed ++ drop e.pops items) (e.alt_pushed ++ drop e.alt_pops alt)
      (limit - e.base + popped_cost e items alt - pushed_cost e) e.base
  covered covers enough = grind (arith, nat_tests)

  -- with this left after it
  pub goes : (left : ℕ) → e.base ≤ limit → left + e.base + pushed_cost e ≡ limit + popped_cost e items alt
      → paid behind items alt limit e
      ≡ Goes (next_place behind e.jump) (e.pushed ++ drop e.pops items) (e.alt_pushed ++ drop e.alt_pops alt)
      left e.base
  goes left covers sum =
      let rest : limit - e.base + popped_cost e items alt - pushed_cost e ≡ left = omega arith in
      rw (covered covers (omega arith), rest) refl

-- what so many items and those below them cost
pub cost-split : (n : ℕ) (items : List Item)
    → total_cost (take n items) + total_cost (drop n items) ≡ total_cost items
cost-split n items = sum_by-take-drop cost items n

-- ---- a child

pub child_limit-within : (asked left : ℕ) → asked ≤ left → child_limit asked left ≤ left
child_limit-within asked left enough = by (asked == 0)
  where
    by : (b : Bool) → cond b left asked ≤ left
    by true = omega arith
    by false = enough

pub all-of-it : (asked left : ℕ) → asked ≡ 0 → child_limit asked left ≡ left
all-of-it asked left none = rw none refl

pub as-asked : (asked left : ℕ) → (asked ≡ 0 → ⊥) → child_limit asked left ≡ asked
as-asked asked left some = rw (ne_eqb asked 0 some) refl

module _ (behind limit : ℕ) (items alt : List Item) (program : Item) (asked count : ℕ) where
  pub short_of_opening : limit < 256 → opened behind items alt limit program asked count ≡ Stops RunLimit
  short_of_opening short = rw (lt-ltb limit 256 short) refl

  pub short_of_asked : 256 ≤ limit → limit - 256 < asked
      → opened behind items alt limit program asked count ≡ Stops RunLimit
  short_of_asked covers short = rw (le-ltb limit 256 covers, lt-ltb (limit - 256) asked short) refl

  pub opening : 256 ≤ limit → asked ≤ limit - 256
      → opened behind items alt limit program asked count
      ≡ Opens
      (record { program = program; items = take count (drop 3 items); limit = child_limit asked (limit - 256) })
      behind (drop count (drop 3 items)) alt
      (limit - 256 - child_limit asked (limit - 256) + 192 + total_cost (take 3 items))
  opening covers enough = rw (le-ltb limit 256 covers, le-ltb (limit - 256) asked enough) refl

  pub short_of_call : limit < 256 + asked → opened behind items alt limit program asked count ≡ Stops RunLimit
  short_of_call short = elim (cases_lt limit 256) [
    | inl less ↦ short_of_opening less
    | inr covers ↦ short_of_asked covers (omega arith)
  ]

  -- with this given to the child, and this left after it
  pub opens_child : (given left : ℕ) → 256 + asked ≤ limit → child_limit asked (limit - 256) ≡ given
      → left + given + 64 ≡ limit + total_cost (take 3 items)
      → opened behind items alt limit program asked count
      ≡ Opens (record { program = program; items = take count (drop 3 items); limit = given })
      behind (drop count (drop 3 items)) alt left
  opens_child given left covers is sum =
      let within : child_limit asked (limit - 256) ≤ limit - 256 =
      child_limit-within asked (limit - 256) (omega arith) in
      let rest : limit - 256 - given + 192 + total_cost (take 3 items) ≡ left = omega (arith, is, within) in
      opening (omega arith) (omega arith) ∙ rw (is, rest) refl
