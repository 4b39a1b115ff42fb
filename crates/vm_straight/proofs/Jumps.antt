-- JUMPIF: success before it is success where it leads to, and the other way.
use Rattle.std.proofs.Common.{◌≡◌, ℕ, ◌+◌, ◌-◌, ◌<◌, ◌≤◌, ◌^◌, Bool, true, false, cond, List, [], ◌∷◌, ◌++◌, length, refl}
use Rattle.std.proofs.Common.{sym, ◌∙◌, ap, subst, Option, Some, None, Ok, arith, inl, inr}
use Rattle.std.proofs.lemmas.Bool.{cases_lt, le-ltb}
use Rattle.keyed.specs.Functions.{Check}
use Rattle.vm_num.specs.Item.{Item, total_cost, is_true}
use Rattle.vm_code.specs.Instruction.{instruction_at, jump}
use Rattle.vm_run.specs.declared.context.Context.{Context}
use Rattle.vm_run.specs.Effect.{Effect}
use Rattle.vm_run.specs.Row.{Does}
use Rattle.vm_run.specs.Moving.{jump_row, jump_if_row}
use Rattle.vm_run.specs.Run.{Goes, row_move, move}
use Rattle.vm_run.specs.Moves.{move-read, short_of_base, covered}
use Rattle.vm_straight.specs.Success.{HoldsAt, Succeeds, SucceedsWith}
use Rattle.vm_straight.specs.Choice.{jump_if}
use Rattle.vm_straight.specs.Known.{Known}
use Rattle.vm_straight.proofs.Places.{held_inside}
use Rattle.vm_straight.proofs.Moves.{stopped, onward, from_next}

-- the effect of a jump to a place, if it jumps
abbrev effect_of : Option ℕ → Effect
effect_of to = record { pops = 1; pushed = []; alt_pops = 0; alt_pushed = []; base = 1; jump = to }

module _ (known : Known) (context : Context) (check : Check) (program : List ℕ) (at place : ℕ) (small : place < 2 ^ 32)
    (has : HoldsAt program at (jump_if place)) (ends : place ≤ length program) where
  read : instruction_at program at ≡ Ok (jump 0x64 place)
  read =
      subst (λ (p : List ℕ). instruction_at p at ≡ Ok (jump 0x64 place)) (sym has.is)
      (subst (λ (k : ℕ). instruction_at (has.before ++ jump_if place ++ has.after) k ≡ Ok (jump 0x64 place)) has.place
      (known.jump_reads 0x64 place has.before has.after refl small))

  moves : (x : Item) (items : List Item) (limit : ℕ)
      → move context check program at (x ∷ items) [] limit
      ≡ row_move (at + 5) (x ∷ items) [] limit (jump_if_row place (length program) x)
  moves x items limit =
      move-read context check program at (x ∷ items) [] limit (Ok (jump 0x64 place)) read
      ∙ ap (row_move (at + 5) (x ∷ items) [] limit)
      ((known.lines context check).jumps_if place (length program) (x ∷ items) [])

  -- where the item says, and that place
  abbrev line : Bool → Option ℕ
  line true = Some place
  line false = None

  abbrev pub target : Bool → ℕ
  target true = place
  target false = at + 5

  row_is : (b : Bool) (x : Item) → is_true x ≡ b → jump_if_row place (length program) x ≡ Does (effect_of (line b))
  row_is true x e = by (is_true x) e
    where
      by : (b : Bool) → b ≡ true
          → cond b (jump_row 1 place (length program)) (Does (effect_of None)) ≡ Does (effect_of (Some place))
      by b e = rw (e, le-ltb (length program) place ends) refl
  row_is false x e = by (is_true x) e
    where
      by : (b : Bool) → b ≡ false
          → cond b (jump_row 1 place (length program)) (Does (effect_of None)) ≡ Does (effect_of None)
      by b e = rw e refl

  begins : at < length program
  begins = omega (arith, held_inside (jump_if place) has)

  goes : (b : Bool) (x : Item) (items : List Item) (limit : ℕ) → is_true x ≡ b → 1 ≤ limit
      → (left : ℕ) × (limit ≤ left) × (move context check program at (x ∷ items) [] limit ≡ Goes (target b) items [] left 1)
  goes b x items limit e pays =
      let left = limit - 1 + (total_cost (x ∷ []) + 0) - 0 in (
        left,
        (let more : limit ≤ left = omega arith in more),
        moves x items limit ∙ ap (row_move (at + 5) (x ∷ items) [] limit) (row_is b x e) ∙ by b,
      )
    where
      by : (b : Bool) → row_move (at + 5) (x ∷ items) [] limit (Does (effect_of (line b)))
          ≡ Goes (target b) items [] (limit - 1 + (total_cost (x ∷ []) + 0) - 0) 1
      by true = covered (at + 5) limit (x ∷ items) [] (effect_of (Some place)) pays (omega arith)
      by false = covered (at + 5) limit (x ∷ items) [] (effect_of None) pays (omega arith)

  target_inside : (b : Bool) → target b ≤ length program
  target_inside true = ends
  target_inside false = held_inside (jump_if place) has

  pub jumped : (b : Bool) (x : Item) (items : List Item) (limit : ℕ) → is_true x ≡ b
      → Succeeds context check program at (x ∷ items) limit
      → (left : ℕ) × Succeeds context check program (target b) items left
  jumped b x items limit e s = elim (cases_lt limit 1) [
    | inl short ↦ absurd (stopped known context check program at (x ∷ items) limit _ begins
        (moves x items limit ∙ ap (row_move (at + 5) (x ∷ items) [] limit) (row_is b x e)
        ∙ short_of_base (at + 5) limit (x ∷ items) [] (effect_of (line b)) short) s)
    | inr pays ↦ let g = goes b x items limit e pays in (
      g.0,
      onward known context check program at (x ∷ items) limit
          (target b) g.0 1 items begins (target_inside b) g.2 s,
    )
  ]

  pub jumps : (b : Bool) (x : Item) (items : List Item) (limit least : ℕ) → is_true x ≡ b → 1 ≤ limit → least ≤ limit
      → SucceedsWith context check program (target b) items least
      → Succeeds context check program at (x ∷ items) limit
  jumps b x items limit least e pays enough rest =
      let g = goes b x items limit e pays in
      from_next known context check program at (x ∷ items) limit (target b) g.0 1 items begins g.2
      (rest g.0 (omega (arith, g.1)))
