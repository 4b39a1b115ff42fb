-- Of several pieces after guards the one of the number runs, and the others are passed over.
use Rattle.std.proofs.Common.{◌≡◌, ℕ, ◌+◌, ◌<◌, ◌≤◌, ◌^◌, Bool, true, false, List, [], ◌∷◌, ◌++◌, length, get_or}
use Rattle.std.proofs.Common.{refl, sym, ◌∙◌, ap, subst, Some, arith, length-append, ℤ, pos}
use Rattle.keyed.specs.Functions.{Check}
use Rattle.vm_num.specs.Item.{Item}
use Rattle.vm_ops.specs.Results.{truth_item}
use Rattle.vm_run.specs.declared.context.Context.{Context}
use Rattle.vm_straight.specs.Operations.{Operation, bytes_of, AllFit, stack_after, items_cost, needed}
use Rattle.vm_straight.specs.Success.{HoldsAt, Succeeds, SucceedsWith}
use Rattle.vm_straight.specs.Choice.{jump_if, guard, past, choices, HasNumberAt, AllKeep, ChosenRuns, ChosenNeeds}
use Rattle.vm_straight.specs.Choice.{guards_need}
use Rattle.vm_straight.specs.Known.{Known}
use Rattle.vm_straight.proofs.Places.{front_held, rest_held, held_inside}
use Rattle.vm_straight.proofs.Straight.{reached, carried}
use Rattle.vm_straight.proofs.Numbers.{other, guard_gives, guard_needs, guard_fits, not_other, equal_then, same_number}
use Rattle.vm_straight.proofs.Jumps.{target, jumped, jumps}

pub same_items : (a b : List Item) → Some a ≡ Some b → a ≡ b
same_items a b e = cc

-- from a place to one that is the same
pub at_same : (context : Context) (check : Check) (program : List ℕ) (items : List Item) (limit a b : ℕ) → a ≡ b
    → Succeeds context check program a items limit → Succeeds context check program b items limit
at_same context check program items limit a b e s =
    subst (λ (n : ℕ). Succeeds context check program n items limit) e s

module _ (known : Known) (context : Context) (check : Check) (program : List ℕ) (long : length program < 2 ^ 32)
    (depth : ℕ) (items : List Item) (chosen : ℤ) (selects : HasNumberAt items depth chosen) where
  abbrev selector : Item
  selector = get_or items depth []

  abbrev differs : ℕ → Bool
  differs number = other known context check items depth chosen selects number

  -- ---- the parts of a guarded piece

  module _ (number place : ℕ) (piece : List Operation) (pieces : List (List Operation))
      (has : HoldsAt program place (choices depth number place (piece ∷ pieces))) where
    abbrev next : ℕ
    next = past depth number place piece

    abbrev after_guard : ℕ
    after_guard = place + length (bytes_of (guard depth number))

    abbrev tail : List ℕ
    tail = choices depth (number + 1) (past depth number place piece) pieces

    guard_held : HoldsAt program place (bytes_of (guard depth number))
    guard_held = front_held (bytes_of (guard depth number)) _ has

    jump_held : HoldsAt program after_guard (jump_if next ++ (bytes_of piece ++ tail))
    jump_held = rest_held (bytes_of (guard depth number)) _ has

    piece_held : HoldsAt program (after_guard + 5) (bytes_of piece ++ tail)
    piece_held = rest_held (jump_if next) _ jump_held

    tail_held : HoldsAt program next tail
    tail_held = rest_held (bytes_of piece) _ piece_held

    next_inside : next ≤ length program
    next_inside = held_inside (bytes_of piece) (front_held (bytes_of piece) _ piece_held)

    tail_length : next + length tail ≡ place + length (choices depth number place (piece ∷ pieces))
    tail_length = simp length-append (omega arith)

    abbrev leads : Bool → ℕ
    leads b = target known context check program after_guard next (omega (arith, next_inside))
        (front_held (jump_if next) _ jump_held) next_inside b

    -- ---- success before the guard

    -- where the piece's number is another, success follows after the piece; else the piece runs, and then it does
    after_piece : (limit : ℕ) → number < 2 ^ 63 → AllFit piece
        → ((found : List Item) → stack_after context check piece items ≡ Some found → found ≡ items)
        → Succeeds context check program place items limit
        → (chosen ≡ pos number → stack_after context check piece items ≡ Some items)
        × ((left : ℕ) × Succeeds context check program next items left)
    after_piece limit low fit keeps s =
        let first = reached known context check program (guard depth number) place items limit
        (guard_fits depth number) guard_held s in
        let same = same_items _ _ (sym first.is
        ∙ guard_gives known context check items depth chosen selects number low) in
        by (differs number) refl first.left
        (subst (λ (stack : List Item). Succeeds context check program after_guard stack first.left) same first.rest)
      where
        by : (b : Bool) → differs number ≡ b → (left : ℕ)
            → Succeeds context check program after_guard (truth_item (differs number) ∷ items) left
            → (chosen ≡ pos number → stack_after context check piece items ≡ Some items)
            × ((left : ℕ) × Succeeds context check program next items left)
        by true is left s =
            let j = jumped known context check program after_guard next (omega (arith, next_inside))
            (front_held (jump_if next) _ jump_held) next_inside true (truth_item (differs number)) items left
            (known.truth_back (differs number) ∙ is) s in
            ((λ same. absurd (not_other chosen (pos number) is same)), j)
        by false is left s =
            let j = jumped known context check program after_guard next (omega (arith, next_inside))
            (front_held (jump_if next) _ jump_held) next_inside false (truth_item (differs number)) items left
            (known.truth_back (differs number) ∙ is) s in
            let r = reached known context check program piece (after_guard + 5) items j.0 fit
            (front_held (bytes_of piece) _ piece_held) j.1 in
            let back = keeps r.items r.is in (
              (λ same. r.is ∙ ap Some back),
              (
                r.left,
                subst (λ (stack : List Item). Succeeds context check program next stack r.left) back r.rest,
              ),
            )

    -- ---- success after the piece

    before_guard : (limit due least : ℕ) → number < 2 ^ 63 → AllFit piece
        → (chosen ≡ pos number → (stack_after context check piece items ≡ Some items)
        × ((left : ℕ) → needed context check left piece items ≤ items_cost items + (due + left)))
        → SucceedsWith context check program next items (due + least)
        → (chosen ≡ pos number → SucceedsWith context check program next items least)
        → 39 + length selector + (due + least) ≤ limit
        → Succeeds context check program place items limit
    before_guard limit due least low fit runs skips took covers =
        carried known context check program (guard depth number) (1 + (due + least)) place items
        (truth_item (differs number) ∷ items) limit (guard_fits depth number) guard_held
        (guard_gives known context check items depth chosen selects number low)
        (omega (arith, guard_needs known context check items depth chosen selects number (1 + (due + least)) low))
        (λ left enough. jumps known context check program after_guard next (omega (arith, next_inside))
        (front_held (jump_if next) _ jump_held) next_inside (differs number) (truth_item (differs number)) items left
        (due + least) (known.truth_back (differs number)) (omega arith) (omega arith) (by (differs number) refl))
      where
        by : (b : Bool) → differs number ≡ b → SucceedsWith context check program (leads b) items (due + least)
        by true is left enough = skips left enough
        by false is left enough =
            let same = equal_then chosen (pos number) is in
            let r = runs same in
            carried known context check program piece least (after_guard + 5) items items left fit
            (front_held (bytes_of piece) _ piece_held) r.0 (omega (arith, r.1 least))
            (λ left' enough'. took same left' enough')

  -- ---- all pieces

  pub only : (pieces : List (List Operation)) (number place limit : ℕ) → number + length pieces < 2 ^ 63
      → AllKeep context check items pieces → HoldsAt program place (choices depth number place pieces)
      → Succeeds context check program place items limit
      → ChosenRuns context check items chosen number pieces
      × ((left : ℕ) × Succeeds context check program (place + length (choices depth number place pieces)) items left)
  only [] number place limit low keep has s =
      (tt, (limit, at_same context check program items limit place (place + 0) (omega arith) s))
  only (piece ∷ pieces) number place limit low keep has s =
      let first = after_piece number place piece pieces has limit (omega arith) keep.0.0 keep.0.1 s in
      let others = only pieces (number + 1) (past depth number place piece) first.1.0 (omega arith) keep.1
      (tail_held number place piece pieces has) first.1.1 in (
        (first.0, others.0),
        (
          others.1.0,
          at_same context check program items others.1.0 _ _ (tail_length number place piece pieces has) others.1.1,
        ),
      )

  -- after the chosen one nothing is due
  none_due : (n number : ℕ) (pieces : List (List Operation)) → chosen ≡ pos n → n < number
      → ChosenNeeds context check items chosen 0 number pieces
  none_due n number [] is past = tt
  none_due n number (piece ∷ pieces) is past = (
    (λ same. absurd (let one : n ≡ number = same_number n number (sym is ∙ same) in omega arith)),
    none_due n (number + 1) pieces is (omega arith),
  )

  pub enough : (pieces : List (List Operation)) (number place limit due least : ℕ) → number + length pieces < 2 ^ 63
      → AllKeep context check items pieces → ChosenNeeds context check items chosen due number pieces
      → HoldsAt program place (choices depth number place pieces)
      → SucceedsWith context check program (place + length (choices depth number place pieces)) items least
      → guards_need selector pieces + (due + least) ≤ limit
      → Succeeds context check program place items limit
  enough [] number place limit due least low keep needs has ends covers =
      at_same context check program items limit (place + 0) place (omega arith) (ends limit (omega arith))
  enough (piece ∷ pieces) number place limit due least low keep needs has ends covers =
      let on : SucceedsWith context check program (past depth number place piece
      + length (choices depth (number + 1) (past depth number place piece) pieces)) items least = λ left covers.
      at_same context check program items left _ _ (sym (tail_length number place piece pieces has))
      (ends left covers) in
      before_guard number place piece pieces has limit due (guards_need selector pieces + least) (omega arith) keep.0.0
      needs.0
      (λ left covers. enough pieces (number + 1) (past depth number place piece) left due least (omega arith) keep.1
      needs.1 (tail_held number place piece pieces has) on (omega arith))
      (λ is left covers. enough pieces (number + 1) (past depth number place piece) left 0 least (omega arith) keep.1
      (none_due number (number + 1) pieces is (omega arith)) (tail_held number place piece pieces has) on (omega arith))
      (omega arith)
