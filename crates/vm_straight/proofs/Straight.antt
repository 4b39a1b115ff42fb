-- Straight code in a program: success before it is success after it, and the other way where the limit covers what it
-- needs.
use Rattle.std.proofs.Common.{◌≡◌, ℕ, ◌+◌, ◌-◌, ◌<◌, ◌≤◌, List, [], ◌∷◌, ◌++◌, length, take, drop, refl, sym, ◌∙◌, ap}
use Rattle.std.proofs.Common.{subst, Option, Some, None, arith, append_assoc, length-append, inl, inr}
use Rattle.std.proofs.lemmas.Bool.{cases_lt}
use Rattle.std.proofs.lemmas.List.Sums.{sum_by-append, sum_by-cons}
use Rattle.keyed.specs.Functions.{Check}
use Rattle.vm_num.specs.Item.{Item, cost, total_cost}
use Rattle.vm_run.specs.declared.context.Context.{Context}
use Rattle.vm_run.specs.Effect.{Effect}
use Rattle.vm_run.specs.Row.{Row, Faults, Does, Calls}
use Rattle.vm_run.specs.Run.{Goes, row_move, move, popped_cost, pushed_cost, next_place}
use Rattle.vm_run.specs.Lines.{WorksOnData}
use Rattle.vm_run.specs.Moves.{short_of_base, short_of_price, covered, cost-split}
use Rattle.vm_straight.specs.Operations.{Operation, operation_bytes, bytes_of, AllFit, line, after_line, and_then}
use Rattle.vm_straight.specs.Operations.{stack_after, items_cost, needed_by, needed}
use Rattle.vm_straight.specs.Success.{HoldsAt, Succeeds, SucceedsWith, Reached}
use Rattle.vm_straight.specs.Known.{Known}
use Rattle.vm_straight.proofs.Places.{front_held, rest_held, held_inside}
use Rattle.vm_straight.proofs.Moves.{stopped, onward, from_next, works_on_data, line_move, inside}

-- ---- code after code

pub joined_bytes : (a b : List Operation) → bytes_of (a ++ b) ≡ bytes_of a ++ bytes_of b
joined_bytes [] b = refl
joined_bytes (o ∷ a) b =
    ap (λ bytes. operation_bytes o ++ bytes) (joined_bytes a b)
    ∙ sym (append_assoc (operation_bytes o) (bytes_of a) (bytes_of b))

pub same_cost : (items : List Item) → items_cost items ≡ total_cost items
same_cost [] = refl
same_cost (x ∷ items) = omega (arith, same_cost items, sum_by-cons cost x items)

module _ (context : Context) (check : Check) where
  pub joined_stacks : (a b : List Operation) (items : List Item)
      → stack_after context check (a ++ b) items
      ≡ and_then (stack_after context check a items) (stack_after context check b)
  joined_stacks [] b items = refl
  joined_stacks (o ∷ a) b items = by (after_line (line context check o items) items) (joined_stacks a b)
    where
      by : (found : Option (List Item))
          → ((rest : List Item) → stack_after context check (a ++ b) rest
          ≡ and_then (stack_after context check a rest) (stack_after context check b))
          → and_then found (stack_after context check (a ++ b))
          ≡ and_then (and_then found (stack_after context check a)) (stack_after context check b)
      by None ih = refl
      by (Some rest) ih = ih rest

  pub joined_needs : (left more : ℕ) (a b : List Operation) (items found : List Item)
      → stack_after context check a items ≡ Some found
      → needed context check left b found ≤ items_cost found + more
      → needed context check left (a ++ b) items ≤ needed context check more a items
  joined_needs left more [] b items found is rest =
      let same : items ≡ found = cc in
      subst (λ (s : List Item). needed context check left b s ≤ items_cost s + more) (sym same) rest
  joined_needs left more (o ∷ a) b items found is rest =
      by (line context check o items) is (λ s r. joined_needs left more a b s found r rest)
    where
      by : (row : Row) → and_then (after_line row items) (stack_after context check a) ≡ Some found
          → ((s : List Item) → stack_after context check a s ≡ Some found
          → needed context check left (a ++ b) s ≤ needed context check more a s)
          → needed_by row items (needed context check left (a ++ b)) ≤ needed_by row items (needed context check more a)
      by (Faults kind) r ih = cc
      by (Does e) r ih = omega (arith, ih (e.pushed ++ drop e.pops items) r)
      by (Calls program asked count) r ih = cc

  pub held_needed : (left : ℕ) (code : List Operation) (items : List Item)
      → items_cost items ≤ needed context check left code items
  held_needed left [] items = omega arith
  held_needed left (o ∷ code) items = by (line context check o items)
    where
      by : (row : Row) → items_cost items ≤ needed_by row items (needed context check left code)
      by (Faults kind) = omega arith
      by (Does e) = omega arith
      by (Calls program asked count) = omega arith

-- ---- an effect on the data stack alone

-- what is left of the limit after it, and the stack then
abbrev left_of : Effect → List Item → ℕ → ℕ
left_of e items limit = limit - e.base + popped_cost e items [] - pushed_cost e

abbrev stack_of : Effect → List Item → List Item
stack_of e items = e.pushed ++ drop e.pops items

costs_of : (e : Effect) (items : List Item) → WorksOnData (Does e)
    → items_cost (stack_of e items) + popped_cost e items [] ≡ items_cost items + pushed_cost e
costs_of e items works =
    let split = cost-split e.pops items in
    let joined : total_cost (stack_of e items) ≡ total_cost e.pushed + total_cost (drop e.pops items) =
    sum_by-append cost e.pushed (drop e.pops items) in
    let none_popped : total_cost (take e.alt_pops []) ≡ 0 = ap (λ n. total_cost (take n [])) works.0 in
    let none_pushed : total_cost e.alt_pushed ≡ 0 = ap total_cost works.1 in
    omega (arith, same_cost (stack_of e items), same_cost items)

goes_by : (at limit : ℕ) (e : Effect) (items : List Item) → WorksOnData (Does e) → e.base ≤ limit
    → pushed_cost e ≤ limit - e.base + popped_cost e items []
    → row_move at items [] limit (Does e) ≡ Goes at (stack_of e items) [] (left_of e items limit) e.base
goes_by at limit e items works covers enough =
    covered at limit items [] e covers enough
    ∙ ap (λ n. Goes n (stack_of e items) (e.alt_pushed ++ drop e.alt_pops []) (left_of e items limit) e.base)
    (ap (next_place at) works.2)
    ∙ ap (λ l. Goes at (stack_of e items) (l ++ drop e.alt_pops []) (left_of e items limit) e.base) works.1
    ∙ ap (λ n. Goes at (stack_of e items) ([] ++ drop n []) (left_of e items limit) e.base) works.0

left_held : (limit : ℕ) (e : Effect) (items : List Item) → WorksOnData (Does e) → e.base ≤ limit
    → pushed_cost e ≤ limit - e.base + popped_cost e items []
    → left_of e items limit + items_cost (stack_of e items) + e.base ≡ limit + items_cost items
left_held limit e items works covers enough = omega (arith, costs_of e items works)

module _ (known : Known) (context : Context) (check : Check) (program : List ℕ) where
  -- ---- success before the code: its end is reached, with success from there

  by_line : (code : List Operation) (at next limit : ℕ) (items : List Item) (row : Row) → at < length program
      → next ≤ length program → WorksOnData row
      → move context check program at items [] limit ≡ row_move next items [] limit row
      → ((stack : List Item) (left : ℕ) → Succeeds context check program next stack left
      → Reached context check program (next + length (bytes_of code)) (stack_after context check code stack))
      → Succeeds context check program at items limit
      → Reached context check program (next + length (bytes_of code))
      (and_then (after_line row items) (stack_after context check code))
  by_line code at next limit items (Faults kind) begins ends works moves rest s =
      absurd (stopped known context check program at items limit kind begins moves s)
  by_line code at next limit items (Does e) begins ends works moves rest s = elim (cases_lt limit e.base) [
    | inl short ↦ absurd (stopped known context check program at items limit _ begins
        (moves ∙ short_of_base next limit items [] e short) s)
    | inr covers ↦ elim (cases_lt (limit + popped_cost e items []) (e.base + pushed_cost e)) [
      | inl short ↦ absurd (stopped known context check program at items limit _ begins
          (moves ∙ short_of_price next limit items [] e covers short) s)
      | inr enough ↦ rest (stack_of e items) (left_of e items limit) (onward known context check program at items limit
          next (left_of e items limit) e.base (stack_of e items) begins ends
          (moves ∙ goes_by next limit e items works covers (omega arith)) s)
    ]
  ]
  by_line code at next limit items (Calls asked n count) begins ends works moves rest s = absurd works

  pub reached : (code : List Operation) (at : ℕ) (items : List Item) (limit : ℕ) → AllFit code
      → HoldsAt program at (bytes_of code)
      → Succeeds context check program at items limit
      → Reached context check program (at + length (bytes_of code)) (stack_after context check code items)
  reached [] at items limit fit h s = record {
    items = items;
    left = limit;
    is = refl;
    rest = subst (λ (n : ℕ). Succeeds context check program n items limit) (let e : at ≡ at + 0 = omega arith in e) s;
  }
  reached (o ∷ code) at items limit fit h s =
      let first = front_held (operation_bytes o) (bytes_of code) h in
      let others = rest_held (operation_bytes o) (bytes_of code) h in
      let next = at + length (operation_bytes o) in
      let r = by_line code at next limit items (line context check o items)
      (inside known context check program at o first fit.0) (held_inside (operation_bytes o) first)
      (works_on_data known context check o items fit.0)
      (line_move known context check program at o items limit first fit.0)
      (λ stack left. reached code next stack left fit.1 others) s in
      let same : next + length (bytes_of code) ≡ at + length (bytes_of (o ∷ code)) =
      omega (arith, length-append (operation_bytes o) (bytes_of code)) in
      record {
        items = r.items;
        left = r.left;
        is = r.is;
        rest = subst (λ (n : ℕ). Succeeds context check program n r.items r.left) same r.rest;
      }

  -- ---- the other way: success from the end is success before the code, where the limit covers what it needs

  on_line : (code : List Operation) (least at next limit : ℕ) (items found : List Item) (row : Row)
      → at < length program → WorksOnData row
      → move context check program at items [] limit ≡ row_move next items [] limit row
      → and_then (after_line row items) (stack_after context check code) ≡ Some found
      → needed_by row items (needed context check least code) ≤ limit + items_cost items
      → ((items : List Item) (limit : ℕ) → stack_after context check code items ≡ Some found
      → needed context check least code items ≤ limit + items_cost items
      → Succeeds context check program next items limit)
      → Succeeds context check program at items limit
  on_line code least at next limit items found (Faults kind) begins works moves is covers rest = cc
  on_line code least at next limit items found (Does e) begins works moves is covers rest =
      let held = held_needed context check least code (stack_of e items) in
      let base : e.base ≤ limit = omega arith in
      let price = costs_of e items works in
      let enough : pushed_cost e ≤ limit - e.base + popped_cost e items [] = omega arith in
      let paid = left_held limit e items works base enough in
      from_next known context check program at items limit next (left_of e items limit) e.base (stack_of e items) begins
      (moves ∙ goes_by next limit e items works base enough)
      (rest (stack_of e items) (left_of e items limit) is (omega arith))
  on_line code least at next limit items found (Calls asked n count) begins works moves is covers rest = absurd works

  pub carried : (code : List Operation) (least at : ℕ) (items found : List Item) (limit : ℕ) → AllFit code
      → HoldsAt program at (bytes_of code)
      → stack_after context check code items ≡ Some found
      → needed context check least code items ≤ limit + items_cost items
      → SucceedsWith context check program (at + length (bytes_of code)) found least
      → Succeeds context check program at items limit
  carried [] least at items found limit fit h is covers ends =
      let same : items ≡ found = cc in
      let e : at + 0 ≡ at = omega arith in
      subst (λ (n : ℕ). Succeeds context check program n items limit) e
      (subst (λ (s : List Item). Succeeds context check program (at + 0) s limit) (sym same) (ends limit (omega arith)))
  carried (o ∷ code) least at items found limit fit h is covers ends =
      let first = front_held (operation_bytes o) (bytes_of code) h in
      let others = rest_held (operation_bytes o) (bytes_of code) h in
      let next = at + length (operation_bytes o) in
      let same : at + length (bytes_of (o ∷ code)) ≡ next + length (bytes_of code) =
      omega (arith, length-append (operation_bytes o) (bytes_of code)) in
      on_line code least at next limit items found (line context check o items)
      (inside known context check program at o first fit.0) (works_on_data known context check o items fit.0)
      (line_move known context check program at o items limit first fit.0) is covers
      (λ items' limit' is' covers'. carried code least next items' found limit' fit.1 others is' covers'
      (subst (λ (n : ℕ). SucceedsWith context check program n found least) same ends))
