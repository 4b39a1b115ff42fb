-- What PICK and NUMNOTEQUAL give, and what they need.
use Rattle.std.proofs.Common.{◌≡◌, ℕ, ◌+◌, ◌<◌, ◌≤◌, ◌^◌, Bool, true, false, not, List, [], ◌∷◌, length, take}
use Rattle.std.proofs.Common.{drop, get_or, refl, sym, ◌∙◌, ap, Option, Some, arith, max, ℤ, pos}
use Rattle.std.specs.Ordering.{int_eq}
use Rattle.std.proofs.lemmas.Bool.{lt-ltb}
use Rattle.std.proofs.lemmas.Bool.Decides.{Decides-int_eq}
use Rattle.std.proofs.lemmas.List.{drop_more}
use Rattle.keyed.specs.Functions.{Check}
use Rattle.vm_num.specs.Item.{Item, num, num_bytes}
use Rattle.vm_ops.specs.Results.{truth_item}
use Rattle.vm_ops.specs.Numbers.{comparison_result}
use Rattle.vm_run.specs.declared.context.Context.{Context}
use Rattle.vm_run.specs.Effect.{with_number, counted}
use Rattle.vm_run.specs.Row.{row}
use Rattle.vm_run.specs.Moving.{pick_row, stack_rule}
use Rattle.vm_run.specs.Making.{number_row, number_rule}
use Rattle.vm_straight.specs.Operations.{PushNumber, Plain, AllFit, after_line, and_then, stack_after}
use Rattle.vm_straight.specs.Operations.{items_cost, needed_by, needed}
use Rattle.vm_straight.specs.Choice.{fetch, guard, HasNumberAt}
use Rattle.vm_straight.specs.Known.{Known}
use Rattle.vm_straight.proofs.Straight.{joined_stacks, joined_needs}

picked : (n : ℕ) (items : List Item) → n < length items → take 1 (drop n items) ≡ get_or items n [] ∷ []
picked n items within = ap (take 1) (drop_more items n [] within)

pub truth_length : (b : Bool) → length (truth_item b) ≤ 1
truth_length true = omega arith
truth_length false = omega arith

module _ (known : Known) where
  pub number_read : (n : ℕ) → n < 2 ^ 63 → num (num_bytes (pos n)) ≡ Some (pos n)
  number_read n small = known.number_back (pos n) (record { sfits = small })

  module _ (context : Context) (check : Check) where
    pub fetched : (n : ℕ) (items : List Item) → n < length items → n < 2 ^ 63
        → stack_after context check (fetch n) items ≡ Some (get_or items n [] ∷ items)
    unfolding row stack_rule
    fetched n items within small = by (num (num_bytes (pos n))) (number_read n small)
      where
        by : (o : Option ℤ) → o ≡ Some (pos n)
            → and_then (after_line (with_number (counted (λ k. pick_row k items)) o) (num_bytes (pos n) ∷ items))
            (stack_after context check []) ≡ Some (get_or items n [] ∷ items)
        by o e = rw (e, lt-ltb n (length items) within, picked n items within) refl

    pub fetch_needs : (left n : ℕ) (items : List Item) → n < length items → n < 2 ^ 63
        → needed context check left (fetch n) items ≤ items_cost items + (19 + length (get_or items n []) + left)
    unfolding row stack_rule
    fetch_needs left n items within small = by (num (num_bytes (pos n))) (number_read n small)
      where
        by : (o : Option ℤ) → o ≡ Some (pos n)
            → 1 + max (items_cost items) (needed_by (with_number (counted (λ k. pick_row k items)) o)
            (num_bytes (pos n) ∷ items) (λ s. items_cost s + left))
            ≤ items_cost items + (19 + length (get_or items n []) + left)
        by o e = rw (e, lt-ltb n (length items) within, picked n items within)
            (omega (arith, known.number_short (pos n)))

    -- ---- a guard

    module _ (items : List Item) (depth : ℕ) (chosen : ℤ) (selects : HasNumberAt items depth chosen) where
      abbrev pub other : ℕ → Bool
      other number = not (int_eq chosen (pos number))

      abbrev selector : Item
      selector = get_or items depth []

      -- the item of a comparison for another number
      pub guard_gives : (number : ℕ) → number < 2 ^ 63
          → stack_after context check (guard depth number) items ≡ Some (truth_item (other number) ∷ items)
      unfolding row number_rule comparison_result
      guard_gives number low =
          joined_stacks context check (fetch depth) (PushNumber (pos number) ∷ Plain 0x9e ∷ []) items
          ∙ ap (λ o. and_then o (stack_after context check (PushNumber (pos number) ∷ Plain 0x9e ∷ [])))
          (fetched depth items selects.within selects.small)
          ∙ by (num selector) (num (num_bytes (pos number))) selects.is (number_read number low)
        where
          by : (a b : Option ℤ) → a ≡ Some chosen → b ≡ Some (pos number)
              → and_then (after_line (with_number (λ x. with_number (λ y.
              number_row 0x9e 2 (comparison_result 0x9e x y (pos 0))) b) a) (num_bytes (pos number) ∷ selector ∷ items))
              (stack_after context check []) ≡ Some (truth_item (not (int_eq chosen (pos number))) ∷ items)
          by a b e f = rw (e, f) refl

      pub guard_needs : (number left : ℕ) → number < 2 ^ 63
          → needed context check left (guard depth number) items ≤ items_cost items + (38 + length selector + left)
      unfolding row number_rule comparison_result
      guard_needs number left low =
          omega (
            arith,
            joined_needs context check left (19 + left) (fetch depth) (PushNumber (pos number) ∷ Plain 0x9e ∷ []) items
                (selector ∷ items) (fetched depth items selects.within selects.small)
                (by (num selector) (num (num_bytes (pos number))) selects.is (number_read number low)),
            fetch_needs (19 + left) depth items selects.within selects.small,
          )
        where
          by : (a b : Option ℤ) → a ≡ Some chosen → b ≡ Some (pos number)
              → 1 + max (items_cost (selector ∷ items)) (needed_by (with_number (λ x. with_number (λ y.
              number_row 0x9e 2 (comparison_result 0x9e x y (pos 0))) b) a) (num_bytes (pos number) ∷ selector ∷ items)
              (λ s. items_cost s + left)) ≤ items_cost (selector ∷ items) + (19 + left)
          by a b e f = rw (e, f) (omega (
            arith,
            known.number_short (pos number),
            truth_length (not (int_eq chosen (pos number))),
          ))

pub guard_fits : (depth number : ℕ) → AllFit (guard depth number)
guard_fits depth number = (tt, ((refl, refl), (tt, ((refl, refl), tt))))

-- ---- whether numbers are equal

pub not_other : (a b : ℤ) → not (int_eq a b) ≡ true → a ≡ b → ⊥
not_other a b holds same =
    let e : int_eq a b ≡ true = (Decides-int_eq a b).1 same in
    let wrong : not true ≡ true = sym (ap not e) ∙ holds in
    cc

equal_by : (b : Bool) → not b ≡ false → b ≡ true
equal_by true e = refl
equal_by false e = cc

pub equal_then : (a b : ℤ) → not (int_eq a b) ≡ false → a ≡ b
equal_then a b e = (Decides-int_eq a b).0 (equal_by (int_eq a b) e)

pub same_number : (a b : ℕ) → pos a ≡ pos b → a ≡ b
same_number a b e = cc
