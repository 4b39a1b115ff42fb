-- Every run has an outcome, and every program a verdict.
use Rattle.std.proofs.Common.{◌≡◌, ℕ, zero, suc, ◌+◌, ◌-◌, ◌<◌, ◌≤◌, List, [], length, reverse, refl, sym, ◌∙◌, ap, inl, inr, arith}
use Rattle.std.proofs.lemmas.Bool.{cases_lt}
use Rattle.vm_num.specs.Item.{Item, total_cost}
use Rattle.vm_run.specs.Row.{Context}
use Rattle.keyed.specs.Functions.{Check}
use Rattle.vm_run.specs.Run.{Outcome, Ended, FailedAt, later, count_of, Child, Move, Stops, Goes, Opens, move, spent_in, lost_in, with_result, left_behind, Run, at_end, fails, goes_on, opens}
use Rattle.vm_run.specs.Stretch.{RunIn}
use Rattle.vm_num.specs.declared.failure.Failure.TheVariants.{RunLimit}
use Rattle.vm_run.specs.declared.verdict.Verdict.{Verdict}
use Rattle.vm_run.specs.declared.verdict.Verdict.TheVariants.{Failed}
use Rattle.vm_run.specs.Verdict.{verdict_of, HasVerdict, not_covered, covered}
use Rattle.vm_stack.specs.Stacks.{Stacks}
use Rattle.vm_run.specs.declared.machine.Machine.{Machine}
use Rattle.vm_run.specs.declared.run.End.{End}
use Rattle.vm_run.specs.declared.run.End.TheVariants as ends
use Rattle.vm_run.specs.Ends.{Ends, VerdictOf, VerdictFrom}
use Rattle.std.proofs.Common.{subst, Result, Ok, Err, IfOk}
use Rattle.vm_run.proofs.Runs as runs
use Rattle.vm_run.proofs.Runs.{Keeps, move-keeps, balanced, of_child, behind-child}

module _ (context : Context) (check : Check) where
  -- from a place of a program, with these items and this limit left
  abbrev Some : List ℕ → ℕ → List Item → List Item → ℕ → Type 0
  Some program place items alt limit = (outcome : Outcome) × Run context check program place items alt limit outcome

  -- from every place of every program, where the limit and the items come to less than n together
  abbrev Below : ℕ → Type 0
  Below n = (program : List ℕ) (place : ℕ) (items alt : List Item) (limit : ℕ) → place ≤ length program → limit + (total_cost items + total_cost alt) < n → Some program place items alt limit

  through_child : {program : List ℕ} {place : ℕ} {items alt : List Item} {limit : ℕ} {child : Child} {next : ℕ} {items' alt' : List Item} {left : ℕ} → place < length program → move context check program place items alt limit ≡ Opens child next items' alt' left → (inner : (o : Outcome) × RunIn context check child o) → Some program next (with_result inner.0 items') alt' (left_behind inner.0 left) → Some program place items alt limit
  through_child {child = child} before is inner rest =
      (later (count_of inner.0 + 1) (spent_in inner.0 + 64) (lost_in child inner.0) rest.0, opens before is inner.1 rest.1 refl)

  from_move : (n : ℕ) (program : List ℕ) (place : ℕ) (items alt : List Item) (limit : ℕ) → Below n → place < length program → limit + (total_cost items + total_cost alt) < suc n → (m : Move) → move context check program place items alt limit ≡ m → Keeps (length program) items alt limit m → Some program place items alt limit
  from_move n program place items alt limit below before less (Stops kind) is keeps = (FailedAt kind place 0, fails before is)
  from_move n program place items alt limit below before less (Goes next items' alt' left base) is keeps =
      let rest = below program next items' alt' left keeps.2 (omega (arith, keeps.0, keeps.1)) in
      (later 1 base 0 rest.0, goes_on before is rest.1 refl)
  from_move n program place items alt limit below before less (Opens child next items' alt' left) is keeps =
      let inner = below child.program 0 child.items [] child.limit (omega arith) (omega (arith, keeps.0)) in
      let sums = behind-child (length program) items alt limit child next items' alt' left inner.0 keeps (of_child child inner.0 (balanced inner.1)) in
      let rest = below program next (with_result inner.0 items') alt' (left_behind inner.0 left) keeps.2 (omega (arith, sums.0)) in
      through_child before is inner rest

  below_all : (n : ℕ) → Below n
  below_all zero program place items alt limit within less = absurd (omega arith)
  below_all (suc n) program place items alt limit within less = elim (cases_lt place (length program)) [
    | inl before ↦ from_move n program place items alt limit (below_all n) before less _ refl (move-keeps context check program place items alt limit)
    | inr end ↦ (Ended limit items alt 0 0 0, at_end (omega arith))
  ]

  pub some_outcome : (program : List ℕ) (place : ℕ) (items alt : List Item) (limit : ℕ) → place ≤ length program → Some program place items alt limit
  some_outcome program place items alt limit within = below_all (suc (limit + (total_cost items + total_cost alt))) program place items alt limit within (omega arith)

module _ (context : Context) (check : Check) (program : List ℕ) where
  pub some_verdict : (args : List Item) (limit : ℕ) → (verdict : Verdict) × HasVerdict context check program args limit verdict
  some_verdict args limit = elim (cases_lt limit (total_cost args)) [
    | inl short ↦ (Failed RunLimit 0, not_covered short refl)
    | inr covers ↦ let run = some_outcome context check program 0 (reverse args) [] (limit - total_cost args) (omega arith) in (verdict_of (length program) run.0, covered covers (run.0, run.1, refl))
  ]

  pub one_verdict : (args : List Item) (limit : ℕ) (a b : Verdict) → HasVerdict context check program args limit a → HasVerdict context check program args limit b → a ≡ b
  one_verdict args limit a b (not_covered short is) (not_covered again same) = is ∙ sym same
  one_verdict args limit a b (not_covered short is) (covered covers run) = absurd (omega arith)
  one_verdict args limit a b (covered covers run) (not_covered short is) = absurd (omega arith)
  one_verdict args limit a b (covered covers run) (covered again other) = run.2 ∙ ap (verdict_of (length program)) (runs.one_outcome run.1 other.1) ∙ sym other.2

-- ---- the verdict on a program and its arguments

pub verdict_on : (context : Context) (check : Check) (program : List ℕ) (args : List Item) (limit left : ℕ) (verdict : Verdict) → total_cost args ≤ limit → left ≡ limit - total_cost args → VerdictFrom context check program (reverse args) left verdict → HasVerdict context check program args limit verdict
verdict_on context check program args limit left verdict covers rest says =
    covered covers (subst (λ (n : ℕ). VerdictFrom context check program (reverse args) n verdict) rest says)

pub for_ok : {T E : Type 0} {P Q : T → Type 0} (r : Result T E) → ((x : T) → P x → Q x) → IfOk r P → IfOk r Q
for_ok (Ok x) each p = each x p
for_ok (Err e) each p = tt

pub from_run : (context : Context) (check : Check) (program : List ℕ) (items : List Item) (left : ℕ) (s : Stacks) (m : Machine) (end : End) (verdict : Verdict) → s ≡ record { items = items; alt = [] } → Ends context check program (record { stack = s; left = left; at = 0 }) end m → VerdictOf (length program) end m verdict → VerdictFrom context check program items left verdict
from_run context check program items left s m ends.Ended verdict piled run says =
    let o = Ended m.left m.stack.items m.stack.alt run.0 run.1 run.2 in
    (o, subst (λ (t : Stacks). Run context check program 0 t.items t.alt left o) piled run.3, says run.0 run.1 run.2)
from_run context check program items left s m (ends.Failed kind at) verdict piled run says =
    let o = FailedAt kind at run.0 in
    (o, subst (λ (t : Stacks). Run context check program 0 t.items t.alt left o) piled run.1, says run.0)
