-- The wrapped form: its pushes, then the body on all items in a predicate; and verdicts on it.
use Rattle.std.proofs.Common.{◌≡◌, ℕ, ◌+◌, ◌-◌, ◌*◌, ◌<◌, ◌≤◌, ◌^◌, Bool, true, false, cond, List, [], ◌∷◌, ◌++◌, length, take}
use Rattle.std.proofs.Common.{reverse, refl, sym, ◌∙◌, ap, subst, Option, Some, Ok, arith, append_assoc, length-append}
use Rattle.std.proofs.Common.{inl, inr, ℤ, pos}
use Rattle.std.specs.List.{AllByRecursion}
use Rattle.std.proofs.lemmas.Bool.{cases_lt, le-leb}
use Rattle.std.proofs.lemmas.List.{take_all, drop_all, length-reverse}
use Rattle.keyed.specs.Functions.{Check}
use Rattle.vm_num.specs.Item.{Item, num, num_bytes, total_cost}
use Rattle.vm_num.specs.declared.failure.Failure.TheVariants.{FalseResult}
use Rattle.vm_code.specs.Instruction.{instruction_at, plain}
use Rattle.vm_ops.specs.Results.{truth_item}
use Rattle.vm_run.specs.declared.context.Context.{Context}
use Rattle.vm_run.specs.declared.verdict.Verdict.TheVariants.{Succeeded, Failed}
use Rattle.vm_run.specs.Effect.{with_number}
use Rattle.vm_run.specs.Row.{Calls, row}
use Rattle.vm_run.specs.Moving.{stack_rule}
use Rattle.vm_run.specs.Making.{call_row, high_rule}
use Rattle.vm_run.specs.Run.{Outcome, Ended, FailedAt, later, Opens, row_move, move, is_good, top_is_true, count_of}
use Rattle.vm_run.specs.Run.{spent_in, lost_in, left_behind, Run, at_end, opens, opened}
use Rattle.vm_run.specs.Moves.{move-read, short_of_opening, opening}
use Rattle.vm_run.specs.Verdict.{verdict_of, HasVerdict, not_covered, covered}
use Rattle.vm_straight.specs.Operations.{Operation, Push, Plain, bytes_of, AllFit, stack_after, items_cost, needed}
use Rattle.vm_straight.specs.Success.{HoldsAt, Succeeds, SucceedsWith}
use Rattle.vm_straight.specs.Wrapped.{pushes, before_call, wrapped, pushes_need}
use Rattle.vm_straight.specs.WrappedLaws.{CanWrap}
use Rattle.vm_straight.specs.Known.{Known}
use Rattle.vm_straight.proofs.Places.{all_held, front_held, rest_held}
use Rattle.vm_straight.proofs.Moves.{stopped}
use Rattle.vm_straight.proofs.Straight.{same_cost, reached, carried}
use Rattle.vm_straight.proofs.Numbers.{number_read}
use Rattle.vm_straight.proofs.Choices.{same_items}

-- the items after the pushes: the limit that is asked for, the body, how many items there are, and these
abbrev called : Item → ℕ → List Item → List Item
called body n items = [] ∷ body ∷ num_bytes (pos n) ∷ items

joined_fit : (a b : List Operation) → AllFit a → AllFit b → AllFit (a ++ b)
joined_fit [] b p q = q
joined_fit (o ∷ a) b p q = (p.0, joined_fit a b p.1 q)

pushes_fit : (held : List Item) → AllByRecursion (λ item. length item < 2 ^ 32) held → AllFit (pushes held)
pushes_fit [] s = tt
pushes_fit (x ∷ held) s = joined_fit (pushes held) (Push x ∷ []) (pushes_fit held s.1) (s.0, tt)

zero_read : num [] ≡ Some (pos 0)
unfolding num
zero_read = refl

module _ (known : Known) (context : Context) (check : Check) where
  -- ---- CHECKPREDICATE on all items, with all of the limit

  all_called : (body : Item) (n : ℕ) (items : List Item) → n ≡ length items → n < 2 ^ 63 → (size : ℕ)
      → row context check (plain 0xc0) size (called body n items) [] ≡ Calls body 0 n
  unfolding row high_rule
  all_called body n items is small size = by (num (num_bytes (pos n))) (num []) (number_read known n small) zero_read
    where
      by : (count asked : Option ℤ) → count ≡ Some (pos n) → asked ≡ Some (pos 0)
          → with_number (λ k. with_number (call_row items k body) asked) count ≡ Calls body 0 n
      by count asked e f = rw (e, f, le-leb n (length items) (omega arith)) refl

  module _ (program body : List ℕ) (at n : ℕ) (items : List Item) (has : HoldsAt program at (0xc0 ∷ []))
      (ends : at + 1 ≡ length program) (is : n ≡ length items) (small : n < 2 ^ 63) where
    abbrev stack : List Item
    stack = called body n items

    read : instruction_at program at ≡ Ok (plain 0xc0)
    read =
        subst (λ (p : List ℕ). instruction_at p at ≡ Ok (plain 0xc0)) (sym has.is)
        (subst (λ (k : ℕ). instruction_at (has.before ++ (0xc0 ∷ []) ++ has.after) k ≡ Ok (plain 0xc0)) has.place
        (known.code_reads 0xc0 has.before has.after refl))

    moves : (limit : ℕ) → move context check program at stack [] limit ≡ opened (at + 1) stack [] limit body 0 n
    moves limit =
        move-read context check program at stack [] limit (Ok (plain 0xc0)) read
        ∙ ap (row_move (at + 1) stack [] limit) (all_called body n items is small (length program))

    child_moves : (limit : ℕ) → 256 ≤ limit
        → move context check program at stack [] limit
        ≡ Opens (record { program = body; items = items; limit = limit - 256 }) (at + 1) [] []
        (limit - 256 - (limit - 256) + 192 + total_cost (take 3 stack))
    child_moves limit covers =
        moves limit ∙ opening (at + 1) limit stack [] body 0 n covers (omega arith)
        ∙ rw (take_all n items (omega arith), drop_all n items (omega arith)) refl

    begins : at < length program
    begins = omega arith

    -- the run of the whole, by that of the body
    whole : (limit : ℕ) → 256 ≤ limit → (inner : Outcome)
        → Run context check body 0 items [] (limit - 256) inner
        → (o : Outcome) × Run context check program at stack [] limit o × (is_good o ≡ is_good inner)
    whole limit covers inner child =
        let behind = limit - 256 - (limit - 256) + 192 + total_cost (take 3 stack) in
        let last = left_behind inner behind in
        let o = Ended last (truth_item (is_good inner) ∷ []) [] 0 0 0 in (
          later (count_of inner + 1) (spent_in inner + 64)
              (lost_in (record { program = body; items = items; limit = limit - 256 }) inner) o,
          opens begins (child_moves limit covers) child (at_end ends) refl,
          known.truth_back (is_good inner),
        )

    in_body : (limit : ℕ) → Succeeds context check program at stack limit
        → (256 ≤ limit) × Succeeds context check body 0 items (limit - 256)
    in_body limit s = elim (cases_lt limit 256) [
      | inl short ↦ absurd (stopped known context check program at stack limit _ begins
          (moves limit ∙ short_of_opening (at + 1) limit stack [] body 0 n short) s)
      | inr covers ↦
          let inner = known.some_outcome context check body 0 items [] (limit - 256) (omega arith) in
          let all = whole limit covers inner.0 inner.1 in
          let same : s.outcome ≡ all.0 =
          known.one_outcome context check program at stack [] limit s.outcome all.0 s.runs all.1 in (
            covers,
            record {
              outcome = inner.0;
              runs = inner.1;
              good = sym all.2 ∙ sym (ap is_good same) ∙ s.good;
            },
          )
    ]

    of_body : (limit : ℕ) → 256 ≤ limit → Succeeds context check body 0 items (limit - 256)
        → Succeeds context check program at stack limit
    of_body limit covers s =
        let all = whole limit covers s.outcome s.runs in
        record { outcome = all.0; runs = all.1; good = all.2 ∙ s.good }

  -- ---- the pushes

  pushed_on : (held : List Item) (code : List Operation) (items : List Item)
      → stack_after context check (pushes held ++ code) items ≡ stack_after context check code (held ++ items)
  pushed_on [] code items = refl
  pushed_on (x ∷ held) code items =
      ap (λ c. stack_after context check c items) (append_assoc (pushes held) (Push x ∷ []) code)
      ∙ pushed_on held (Push x ∷ code) items

  pushes_needed : (held : List Item) (code : List Operation) (items : List Item) (left more : ℕ)
      → needed context check left code (held ++ items) ≤ items_cost (held ++ items) + more
      → needed context check left (pushes held ++ code) items ≤ items_cost items + (pushes_need held + more)
  pushes_needed [] code items left more within = omega arith
  pushes_needed (x ∷ held) code items left more within =
      let one : needed context check left (Push x ∷ code) (held ++ items)
      ≤ items_cost (held ++ items) + (9 + length x + more) = omega arith in
      let rest = pushes_needed held (Push x ∷ code) items left (9 + length x + more) one in
      subst (λ (c : List Operation). needed context check left c items
      ≤ items_cost items + (9 + length x + pushes_need held + more))
      (sym (append_assoc (pushes held) (Push x ∷ []) code)) (omega arith)

  module _ (body : List ℕ) (held given : List Item) (can : CanWrap body held)
      (few : length (held ++ reverse given) < 2 ^ 63) where
    abbrev all : List Item
    all = held ++ reverse given

    before_gives : stack_after context check (before_call body held) (reverse given) ≡ Some (called body (length all) all)
    unfolding row stack_rule
    before_gives = pushed_on held (Plain 0x74 ∷ Push body ∷ Push [] ∷ []) (reverse given)

    before_fits : AllFit (before_call body held)
    before_fits = joined_fit (pushes held) _ (pushes_fit held can.held_fit)
        ((refl, refl), (can.body_fits, ((let e : 0 < 2 ^ 32 = omega arith in e), tt)))

    before_stands : HoldsAt (wrapped body held) 0 (bytes_of (before_call body held))
    unfolding wrapped
    before_stands = front_held _ (0xc0 ∷ []) (all_held _)

    call_stands : HoldsAt (wrapped body held) (0 + length (bytes_of (before_call body held))) (0xc0 ∷ [])
    unfolding wrapped
    call_stands = rest_held (bytes_of (before_call body held)) (0xc0 ∷ []) (all_held _)

    call_last : 0 + length (bytes_of (before_call body held)) + 1 ≡ length (wrapped body held)
    unfolding wrapped
    call_last = simp length-append (omega arith)

    last_needs : (least : ℕ)
        → needed context check (256 + least) (Plain 0x74 ∷ Push body ∷ Push [] ∷ []) all
        ≤ items_cost all + (291 + length body + least)
    unfolding row stack_rule
    last_needs least = omega (arith, known.number_short (pos (length all)))

    inward : (limit : ℕ) → Succeeds context check (wrapped body held) 0 (reverse given) limit
        → (left : ℕ) × Succeeds context check body 0 all left
    inward limit s =
        let r = reached known context check (wrapped body held) (before_call body held) 0 (reverse given) limit before_fits
        before_stands s in
        let same : r.items ≡ called body (length all) all = same_items _ _ (sym r.is ∙ before_gives) in
        let there = subst (λ (stack : List Item). Succeeds context check (wrapped body held)
        (0 + length (bytes_of (before_call body held))) stack r.left) same r.rest in
        (r.left - 256, (in_body (wrapped body held) body _ _ all call_stands call_last refl few r.left there).1)

    outward : (least limit : ℕ) → SucceedsWith context check body 0 all least
        → pushes_need held + (291 + length body + least) ≤ limit
        → Succeeds context check (wrapped body held) 0 (reverse given) limit
    outward least limit inner covers =
        let needs = pushes_needed held (Plain 0x74 ∷ Push body ∷ Push [] ∷ []) (reverse given) (256 + least)
        (291 + length body + least) (last_needs least) in
        carried known context check (wrapped body held) (before_call body held) (256 + least) 0 (reverse given) _ limit
        before_fits before_stands before_gives (omega arith)
        (λ left enough. of_body (wrapped body held) body _ _ all call_stands call_last refl few left (omega arith)
        (inner (left - 256) (omega arith)))

-- ---- verdicts

good_ended : (b : Bool) (left l size : ℕ) → Succeeded left ≡ cond b (Succeeded l) (Failed FalseResult size) → b ≡ true
good_ended true left l size e = refl
good_ended false left l size e = cc

ended_good : (b : Bool) (l size : ℕ) → b ≡ true → cond b (Succeeded l) (Failed FalseResult size) ≡ Succeeded l
ended_good b l size e = rw e refl

good_of : (size left : ℕ) (o : Outcome) → Succeeded left ≡ verdict_of size o → is_good o ≡ true
good_of size left (Ended l items alt count spent lost) e = good_ended (top_is_true items) left l size e
good_of size left (FailedAt kind place count) e = cc

abbrev left_in : Outcome → ℕ
left_in (Ended left items alt count spent lost) = left
left_in (FailedAt kind place count) = 0

verdict_good : (size : ℕ) (o : Outcome) → is_good o ≡ true → Succeeded (left_in o) ≡ verdict_of size o
verdict_good size (Ended l items alt count spent lost) e = sym (ended_good (top_is_true items) l size e)
verdict_good size (FailedAt kind place count) e = cc

module _ (context : Context) (check : Check) (program : List ℕ) (given : List Item) (limit : ℕ) where
  from_verdict : (left : ℕ) → HasVerdict context check program given limit (Succeeded left)
      → (total_cost given ≤ limit) × Succeeds context check program 0 (reverse given) (limit - total_cost given)
  from_verdict left (not_covered short e) = cc
  from_verdict left (covered covers r) =
      (covers, record { outcome = r.0; runs = r.1; good = good_of _ left r.0 r.2 })

  to_verdict : total_cost given ≤ limit
      → Succeeds context check program 0 (reverse given) (limit - total_cost given)
      → (left : ℕ) × HasVerdict context check program given limit (Succeeded left)
  to_verdict covers s = (
    left_in s.outcome,
    covered covers (s.outcome, s.runs, verdict_good (length program) s.outcome s.good),
  )

-- arguments that a limit covers are few
eighth_given : (given : List Item) → 8 * length given ≤ items_cost given
eighth_given [] = omega arith
eighth_given (x ∷ given) = omega (arith, eighth_given given)

few_in_all : (body : List ℕ) (held given : List Item) (limit : ℕ) → CanWrap body held → limit < 2 ^ 63
    → total_cost given ≤ limit → length (held ++ reverse given) < 2 ^ 63
few_in_all body held given limit can small covers =
    let parts : length (held ++ reverse given) ≡ length held + length given =
    length-append held (reverse given) ∙ ap (λ n. length held + n) (length-reverse given) in
    omega (arith, parts, can.few, eighth_given given, same_cost given)

module _ (known : Known) (context : Context) (check : Check) where
  pub only : (body : List ℕ) (held given : List Item) (limit left : ℕ) → CanWrap body held → limit < 2 ^ 63
      → HasVerdict context check (wrapped body held) given limit (Succeeded left)
      → (rest : ℕ) × Succeeds context check body 0 (held ++ reverse given) rest
  only body held given limit left can small v =
      let s = from_verdict context check (wrapped body held) given limit left v in
      inward known context check body held given can (few_in_all body held given limit can small s.0)
      (limit - total_cost given) s.1

  pub enough : (body : List ℕ) (held given : List Item) (limit least : ℕ) → CanWrap body held → limit < 2 ^ 63
      → SucceedsWith context check body 0 (held ++ reverse given) least
      → total_cost given + pushes_need held + (291 + length body + least) ≤ limit
      → (left : ℕ) × HasVerdict context check (wrapped body held) given limit (Succeeded left)
  enough body held given limit least can small inner covers =
      let pays : total_cost given ≤ limit = omega arith in
      to_verdict context check (wrapped body held) given limit pays
      (outward known context check body held given can (few_in_all body held given limit can small pays) least
      (limit - total_cost given) inner (omega arith))
