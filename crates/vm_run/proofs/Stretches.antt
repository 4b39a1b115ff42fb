-- Laws of parts of runs.
use Rattle.std.proofs.Common.{◌≡◌, ℕ, ◌+◌, ◌-◌, ◌<◌, ◌≤◌, Bool, true, false, cond, List, [], ◌∷◌, ◌++◌, length, refl, sym, ◌∙◌, ap, subst, Result, Ok, Err, arith, append_assoc, length-append, leb, eqb, None, inl, inr}
use Rattle.std.specs.Prelude.{◌&&◌}
use Rattle.std.proofs.lemmas.Bool.{cases_lt, lt-ltb, le-ltb}
use Rattle.vm_num.specs.Item.{Item, is_true}
use Rattle.vm_num.specs.declared.failure.Failure.TheVariants.{BadOpcode, BadJump, FailCode}
use Rattle.vm_code.specs.Instruction.{Decoded, Misread, instruction_at, is_jump}
use Rattle.vm_code.specs.Readings.{within, begun, fronted}
use Rattle.vm_ops.specs.Results.{entry_at}
use Rattle.vm_run.specs.Effect.{Effect, Row, Faults, Does, Calls, Rule, does, always, on_one, on_alt}
use Rattle.vm_run.specs.Moving.{push_rule, jump_row, jump_if_row, verify_row, to_alt_row, from_alt_row, control_table, control_rule, stack_rule}
use Rattle.vm_run.specs.Making.{string_rule, number_rule, high_rule}
use Rattle.vm_run.specs.Row.{Context, row}
use Rattle.keyed.specs.Functions.{Check}
use Rattle.vm_run.specs.Run.{Outcome, Ended, FailedAt, later, Move, Stops, Goes, Opens, row_move, instruction_move, move, goes_on, opens, paid, popped_cost, pushed_cost}
use Rattle.vm_run.specs.Stretch.{State, RunFrom, Completes, alone, with_child, Steps, none, and_one, stretch_move, Stretch, nothing, and_then, further, Straight, no_more, straight_on}
use Rattle.vm_run.proofs.Fair.{Fair, Onward, row-straight}
use Rattle.vm_run.specs.Moves.{move-read, short_of_base, short_of_price, covered, short_of_opening, short_of_asked, opening}

-- ---- steps, and runs after them

later-none : (o : Outcome) → later 0 0 0 o ≡ o
later-none (Ended left items alt n m k) = same (omega arith) (omega arith) (omega arith)
  where
    same : {n' m' k' : ℕ} → n' ≡ n → m' ≡ m → k' ≡ k → Ended left items alt n' m' k' ≡ Ended left items alt n m k
    same count spent lost = rw (count, spent, lost) refl
later-none (FailedAt kind place n) = ap (FailedAt kind place) (let none : n + 0 ≡ n = omega arith in none)

later-later : (n m k n' m' k' : ℕ) (o : Outcome) → later n m k (later n' m' k' o) ≡ later (n' + n) (m' + m) (k' + k) o
later-later n m k n' m' k' (Ended left items alt count spent lost) =
    let counts : count + n' + n ≡ count + (n' + n) = omega arith in
    let sums : spent + m' + m ≡ spent + (m' + m) = omega arith in
    let losses : lost + k' + k ≡ lost + (k' + k) = omega arith in
    rw (counts, sums, losses) refl
later-later n m k n' m' k' (FailedAt kind place count) = let counts : count + n' + n ≡ count + (n' + n) = omega arith in rw counts refl

-- a relation of three counts, at others that are the same
recounted : (P : ℕ → ℕ → ℕ → Type 0) (n n' m m' k k' : ℕ) → n ≡ n' → m ≡ m' → k ≡ k' → P n m k → P n' m' k'
recounted P n n' m m' k k' count spent lost p = subst (P n' m') lost (subst (λ (i : ℕ). P n' i k) spent (subst (λ (i : ℕ). P i m k) count p))

module _ (context : Context) (check : Check) (program : List ℕ) where
  pub and_steps : {s t end : State} {n n' m m' k k' : ℕ} → Steps context check program s n m k t → Steps context check program t n' m' k' end → Steps context check program s (n' + n) (m' + m) (k' + k) end
  and_steps {s} {end = end} {n' = n} {m' = m} {k' = k} none rest = recounted (λ n m k. Steps context check program s n m k end) n _ m _ k _ (omega arith) (omega arith) (omega arith) rest
  and_steps {s} {end = end} {n' = n'} {m' = m'} {k' = k'} (and_one {n = a} {m = b} {k = c} {count = n} {spent = m} {lost = k} before done steps) rest =
      recounted (λ n m k. Steps context check program s n m k end) (n' + n + a) _ (m' + m + b) _ (k' + k + c) _ (omega arith) (omega arith) (omega arith) (and_one before done (and_steps steps rest))

  then_one : {s t : State} {n m k : ℕ} {o : Outcome} (at : Move) → s.place < length program → move context check program s.place s.items s.alt s.left ≡ at → Completes context check at t n m k → RunFrom context check program t o → RunFrom context check program s (later n m k o)
  then_one at before is alone run = goes_on before is run refl
  then_one at before is (with_child child) run = opens before is child run refl

  pub then_run : {s t : State} {n m k : ℕ} {o : Outcome} → Steps context check program s n m k t → RunFrom context check program t o → RunFrom context check program s (later n m k o)
  then_run {s} {o = o} none run = subst (λ (out : Outcome). RunFrom context check program s out) (sym (later-none o)) run
  then_run {s} {o = o} (and_one {n = a} {m = b} {k = c} {count = n} {spent = m} {lost = k} before done steps) run =
      subst (λ (out : Outcome). RunFrom context check program s out) (later-later a b c n m k o) (then_one _ before refl done (then_run steps run))

-- ---- a line in a longer program

-- a line that does not fail
abbrev Passes : Row → Type 0
Passes (Faults kind) = ⊥
Passes (Does e) = Unit {0}
Passes (Calls program asked count) = Unit {0}

-- where one line does not fail, another is the same
abbrev Alike : Rule → Rule → Type 0
Alike a b = (items alt : List Item) → Passes (a items alt) → b items alt ≡ a items alt

same : (a : Rule) → Alike a a
same a items alt passes = refl

alike_either : (b : Bool) (x y x' y' : Rule) → Alike x x' → Alike y y' → Alike (cond b x y) (cond b x' y')
alike_either true x y x' y' p q = p
alike_either false x y x' y' p q = q

-- tables of the same codes, line by line
abbrev AllAlike : List (ℕ × Rule) → List (ℕ × Rule) → Type 0
AllAlike [] [] = Unit {0}
AllAlike [] (y ∷ ys) = ⊥
AllAlike (x ∷ xs) [] = ⊥
AllAlike (x ∷ xs) (y ∷ ys) = (x.0 ≡ y.0) × Alike x.1 y.1 × AllAlike xs ys

tables_alike : (code : ℕ) (other : Rule) (xs ys : List (ℕ × Rule)) → AllAlike xs ys → Alike (entry_at other xs code) (entry_at other ys code)
tables_alike code other [] [] all = same other
tables_alike code other [] (y ∷ ys) all = absurd all
tables_alike code other (x ∷ xs) [] all = absurd all
tables_alike code other (x ∷ xs) (y ∷ ys) all =
    let rest = tables_alike code other xs ys all.2 in
    subst (λ (c : ℕ). Alike (cond (eqb x.0 code) x.1 (entry_at other xs code)) (cond (eqb c code) y.1 (entry_at other ys code))) all.0
    (alike_either (eqb x.0 code) x.1 (entry_at other xs code) y.1 (entry_at other ys code) all.1 rest)

-- a move that does not stop
abbrev Runs : Move → Type 0
Runs (Stops kind) = ⊥
Runs (Goes place items alt left base) = Unit {0}
Runs (Opens child place items alt left) = Unit {0}

module _ (size size' : ℕ) (longer : size ≤ size') where
  jumps : (pops place : ℕ) → Passes (jump_row pops place size) → jump_row pops place size' ≡ jump_row pops place size
  jumps pops place passes = elim (cases_lt size place) [
    | inl past ↦ absurd (subst Passes (let bad : jump_row pops place size ≡ Faults BadJump = rw (lt-ltb size place past) refl in bad) passes)
    | inr within ↦ rw (le-ltb size place within, le-ltb size' place (omega arith)) refl
  ]

  jumps_if : (place : ℕ) (t : Item) → Passes (jump_if_row place size t) → jump_if_row place size' t ≡ jump_if_row place size t
  jumps_if place t = by (is_true t)
    where
      by : (b : Bool) → Passes (cond b (jump_row 1 place size) (does 1 [] 1)) → cond b (jump_row 1 place size') (does 1 [] 1) ≡ cond b (jump_row 1 place size) (does 1 [] 1)
      by true passes = jumps 1 place passes
      by false passes = refl

  on_top : (rule line' : Item → Row) → ((a : Item) → Passes (rule a) → line' a ≡ rule a) → Alike (on_one rule) (on_one line')
  on_top rule line' alike [] alt passes = refl
  on_top rule line' alike (a ∷ items) alt passes = alike a passes

  control : (i : Decoded) → Alike (control_rule i size) (control_rule i size')
  unfolding control_rule
  control i =
      tables_alike i.code (always (Faults BadOpcode)) (control_table i size) (control_table i size') (
        refl,
        same (always (does 0 [] 1)),
        (
          refl,
          (λ items alt passes. jumps 0 i.target passes),
          (
            refl,
            on_top (jump_if_row i.target size) (jump_if_row i.target size') (jumps_if i.target),
            (
              refl,
              same (on_one verify_row),
              (
                refl,
                same (always (Faults FailCode)),
                (
                  refl,
                  same (on_one to_alt_row),
                  (refl, same (on_alt from_alt_row), tt),
                ),
              ),
            ),
          ),
        ),
      )

  row_longer : (context : Context) (check : Check) (i : Decoded) (items alt : List Item) → Passes (row context check i size items alt) → row context check i size' items alt ≡ row context check i size items alt
  unfolding row
  row_longer context check i =
      let past = cond (leb i.code 0x7d) (stack_rule i.code) (cond (leb i.code 0x89) (string_rule i.code) (cond (leb 0x8b i.code && leb i.code 0xa5) (number_rule i.code) (high_rule context check i.code))) in
      alike_either (leb i.code 0x60) (push_rule i) _ (push_rule i) _ (same (push_rule i))
      (alike_either (leb i.code 0x6c) (control_rule i size) past (control_rule i size') past (control i) (same past))

  row_goes : (place : ℕ) (items alt : List Item) (limit : ℕ) (rule line' : Row) → (Passes rule → line' ≡ rule) → Runs (row_move place items alt limit rule) → row_move place items alt limit line' ≡ row_move place items alt limit rule
  row_goes place items alt limit (Faults kind) line' alike goes = absurd goes
  row_goes place items alt limit (Does e) line' alike goes = ap (row_move place items alt limit) (alike tt)
  row_goes place items alt limit (Calls program asked count) line' alike goes = ap (row_move place items alt limit) (alike tt)

  read_goes : (context : Context) (check : Check) (place : ℕ) (items alt : List Item) (limit : ℕ) (read read' : Result Decoded Misread) → ((i : Decoded) → read ≡ Ok i → read' ≡ Ok i) → Runs (instruction_move context check size place items alt limit read) → instruction_move context check size' place items alt limit read' ≡ instruction_move context check size place items alt limit read
  read_goes context check place items alt limit (Err why) read' alike goes = absurd goes
  read_goes context check place items alt limit (Ok i) read' alike goes =
      rw (alike i refl) (row_goes (place + i.len) items alt limit (row context check i size items alt) (row context check i size' items alt) (row_longer context check i items alt) goes)

-- ---- a stretch of a program

-- what is read in a stretch is read where the stretch stands
read_within : (before code after : List ℕ) (k : ℕ) (i : Decoded) → instruction_at code k ≡ Ok i → instruction_at (before ++ code ++ after) (length before + k) ≡ Ok i
read_within before code after k i is =
    ap (λ p. instruction_at p (length before + k)) (append_assoc before code after) ∙ fronted before (code ++ after) k ∙ begun code after k i is

module _ (context : Context) (check : Check) where
  runs : (m : Move) {t : State} {n spent lost : ℕ} → Completes context check m t n spent lost → Runs m
  runs m alone = tt
  runs m (with_child child) = tt

  whole_move : (from : ℕ) (code before after : List ℕ) (s t : State) (n spent lost : ℕ) → length before ≡ from → from ≤ s.place → Completes context check (stretch_move context check from code s) t n spent lost → Completes context check (move context check (before ++ code ++ after) s.place s.items s.alt s.left) t n spent lost
  unfolding stretch_move
  whole_move from code before after s t n spent lost stands since done =
      let long : length (before ++ code ++ after) ≡ from + length code + length after = simp length-append (omega arith) in
      let place : length before + (s.place - from) ≡ s.place = omega arith in
      let alike : (i : Decoded) → instruction_at code (s.place - from) ≡ Ok i → instruction_at (before ++ code ++ after) s.place ≡ Ok i = λ i is.
      subst (λ (k : ℕ). instruction_at (before ++ code ++ after) k ≡ Ok i) place (read_within before code after (s.place - from) i is) in
      subst (λ (m : Move). Completes context check m t n spent lost)
      (sym (move-read context check (before ++ code ++ after) s.place s.items s.alt s.left _ refl
      ∙ read_goes (from + length code) (length (before ++ code ++ after)) (omega arith) context check s.place s.items s.alt s.left (instruction_at code (s.place - from)) (instruction_at (before ++ code ++ after) s.place) alike (runs _ done))) done

  -- so do the steps of each program that holds the stretch there
  pub held : (from : ℕ) (code before after : List ℕ) → length before ≡ from → {s t : State} {n spent lost : ℕ} → Stretch context check from code s n spent lost t → Steps context check (before ++ code ++ after) s n spent lost t
  held from code before after stands nothing = none
  held from code before after stands (and_then {s = s} {t = t} {n = n} {m = m} {k = k} since before_end done rest) =
      let long : length (before ++ code ++ after) ≡ from + length code + length after = simp length-append (omega arith) in
      and_one (omega arith) (whole_move from code before after s t n m k stands since done) (held from code before after stands rest)

  part_move : (from : ℕ) (code before after : List ℕ) (s t : State) (n spent lost : ℕ) → from + length before ≤ s.place → Completes context check (stretch_move context check (from + length before) code s) t n spent lost → Completes context check (stretch_move context check from (before ++ code ++ after) s) t n spent lost
  unfolding stretch_move
  part_move from code before after s t n spent lost since done =
      let long : length (before ++ code ++ after) ≡ length before + length code + length after = simp length-append refl in
      let place : length before + (s.place - (from + length before)) ≡ s.place - from = omega arith in
      let alike : (i : Decoded) → instruction_at code (s.place - (from + length before)) ≡ Ok i → instruction_at (before ++ code ++ after) (s.place - from) ≡ Ok i = λ i is.
      subst (λ (k : ℕ). instruction_at (before ++ code ++ after) k ≡ Ok i) place (read_within before code after (s.place - (from + length before)) i is) in
      subst (λ (m : Move). Completes context check m t n spent lost)
      (sym (read_goes (from + length before + length code) (from + length (before ++ code ++ after)) (omega arith) context check s.place s.items s.alt s.left (instruction_at code (s.place - (from + length before))) (instruction_at (before ++ code ++ after) (s.place - from)) alike (runs _ done))) done

  -- a part of a stretch is a stretch within it
  pub within_stretch : (from : ℕ) (code before after : List ℕ) → {s t : State} {n spent lost : ℕ} → Stretch context check (from + length before) code s n spent lost t → Stretch context check from (before ++ code ++ after) s n spent lost t
  within_stretch from code before after nothing = nothing
  within_stretch from code before after (and_then {s = s} {t = t} {n = n} {m = m} {k = k} since before_end done rest) =
      let long : length (before ++ code ++ after) ≡ length before + length code + length after = simp length-append refl in
      and_then (omega arith) (omega arith) (part_move from code before after s t n m k since done) (within_stretch from code before after rest)

  -- one stretch of instructions after another
  pub joined : (from : ℕ) (code : List ℕ) → {s t end : State} {n n' m m' k k' : ℕ} → Stretch context check from code s n m k t → Stretch context check from code t n' m' k' end → Stretch context check from code s (n' + n) (m' + m) (k' + k) end
  joined from code {s} {end = end} {n' = n} {m' = m} {k' = k} nothing rest = recounted (λ n m k. Stretch context check from code s n m k end) n _ m _ k _ (omega arith) (omega arith) (omega arith) rest
  joined from code {s} {end = end} {n' = n'} {m' = m'} {k' = k'} (and_then {n = a} {m = b} {k = c} {count = n} {spent = m} {lost = k} since before done steps) rest =
      recounted (λ n m k. Stretch context check from code s n m k end) (n' + n + a) _ (m' + m + b) _ (k' + k + c) _ (omega arith) (omega arith) (omega arith) (and_then since before done (joined from code steps rest))

-- ---- a stretch without jumps

-- a move to a place so many bytes further on
abbrev shifted : ℕ → Move → Move
shifted n (Stops kind) = Stops kind
shifted n (Goes place items alt left base) = Goes (n + place) items alt left base
shifted n (Opens child place items alt left) = Opens child (n + place) items alt left

module _ (n behind : ℕ) (items alt : List Item) (limit : ℕ) where
  paid_shifted : (e : Effect) → e.jump ≡ None → paid (n + behind) items alt limit e ≡ shifted n (paid behind items alt limit e)
  paid_shifted e straight = elim (cases_lt limit e.base) [
    | inl short ↦ rw (short_of_base behind limit items alt e short, short_of_base (n + behind) limit items alt e short) refl
    | inr covers ↦ elim (cases_lt (limit + popped_cost e items alt) (e.base + pushed_cost e)) [
      | inl short ↦ rw (short_of_price behind limit items alt e covers short, short_of_price (n + behind) limit items alt e covers short) refl
      | inr enough ↦ rw (covered behind limit items alt e covers (omega arith), covered (n + behind) limit items alt e covers (omega arith), straight) refl
    ]
  ]

  row_shifted : (rule : Row) → Fair Onward (Unit {0}) rule → row_move (n + behind) items alt limit rule ≡ shifted n (row_move behind items alt limit rule)
  row_shifted (Faults kind) fair = refl
  row_shifted (Does e) fair = paid_shifted e fair.1
  row_shifted (Calls program asked count) fair = elim (cases_lt limit 256) [
    | inl short ↦ rw (short_of_opening behind limit items alt program asked count short, short_of_opening (n + behind) limit items alt program asked count short) refl
    | inr covers ↦ elim (cases_lt (limit - 256) asked) [
      | inl short ↦ rw (short_of_asked behind limit items alt program asked count covers short, short_of_asked (n + behind) limit items alt program asked count covers short) refl
      | inr enough ↦ rw (opening behind limit items alt program asked count covers enough, opening (n + behind) limit items alt program asked count covers enough) refl
    ]
  ]

module _ (context : Context) (check : Check) (from : ℕ) (code : List ℕ) where
  moved : (m : Move) {t : State} {n spent lost : ℕ} → Completes context check m t n spent lost → Completes context check (shifted from m) (further from t) n spent lost
  moved m alone = alone
  moved m (with_child child) = with_child child

  straight_move : (s t : State) (i : Decoded) (n spent lost : ℕ) → instruction_at code s.place ≡ Ok i → is_jump i.code ≡ false → Completes context check (instruction_move context check (length code) s.place s.items s.alt s.left (Ok i)) t n spent lost → Completes context check (stretch_move context check from code (further from s)) (further from t) n spent lost
  unfolding stretch_move
  straight_move s t i n spent lost reads straight done =
      let place : from + s.place - from ≡ s.place = omega arith in
      let behind : from + s.place + i.len ≡ from + (s.place + i.len) = omega arith in
      let rule = row context check i (length code) s.items s.alt in
      let further_on = row_shifted from (s.place + i.len) s.items s.alt s.left rule (row-straight context check i (length code) straight s.items s.alt) in
      let there = subst (λ (m : Move). Completes context check m (further from t) n spent lost) (sym further_on) (moved _ done) in
      rw (place, reads, behind)
      (subst (λ (m : Move). Completes context check m (further from t) n spent lost)
      (sym (row_goes (length code) (from + length code) (omega arith) (from + (s.place + i.len)) s.items s.alt s.left rule (row context check i (from + length code) s.items s.alt) (row_longer (length code) (from + length code) (omega arith) context check i s.items s.alt) (runs context check _ there))) there)

  pub anywhere : {s t : State} {n spent lost : ℕ} → Straight context check code s n spent lost t → Stretch context check from code (further from s) n spent lost (further from t)
  anywhere no_more = nothing
  anywhere (straight_on {s = s} {t = t} {i = i} {n = n} {m = m} {k = k} reads straight done rest) =
      let inside = within code s.place i reads in
      and_then (omega arith) (omega (arith, inside.0, inside.1)) (straight_move s t i n m k reads straight done) (anywhere rest)
