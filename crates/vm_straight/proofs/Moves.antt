-- Success from one instruction to the next, and the moves of straight code.
use Rattle.std.proofs.Common.{◌≡◌, ℕ, ◌+◌, ◌<◌, ◌≤◌, Bool, true, false, List, [], ◌∷◌, ◌++◌, length, refl, sym, ◌∙◌}
use Rattle.std.proofs.Common.{ap, subst, Result, Ok, Err, not, ◌||◌, eqb, arith}
use Rattle.keyed.specs.Functions.{Check}
use Rattle.vm_num.specs.Item.{Item, num_bytes}
use Rattle.vm_num.specs.Push.{push_of, push_int_of}
use Rattle.vm_num.specs.declared.failure.Failure.{Failure}
use Rattle.vm_code.specs.Instruction.{Decoded, Misread, instruction_at, is_jump, is_within, plain}
use Rattle.vm_run.specs.declared.context.Context.{Context}
use Rattle.vm_run.specs.Row.{Row, push_row, row}
use Rattle.vm_run.specs.Pushes.{ReadsPush}
use Rattle.vm_run.specs.Run.{Outcome, Ended, FailedAt, later, Stops, Goes, row_move, move, is_good}
use Rattle.vm_run.specs.Run.{fails, goes_on}
use Rattle.vm_straight.specs.Operations.{Operation, Push, PushNumber, Plain, operation_bytes, Fits, line}
use Rattle.vm_straight.specs.Success.{HoldsAt, Succeeds}
use Rattle.vm_straight.specs.Known.{Known}
use Rattle.vm_run.specs.Lines.{on_data, WorksOnData}
use Rattle.vm_run.specs.Moves.{move-read}
use Rattle.vm_straight.proofs.Places.{held_inside}

-- a code on the data stack alone is no jump
not_jump : (code : ℕ) → on_data code ≡ true → is_jump code ≡ false
not_jump code = by (is_jump code) (is_within 0x6b 0x6c code) (eqb code 0xc0)
  where
    by : (jump alt call : Bool) → not (jump || alt || call) ≡ true → jump ≡ false
    by true alt call e = sym e
    by false alt call e = refl

good_later : (n m k : ℕ) (o : Outcome) → is_good (later n m k o) ≡ is_good o
good_later n m k (Ended left items alt count spent lost) = refl
good_later n m k (FailedAt kind place count) = refl

module _ (known : Known) (context : Context) (check : Check) where
  -- ---- success

  module _ (program : List ℕ) (place : ℕ) (items : List Item) (limit : ℕ) where
    -- an instruction that fails leads to no success
    pub stopped : (kind : Failure) → place < length program
        → move context check program place items [] limit ≡ Stops kind
        → Succeeds context check program place items limit → ⊥
    stopped kind inside stops s =
        let same : s.outcome ≡ FailedAt kind place 0 = known.one_outcome context check program place items [] limit
        s.outcome (FailedAt kind place 0) s.runs (fails inside stops) in
        let wrong : false ≡ true = sym (ap is_good same) ∙ s.good in
        cc

    -- success before an instruction that completes is success after it
    pub onward : (next left base : ℕ) (items' : List Item) → place < length program → next ≤ length program
        → move context check program place items [] limit ≡ Goes next items' [] left base
        → Succeeds context check program place items limit → Succeeds context check program next items' left
    onward next left base items' inside ends goes s =
        let rest = known.some_outcome context check program next items' [] left ends in
        let same : s.outcome ≡ later 1 base 0 rest.0 = known.one_outcome context check program place items [] limit
        s.outcome (later 1 base 0 rest.0) s.runs (goes_on inside goes rest.1 refl) in
        record {
          outcome = rest.0;
          runs = rest.1;
          good = sym (good_later 1 base 0 rest.0) ∙ sym (ap is_good same) ∙ s.good;
        }

    -- and the other way
    pub from_next : (next left base : ℕ) (items' : List Item) → place < length program
        → move context check program place items [] limit ≡ Goes next items' [] left base
        → Succeeds context check program next items' left → Succeeds context check program place items limit
    from_next next left base items' inside goes s = record {
      outcome = later 1 base 0 s.outcome;
      runs = goes_on inside goes s.runs refl;
      good = good_later 1 base 0 s.outcome ∙ s.good;
    }

  -- ---- what is read of an operation

  some_len : (program : List ℕ) (at len : ℕ) (item : Item) → ReadsPush (instruction_at program at) item len → 1 ≤ len
  some_len program at len item = by (instruction_at program at) refl
    where
      by : (read : Result Decoded Misread) → instruction_at program at ≡ read → ReadsPush read item len → 1 ≤ len
      by (Ok i) is r = let w = known.readings.within program at i is in omega (arith, w.0, r.0)
      by (Err why) is r = absurd r

  pub some_bytes : (o : Operation) → Fits o → 1 ≤ length (operation_bytes o)
  some_bytes (Push item) fits = some_len ([] ++ push_of item ++ []) 0 _ item (known.item_reads item [] [] fits)
  some_bytes (PushNumber n) fits =
      some_len ([] ++ push_int_of n ++ []) 0 _ (num_bytes n) (known.number_reads n [] [])
  some_bytes (Plain code) fits = omega arith

  -- ---- the move at an operation

  pub works_on_data : (o : Operation) (items : List Item) → Fits o → WorksOnData (line context check o items)
  works_on_data (Push item) items fits = (refl, refl, refl)
  works_on_data (PushNumber n) items fits = (refl, refl, refl)
  works_on_data (Plain code) items fits = (known.lines context check).only_data (plain code) 0 items [] fits.1

  abbrev MovesBy : List ℕ → ℕ → ℕ → List Item → ℕ → Row → Type 0
  MovesBy program at len items limit row =
      move context check program at items [] limit ≡ row_move (at + len) items [] limit row

  by_push : (program : List ℕ) (at len : ℕ) (item : Item) (items : List Item) (limit : ℕ)
      → ReadsPush (instruction_at program at) item len → MovesBy program at len items limit (push_row item)
  by_push program at len item items limit = by (instruction_at program at) refl
    where
      by : (read : Result Decoded Misread) → instruction_at program at ≡ read → ReadsPush read item len
          → MovesBy program at len items limit (push_row item)
      by (Ok i) is r =
          move-read context check program at items [] limit (Ok i) is
          ∙ ap (λ n. row_move (at + n) items [] limit (row context check i (length program) items [])) r.0
          ∙ ap (row_move (at + len) items [] limit) (r.1 context check (length program) items [])
      by (Err why) is r = absurd r

  by_code : (code : ℕ) (front after : List ℕ) (items : List Item) (limit : ℕ) → Fits (Plain code)
      → MovesBy (front ++ (code ∷ []) ++ after) (length front) 1 items limit (line context check (Plain code) items)
  by_code code front after items limit fits =
      move-read context check _ (length front) items [] limit (Ok (plain code)) (known.code_reads code front after fits.0)
      ∙ ap (row_move (length front + 1) items [] limit)
      ((known.lines context check).sizes (plain code) (length (front ++ (code ∷ []) ++ after)) 0 items []
      (not_jump code fits.1))

  there : (o : Operation) (front after : List ℕ) (items : List Item) (limit : ℕ) → Fits o
      → MovesBy (front ++ operation_bytes o ++ after) (length front) (length (operation_bytes o)) items limit
      (line context check o items)
  there (Push item) front after items limit fits =
      by_push _ _ _ item items limit (known.item_reads item front after fits)
  there (PushNumber n) front after items limit fits = by_push _ _ _ _ items limit (known.number_reads n front after)
  there (Plain code) front after items limit fits = by_code code front after items limit fits

  -- where the operation's bytes stand, its line is the move
  pub line_move : (program : List ℕ) (at : ℕ) (o : Operation) (items : List Item) (limit : ℕ)
      → HoldsAt program at (operation_bytes o) → Fits o
      → MovesBy program at (length (operation_bytes o)) items limit (line context check o items)
  line_move program at o items limit h fits =
      subst (λ (p : List ℕ). MovesBy p at (length (operation_bytes o)) items limit (line context check o items))
      (sym h.is)
      (subst (λ (n : ℕ). MovesBy (h.before ++ operation_bytes o ++ h.after) n (length (operation_bytes o)) items limit
      (line context check o items)) h.place
      (there o h.before h.after items limit fits))

  pub inside : (program : List ℕ) (at : ℕ) (o : Operation) → HoldsAt program at (operation_bytes o) → Fits o
      → at < length program
  inside program at o h fits = omega (arith, held_inside (operation_bytes o) h, some_bytes o fits)
