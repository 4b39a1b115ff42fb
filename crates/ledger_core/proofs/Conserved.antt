-- Of each asset, what is unspent and what is retired is together what is issued.
use Rattle.std.proofs.Common.{◌≡◌, ℕ, suc, ◌+◌, List, [], ◌∷◌, ◌++◌, map, take, length, Some, refl, sym, ap, subst, ◌∙◌, inl, inr, arith, append_assoc, append-nil}
use Rattle.std.specs.Prelude.{Contains, slice_get}
use Rattle.std.specs.List.{flat_map, sum_by, enumerate_from}
use Rattle.std.proofs.lemmas.List.Sums.{sum_by-append, sum_by-cons}
use Rattle.std.proofs.lemmas.List.{map-append, take_at}
use Rattle.data_model.specs.declared.block.Block.{Block}
use Rattle.data_model.specs.declared.input.Input.{Input}
use Rattle.data_model.specs.declared.input.Spend.{Spend}
use Rattle.data_model.specs.declared.output.Control.{Control}
use Rattle.data_model.specs.declared.output.Output.{Output}
use Rattle.data_model.specs.declared.tx.Tx.{Tx}
use Rattle.entry_ids.specs.declared.input.Named.{Named}
use Rattle.keyed.specs.Functions.{Hash}
use Rattle.entry_ids.specs.Ids.{mux_id, names, nonce_id, output_id, result_data, result_id, result_ids}
use Rattle.entry_ids.specs.Ids.{nonce_named as nonce_of}
use Rattle.keyed.specs.Functions.{Check}
use Rattle.tx_check.specs.Parts.{amount_in, asset_in}
use Rattle.tx_check.specs.Table.{TxValid, units, sum_in, sum_out, asset_out, amount_out, named_by}
use Rattle.tx_check.specs.Valid.{Valid, NoneTwice}
use Rattle.tx_check.specs.View.{State, Unspent}
use Rattle.ledger_core.specs.Blocks.{txs_of}
use Rattle.ledger_core.specs.Chain.{GoesOn}
use Rattle.ledger_core.specs.Conservation.{issued_by, retired_by, issued, retired, held_units, Conserves}
use Rattle.ledger_core.specs.Laws.{ValidLaws}
use Rattle.ledger_core.specs.State.{state_after}
use Rattle.ledger_core.specs.Unspent.{left_of, made_at, made_by, output_named, spent_by, unspent_after}
use Rattle.ledger_core.proofs.Members.{In, in_contained, contained_in, in_left, in_right, in_map, Distinct, distinct_both, ids, left_in, id_in_left, left_distinct, all_left, left_step}
use Rattle.ledger_core.proofs.Settled.{txs_more}
use Rattle.ledger_core.proofs.Started.{no_txs}
use Rattle.ledger_core.proofs.Unspents.{left_of_left, left_of_none, unspent_then}

-- ---- sums

abbrev worth : List ℕ → Unspent → ℕ
worth asset o = units asset o.body.asset o.body.amount

held_step : (asset : List ℕ) (o : Unspent) (outputs : List Unspent) → held_units asset (o ∷ outputs) ≡ worth asset o + held_units asset outputs
held_step asset o outputs = sum_by-cons (λ output. units asset output.body.asset output.body.amount) o outputs

held_both : (asset : List ℕ) (xs ys : List Unspent) → held_units asset (xs ++ ys) ≡ held_units asset xs + held_units asset ys
held_both asset xs ys = sum_by-append (λ output. units asset output.body.asset output.body.amount) xs ys

-- ---- one output is taken out

single : (x y : List ℕ) → In x (y ∷ []) → x ≡ y
single x y (inl e) = e
single x y (inr h) = absurd h

one_out : (asset : List ℕ) (x : Unspent) (outputs : List Unspent) → Distinct (ids outputs) → In x outputs
    → held_units asset outputs ≡ held_units asset (left_of (x.id ∷ []) outputs) + worth asset x
one_out asset x [] d h = absurd h
one_out asset x (o ∷ outputs) d (inl e) = elim (left_step (x.id ∷ []) o outputs) [
  | inl (gone, is) ↦ (
      let rest : left_of (x.id ∷ []) outputs ≡ outputs =
      all_left (x.id ∷ []) outputs (λ id i j. d.0 (subst (λ (k : List ℕ). In k (ids outputs)) (single id x.id j ∙ ap (λ (y : Unspent). y.id) e) i)) in
      let sums = held_step asset o outputs in
      let one : worth asset o ≡ worth asset x = ap (worth asset) (sym e) in
      let left : held_units asset (left_of (x.id ∷ []) (o ∷ outputs)) ≡ held_units asset outputs = ap (held_units asset) (is ∙ rest) in
      omega (arith, sums, one, left)
      )
  | inr (kept, is) ↦ absurd (kept (inl (ap (λ (y : Unspent). y.id) (sym e))))
]
one_out asset x (o ∷ outputs) d (inr h) = elim (left_step (x.id ∷ []) o outputs) [
  | inl (gone, is) ↦ absurd (d.0 (subst (λ (k : List ℕ). In k (ids outputs)) (sym (single o.id x.id gone)) (in_map (λ (y : Unspent). y.id) x outputs h)))
  | inr (kept, is) ↦ (
      let sums = held_step asset o outputs in
      let left : held_units asset (left_of (x.id ∷ []) (o ∷ outputs)) ≡ worth asset o + held_units asset (left_of (x.id ∷ []) outputs) =
      ap (held_units asset) is ∙ held_step asset o (left_of (x.id ∷ []) outputs) in
      let rest = one_out asset x outputs d.1 h in
      omega (arith, sums, left, rest)
      )
]

-- all of these are taken out
all_out : (asset : List ℕ) (spent outputs : List Unspent) → Distinct (ids outputs) → Distinct (ids spent) → ((x : Unspent) → In x spent → In x outputs)
    → held_units asset outputs ≡ held_units asset (left_of (ids spent) outputs) + held_units asset spent
all_out asset [] outputs d e there = let same = ap (held_units asset) (left_of_none outputs) in omega (arith, same)
all_out asset (x ∷ spent) outputs d e there =
    let first = one_out asset x outputs d (there x (inl refl)) in
    let left = left_of (x.id ∷ []) outputs in
    let rest = all_out asset spent left (left_distinct (x.id ∷ []) outputs d) e.1
    (λ y i. left_in (x.id ∷ []) outputs y (there y (inr i)) (λ j. e.0 (subst (λ (k : List ℕ). In k (ids spent)) (single y.id x.id j) (in_map (λ (z : Unspent). z.id) y spent i)))) in
    let both : held_units asset (left_of (ids spent) left) ≡ held_units asset (left_of (ids (x ∷ spent)) outputs) = ap (held_units asset) (left_of_left (x.id ∷ []) (ids spent) outputs) in
    let sums = held_step asset x spent in
    omega (arith, first, rest, both, sums)

-- ---- what a transaction spends

-- the outputs that inputs spend, as they name them
abbrev spends_of : Hash → List Input → List Unspent
spends_of hash [] = []
spends_of hash (Input.Issue issue ∷ inputs) = spends_of hash inputs
spends_of hash (Input.Spend spend ∷ inputs) = record { id = output_id hash spend.from; body = spend.from } ∷ spends_of hash inputs

no_output : (nonce id : List ℕ) → output_named (nonce_of nonce id) ≡ []
no_output [] id = refl
no_output (b ∷ nonce) id = refl

named_spent : (hash : Hash) (tx : Tx) (inputs : List Input) → ids (spends_of hash inputs) ≡ flat_map output_named (map (names hash tx) inputs)
unfolding names
named_spent hash tx [] = refl
named_spent hash tx (Input.Issue issue ∷ inputs) =
    named_spent hash tx inputs
    ∙ ap (λ (l : List (List ℕ)). l ++ flat_map output_named (map (names hash tx) inputs)) (sym (no_output issue.nonce (nonce_id hash issue tx.mintime tx.maxtime)))
named_spent hash tx (Input.Spend spend ∷ inputs) = ap (λ (l : List (List ℕ)). output_id hash spend.from ∷ l) (named_spent hash tx inputs)

-- each is unspent
spends_there : (hash : Hash) (outputs : List Unspent) (inputs : List Input)
    → ((k : ℕ) (spend : Spend) → slice_get inputs k ≡ Some (Input.Spend spend) → Contains outputs (record { id = output_id hash spend.from; body = spend.from }))
    → (x : Unspent) → In x (spends_of hash inputs) → In x outputs
spends_there hash outputs [] h x i = absurd i
spends_there hash outputs (Input.Issue issue ∷ inputs) h x i = spends_there hash outputs inputs (λ k spend e. h (suc k) spend e) x i
spends_there hash outputs (Input.Spend spend ∷ inputs) h x (inl e) = subst (λ (y : Unspent). In y outputs) (sym e) (in_contained outputs _ (h 0 spend refl))
spends_there hash outputs (Input.Spend spend ∷ inputs) h x (inr i) = spends_there hash outputs inputs (λ k other e. h (suc k) other e) x i

-- no two of them have one id
named_somewhere : (named : List Named) (id : List ℕ) → In id (flat_map output_named named) → (k : ℕ) × (slice_get named k ≡ Some (Named.Output id))
named_somewhere [] id i = absurd i
named_somewhere (Named.Nothing ∷ named) id i = (let h = named_somewhere named id i in (suc h.0, h.1))
named_somewhere (Named.Nonce other ∷ named) id i = (let h = named_somewhere named id i in (suc h.0, h.1))
named_somewhere (Named.Output other ∷ named) id (inl e) = (0, ap (λ (x : List ℕ). Some (Named.Output x)) (sym e))
named_somewhere (Named.Output other ∷ named) id (inr i) = (let h = named_somewhere named id i in (suc h.0, h.1))

once_later : (first : Named) (named : List Named) → NoneTwice (λ id. Named.Output id) (first ∷ named) → NoneTwice (λ id. Named.Output id) named
once_later first named once j k id a b = let e = once (suc j) (suc k) id a b in omega (arith, e)

spent_distinct : (named : List Named) → NoneTwice (λ id. Named.Output id) named → Distinct (flat_map output_named named)
spent_distinct [] once = tt
spent_distinct (Named.Nothing ∷ named) once = spent_distinct named (once_later Named.Nothing named once)
spent_distinct (Named.Nonce id ∷ named) once = spent_distinct named (once_later (Named.Nonce id) named once)
spent_distinct (Named.Output id ∷ named) once = (
  (λ i. (let h = named_somewhere named id i in let e = once 0 (suc h.0) id refl h.1 in absurd (omega (arith, e)))),
  spent_distinct named (once_later (Named.Output id) named once),
)

-- ---- what a transaction makes

abbrev made_from : Hash → (mux : List ℕ) → (place : ℕ) → List Output → List Unspent
made_from hash mux place outputs = flat_map (λ x. made_at hash mux x.0 x.1) (enumerate_from place outputs)

abbrev results_from : Hash → (mux : List ℕ) → (place : ℕ) → List Output → List (List ℕ)
results_from hash mux place outputs = map (λ x. result_id hash mux x.0 x.1) (enumerate_from place outputs)

made_of_control : (hash : Hash) (mux : List ℕ) (place : ℕ) (control : Control) (outputs : List Output)
    → ids (made_from hash mux place (Output.Control control ∷ outputs)) ≡ result_id hash mux place (Output.Control control) ∷ ids (made_from hash mux (place + 1) outputs)
unfolding result_id result_data
made_of_control hash mux place control outputs = refl

-- an output at a place has a new id: it is none of the old ones, nor of those of earlier outputs
abbrev HasNewId : Hash → (mux : List ℕ) → (place : ℕ) → List Output → (old earlier : List (List ℕ)) → Type 0
HasNewId hash mux place outputs old earlier =
    (k : ℕ) (control : Control)
    → slice_get outputs k ≡ Some (Output.Control control)
    → (In (result_id hash mux (place + k) (Output.Control control)) old → ⊥)
    × (In (result_id hash mux (place + k) (Output.Control control)) (earlier ++ take k (results_from hash mux place outputs)) → ⊥)

new_later : (hash : Hash) (mux : List ℕ) (place : ℕ) (o : Output) (outputs : List Output) (old earlier : List (List ℕ))
    → HasNewId hash mux place (o ∷ outputs) old earlier
    → HasNewId hash mux (place + 1) outputs old (earlier ++ result_id hash mux place o ∷ [])
new_later hash mux place o outputs old earlier h k control there =
    let at : place + suc k ≡ place + 1 + k = omega arith in
    let id : ℕ → List ℕ = λ n. result_id hash mux n (Output.Control control) in
    let new = h (suc k) control there in
    let rest = take k (results_from hash mux (place + 1) outputs) in (
      (λ i. new.0 (subst (λ (n : ℕ). In (id n) old) (sym at) i)),
      (λ i. new.1 (subst (λ (n : ℕ). In (id n) (earlier ++ result_id hash mux place o ∷ rest)) (sym at) (subst (λ (l : List (List ℕ)). In (id (place + 1 + k)) l) (append_assoc earlier (result_id hash mux place o ∷ []) rest) i))),
    )

-- so no two of what is made have one id, and none of them an old one
made_new : (hash : Hash) (mux : List ℕ) (place : ℕ) (outputs : List Output) (old earlier : List (List ℕ)) → HasNewId hash mux place outputs old earlier
    → Distinct (ids (made_from hash mux place outputs))
    × ((id : List ℕ) → In id (ids (made_from hash mux place outputs)) → (In id old → ⊥) × (In id earlier → ⊥))
made_new hash mux place [] old earlier h = (tt, λ id i. absurd i)
made_new hash mux place (Output.Retire retire ∷ outputs) old earlier h =
    let first = result_id hash mux place (Output.Retire retire) in
    let rest = made_new hash mux (place + 1) outputs old (earlier ++ first ∷ []) (new_later hash mux place (Output.Retire retire) outputs old earlier h) in
    (rest.0, λ id i. ((rest.1 id i).0, λ j. (rest.1 id i).1 (in_left id earlier (first ∷ []) j)))
made_new hash mux place (Output.Control control ∷ outputs) old earlier h =
    let first = result_id hash mux place (Output.Control control) in
    let rest = made_new hash mux (place + 1) outputs old (earlier ++ first ∷ []) (new_later hash mux place (Output.Control control) outputs old earlier h) in
    let all = made_of_control hash mux place control outputs in
    let at : place + 0 ≡ place = omega arith in
    let new = subst (λ (n : ℕ). (In (result_id hash mux n (Output.Control control)) old → ⊥) × (In (result_id hash mux n (Output.Control control)) (earlier ++ []) → ⊥)) at (h 0 control refl) in (
      subst (λ (l : List (List ℕ)). Distinct l) (sym all) ((λ i. (rest.1 first i).1 (in_right first earlier (first ∷ []) (inl refl))), rest.0),
      λ id i. elim (subst (λ (l : List (List ℕ)). In id l) all i) [
        | inl e ↦ ((λ j. new.0 (subst (λ (x : List ℕ). In x old) e j)), (λ j. new.1 (in_left first earlier [] (subst (λ (x : List ℕ). In x earlier) e j))))
        | inr k ↦ ((rest.1 id k).0, λ j. (rest.1 id k).1 (in_left id earlier (first ∷ []) j))
      ],
    )

-- ---- sums of a transaction

sums_in : (hash : Hash) (asset : List ℕ) (inputs : List Input) → sum_in asset inputs ≡ sum_by (issued_by asset) inputs + held_units asset (spends_of hash inputs)
unfolding sum_in
sums_in hash asset [] = omega arith
sums_in hash asset (Input.Issue issue ∷ inputs) =
    let a = sum_by-cons (λ input. units asset (asset_in input) (amount_in input)) (Input.Issue issue) inputs in
    let b = sum_by-cons (issued_by asset) (Input.Issue issue) inputs in
    omega (arith, a, b, sums_in hash asset inputs)
sums_in hash asset (Input.Spend spend ∷ inputs) =
    let a = sum_by-cons (λ input. units asset (asset_in input) (amount_in input)) (Input.Spend spend) inputs in
    let b = sum_by-cons (issued_by asset) (Input.Spend spend) inputs in
    let d = held_step asset (record { id = output_id hash spend.from; body = spend.from }) (spends_of hash inputs) in
    omega (arith, a, b, d, sums_in hash asset inputs)

sums_out : (hash : Hash) (mux asset : List ℕ) (place : ℕ) (outputs : List Output)
    → sum_out asset outputs ≡ sum_by (retired_by asset) outputs + held_units asset (made_from hash mux place outputs)
unfolding sum_out
sums_out hash mux asset place [] = omega arith
sums_out hash mux asset place (Output.Retire retire ∷ outputs) =
    let a = sum_by-cons (λ output. units asset (asset_out output) (amount_out output)) (Output.Retire retire) outputs in
    let b = sum_by-cons (retired_by asset) (Output.Retire retire) outputs in
    omega (arith, a, b, sums_out hash mux asset (place + 1) outputs)
sums_out hash mux asset place (Output.Control control ∷ outputs) =
    let o = Output.Control control in
    let a = sum_by-cons (λ output. units asset (asset_out output) (amount_out output)) o outputs in
    let b = sum_by-cons (retired_by asset) o outputs in
    let d = held_both asset (made_at hash mux place o) (made_from hash mux (place + 1) outputs) in
    let one : held_units asset (made_at hash mux place o) ≡ units asset control.asset control.amount = omega arith in
    omega (arith, a, b, d, one, sums_out hash mux asset (place + 1) outputs)

-- ---- one transaction more

-- of transactions in order: no two unspent outputs have one id, and the units of an asset are kept
pub record IsKept (hash : Hash) (asset : List ℕ) (txs : List Tx) : Type 0 where
  pub distinct : Distinct (ids (unspent_after hash txs))
  pub units : held_units asset (unspent_after hash txs) + retired asset txs ≡ issued asset txs

-- what a valid transaction says of its new ids
has_new_ids : (hash : Hash) (check : Check) (state : State) (time : ℕ) (tx : Tx) → Valid hash check state time tx
    → HasNewId hash (mux_id hash tx) 0 tx.outputs (map (λ output. output.id) state.unspent) []
has_new_ids hash check state time tx valid k control there =
    let new = valid.new_ids k control there in
    let at : 0 + k ≡ k = omega arith in
    let id : ℕ → List ℕ = λ n. result_id hash (mux_id hash tx) n (Output.Control control) in (
      (λ i. new.not_unspent (contained_in _ _ (subst (λ (n : ℕ). In (id n) (map (λ output. output.id) state.unspent)) at i))),
      (λ i. new.not_earlier (contained_in _ _ (subst (λ (n : ℕ). In (id n) (take k (result_ids hash tx))) at i))),
    )

kept_more : (hash : Hash) (check : Check) (asset : List ℕ) (blocks : List Block) (done : List Tx) (time : ℕ) (tx : Tx)
    → Valid hash check (state_after hash blocks done) time tx
    → IsKept hash asset (txs_of blocks ++ done) → IsKept hash asset ((txs_of blocks ++ done) ++ tx ∷ [])
kept_more hash check asset blocks done time tx valid kept =
    let txs = txs_of blocks ++ done in
    let outputs = unspent_after hash txs in
    let spends = spends_of hash tx.inputs in
    let spent : ids spends ≡ spent_by hash tx = named_spent hash tx tx.inputs in
    let left = left_of (spent_by hash tx) outputs in
    let made = made_by hash tx in
    let after : unspent_after hash (txs ++ tx ∷ []) ≡ left ++ made = unspent_then hash txs tx in
    let out = all_out asset spends outputs kept.distinct (subst (λ (l : List (List ℕ)). Distinct l) (sym spent) (spent_distinct (named_by hash tx) valid.spent_once)) (spends_there hash outputs tx.inputs valid.unspent) in
    let out_is : held_units asset (left_of (ids spends) outputs) ≡ held_units asset left = ap (λ (l : List (List ℕ)). held_units asset (left_of l outputs)) spent in
    let new = made_new hash (mux_id hash tx) 0 tx.outputs (ids outputs) [] (has_new_ids hash check (state_after hash blocks done) time tx valid) in
    let into = sums_in hash asset tx.inputs in
    let from = sums_out hash (mux_id hash tx) asset 0 tx.outputs in
    let balanced = (valid.balanced asset).same in
    let both = held_both asset left made in
    let all = ap (held_units asset) after in
    let issued_more = sum_by-append (λ tx. sum_by (issued_by asset) tx.inputs) txs (tx ∷ []) in
    let retired_more = sum_by-append (λ tx. sum_by (retired_by asset) tx.outputs) txs (tx ∷ []) in
    let issued_one = sum_by-cons (λ tx. sum_by (issued_by asset) tx.inputs) tx [] in
    let retired_one = sum_by-cons (λ tx. sum_by (retired_by asset) tx.outputs) tx [] in
    record {
      distinct = subst (λ (l : List Unspent). Distinct (ids l)) (sym after) (subst (λ (l : List (List ℕ)). Distinct l) (sym (map-append (λ (o : Unspent). o.id) left made))
          (distinct_both (ids left) (ids made) (left_distinct (spent_by hash tx) outputs kept.distinct) new.0 (λ id i j. (new.1 id i).0 (id_in_left (spent_by hash tx) outputs id j))));
      units = omega (arith, kept.units, out, out_is, into, from, balanced, both, all, issued_more, retired_more, issued_one, retired_one);
    }

-- ---- a block more, and a chain

there_behind : (done : List Tx) (tx : Tx) (rest : List Tx) → slice_get (done ++ tx ∷ rest) (length done) ≡ Some tx
there_behind [] tx rest = refl
there_behind (t ∷ done) tx rest = there_behind done tx rest

-- what holds of each transaction of a block
abbrev AreValid : Hash → Check → List Block → ℕ → List Tx → Type 0
AreValid hash check blocks time txs =
    (k : ℕ) (tx : Tx) → slice_get txs k ≡ Some tx → Valid hash check (state_after hash blocks (take k txs)) time tx

kept_along : (hash : Hash) (check : Check) (asset : List ℕ) (blocks : List Block) (time : ℕ) (done rest : List Tx)
    → AreValid hash check blocks time (done ++ rest)
    → IsKept hash asset (txs_of blocks ++ done) → IsKept hash asset (txs_of blocks ++ (done ++ rest))
kept_along hash check asset blocks time done [] valid kept = subst (λ (l : List Tx). IsKept hash asset (txs_of blocks ++ l)) (sym (append-nil done)) kept
kept_along hash check asset blocks time done (tx ∷ rest) valid kept =
    let one = subst (λ (l : List Tx). Valid hash check (state_after hash blocks l) time tx) (take_at done (tx ∷ rest) (length done) refl) (valid (length done) tx (there_behind done tx rest)) in
    let more = subst (λ (l : List Tx). IsKept hash asset l) (append_assoc (txs_of blocks) done (tx ∷ [])) (kept_more hash check asset blocks done time tx one kept) in
    let regrouped : (done ++ tx ∷ []) ++ rest ≡ done ++ tx ∷ rest = append_assoc done (tx ∷ []) rest in
    subst (λ (l : List Tx). IsKept hash asset (txs_of blocks ++ l)) regrouped
    (kept_along hash check asset blocks time (done ++ tx ∷ []) rest (subst (λ (l : List Tx). AreValid hash check blocks time l) (sym regrouped) valid) more)

-- what a valid transaction has
abbrev pub HasFacts : Hash → Check → Type 0
HasFacts hash check = (state : State) (time : ℕ) (tx : Tx) → TxValid hash check state time tx → Valid hash check state time tx

kept_on : (hash : Hash) (check : Check) (asset : List ℕ) → ValidLaws hash check → HasFacts hash check → (before later : List Block) → GoesOn hash check before later
    → IsKept hash asset (txs_of before) → IsKept hash asset (txs_of (before ++ later))
kept_on hash check asset laws facts before [] on kept = subst (λ (l : List Block). IsKept hash asset (txs_of l)) (sym (append-nil before)) kept
kept_on hash check asset laws facts before (block ∷ later) on kept =
    let extends = ((laws.next before block).0 on.0).2 in
    let more = kept_along hash check asset before block.header.time [] block.txs (λ k tx there. facts _ _ tx (extends.txs k tx there))
    (subst (λ (l : List Tx). IsKept hash asset l) (sym (append-nil (txs_of before))) kept) in
    let with : IsKept hash asset (txs_of (before ++ block ∷ [])) = subst (λ (l : List Tx). IsKept hash asset l) (sym (txs_more before block)) more in
    subst (λ (l : List Block). IsKept hash asset (txs_of l)) (append_assoc before (block ∷ []) later)
    (kept_on hash check asset laws facts (before ++ block ∷ []) later on.1 with)

pub conserves : (hash : Hash) (check : Check) → ValidLaws hash check → HasFacts hash check → Conserves hash check
conserves hash check laws facts [] asset chain = absurd chain
conserves hash check laws facts (initial ∷ later) asset chain =
    let none : txs_of (initial ∷ []) ≡ [] = append-nil initial.txs ∙ no_txs hash initial chain.0 in
    let begun : IsKept hash asset [] = record { distinct = tt; units = omega arith } in
    (kept_on hash check asset laws facts (initial ∷ []) later chain.1 (subst (λ (l : List Tx). IsKept hash asset l) (sym none) begun)).units
