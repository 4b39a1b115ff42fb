-- Ids of outputs, one after the other, and which of them are taken.
use Rattle.std.proofs.Common.{◌≡◌, ℕ, zero, suc, ◌+◌, List, [], ◌∷◌, length, get_or, Some, None, refl, sym, ◌∙◌, ap, subst, arith}
use Rattle.std.specs.Prelude.{slice_get, map}
use Rattle.std.specs.List.{enumerate_from}
use Rattle.std.proofs.lemmas.List.{length-map}
use Rattle.std.proofs.lemmas.Option.{get_or_from_slice_get}
use Rattle.wire.specs.Tables.{Reports}
use Rattle.data_model.specs.declared.output.Output.{Output}
use Rattle.data_model.specs.declared.tx.Tx.{Tx}
use Rattle.keyed.specs.Functions.{Hash}
use Rattle.entry_ids.specs.Ids.{result_id, result_ids, mux_id}
use Rattle.tx_check.specs.declared.refusal.TxRefusal.TheVariants.{X13}
use Rattle.tx_check.specs.View.{State}
use Rattle.tx_check.specs.Table.{IsTaken}
use Rattle.wire.specs.Lists.{StandsAt}
use Rattle.tx_check.proofs.Everywhere.{got_along}

counted_from : {X Y : Type 0} (f : ℕ → X → Y) (n : ℕ) (xs : List X) (i : ℕ) (x : X) → slice_get xs i ≡ Some x → slice_get (map (λ (y : ℕ × X). f y.0 y.1) (enumerate_from n xs)) i ≡ Some (f (n + i) x)
counted_from {X} {Y} f n [] i x e = absurd (nothing e)
  where
    nothing : {Z : Type 0} {z : Z} → None ≡ Some z → ⊥
    nothing e = cc
counted_from {X} {Y} f n (y ∷ xs) zero x e = (let same : n ≡ n + 0 = omega arith in ap (λ (z : X). Some (f n z)) (one e) ∙ ap (λ (k : ℕ). Some (f k x)) same)
  where
    one : {Z : Type 0} {a b : Z} → Some a ≡ Some b → a ≡ b
    one e = cc
counted_from {X} {Y} f n (y ∷ xs) (suc i) x e =
    let same : (n + 1) + i ≡ n + suc i = omega arith in
    counted_from f (n + 1) xs i x e ∙ ap (λ (k : ℕ). Some (f k x)) same

module _ (hash : Hash) (tx : Tx) where
  pub result_at : (k : ℕ) (output : Output) → slice_get tx.outputs k ≡ Some output → slice_get (result_ids hash tx) k ≡ Some (result_id hash (mux_id hash tx) k output)
  result_at k output e =
      let same : 0 + k ≡ k = omega arith in
      counted_from (result_id hash (mux_id hash tx)) 0 tx.outputs k output e ∙ ap (λ (n : ℕ). Some (result_id hash (mux_id hash tx) n output)) same

  -- what is read at the place of an output is its id
  pub result_read : (slice : List Output) (results : List (List ℕ)) (k : ℕ) (output : Output) (d : List ℕ) → slice ≡ tx.outputs → results ≡ result_ids hash tx → StandsAt slice k output → get_or results k d ≡ result_id hash (mux_id hash tx) k output
  result_read slice results k output d same e s =
      get_or_from_slice_get results k _ d (ap (λ (zs : List (List ℕ)). slice_get zs k) e ∙ result_at k output (got_along same s))

module _ (P : Type 0) (state : State) (results ids : List (List ℕ)) (same : results ≡ ids) (k : ℕ) (read id : List ℕ) (is : read ≡ id) where
  abbrev Found : Type 0
  Found = P × IsTaken state results k read

  pub takes : Found → Reports (P × IsTaken state ids k id) (X13 k id) (X13 k read)
  takes h =
      (subst (λ (z : List ℕ). P × IsTaken state ids k z) is (subst (λ (zs : List (List ℕ)). P × IsTaken state zs k read) same h), ap (X13 k) is)

  pub takes_not : P × IsTaken state ids k id → Found
  takes_not h =
      subst (λ (zs : List (List ℕ)). P × IsTaken state zs k read) (sym same) (subst (λ (z : List ℕ). P × IsTaken state ids k z) (sym is) h)

length_counted : {X : Type 0} (n : ℕ) (xs : List X) → length (enumerate_from n xs) ≡ length xs
length_counted n [] = refl
length_counted n (x ∷ xs) = ap (λ (k : ℕ). suc k) (length_counted (n + 1) xs)

-- there are as many ids as outputs
pub length_results : (hash : Hash) (tx : Tx) (results : List (List ℕ)) → results ≡ result_ids hash tx → length results ≡ length tx.outputs
length_results hash tx results e =
    ap (λ (ids : List (List ℕ)). length ids) e
    ∙ length-map (enumerate_from 0 tx.outputs) (λ (x : ℕ × Output). result_id hash (mux_id hash tx) x.0 x.1)
    ∙ length_counted 0 tx.outputs
