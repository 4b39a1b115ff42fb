-- What a transaction makes, one output after the other, by the ids and the hashes that are there.
use Rattle.std.proofs.Common.{◌≡◌, ℕ, zero, suc, ◌+◌, ◌<◌, List, [], ◌∷◌, ◌++◌, length, get_or, take, Option, Some, None, sym, ◌∙◌, ap, subst, arith, append_assoc, append-nil, add-one}
use Rattle.std.specs.List.{flat_map, enumerate_from}
use Rattle.std.proofs.lemmas.List.{length-map, get_or-map}
use Rattle.std.proofs.lemmas.List.FromFn.{length-enumerate_from, get_or-enumerate_from}
use Rattle.data_model.specs.declared.output.Output.{Output}
use Rattle.data_model.specs.declared.output_body.OutputBody.{OutputBody}
use Rattle.data_model.specs.declared.tx.Tx.{Tx}
use Rattle.entry_ids.specs.declared.tx.TxIds.{TxIds}
use Rattle.keyed.specs.Functions.{Hash}
use Rattle.entry_ids.specs.Ids.{AreIds, mux_id, output_id, result_id, result_data}
use Rattle.ledger_core.specs.Unspent.{made_at, made_body, made_of}

-- this stands at that place of the list
pub record StandsAt {X : Type 0} (xs : List X) (i : ℕ) (x : X) : Type 0 where
  pub there : i < length xs
  pub is : x ≡ get_or xs i x

-- ---- one after the other

module _ {X Y : Type 0} (f : ℕ → X → List Y) where
  abbrev pub all_from : ℕ → List X → List Y
  all_from n xs = flat_map (λ x. f x.0 x.1) (enumerate_from n xs)

  next_from : (n : ℕ) (xs : List X) (i : ℕ) (x : X) → StandsAt xs i x → all_from n (take (suc i) xs) ≡ all_from n (take i xs) ++ f (n + i) x
  next_from n [] i x s = absurd (omega (arith, s.there))
  next_from n (y ∷ xs) zero x s = (let e : n ≡ n + 0 = omega arith in append-nil (f n y) ∙ ap (f n) (sym s.is) ∙ ap (λ k. f k x) e)
  next_from n (y ∷ xs) (suc i) x s =
      let e : (n + 1) + i ≡ n + suc i = omega arith in
      ap (λ ys. f n y ++ ys) (next_from (n + 1) xs i x (record { there = omega (arith, s.there); is = s.is }))
      ∙ sym (append_assoc (f n y) (all_from (n + 1) (take i xs)) (f ((n + 1) + i) x))
      ∙ ap (λ k. (f n y ++ all_from (n + 1) (take i xs)) ++ f k x) e

  pub next_of_all : (xs : List X) (i : ℕ) (x : X) → StandsAt xs i x → all_from 0 (take (i + 1) xs) ≡ all_from 0 (take i xs) ++ f i x
  next_of_all xs i x s =
      let e : 0 + i ≡ i = omega arith in
      rw add-one (next_from 0 xs i x s ∙ ap (λ k. all_from 0 (take i xs) ++ f k x) e)

-- ---- one output

same_some : {X : Type 0} (x y : X) → Some x ≡ Some y → x ≡ y
same_some x y e = cc

no_some : {X : Type 0} (x : X) → None ≡ Some x → ⊥
no_some x e = cc

-- the id of an output under a program is that of its body
id_of_body : (hash : Hash) (mux : List ℕ) (place : ℕ) (output : Output) (body : OutputBody) → made_body mux place (result_data hash output) output ≡ Some body → output_id hash body ≡ result_id hash mux place output
unfolding result_id result_data
id_of_body hash mux place (Output.Control control) body e = ap (output_id hash) (sym (same_some _ body e))
id_of_body hash mux place (Output.Retire retire) body e = absurd (no_some body e)

module _ (hash : Hash) (tx : Tx) (ids : TxIds) (are : AreIds hash tx ids) where
  pub as_many_results : length ids.results ≡ length tx.outputs
  as_many_results =
      ap (λ (xs : List (List ℕ)). length xs) are.results
      ∙ length-map (enumerate_from 0 tx.outputs) (λ (x : ℕ × Output). result_id hash (mux_id hash tx) x.0 x.1)
      ∙ length-enumerate_from 0 tx.outputs

  pub as_many_hashes : length ids.result_data ≡ length tx.outputs
  as_many_hashes = ap (λ (xs : List (List ℕ)). length xs) are.result_data ∙ length-map tx.outputs (result_data hash)

  -- by the slices that a walk along the outputs reads
  module _ (slice : List Output) (same : slice ≡ tx.outputs) (k : ℕ) (output : Output) (s : StandsAt slice k output) where
    there : k < length tx.outputs
    there = subst (λ (xs : List Output). k < length xs) same s.there

    here : get_or tx.outputs k output ≡ output
    here = sym (s.is ∙ ap (λ (xs : List Output). get_or xs k output) same)

    id_read : (results : List (List ℕ)) → results ≡ ids.results → get_or results k [] ≡ result_id hash (mux_id hash tx) k output
    id_read results got =
        let id_at = λ (x : ℕ × Output). result_id hash (mux_id hash tx) x.0 x.1 in
        let counted : k < length (enumerate_from 0 tx.outputs) = rw (length-enumerate_from 0 tx.outputs) there in
        let place : 0 + k ≡ k = omega arith in
        ap (λ (xs : List (List ℕ)). get_or xs k []) (got ∙ are.results)
        ∙ get_or-map id_at (enumerate_from 0 tx.outputs) k (0, output) [] counted
        ∙ ap id_at (get_or-enumerate_from 0 tx.outputs k (0, output) there)
        ∙ ap (λ (n : ℕ). result_id hash (mux_id hash tx) n (get_or tx.outputs k output)) place
        ∙ ap (result_id hash (mux_id hash tx) k) here

    hash_read : (hashes : List (List ℕ)) → hashes ≡ ids.result_data → get_or hashes k [] ≡ result_data hash output
    hash_read hashes read =
        ap (λ (xs : List (List ℕ)). get_or xs k []) (read ∙ are.result_data)
        ∙ get_or-map (result_data hash) tx.outputs k output [] there
        ∙ ap (result_data hash) here

    -- the body that is found at a place
    body_is : (hashes : List (List ℕ)) → hashes ≡ ids.result_data → (found : Option OutputBody) → found ≡ made_body ids.mux k (get_or hashes k []) output → made_body (mux_id hash tx) k (result_data hash output) output ≡ found
    body_is hashes read found e =
        ap (λ (m : List ℕ). made_body m k (result_data hash output) output) (sym are.mux)
        ∙ ap (λ (d : List ℕ). made_body ids.mux k d output) (sym (hash_read hashes read))
        ∙ sym e

    pub made_here : (hashes results : List (List ℕ)) → hashes ≡ ids.result_data → results ≡ ids.results → (body : OutputBody) → Some body ≡ made_body ids.mux k (get_or hashes k []) output
        → made_at hash (mux_id hash tx) k output ≡ record { id = get_or results k []; body = body } ∷ []
    made_here hashes results read got body e =
        let is = body_is hashes read (Some body) e in
        let id : output_id hash body ≡ get_or results k [] = id_of_body hash (mux_id hash tx) k output body is ∙ sym (id_read results got) in
        ap (made_of hash) is ∙ ap (λ (id : List ℕ). record { id = id; body = body } ∷ []) id

    pub made_nothing : (hashes : List (List ℕ)) → hashes ≡ ids.result_data → None ≡ made_body ids.mux k (get_or hashes k []) output → made_at hash (mux_id hash tx) k output ≡ []
    made_nothing hashes read e = ap (made_of hash) (body_is hashes read None e)
