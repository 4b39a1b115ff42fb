-- What a chain shows to the rules of transactions.
use Rattle.std.specs.Prelude.{ℕ, List, map, Contains}
use Rattle.data_model.specs.declared.output_body.OutputBody.{OutputBody}

-- an output that nothing has spent
pub record Unspent : Type 0 where
  pub id : List ℕ
  pub body : OutputBody

pub record State : Type 0 where
  -- the id of the initial block
  pub initial : List ℕ
  pub unspent : List Unspent
  -- the ids of the nonces that are live
  pub live : List (List ℕ)

-- an unspent output has this id
abbrev pub HasId : State → List ℕ → Type 0
HasId state id = Contains (map (λ output. output.id) state.unspent) id

-- an unspent output has this id and this body
abbrev pub Holds : State → List ℕ → OutputBody → Type 0
Holds state id body = Contains state.unspent (record { id = id; body = body })

-- a nonce of this id is live
abbrev pub IsLive : State → List ℕ → Type 0
IsLive state id = Contains state.live id
