-- The output that an input spends is the one that it names.
use Rattle.std.proofs.Common.{◌≡◌, ℕ, List, [], ◌∷◌, None, refl}
use Rattle.data_model.specs.declared.input.Input.{Input}
use Rattle.data_model.specs.declared.tx.Tx.{Tx}
use Rattle.keyed.specs.Functions.{Hash}
use Rattle.entry_ids.specs.Ids.{names, nonce_named}
use Rattle.tx_check.specs.Parts.{named_output, spent_id}

of_nonce : (nonce id : List ℕ) → named_output (nonce_named nonce id) ≡ None
of_nonce [] id = refl
of_nonce (b ∷ nonce) id = refl

pub spent_is_named : (hash : Hash) (tx : Tx) (input : Input) → named_output (names hash tx input) ≡ spent_id hash input
unfolding names
spent_is_named hash tx (Input.Issue issue) = of_nonce issue.nonce _
spent_is_named hash tx (Input.Spend spend) = refl
