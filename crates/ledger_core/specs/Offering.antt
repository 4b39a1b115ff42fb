-- What is found out of an offered block, part by part. Only contracts of private functions name it.
use Rattle.std.specs.Prelude.{◌≡◌, ℕ, List, [], ◌∷◌, Some, Result, Ok, Err}
use Rattle.std.specs.List.{flat_map}
use Rattle.wire.specs.Tables.{First, Cause}
use Rattle.data_model.specs.declared.tx.Tx.{Tx}
use Rattle.entry_ids.specs.declared.tx.TxIds.{TxIds}
use Rattle.entry_ids.specs.Ids.{AreIds}
use Rattle.tx_check.specs.declared.refusal.TxFault.{TxFault}
use Rattle.tx_check.specs.declared.refusal.TxFault.TheVariants as tx
use Rattle.ledger_core.specs.declared.refusal.BlockRefusal.{BlockRefusal}
use Rattle.ledger_core.specs.declared.refusal.BlockRefusal.TheVariants.{B8}
use Rattle.ledger_core.specs.declared.refusal.OfferFault.{OfferFault}
use Rattle.ledger_core.specs.declared.refusal.OfferFault.TheVariants.{Refused, NoMemory}
use Rattle.ledger_core.specs.declared.unfinished.Changes.{Changes}
use Rattle.keyed.specs.Functions.{Hash}
use Rattle.ledger_core.specs.Unspent.{unspent_after, spent_by, used}

-- the ids of transactions, one after the other
abbrev pub AreAllIds : Hash → List Tx → List TxIds → Type 0
AreAllIds hash [] [] = Unit {0}
AreAllIds hash [] (first ∷ ids) = ⊥
AreAllIds hash (tx ∷ txs) [] = ⊥
AreAllIds hash (tx ∷ txs) (first ∷ ids) = AreIds hash tx first × AreAllIds hash txs ids

-- what transactions change
pub record AreChanges (hash : Hash) (txs : List Tx) (changes : Changes) : Type 0 where
  pub made : changes.made.items ≡ unspent_after hash txs
  pub spent : changes.spent.items ≡ flat_map (spent_by hash) txs
  pub used_are : changes.used.items ≡ used hash txs

-- a fault is what this cause reports; out of memory is free
abbrev pub RefusesAs : Cause BlockRefusal → OfferFault → Type 0
RefusesAs cause (Refused reported) = cause reported
RefusesAs cause NoMemory = Unit {0}

-- a fault is the first of these causes that holds; out of memory is free
abbrev pub RefusesBy : List (Cause BlockRefusal) → OfferFault → Type 0
RefusesBy causes (Refused reported) = First causes (Some reported)
RefusesBy causes NoMemory = Unit {0}

-- what is reported of the transaction at a place, where this is found out of it
abbrev pub RefusedAt : Result (Unit {0}) TxFault → (place : ℕ) → Result (Unit {0}) OfferFault → Type 0
RefusedAt (Ok u) place reported = reported ≡ Ok tt
RefusedAt (Err (tx.Refused cause)) place reported = reported ≡ Err (Refused (B8 place cause))
RefusedAt (Err tx.NoMemory) place reported = reported ≡ Err NoMemory
