-- Ids and hashes have 32 bytes. In the code their type makes them so; in a definition they are lists. Contracts of
-- crates above name it.
use Rattle.std.specs.Prelude.{◌≡◌, ℕ, List, length, IfSome}
use Rattle.std.specs.List.{AllByRecursion}
use Rattle.vm_run.specs.Effect.{Context, Nothing, Tx, Block, TxContext}
use Rattle.vm_run.specs.declared.transaction.OutSeen.{OutSeen}

abbrev pub IsId : List ℕ → Type 0
IsId id = length id ≡ 32

-- those of an output, as a program sees it
pub record OutHasIds (o : OutSeen) : Type 0 where
  pub asset : IsId o.asset
  pub data_hash : IsId o.data_hash

-- those of an input of a transaction
pub record TxHasIds (t : TxContext) : Type 0 where
  pub asset : IsId t.asset
  pub data_hash : IsId t.data_hash
  pub entry_data_hash : IsId t.entry_data_hash
  pub entry_id : IsId t.entry_id
  pub output_id : IfSome t.output_id IsId
  pub sig_hash : IsId t.sig_hash
  pub outs : AllByRecursion OutHasIds t.outs

-- those of what a program is run for
abbrev pub HasIds : Context → Type 0
HasIds Nothing = Unit {0}
HasIds (Tx t) = TxHasIds t
HasIds (Block b) = IsId b.block_id
