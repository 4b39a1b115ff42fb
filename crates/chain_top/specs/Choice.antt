-- What a compiler of contracts chose.
use Rattle.std.specs.Prelude.{ℕ, List}

-- a bound that is linear in the lengths of the arguments: its constant, and what each byte of an argument adds, for
-- each parameter of the contract and then of the clause
pub record Bound : Type 0 where
  pub constant : ℕ
  pub per : List ℕ

-- of one contract: its name, the body of its program, and the bound of each clause, in order
pub record Compiled : Type 0 where
  pub name : List ℕ
  pub body : List ℕ
  pub bounds : List Bound

-- of the contracts of a source, in order, which a command that prints them goes by
abbrev pub Choice : Type 0
Choice = List Compiled
