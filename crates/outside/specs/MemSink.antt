-- What a sink in memory keeps.
use Rattle.std.specs.Prelude.{ℕ, List}

pub record MemSinkState : Type 0 where
  -- what was written
  pub content : List ℕ
  -- how many calls of write were made
  pub calls : ℕ
  -- the calls that are to fail, counted from 0
  pub fails : List ℕ
  -- how many have failed
  pub faults : ℕ
