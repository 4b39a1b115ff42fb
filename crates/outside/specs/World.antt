-- What files and a sink say of themselves at a moment, as one.
use Rattle.std.specs.Prelude.{ℕ, List, Option}
use Rattle.outside.specs.Files.{Content, Read, Write}

-- what the sink holds, what the files contain, which calls on them were begun, and how often each kind of call failed
pub record World : Type 0 where
  pub output : Option (List ℕ)
  pub sink_faults : ℕ
  pub contents : Option (List ℕ → Content)
  pub reads : Option (List Read)
  pub writes : Option (List Write)
  pub read_faults : ℕ
  pub write_faults : ℕ

-- that, and the references through which the files and the sink are held
pub record Io : Type 0 where
  pub world : World
  pub refs : ℕ × ℕ

-- the world of a sink and of files, from what each of the two says
abbrev pub world_at :
    {F S : Type 0}
    → (S → Option (List ℕ))
    → (S → ℕ)
    → (F → Option (List ℕ → Content))
    → (F → Option (List Read))
    → (F → Option (List Write))
    → (F → ℕ)
    → (F → ℕ)
    → S
    → F
    → World
world_at output faults contents reads writes read_faults write_faults out files = record {
  output = output out;
  sink_faults = faults out;
  contents = contents files;
  reads = reads files;
  writes = writes files;
  read_faults = read_faults files;
  write_faults = write_faults files;
}
