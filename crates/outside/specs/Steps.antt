-- Steps on files and a sink, and what became of each.
use Rattle.std.specs.Prelude.{◌≡◌, ℕ, Bool, true, false, List, [], ◌∷◌, ◌++◌, Option, IfSome, IsSome, Result, Ok, Err}
use Rattle.std.specs.Option.{option_map}
use Rattle.outside.specs.declared.fault.FileFault.{FileFault}
use Rattle.outside.specs.declared.fault.FileFault.TheVariants.{Failed, NoMemory}
use Rattle.outside.specs.Fault.{Rose}
use Rattle.outside.specs.Sink.{output_with, OutputsPart}
use Rattle.outside.specs.Files.{WriteKind, AllRead, write_of}
use Rattle.outside.specs.World.{World, Io}

-- one step: a read of a file within a size, an append or a replace, or a print
pub data Step : Type 0 where
  Read : (name : List ℕ) (most : ℕ) → Step
  Write : (kind : WriteKind) (name bytes : List ℕ) → Step
  Print : (bytes : List ℕ) → Step

abbrev pub is_read : Step → Bool
is_read (Read name most) = true
is_read (Write kind name bytes) = false
is_read (Print bytes) = false

-- what is kept and then more, where it is said
abbrev pub joined : {X : Type 0} → Option (List X) → List X → Option (List X)
joined old more = option_map (λ xs. xs ++ more) old

-- The step was done, a read of a file that is there. What is not named here is as it was.
abbrev pub WasDone : Step → World → World → Type 0
WasDone (Read name most) old new =
    IfSome old.contents (λ of. IsSome (of name))
    × (new ≡ record old { reads = joined old.reads (record { name = name; most = most } ∷ []) })
WasDone (Write kind name bytes) old new =
    AllRead (write_of kind name bytes true) old.contents new.contents
    × (new
    ≡ record old { contents = new.contents; writes = joined old.writes (write_of kind name bytes true ∷ []) })
WasDone (Print bytes) old new = new ≡ record old { output = output_with old.output bytes }

-- The step was begun and failed, perhaps after a part of it. The count of its faults rose, and what is not named here
-- is as it was.
abbrev pub HasFailed : Step → World → World → Type 0
HasFailed (Read name most) old new =
    Rose old.read_faults new.read_faults
    × (new
    ≡ record old {
      reads = joined old.reads (record { name = name; most = most } ∷ []);
      read_faults = new.read_faults;
    })
HasFailed (Write kind name bytes) old new =
    Rose old.write_faults new.write_faults
    × AllRead (write_of kind name bytes false) old.contents new.contents
    × (new
    ≡ record old {
      contents = new.contents;
      writes = joined old.writes (write_of kind name bytes false ∷ []);
      write_faults = new.write_faults;
    })
HasFailed (Print bytes) old new =
    Rose old.sink_faults new.sink_faults
    × OutputsPart old.output bytes new.output
    × (new ≡ record old { output = new.output; sink_faults = new.sink_faults })

-- What became of a step: done, or begun and failed, or not begun for out of memory.
abbrev pub Began : {T : Type 0} → Step → Io → Io → Result T FileFault → Type 0
Began s before after (Ok _) = WasDone s before.world after.world × (after.refs ≡ before.refs)
Began s before after (Err Failed) = HasFailed s before.world after.world × (after.refs ≡ before.refs)
Began s before after (Err NoMemory) = after ≡ before
