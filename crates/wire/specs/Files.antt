-- Files: records one after the other to the end of the bytes, and the first fault of bytes that are no such file.
use Rattle.std.specs.Prelude.{◌≡◌, ◌≢◌, ℕ, ◌+◌, ◌<◌, List, [], ◌∷◌, ◌++◌, length, take, Result, Ok, Err}
use Rattle.std.specs.List.{flat_map, AllByRecursion}
use Rattle.wire.specs.Spelling.{AreBytes}
use Rattle.wire.specs.declared.fault.DataKind.{DataKind}
use Rattle.wire.specs.declared.fault.DataKind.TheVariants.{Short}
use Rattle.wire.specs.declared.files.FramesFault.{FramesFault}
use Rattle.wire.specs.declared.files.FramesFault.TheVariants.{At, NoMemory}
use Rattle.wire.specs.Layout.{FrameFits, frame_spelling}
use Rattle.wire.specs.FirstFault.{Faults, FrameFault}

-- the number of the record from 0, the byte of the file at which its fault stands, and the fault
pub record FileFault : Type 0 where
  pub index : ℕ
  pub at : ℕ
  pub kind : DataKind

-- The bytes begin with some whole records, and what follows is not empty and has a first fault.
pub record FirstFileFault {X : Type 0} (fits : X → Type 0) (spell : X → List ℕ) (F : Faults) (bytes : List ℕ)
    (fault : FileFault) : Type 0 where
  pub whole : List X
  pub rest : List ℕ
  pub place : ℕ
  pub within : AllByRecursion fits whole
  pub spelled : bytes ≡ flat_map spell whole ++ rest
  pub more : rest ≢ []
  pub first : F rest place fault.kind
  pub index : fault.index ≡ length whole
  pub at : fault.at ≡ length (flat_map spell whole) + place

-- what a file reads as: the records that it spells, or its first fault
abbrev pub FileReadsAs : {X : Type 0} → (X → Type 0) → (X → List ℕ) → Faults → List ℕ → Result (List X) FileFault
    → Type 0
FileReadsAs fits spell F bytes (Ok xs) = AllByRecursion fits xs × (bytes ≡ flat_map spell xs)
FileReadsAs fits spell F bytes (Err fault) = FirstFileFault fits spell F bytes fault

-- the same of a file of records that stand after their lengths, each of at most so many bytes
abbrev pub FramesReadAs : {X : Type 0} → ℕ → (X → Type 0) → (X → List ℕ) → Faults → List ℕ
    → Result (List X) FileFault
    → Type 0
FramesReadAs most fits spell F =
    FileReadsAs (FrameFits most fits spell) (frame_spelling spell) (FrameFault most fits spell F)

-- ---- laws

pub record FileLaws {X : Type 0} (fits : X → Type 0) (spell : X → List ℕ) (F : Faults) : Type 0 where
  -- all bytes read as something
  pub reads : (bytes : List ℕ) → AreBytes bytes
      → (reading : Result (List X) FileFault) × FileReadsAs fits spell F bytes reading
  -- and as one thing
  pub one_reading :
      (bytes : List ℕ) (r s : Result (List X) FileFault)
      → AreBytes bytes
      → FileReadsAs fits spell F bytes r
      → FileReadsAs fits spell F bytes s
      → r ≡ s
  -- no two lists of records have one file
  pub one_form :
      (xs ys : List X)
      → AllByRecursion fits xs
      → AllByRecursion fits ys
      → flat_map spell xs ≡ flat_map spell ys
      → xs ≡ ys
  -- files one after the other are a file of all their records
  pub joined :
      (a b : List ℕ) (xs ys : List X)
      → FileReadsAs fits spell F a (Ok xs)
      → FileReadsAs fits spell F b (Ok ys)
      → FileReadsAs fits spell F (a ++ b) (Ok (xs ++ ys))
  -- a file of some records and others is the file of the some and the file of the others
  pub parted :
      (bytes : List ℕ) (xs ys : List X)
      → FileReadsAs fits spell F bytes (Ok (xs ++ ys))
      → (a : List ℕ) × (b : List ℕ)
      × (bytes ≡ a ++ b)
      × FileReadsAs fits spell F a (Ok xs)
      × FileReadsAs fits spell F b (Ok ys)
  -- a record after a file
  pub pushed :
      (bytes : List ℕ) (xs : List X) (x : X)
      → FileReadsAs fits spell F bytes (Ok xs)
      → fits x
      → FileReadsAs fits spell F (bytes ++ spell x) (Ok (xs ++ x ∷ []))
  -- a fault after a file
  pub behind :
      (a b : List ℕ) (xs : List X) (f : FileFault)
      → FileReadsAs fits spell F a (Ok xs)
      → FirstFileFault fits spell F b f
      → FirstFileFault fits spell F (a ++ b)
      (record { index = length xs + f.index; at = length a + f.at; kind = f.kind })

-- of a file of records that stand after their lengths
pub record FrameLaws {X : Type 0} (most : ℕ) (fits : X → Type 0) (spell : X → List ℕ) (F : Faults) : Type 0 where
  pub file : FileLaws (FrameFits most fits spell) (frame_spelling spell) (FrameFault most fits spell F)
  -- a record after a file, of which only some first bytes are there, is short at its first byte
  pub torn :
      (bytes : List ℕ) (xs : List X) (x : X) (k : ℕ)
      → FramesReadAs most fits spell F bytes (Ok xs)
      → FrameFits most fits spell x
      → 0 < k
      → k < length (frame_spelling spell x)
      → FramesReadAs most fits spell F (bytes ++ take k (frame_spelling spell x))
      (Err (record { index = length xs; at = length bytes; kind = Short }))

-- ---- what a function of the code answered, against these

-- A fault is the one that reading gives. Out of memory is free.
abbrev pub FileFails : {X : Type 0} → FramesFault → Result (List X) FileFault → Type 0
FileFails NoMemory reading = Unit {0}
FileFails (At index at kind) reading = reading ≡ Err (record { index = index; at = at; kind = kind })

abbrev pub FileGives : {X : Type 0} → Result (List X) FramesFault → Result (List X) FileFault → Type 0
FileGives (Ok xs) reading = reading ≡ Ok xs
FileGives (Err fault) reading = FileFails fault reading
