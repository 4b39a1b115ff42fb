-- What holds of all layouts, and of each record that is one.
use Rattle.std.specs.Prelude.{◌≡◌, ◌≤◌, ◌↔◌, ℕ, List, ◌++◌, length, Result, Ok, Err}
use Rattle.wire.specs.declared.fault.DataKind.{DataKind}
use Rattle.wire.specs.Spelling.{AreBytes}
use Rattle.wire.specs.Places.{Fault}
use Rattle.wire.specs.Layout.{Layout, spelling, Fits, read_at}
use Rattle.wire.specs.FirstFault.{Faults, WholeFault, FirstFault, FirstFaultOfAll}
use Rattle.wire.specs.Readers.{IsReader}

-- what bytes begin with: the spelling of a value that fits, and some rest, or a first fault
abbrev pub BeginsAs : {X : Type 0} → (X → Type 0) → (X → List ℕ) → Faults → List ℕ → Result (X × List ℕ) Fault → Type 0
BeginsAs fits spell F bytes (Ok x) = fits x.0 × (bytes ≡ spell x.0 ++ x.1)
BeginsAs fits spell F bytes (Err fault) = F bytes fault.at fault.kind

-- what all of the bytes are: the spelling of a value that fits, or bytes with a first fault
abbrev pub ReadsAs : {X : Type 0} → (X → Type 0) → (X → List ℕ) → Faults → List ℕ → Result X Fault → Type 0
ReadsAs fits spell F bytes (Ok x) = fits x × (bytes ≡ spell x)
ReadsAs fits spell F bytes (Err fault) = WholeFault fits spell F bytes fault.at fault.kind

pub record SpellingLaws {X : Type 0} (fits : X → Type 0) (spell : X → List ℕ) (F : Faults) : Type 0 where
  -- all bytes begin with something
  pub begins : (bytes : List ℕ) → AreBytes bytes → (r : Result (X × List ℕ) Fault) × BeginsAs fits spell F bytes r
  -- and with one thing
  pub one_beginning : (bytes : List ℕ) (r s : Result (X × List ℕ) Fault) → AreBytes bytes
      → BeginsAs fits spell F bytes r
      → BeginsAs fits spell F bytes s
      → r ≡ s
  -- all bytes read as something
  pub reads : (bytes : List ℕ) → AreBytes bytes → (r : Result X Fault) × ReadsAs fits spell F bytes r
  -- and as one thing
  pub one_reading : (bytes : List ℕ) (r s : Result X Fault) → AreBytes bytes
      → ReadsAs fits spell F bytes r
      → ReadsAs fits spell F bytes s
      → r ≡ s
  -- two spellings of two values are different, and none begins another
  pub one_form : (v w : X) (x y : List ℕ) → fits v → fits w → spell v ++ x ≡ spell w ++ y → (v ≡ w) × (x ≡ y)

pub record LayoutLaws : Type 0 where
  pub spellings : (layout : Layout) → SpellingLaws (Fits layout) (spelling layout) (FirstFault layout)
  -- one reader reads every layout, from every place, and reports its first fault
  pub reader : (layout : Layout) → IsReader (Fits layout) (spelling layout) (FirstFault layout) (read_at layout)
  -- a fault stands at one of the bytes, or at their end
  pub within : (layout : Layout) (bytes : List ℕ) (at : ℕ) (kind : DataKind) → FirstFault layout bytes at kind
      → at ≤ length bytes
  pub all_within : (layout : Layout) (bytes : List ℕ) (at : ℕ) (kind : DataKind)
      → FirstFaultOfAll layout bytes at kind
      → at ≤ length bytes

-- what holds of a reader of all of the bytes that reads the records of a layout
pub record RecordLaws {X : Type 0} (layout : Layout) (fits : X → Type 0) (spell : X → List ℕ)
    (read : List ℕ → Result X Fault) : Type 0 where
  -- what is read is spelled so
  pub spelled : (bytes : List ℕ) (x : X) → AreBytes bytes → read bytes ≡ Ok x → fits x × (bytes ≡ spell x)
  -- what is spelled is read again
  pub again : (x : X) → fits x → read (spell x) ≡ Ok x
  -- two spellings of two values are different, and none begins another
  pub one_form : (a b : X) (x y : List ℕ) → fits a → fits b → spell a ++ x ≡ spell b ++ y → (a ≡ b) × (x ≡ y)
  -- what is reported of other bytes is their first fault
  pub fault : (bytes : List ℕ) (f : Fault) → AreBytes bytes
      → (read bytes ≡ Err f) ↔ FirstFaultOfAll layout bytes f.at f.kind
  -- bytes have at most one
  pub one_fault : (bytes : List ℕ) (f g : Fault) → AreBytes bytes
      → FirstFaultOfAll layout bytes f.at f.kind
      → FirstFaultOfAll layout bytes g.at g.kind
      → f ≡ g
  -- it stands at one of the bytes, or at their end
  pub within : (bytes : List ℕ) (at : ℕ) (kind : DataKind) → FirstFaultOfAll layout bytes at kind → at ≤ length bytes
