-- What is said of a reader, once for all readers: it reads the values that fit, and what it reports is the first fault.
use Rattle.std.specs.Prelude.{◌≡◌, ℕ, ◌+◌, List, ◌++◌, length, Result, Ok, Err}
use Rattle.wire.specs.declared.fault.DataKind.{DataKind}
use Rattle.wire.specs.declared.fault.DataFault.{DataFault}
use Rattle.wire.specs.declared.fault.DataFault.TheVariants.{At, NoMemory}
use Rattle.wire.specs.Spelling.{AreBytes}
use Rattle.wire.specs.Places.{Place, Fault, Reading}
use Rattle.wire.specs.FirstFault.{Faults, WholeFault}

-- from one place to another these bytes are passed
pub record Passes (from : Place) (front : List ℕ) (to : Place) : Type 0 where
  pub bytes : from.rest ≡ front ++ to.rest
  pub at : to.at ≡ from.at + length front

-- a fault of the bytes at a place
pub record FaultAt (F : Faults) (from : Place) (fault : Fault) : Type 0 where
  pub off : ℕ
  pub at : fault.at ≡ from.at + off
  pub first : F from.rest off fault.kind

-- what a reader may answer at a place
abbrev pub Answers : {X : Type 0} → (X → Type 0) → (X → List ℕ) → Faults → Place → Reading X → Type 0
Answers fits spell F from (Ok x) = fits x.0 × Passes from (spell x.0) x.1
Answers fits spell F from (Err fault) = FaultAt F from fault

-- the same of a function of the code, which goes to another place. Out of memory is free.
abbrev pub Answered : {X : Type 0} → (X → Type 0) → (X → List ℕ) → Faults → (from to : Place) → Result X DataFault
    → Type 0
Answered fits spell F from to (Ok x) = fits x × Passes from (spell x) to
Answered fits spell F from to (Err NoMemory) = Unit {0}
Answered fits spell F from to (Err (At at kind)) = FaultAt F from (record { at = at; kind = kind })

abbrev pub fault_at : Place → ℕ → DataKind → Fault
fault_at from off kind = record { at = from.at + off; kind = kind }

pub record IsReader {X : Type 0} (fits : X → Type 0) (spell : X → List ℕ) (F : Faults) (read : Place → Reading X)
    : Type 0 where
  -- what is read was spelled and fits, and what is reported is the first fault
  pub sound : (p : Place) → AreBytes p.rest → Answers fits spell F p (read p)
  -- what fits and is spelled is read, whatever follows it
  pub again : (p : Place) (x : X) (q : Place) → fits x → Passes p (spell x) q → read p ≡ Ok (x, q)
  -- the first fault is reported
  pub told : (p : Place) (off : ℕ) (kind : DataKind) → AreBytes p.rest → F p.rest off kind
      → read p ≡ Err (fault_at p off kind)

-- ---- the same of a reader of all of the bytes

abbrev pub WholeAnswers : {X : Type 0} → (X → Type 0) → (X → List ℕ) → Faults → Place → Result X Fault → Type 0
WholeAnswers fits spell F from (Ok x) = fits x × (from.rest ≡ spell x)
WholeAnswers fits spell F from (Err fault) = FaultAt (WholeFault fits spell F) from fault

pub record IsWholeReader {X : Type 0} (fits : X → Type 0) (spell : X → List ℕ) (F : Faults)
    (read : Place → Result X Fault) : Type 0 where
  pub sound : (p : Place) → AreBytes p.rest → WholeAnswers fits spell F p (read p)
  pub again : (p : Place) (x : X) → fits x → p.rest ≡ spell x → read p ≡ Ok x
  pub told : (p : Place) (off : ℕ) (kind : DataKind) → AreBytes p.rest → WholeFault fits spell F p.rest off kind
      → read p ≡ Err (fault_at p off kind)
