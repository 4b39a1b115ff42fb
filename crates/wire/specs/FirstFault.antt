-- The first fault of bytes that begin with no spelling of a layout: all fields before it are spelled, and a kind's
-- condition holds of the next. Its place is counted from the first of the bytes.
use Rattle.std.specs.Prelude.{◌≡◌, ℕ, zero, suc, ◌+◌, ◌^◌, ◌≤◌, ◌<◌, ◌⊎◌, List, [], ◌∷◌, ◌++◌, length, Option, Some}
use Rattle.std.specs.Prelude.{None, Bool, true, false, IsFalse}
use Rattle.wire.specs.declared.fault.DataKind.{DataKind}
use Rattle.wire.specs.declared.fault.DataKind.TheVariants.{Short, NotShortest, TooBig, Zero, Kind, Trailing}
use Rattle.wire.specs.Spelling.{varint, varstring}
use Rattle.wire.specs.Reading.{IsTooBig, IsShort, IsNotShortest, IsTooBigString, IsShortString}
use Rattle.wire.specs.Places.{is_one_of}
use Rattle.wire.specs.Layout.{Layout, Nothing, Number, Amount, Raw, Text, Then, Many, Kinds, Frame, ByteOf, U32}
use Rattle.wire.specs.Layout.{Given, When, spelling, Fits, IsNumber, IsWithin}

-- ---- fields

-- the bytes begin with a number of which this holds
pub record BeginsWithNumber (P : ℕ → Type 0) (bytes : List ℕ) : Type 0 where
  pub number : ℕ
  pub rest : List ℕ
  pub spelled : bytes ≡ varint number ++ rest
  pub small : number < 2 ^ 63
  pub holds : P number

-- How a number is spelled is tested before what it says.
abbrev pub NumberFault : (least most : ℕ) → List ℕ → DataKind → Type 0
NumberFault least most bytes Short = IsShort bytes
NumberFault least most bytes NotShortest = IsNotShortest bytes
NumberFault least most bytes TooBig = IsTooBig bytes ⊎ BeginsWithNumber (λ n. most < n) bytes
NumberFault least most bytes Zero = BeginsWithNumber (λ n. (n ≤ most) × (n < least)) bytes
NumberFault least most bytes _ = ⊥

abbrev pub RawFault : ℕ → List ℕ → DataKind → Type 0
RawFault len bytes Short = length bytes < len
RawFault len bytes _ = ⊥

abbrev pub TextFault : ℕ → List ℕ → DataKind → Type 0
TextFault most bytes Short = IsShortString most bytes
TextFault most bytes NotShortest = IsNotShortest bytes
TextFault most bytes TooBig = IsTooBigString most bytes
TextFault most bytes _ = ⊥

-- no byte is there, or one that is the number of no kind
abbrev pub KindFault : ℕ → List ℕ → DataKind → Type 0
KindFault count bytes Short = bytes ≡ []
KindFault count bytes Kind = (b : ℕ) × (rest : List ℕ) × (bytes ≡ b ∷ rest) × (count ≤ b)
KindFault count bytes _ = ⊥

-- no byte is there, or one that is not allowed
abbrev pub ByteFault : List ℕ → List ℕ → DataKind → Type 0
ByteFault allowed bytes Short = bytes ≡ []
ByteFault allowed bytes Kind = (b : ℕ) × (rest : List ℕ) × (bytes ≡ b ∷ rest) × IsFalse (is_one_of allowed b)
ByteFault allowed bytes _ = ⊥

-- ---- places

-- what is said of a fault of these bytes: its place and its kind
abbrev pub Faults : Type 1
Faults = List ℕ → ℕ → DataKind → Type 0

-- a fault of the field that begins the bytes
pub record FaultHere (F : List ℕ → DataKind → Type 0) (bytes : List ℕ) (at : ℕ) (kind : DataKind) : Type 0 where
  pub at_front : at ≡ 0
  pub fault : F bytes kind

-- a fault that stands so many bytes further on than that of the rest
pub record FaultBehind (F : Faults) (front rest bytes : List ℕ) (at : ℕ) (kind : DataKind) : Type 0 where
  pub spelled : bytes ≡ front ++ rest
  pub place : ℕ
  pub fault : F rest place kind
  pub further : at ≡ length front + place

-- the bytes begin with the spelling of a value that fits, and the fault stands after it
pub record BehindValue {X : Type 0} (fits : X → Type 0) (spell : X → List ℕ) (F : X → Faults) (bytes : List ℕ)
    (at : ℕ) (kind : DataKind) : Type 0 where
  pub value : X
  pub rest : List ℕ
  pub within : fits value
  pub behind : FaultBehind (F value) (spell value) rest bytes at kind

abbrev pub NoFault : Faults
NoFault bytes at why = ⊥

-- what is not there has no fault
abbrev pub WhenFault : Bool → Faults → Faults
WhenFault false F = NoFault
WhenFault true F = F

abbrev pub Either : Faults → Faults → Faults
Either F G bytes at why = F bytes at why ⊎ G bytes at why

-- ---- lists

abbrev pub PassesRoom : Option ℕ → ℕ → Type 0
PassesRoom None size = ⊥
PassesRoom (Some most) size = most < size

-- a record that is whole and within its limits, and with which all of them take too many bytes
pub record RoomFault {X : Type 0} (fits : X → Type 0) (spell : X → List ℕ) (room : Option ℕ) (used : ℕ)
    (bytes : List ℕ) (kind : DataKind) : Type 0 where
  pub value : X
  pub rest : List ℕ
  pub within : fits value
  pub spelled : bytes ≡ spell value ++ rest
  pub too_many : PassesRoom room (used + length (spell value))
  pub kind_is : kind ≡ TooBig

-- a record that fits, and with which there still is room
abbrev pub FitsRoom : {X : Type 0} → (X → Type 0) → (X → List ℕ) → Option ℕ → ℕ → X → Type 0
FitsRoom fits spell room used x = fits x × IsWithin room (used + length (spell x))

-- The fault of so many records after others that took so many bytes: that of the first one, or that the first one
-- takes too many, or a fault after it.
abbrev pub ItemsFault : {X : Type 0} → (X → Type 0) → (X → List ℕ) → Faults → Option ℕ → (n used : ℕ) → Faults
ItemsFault fits spell each room zero used = NoFault
ItemsFault fits spell each room (suc n) used =
    Either each
    (Either (FaultHere (RoomFault fits spell room used))
    (BehindValue (FitsRoom fits spell room used) spell
    (λ x. ItemsFault fits spell each room n (used + length (spell x)))))

-- ---- wholes

-- a byte after all that is spelled
pub record Left {X : Type 0} (fits : X → Type 0) (spell : X → List ℕ) (bytes : List ℕ) (at : ℕ) (kind : DataKind)
    : Type 0 where
  pub value : X
  pub first : ℕ
  pub rest : List ℕ
  pub within : fits value
  pub spelled : bytes ≡ spell value ++ first ∷ rest
  pub at_end : at ≡ length (spell value)
  pub kind_is : kind ≡ Trailing

-- the fault of bytes that all of them should spell one value
abbrev pub WholeFault : {X : Type 0} → (X → Type 0) → (X → List ℕ) → Faults → Faults
WholeFault fits spell F = Either F (Left fits spell)

-- so many bytes after a length, and a fault of them
pub record InFrame (most : ℕ) (F : Faults) (bytes : List ℕ) (at : ℕ) (kind : DataKind) : Type 0 where
  pub held : List ℕ
  pub rest : List ℕ
  pub within : IsNumber 0 most (length held)
  pub spelled : bytes ≡ varstring held ++ rest
  pub place : ℕ
  pub fault : F held place kind
  pub further : at ≡ length (varint (length held)) + place

-- the fault of a record after its length: that of the length, or of the bytes after it
abbrev pub FrameFault : {X : Type 0} → ℕ → (X → Type 0) → (X → List ℕ) → Faults → Faults
FrameFault most fits spell F = Either (FaultHere (TextFault most)) (InFrame most (WholeFault fits spell F))

-- ---- layouts

abbrev pub FirstFault : Layout → Faults
FirstFault Nothing = NoFault
FirstFault (Number most) = FaultHere (NumberFault 0 most)
FirstFault (Amount most) = FaultHere (NumberFault 1 most)
FirstFault (Raw len) = FaultHere (RawFault len)
FirstFault (Text most) = FaultHere (TextFault most)
FirstFault (Then first second) =
    Either (FirstFault first) (BehindValue (Fits first) (spelling first) (λ x. FirstFault second))
FirstFault (Many most room each) =
    Either (FaultHere (NumberFault 0 most))
    (BehindValue (IsNumber 0 most) varint (λ n. ItemsFault (Fits each) (spelling each) (FirstFault each) room n 0))
FirstFault (Kinds count kind) =
    Either (FaultHere (KindFault count)) (BehindValue (λ k. k < count) (λ k. k ∷ []) (λ k. FirstFault (kind k)))
FirstFault (Frame most held) = FrameFault most (Fits held) (spelling held) (FirstFault held)
FirstFault (ByteOf allowed) = FaultHere (ByteFault allowed)
FirstFault U32 = FaultHere (RawFault 4)
FirstFault (Given most rest) =
    Either (FaultHere (NumberFault 0 most)) (BehindValue (IsNumber 0 most) varint (λ n. FirstFault (rest n)))
FirstFault (When there field) = WhenFault there (FirstFault field)

-- the first fault of bytes that should all be one record
abbrev pub FirstFaultOfAll : Layout → Faults
FirstFaultOfAll layout = WholeFault (Fits layout) (spelling layout) (FirstFault layout)
