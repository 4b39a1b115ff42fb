-- What a record is made of, as data; which values it has, how each is spelled, and which are within the limits.
use Rattle.std.specs.Prelude.{◌≡◌, ℕ, zero, suc, ◌+◌, ◌^◌, ◌≤◌, ◌<◌, List, [], ◌∷◌, ◌++◌, length, Option, Some, None}
use Rattle.std.specs.Prelude.{Bool, true, false, IsTrue, Ok}
use Rattle.std.specs.Int.{w32, to_be_bytes}
use Rattle.std.specs.List.{flat_map, AllByRecursion}
use Rattle.wire.specs.Spelling.{varint, varstring}
use Rattle.wire.specs.Places.{Place, Reading, then_at, number_at, raw_at, text_at, kinds_at, many_at, frame_at}
use Rattle.wire.specs.Places.{is_one_of, byte_of_at, u32_at, given_at, when_at}

pub data Layout : Type 0 where
  -- no bytes
  Nothing : Layout
  -- a number of at most this value
  Number : (most : ℕ) → Layout
  -- the same, and not 0
  Amount : (most : ℕ) → Layout
  -- so many raw bytes
  Raw : (len : ℕ) → Layout
  -- a length of at most this value, and so many bytes
  Text : (most : ℕ) → Layout
  -- one after the other
  Then : (first second : Layout) → Layout
  -- a count of at most this value, and so many of one layout. Where there is a room, they take at most so many bytes.
  Many : (most : ℕ) → (room : Option ℕ) → (each : Layout) → Layout
  -- the number of a kind, one of so many, in one byte, and what it stands for
  Kinds : (count : ℕ) → (kind : ℕ → Layout) → Layout
  -- a length of at most this value, and one record, which takes so many bytes
  Frame : (most : ℕ) → (held : Layout) → Layout
  -- a byte that is one of these
  ByteOf : (allowed : List ℕ) → Layout
  -- a number below 2 ^ 32, as four bytes with the most significant first
  U32 : Layout
  -- a number of at most this value, on which depends what follows it
  Given : (most : ℕ) → (rest : ℕ → Layout) → Layout
  -- a field that stands there only where this holds
  When : (there : Bool) → (field : Layout) → Layout

-- an id
abbrev pub Id : Layout
Id = Raw 32

-- one field, and then the others
infixr 5 ◌▸◌
abbrev pub ◌▸◌ : Layout → Layout → Layout
field ▸ others = Then field others

-- kinds in order, from 0
abbrev pub or_else : Layout → (ℕ → Layout) → ℕ → Layout
or_else first others zero = first
or_else first others (suc k) = others k

abbrev pub only : Layout → ℕ → Layout
only layout k = layout

-- a record after its length
abbrev pub frame_spelling : {X : Type 0} → (X → List ℕ) → X → List ℕ
frame_spelling spell x = varstring (spell x)

abbrev pub Value : Layout → Type 0
Value Nothing = Unit {0}
Value (Number most) = ℕ
Value (Amount most) = ℕ
Value (Raw len) = List ℕ
Value (Text most) = List ℕ
Value (Then first second) = Value first × Value second
Value (Many most room each) = List (Value each)
Value (Kinds count kind) = (k : ℕ) × Value (kind k)
Value (Frame most held) = Value held
Value (ByteOf allowed) = ℕ
Value U32 = ℕ
Value (Given most rest) = (n : ℕ) × Value (rest n)
Value (When there field) = Option (Value field)

-- ---- spellings

-- a value that is there, or no bytes
abbrev pub when_spelling : {X : Type 0} → (X → List ℕ) → Option X → List ℕ
when_spelling spell None = []
when_spelling spell (Some x) = spell x

abbrev pub spelling : (layout : Layout) → Value layout → List ℕ
spelling Nothing v = []
spelling (Number most) n = varint n
spelling (Amount most) n = varint n
spelling (Raw len) bytes = bytes
spelling (Text most) text = varstring text
spelling (Then first second) v = spelling first v.0 ++ spelling second v.1
spelling (Many most room each) vs = varint (length vs) ++ flat_map (spelling each) vs
spelling (Kinds count kind) v = v.0 ∷ spelling (kind v.0) v.1
spelling (Frame most held) v = frame_spelling (spelling held) v
spelling (ByteOf allowed) b = b ∷ []
spelling U32 n = to_be_bytes w32 n
spelling (Given most rest) v = varint v.0 ++ spelling (rest v.0) v.1
spelling (When there field) v = when_spelling (spelling field) v

-- ---- within the limits

abbrev pub IsWithin : Option ℕ → ℕ → Type 0
IsWithin None size = Unit {0}
IsWithin (Some most) size = size ≤ most

-- a number that has a spelling, within its limits
pub record IsNumber (least most n : ℕ) : Type 0 where
  pub least_at_most : least ≤ n
  pub at_most : n ≤ most
  pub spelled : n < 2 ^ 63

-- so many records, each within its limits and all within the room
pub record AreItems {X : Type 0} (fits : X → Type 0) (spell : X → List ℕ) (room : Option ℕ) (used : ℕ) (xs : List X)
    : Type 0 where
  pub each : AllByRecursion fits xs
  pub within : IsWithin room (used + length (flat_map spell xs))

-- a record within its limits, which takes at most so many bytes
abbrev pub FrameFits : {X : Type 0} → ℕ → (X → Type 0) → (X → List ℕ) → X → Type 0
FrameFits most fits spell x = fits x × IsNumber 0 most (length (spell x))

-- a value that fits is there exactly where it has to be
abbrev pub WhenFits : {X : Type 0} → Bool → (X → Type 0) → Option X → Type 0
WhenFits false fits None = Unit {0}
WhenFits false fits (Some x) = ⊥
WhenFits true fits None = ⊥
WhenFits true fits (Some x) = fits x

abbrev pub Fits : (layout : Layout) → Value layout → Type 0
Fits Nothing v = Unit {0}
Fits (Number most) n = IsNumber 0 most n
Fits (Amount most) n = IsNumber 1 most n
Fits (Raw len) bytes = length bytes ≡ len
Fits (Text most) text = IsNumber 0 most (length text)
Fits (Then first second) v = Fits first v.0 × Fits second v.1
Fits (Many most room each) vs = IsNumber 0 most (length vs) × AreItems (Fits each) (spelling each) room 0 vs
Fits (Kinds count kind) v = (v.0 < count) × Fits (kind v.0) v.1
Fits (Frame most held) v = FrameFits most (Fits held) (spelling held) v
Fits (ByteOf allowed) b = IsTrue (is_one_of allowed b)
Fits U32 n = n < 2 ^ 32
Fits (Given most rest) v = IsNumber 0 most v.0 × Fits (rest v.0) v.1
Fits (When there field) v = WhenFits there (Fits field) v

-- ---- reading

abbrev pub read_at : (layout : Layout) → Place → Reading (Value layout)
read_at Nothing place = Ok (tt, place)
read_at (Number most) place = number_at 0 most place
read_at (Amount most) place = number_at 1 most place
read_at (Raw len) place = raw_at len place
read_at (Text most) place = text_at most place
read_at (Then first second) place = then_at (read_at first) (read_at second) place
read_at (Many most room each) place = many_at most room (read_at each) place
read_at (Kinds count kind) place = kinds_at count (λ k. read_at (kind k)) place
read_at (Frame most held) place = frame_at most (read_at held) place
read_at (ByteOf allowed) place = byte_of_at allowed place
read_at U32 place = u32_at place
read_at (Given most rest) place = given_at most (λ n. read_at (rest n)) place
read_at (When there field) place = when_at there (read_at field) place

-- ---- the fields of a record

-- a layout, and the value of it that a record has
pub record Fields (B : Type 0) : Type 0 where
  pub layout : Layout
  pub parts : B → Value layout

-- one field, and what a record has there
abbrev pub field_of : {B : Type 0} → (layout : Layout) → (B → Value layout) → Fields B
field_of layout get = record { layout = layout; parts = get }

-- the fields of a part of a record
abbrev pub fields_of : {A B : Type 0} → Fields A → (B → A) → Fields B
fields_of fields get = record { layout = fields.layout; parts = λ b. fields.parts (get b) }

-- one field, and then the others
infixr 5 ◌&◌
abbrev pub ◌&◌ : {B : Type 0} → Fields B → Fields B → Fields B
field & others = record { layout = Then field.layout others.layout; parts = λ b. (field.parts b, others.parts b) }

-- a number, and the fields that follow it
abbrev pub given : {B : Type 0} → (most : ℕ) → (B → ℕ) → (ℕ → Fields B) → Fields B
given most get rest = record {
  layout = Given most (λ n. (rest n).layout);
  parts = λ b. (get b, (rest (get b)).parts b);
}

-- the values of which each field is within its limits
abbrev pub FieldsFit : {B : Type 0} → Fields B → B → Type 0
FieldsFit fields b = Fits fields.layout (fields.parts b)

-- how the fields are spelled, one after the other
abbrev pub fields_spelling : {B : Type 0} → Fields B → B → List ℕ
fields_spelling fields b = spelling fields.layout (fields.parts b)
