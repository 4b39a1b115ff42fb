-- Reading from left to right, from one place of the bytes to the next, with the first fault that is met.
use Rattle.std.specs.Prelude.{ℕ, zero, suc, Bool, true, false, ◌+◌, ◌-◌, ◌≡◌, List, [], ◌∷◌, length, take, drop}
use Rattle.std.specs.Prelude.{Option, Some, None, Result, Ok, Err, nat_lt, ◌==◌, if◌then◌else◌}
use Rattle.std.specs.Int.{w32, from_be_bytes}
use Rattle.std.specs.List.{list_any}
use Rattle.wire.specs.declared.fault.WireFault.{WireFault}
use Rattle.wire.specs.declared.fault.WireFault.TheVariants as wire
use Rattle.wire.specs.declared.fault.DataKind.{DataKind}
use Rattle.wire.specs.declared.fault.DataKind.TheVariants.{Short, NotShortest, TooBig, Zero, Kind, Trailing}
use Rattle.wire.specs.declared.fault.DataFault.{DataFault}
use Rattle.wire.specs.declared.fault.DataFault.TheVariants.{At, NoMemory}
use Rattle.wire.specs.Reading.{Read, varint_at, varstring_at}

-- where a reader stands: how many bytes it has passed, and those that are left
pub record Place : Type 0 where
  pub at : ℕ
  pub rest : List ℕ

-- the place of the first of these bytes
abbrev pub start : List ℕ → Place
start bytes = record { at = 0; rest = bytes }

-- a fault, and the place of its first byte
pub record Fault : Type 0 where
  pub at : ℕ
  pub kind : DataKind

-- what was read, and where the reader stands then
abbrev pub Reading : Type 0 → Type 0
Reading X = Result (X × Place) Fault

infixl 10 ◌>>=◌
abbrev pub ◌>>=◌ : {A B : Type 0} → Result A Fault → (A → Result B Fault) → Result B Fault
(Ok x) >>= f = f x
(Err e) >>= f = Err e

-- what was read, as another value
abbrev pub mapped : {A B : Type 0} → (A → B) → Reading A → Reading B
mapped f reading = reading >>= λ x. Ok (f x.0, x.1)

-- what a fault of a number or a string is called in a record
abbrev pub kind_of : WireFault → DataKind
kind_of wire.Short = Short
kind_of wire.NotShortest = NotShortest
kind_of wire.TooBig = TooBig

abbrev pub fault_here : Place → DataKind → Fault
fault_here place kind = record { at = place.at; kind = kind }

-- the place at which these bytes are left
abbrev pub moved : Place → List ℕ → Place
moved place rest = record { at = place.at + (length place.rest - length rest); rest = rest }

-- a spelling at a place
abbrev pub spelling_at : {X : Type 0} → Place → Read X → Reading X
spelling_at place (Ok x) = Ok (x.0, moved place x.1)
spelling_at place (Err e) = Err (fault_here place (kind_of e))

-- one after the other
abbrev pub then_at : {A B : Type 0} → (Place → Reading A) → (Place → Reading B) → Place → Reading (A × B)
then_at first second place = do
  x ← first place
  y ← second x.1
  Ok ((x.0, y.0), y.1)

-- ---- fields

-- a number that was spelled, against its limits
abbrev pub limited : ℕ → ℕ → Place → ℕ × Place → Reading ℕ
limited least most place n =
    if nat_lt most n.0 then Err (fault_here place TooBig)
    else if nat_lt n.0 least then Err (fault_here place Zero)
    else Ok n

-- a number from the least to the most
unfoldable pub number_at : (least most : ℕ) → Place → Reading ℕ
number_at least most place = spelling_at place (varint_at place.rest) >>= limited least most place

-- so many bytes
unfoldable pub raw_at : ℕ → Place → Reading (List ℕ)
raw_at len place =
    if nat_lt (length place.rest) len then Err (fault_here place Short)
    else Ok (take len place.rest, moved place (drop len place.rest))

-- a string of at most so many bytes
unfoldable pub text_at : ℕ → Place → Reading (List ℕ)
text_at most place = spelling_at place (varstring_at most place.rest)

-- ---- kinds

-- a byte below so many kinds, and the rest
abbrev pub kind_behind : ℕ → Place → List ℕ → Reading ℕ
kind_behind count place [] = Err (fault_here place Short)
kind_behind count place (b ∷ rest) = if nat_lt b count then Ok (b, moved place rest) else Err (fault_here place Kind)

-- the number of a kind, one of so many
unfoldable pub kind_at : ℕ → Place → Reading ℕ
kind_at count place = kind_behind count place place.rest

-- the number of a kind, and what it stands for
abbrev pub kinds_at : {X : ℕ → Type 0} → ℕ → ((k : ℕ) → Place → Reading (X k)) → Place → Reading ((k : ℕ) × X k)
kinds_at count each place = kind_at count place >>= λ k. each k.0 k.1 >>= λ x. Ok ((k.0, x.0), x.1)

-- ---- bytes of a set, and numbers of four bytes

abbrev pub is_one_of : List ℕ → ℕ → Bool
is_one_of allowed b = list_any (λ a. a == b) allowed

-- one of the bytes that are allowed, and the rest
abbrev pub byte_of_behind : List ℕ → Place → List ℕ → Reading ℕ
byte_of_behind allowed place [] = Err (fault_here place Short)
byte_of_behind allowed place (b ∷ rest) =
    if is_one_of allowed b then Ok (b, moved place rest) else Err (fault_here place Kind)

-- one of the bytes that are allowed
unfoldable pub byte_of_at : List ℕ → Place → Reading ℕ
byte_of_at allowed place = byte_of_behind allowed place place.rest

-- four bytes, the most significant first
abbrev pub u32_at : Place → Reading ℕ
u32_at place = mapped (from_be_bytes w32) (raw_at 4 place)

-- ---- what depends on what was read

-- a number, and what follows it
abbrev pub given_at : {X : ℕ → Type 0} → ℕ → ((n : ℕ) → Place → Reading (X n)) → Place → Reading ((n : ℕ) × X n)
given_at most rest place = number_at 0 most place >>= λ n. rest n.0 n.1 >>= λ x. Ok ((n.0, x.0), x.1)

-- what stands there only where this holds
abbrev pub when_at : {X : Type 0} → Bool → (Place → Reading X) → Place → Reading (Option X)
when_at false read place = Ok (None, place)
when_at true read place = mapped Some (read place)

-- ---- lists

-- so many bytes pass the room that there is
abbrev pub passes_room : Option ℕ → ℕ → Bool
passes_room None size = false
passes_room (Some most) size = nat_lt most size

-- A record that was read is refused at its first byte where it and those before it take too many bytes.
abbrev pub in_room : {X : Type 0} → Option ℕ → (used : ℕ) → Place → X × Place → Reading X
in_room room used place x =
    if passes_room room (used + (x.1.at - place.at)) then Err (fault_here place TooBig) else Ok x

-- a record after others that took so many bytes
abbrev pub item_at : {X : Type 0} → Option ℕ → (Place → Reading X) → (used : ℕ) → Place → Reading X
item_at room each used place = each place >>= in_room room used place

-- so many of one kind, after others that took so many bytes
unfoldable pub items_at : {X : Type 0} → Option ℕ → (Place → Reading X) → (n used : ℕ) → Place → Reading (List X)
items_at room each zero used place = Ok ([], place)
items_at room each (suc n) used place = do
  first ← item_at room each used place
  others ← items_at room each n (used + (first.1.at - place.at)) first.1
  Ok (first.0 ∷ others.0, others.1)

-- a count, and so many
abbrev pub many_at : {X : Type 0} → ℕ → Option ℕ → (Place → Reading X) → Place → Reading (List X)
many_at most room each place = number_at 0 most place >>= λ n. items_at room each n.0 0 n.1

-- ---- wholes

-- nothing may be left
abbrev pub ended : {X : Type 0} → X × Place → Result X Fault
ended x = if length x.1.rest == 0 then Ok x.0 else Err (fault_here x.1 Trailing)

-- what all of the bytes spell
abbrev pub whole_at : {X : Type 0} → (Place → Reading X) → Place → Result X Fault
whole_at read place = read place >>= ended

-- the place of the first byte of a string that was read
abbrev pub inside : List ℕ × Place → Place
inside text = record { at = text.1.at - length text.0; rest = text.0 }

-- a length, and what so many bytes spell
abbrev pub frame_at : {X : Type 0} → ℕ → (Place → Reading X) → Place → Reading X
frame_at most held place =
    text_at most place >>= λ text. whole_at held (inside text) >>= λ x. Ok (x, text.1)

-- ---- what a function of the code answered, against these

-- A fault is the one that reading gives. Out of memory is free.
abbrev pub Fails : {X : Type 0} → DataFault → Result X Fault → Type 0
Fails NoMemory reading = Unit {0}
Fails (At at kind) reading = reading ≡ Err (record { at = at; kind = kind })

abbrev pub Gives : {X : Type 0} → Result X DataFault → Result X Fault → Type 0
Gives (Ok x) reading = reading ≡ Ok x
Gives (Err e) reading = Fails e reading

-- the same of a reader that stands at this place then
abbrev pub Reads : {X : Type 0} → Result X DataFault → Place → Reading X → Type 0
Reads (Ok x) place reading = reading ≡ Ok (x, place)
Reads (Err e) place reading = Fails e reading

-- the same of a string, as the place of its first byte
abbrev pub Holds : Result Place DataFault → Place → Reading (List ℕ) → Type 0
Holds (Ok held) place reading = (reading ≡ Ok (held.rest, place)) × (held ≡ inside (held.rest, place))
Holds (Err e) place reading = Fails e reading
