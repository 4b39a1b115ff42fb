-- One reader for every layout, and what follows of its spellings.
use Rattle.std.proofs.Common.{◌≡◌, ℕ, Bool, true, false, List, [], ◌++◌, length, Option, Some, None, Ok, Err, refl, sym, ap, subst}
use Rattle.std.specs.List.{flat_map}
use Rattle.wire.specs.Spelling.{varint}
use Rattle.wire.specs.Places.{Place, Reading, ◌>>=◌, mapped, number_at, items_at, many_at, when_at}
use Rattle.wire.specs.Layout.{Layout, Nothing, Number, Amount, Raw, Text, Then, Many, Kinds, Frame, ByteOf, U32, Given, When, spelling, when_spelling, WhenFits, Fits, IsNumber, AreItems, read_at}
use Rattle.wire.specs.FirstFault.{Faults, FaultHere, NumberFault, NoFault, WhenFault, Either, BehindValue, ItemsFault, FirstFault}
use Rattle.wire.specs.Readers.{IsReader}
use Rattle.wire.specs.LayoutLaws.{LayoutLaws}
use Rattle.wire.proofs.Readers.{both_reader, nothing_reader}
use Rattle.wire.specs.Records.{mapped_reader, same_reader}
use Rattle.wire.proofs.ListReaders.{ItemsFit, items_reader, IsWithin-none}
use Rattle.wire.proofs.FieldReaders.{number_reader, text_reader, raw_reader, kind_reader, byte_of_reader, u32_reader}
use Rattle.wire.proofs.WholeReaders.{frame_reader}
use Rattle.wire.proofs.FaultPlaces.{fault_within, all_within}
use Rattle.wire.proofs.SpellingLaws.{spelling_laws}

-- ---- a count, and so many

module _ {X : Type 0} (most : ℕ) (room : Option ℕ) (fits : X → Type 0) (spell : X → List ℕ) (F : Faults) (read : Place → Reading X) (one : IsReader fits spell F read) where
  abbrev ManyFits : List X → Type 0
  ManyFits xs = IsNumber 0 most (length xs) × AreItems fits spell room 0 xs

  abbrev many_spelling : List X → List ℕ
  many_spelling xs = varint (length xs) ++ flat_map spell xs

  abbrev ManyFault : Faults
  ManyFault = Either (FaultHere (NumberFault 0 most)) (BehindValue (IsNumber 0 most) varint (λ n. ItemsFault fits spell F room n 0))

  counted : IsReader (λ (v : ℕ × List X). IsNumber 0 most v.0 × ItemsFit fits spell F read one room v.0 0 v.1) (λ v. varint v.0 ++ flat_map spell v.1) ManyFault
      (λ p. number_at 0 most p >>= λ n. items_at room read n.0 0 n.1 >>= λ xs. Ok ((n.0, xs.0), xs.1))
  counted = both_reader _ _ _ _ (number_reader 0 most) _ _ _ _ (λ n h. items_reader fits spell F read one room n 0 (IsWithin-none room))

  items_kept : (n : ℕ) (r : Reading (List X)) → mapped (λ (v : ℕ × List X). v.1) (r >>= λ xs. Ok ((n, xs.0), xs.1)) ≡ r
  items_kept n (Ok xs) = refl
  items_kept n (Err f) = refl

  count_dropped : (p : Place) (r : Reading ℕ) → mapped (λ (v : ℕ × List X). v.1) (r >>= λ n. items_at room read n.0 0 n.1 >>= λ xs. Ok ((n.0, xs.0), xs.1)) ≡ (r >>= λ n. items_at room read n.0 0 n.1)
  count_dropped p (Ok n) = items_kept n.0 (items_at room read n.0 0 n.1)
  count_dropped p (Err f) = refl

  many_reader_there : (v : ℕ × List X) → IsNumber 0 most v.0 × ItemsFit fits spell F read one room v.0 0 v.1 → ManyFits v.1 × (varint v.0 ++ flat_map spell v.1 ≡ many_spelling v.1)
  many_reader_there v h =
      ((subst (λ (n : ℕ). IsNumber 0 most n) (sym h.1.0) h.0, h.1.1), ap (λ (n : ℕ). varint n ++ flat_map spell v.1) (sym h.1.0))

  pub many_reader : IsReader ManyFits many_spelling ManyFault (many_at most room read)
  many_reader =
      same_reader _ _ _ _ _ (λ p. count_dropped p (number_at 0 most p))
      (mapped_reader _ _ ManyFits many_spelling _ _ (λ v. v.1)
      (record {
        there = many_reader_there;
        back = λ xs h. ((length xs, xs), (h.0, (refl, h.1)), refl, refl);
      })
      counted)

-- ---- what stands there only where something holds

some_back : {X : Type 0} (fits : X → Type 0) (spell : X → List ℕ) (v : Option X) → WhenFits true fits v → (x : X) × fits x × (Some x ≡ v) × (when_spelling spell v ≡ spell x)
some_back fits spell (Some x) h = (x, h, refl, refl)
some_back fits spell None h = absurd h

none_back : {X : Type 0} (fits : X → Type 0) (spell : X → List ℕ) (v : Option X) → WhenFits false fits v → (u : Unit {0}) × Unit {0} × (None ≡ v) × (when_spelling spell v ≡ [])
none_back fits spell (Some x) h = absurd h
none_back fits spell None h = (tt, tt, refl, refl)

when_reader : {X : Type 0} (there : Bool) (fits : X → Type 0) (spell : X → List ℕ) (F : Faults) (read : Place → Reading X) → IsReader fits spell F read
    → IsReader (WhenFits there fits) (when_spelling spell) (WhenFault there F) (when_at there read)
when_reader true fits spell F read one = mapped_reader fits spell (WhenFits true fits) (when_spelling spell) F read Some (record { there = λ x h. (h, refl); back = some_back fits spell }) one
when_reader false fits spell F read one = mapped_reader (λ v. Unit {0}) (λ v. []) (WhenFits false fits) (when_spelling spell) NoFault (λ p. Ok (tt, p)) (λ v. None) (record { there = λ v h. (tt, refl); back = none_back fits spell }) nothing_reader

-- ---- all layouts

pub reader : (layout : Layout) → IsReader (Fits layout) (spelling layout) (FirstFault layout) (read_at layout)
reader Nothing = nothing_reader
reader (Number most) = number_reader 0 most
reader (Amount most) = number_reader 1 most
reader (Raw len) = raw_reader len
reader (Text most) = text_reader most
reader (Then first second) = both_reader _ _ _ _ (reader first) _ _ _ _ (λ x h. reader second)
reader (Many most room each) = many_reader most room _ _ _ _ (reader each)
reader (Kinds count kind) = both_reader _ _ _ _ (kind_reader count) _ _ _ _ (λ k h. reader (kind k))
reader (Frame most held) = frame_reader _ _ _ _ (reader held) most
reader (ByteOf allowed) = byte_of_reader allowed
reader U32 = u32_reader
reader (Given most rest) = both_reader _ _ _ _ (number_reader 0 most) _ _ _ _ (λ n h. reader (rest n))
reader (When there field) = when_reader there _ _ _ _ (reader field)

pub layout_laws : LayoutLaws
layout_laws = record {
  spellings = λ layout. spelling_laws (Fits layout) (spelling layout) (FirstFault layout) (read_at layout) (reader layout);
  reader = reader;
  within = fault_within;
  all_within = all_within;
}
