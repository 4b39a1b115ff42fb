-- Records that are declared: a layout, the parts of a record, the record that is made of them, and a reader of it,
-- each put together from those of its fields; and that the laws of records hold of them. Laws with their proofs.
use Rattle.std.specs.Prelude.{◌≡◌, ◌<◌, ◌+◌, ℕ, zero, suc, List, [], ◌∷◌, map, Option, Result, Ok, Err, ◌↔◌, refl}
use Rattle.std.specs.List.{AllByRecursion}
use Rattle.std.proofs.Common.{sym, ap, subst, ◌∙◌, arith}
use Rattle.wire.specs.Spelling.{AreBytes}
use Rattle.wire.specs.Places.{Place, Fault, Reading, ◌>>=◌, mapped, start, then_at, kind_at, many_at, whole_at}
use Rattle.wire.specs.Layout.{Layout, Then, Many, Kinds, or_else, only, Value, Fits, spelling, read_at}
use Rattle.wire.specs.FirstFault.{WholeFault, FirstFault, FirstFaultOfAll}
use Rattle.wire.specs.Readers.{FaultAt, WholeAnswers, IsReader, IsWholeReader}
use Rattle.wire.specs.LayoutLaws.{SpellingLaws, LayoutLaws, RecordLaws}
use Rattle.wire.specs.Records.{StandFor, left_there, left_back, same_reader, HasParts, record_reader, both_of}
use Rattle.wire.specs.Records.{fits_reader, fits_stand, parts_stand, then_same, many_same, kinds_same, mapped-mapped}

-- ---- what holds of the reading of a record

abbrev given : {X : Type 0} → X → Result X Fault
given x = Ok x

abbrev refused : {X : Type 0} → Fault → Result X Fault
refused f = Err f

same_refused : {X : Type 0} (f g : Fault) → refused {X = X} f ≡ refused g → f ≡ g
same_refused f g e = cc

module _ {X : Type 0} (layout : Layout) (fits : X → Type 0) (spell : X → List ℕ) (made : Value layout → X)
    (stand : StandFor (Fits layout) (spelling layout) fits spell made) (layouts : LayoutLaws)
    (spellings : SpellingLaws fits spell (FirstFault layout)) (read : Place → Reading X)
    (whole : IsWholeReader fits spell (FirstFault layout) (whole_at read)) where
  abbrev all_at : List ℕ → Result X Fault
  all_at bytes = whole_at read (start bytes)

  abbrev Whole : List ℕ → Result X Fault → Type 0
  Whole bytes r = WholeAnswers fits spell (FirstFault layout) (start bytes) r

  sound_as : (bytes : List ℕ) (r : Result X Fault) → AreBytes bytes → all_at bytes ≡ r → Whole bytes r
  sound_as bytes r b e = subst (λ (answer : Result X Fault). Whole bytes answer) e (whole.sound (start bytes) b)

  is_fault : (bytes : List ℕ) (f : Fault) → AreBytes bytes → all_at bytes ≡ Err f
      → FirstFaultOfAll layout bytes f.at f.kind
  is_fault bytes f b e =
      let h : FaultAt (WholeFault fits spell (FirstFault layout)) (start bytes) f = sound_as bytes (Err f) b e in
      let at : h.off ≡ f.at = omega (arith, h.at) in
      left_back _ _ _ _ (FirstFault layout) made stand bytes f.at f.kind
      (subst (λ (n : ℕ). WholeFault fits spell (FirstFault layout) bytes n f.kind) at h.first)

  is_told : (bytes : List ℕ) (f : Fault) → AreBytes bytes → FirstFaultOfAll layout bytes f.at f.kind
      → all_at bytes ≡ Err f
  is_told bytes f b h =
      let here : 0 + f.at ≡ f.at = omega arith in
      whole.told (start bytes) f.at f.kind b
      (left_there _ _ fits spell (FirstFault layout) made stand bytes f.at f.kind h)
      ∙ (λ i. refused (record { at = here i; kind = f.kind }))

  pub record_laws : RecordLaws layout fits spell all_at
  record_laws = record {
    spelled = λ bytes x b e. sound_as bytes (Ok x) b e;
    again = λ x h. whole.again (start (spell x)) x h refl;
    one_form = spellings.one_form;
    fault = λ bytes f b. (is_fault bytes f b, is_told bytes f b);
    one_fault = λ bytes f g b hf hg. same_refused f g (sym (is_told bytes f b hf) ∙ is_told bytes g b hg);
    within = layouts.all_within layout;
  }

-- ---- how a record is put together

-- the parts of a record are the values of a layout, and this reads it
pub record Declared {B : Type 0} (layout : Layout) (made : Value layout → B) (parts : B → Value layout)
    (read : Place → Reading B) : Type 0 where
  pub has : HasParts layout made parts
  pub same : (p : Place) → mapped made (read_at layout p) ≡ read p

pub declared_reader : {B : Type 0} (layout : Layout) (made : Value layout → B) (parts : B → Value layout)
    (read : Place → Reading B) → Declared layout made parts read → LayoutLaws
    → IsReader (λ b. Fits layout (parts b)) (λ b. spelling layout (parts b)) (FirstFault layout) read
declared_reader layout made parts read d laws =
    same_reader _ _ _ _ _ d.same (record_reader layout made parts d.has (laws.reader layout))

-- the same, where what is within the limits is said by the names of the fields
module _ {B : Type 0} (layout : Layout) (made : Value layout → B) (parts : B → Value layout)
    (fits : B → Type 0) (same : (b : B) → fits b ↔ Fits layout (parts b)) where
  pub named_stand : HasParts layout made parts
      → StandFor (Fits layout) (spelling layout) fits (λ b. spelling layout (parts b)) made
  named_stand has = fits_stand _ fits same _ _ _ made (parts_stand layout made parts has)

  pub named_reader : (read : Place → Reading B) → Declared layout made parts read → LayoutLaws
      → IsReader fits (λ b. spelling layout (parts b)) (FirstFault layout) read
  named_reader read d laws = fits_reader _ fits same _ _ read (declared_reader layout made parts read d laws)

-- a field as it is
abbrev pub itself : {X : Type 0} → X → X
itself x = x

mapped-itself : {X : Type 0} (r : Reading X) → mapped itself r ≡ r
mapped-itself (Ok x) = refl
mapped-itself (Err f) = refl

pub field : (layout : Layout) → Declared layout itself itself (read_at layout)
field layout = record {
  has = record { again = λ v h. refl; kept = λ v h. refl };
  same = λ p. mapped-itself (read_at layout p);
}

-- one after the other
module _ {A B : Type 0} (a b : Layout) (made_a : Value a → A) (parts_a : A → Value a) (read_a : Place → Reading A)
    (made_b : Value b → B) (parts_b : B → Value b) (read_b : Place → Reading B) where
  pub both : Declared a made_a parts_a read_a → Declared b made_b parts_b read_b
      → Declared (Then a b) (both_of made_a made_b) (both_of parts_a parts_b) (then_at read_a read_b)
  both first second = record {
    has = record {
      again = λ x h. (λ i. (first.has.again x.0 h.0 i, second.has.again x.1 h.1 i));
      kept = λ v h. (λ i. (first.has.kept v.0 h.0 i, second.has.kept v.1 h.1 i));
    };
    same = λ p. then_same made_a made_b (read_at b) read_b second.same (read_at a) read_a first.same p;
  }

-- so many of one
module _ {B : Type 0} (each : Layout) (made : Value each → B) (parts : B → Value each) (read : Place → Reading B)
    (one : Declared each made parts read) where
  all_again : (xs : List B) → AllByRecursion (Fits each) (map parts xs) → map made (map parts xs) ≡ xs
  all_again [] h = refl
  all_again (x ∷ xs) h = λ i. one.has.again x h.0 i ∷ all_again xs h.1 i

  all_kept : (vs : List (Value each)) → AllByRecursion (Fits each) vs → map parts (map made vs) ≡ vs
  all_kept [] h = refl
  all_kept (v ∷ vs) h = λ i. one.has.kept v h.0 i ∷ all_kept vs h.1 i

  pub list_of : (most : ℕ) (room : Option ℕ)
      → Declared (Many most room each) (map made) (map parts) (many_at most room read)
  list_of most room = record {
    has = record {
      again = λ xs h. all_again xs h.1.each;
      kept = λ vs h. all_kept vs h.1.each;
    };
    same = λ p. many_same made room (read_at each) read one.same most p;
  }

-- the same values by other names
module _ {A B : Type 0} (layout : Layout) (made : Value layout → A) (parts : A → Value layout)
    (read : Place → Reading A) (to : A → B) (from : B → A) where
  pub named : Declared layout made parts read → ((b : B) → to (from b) ≡ b) → ((a : A) → from (to a) ≡ a)
      → Declared layout (λ v. to (made v)) (λ b. parts (from b)) (λ p. mapped to (read p))
  named d there back = record {
    has = record {
      again = λ b h. ap to (d.has.again (from b) h) ∙ there b;
      kept = λ v h. ap parts (back (made v)) ∙ d.has.kept v h;
    };
    same = λ p. sym (mapped-mapped made to (read_at layout p)) ∙ ap (λ (r : Reading A). mapped to r) (d.same p);
  }

-- one of two kinds
module _ {A B C : Type 0} (first : A → C) (second : B → C) (read_a : Place → Reading A) (read_b : Place → Reading B)
  where
    abbrev pub either_behind : ℕ → Place → Reading C
    either_behind zero place = mapped first (read_a place)
    either_behind (suc k) place = mapped second (read_b place)

    -- what stands after the number of its kind, 0 or 1
    abbrev pub either_at : Place → Reading C
    either_at place = kind_at 2 place >>= λ k. either_behind k.0 k.1

module _ {A B C : Type 0} (a b : Layout) (made_a : Value a → A) (parts_a : A → Value a) (read_a : Place → Reading A)
    (made_b : Value b → B) (parts_b : B → Value b) (read_b : Place → Reading B) (first : A → C) (second : B → C)
    (parts : C → Value (Kinds 2 (or_else a (only b)))) where
  abbrev kinds : ℕ → Layout
  kinds = or_else a (only b)

  abbrev kind_made : (k : ℕ) → Value (kinds k) → C
  kind_made zero v = first (made_a v)
  kind_made (suc k) v = second (made_b v)

  abbrev pub either_made : Value (Kinds 2 kinds) → C
  either_made v = kind_made v.0 v.1

  -- the number of a kind, and the parts of what stands after it
  pub record IsEither : Type 0 where
    pub first_parts : (x : A) → parts (first x) ≡ (0, parts_a x)
    pub second_parts : (y : B) → parts (second y) ≡ (1, parts_b y)
    pub again : (z : C) → Fits (Kinds 2 kinds) (parts z) → either_made (parts z) ≡ z

  module _ (first_is : Declared a made_a parts_a read_a) (second_is : Declared b made_b parts_b read_b) (is : IsEither)
    where
      kind_kept : (k : ℕ) (v : Value (kinds k)) → k < 2 → Fits (kinds k) v → parts (kind_made k v) ≡ (k, v)
      kind_kept zero v l h = is.first_parts (made_a v) ∙ (λ i. (0, first_is.has.kept v h i))
      kind_kept (suc zero) v l h = is.second_parts (made_b v) ∙ (λ i. (1, second_is.has.kept v h i))
      kind_kept (suc (suc k)) v l h = absurd (omega arith)

      kind_same : (k : ℕ) (q : Place)
          → mapped (kind_made k) (read_at (kinds k) q) ≡ either_behind first second read_a read_b k q
      kind_same zero q = sym (mapped-mapped made_a first (read_at a q))
          ∙ ap (λ (r : Reading A). mapped first r) (first_is.same q)
      kind_same (suc k) q = sym (mapped-mapped made_b second (read_at b q))
          ∙ ap (λ (r : Reading B). mapped second r) (second_is.same q)

      pub either : Declared (Kinds 2 kinds) either_made parts (either_at first second read_a read_b)
      either = record {
        has = record { again = is.again; kept = λ v h. kind_kept v.0 v.1 h.0 h.1 };
        same = kinds_same (λ k. read_at (kinds k)) kind_made (either_behind first second read_a read_b) kind_same 2;
      }
