-- Readers of records, made of the readers of their layouts: what is read is another value of the same spelling. Laws
-- with their proofs.
use Rattle.std.specs.Prelude.{◌≡◌, ◌==◌, ◌+◌, ◌-◌, ℕ, zero, suc, Bool, true, false, cond, List, [], ◌∷◌, ◌++◌, map}
use Rattle.std.specs.Prelude.{length, Option, Ok, Err, ◌↔◌, refl}
use Rattle.std.specs.List.{flat_map, AllByRecursion}
use Rattle.std.proofs.Common.{sym, ap, subst, ◌∙◌, inl, inr}
use Rattle.std.proofs.lemmas.List.Concat.{flat_map-cons}
use Rattle.std.proofs.lemmas.List.{length-map}
use Rattle.wire.specs.Spelling.{varint}
use Rattle.wire.specs.declared.fault.DataKind.{DataKind}
use Rattle.wire.specs.declared.fault.DataKind.TheVariants.{TooBig, Trailing}
use Rattle.wire.specs.Places.{Place, Reading, ◌>>=◌, mapped, then_at, kind_at, kinds_at, fault_here, passes_room}
use Rattle.wire.specs.Places.{in_room, items_at, many_at, number_at, ended, whole_at, text_at, inside, frame_at}
use Rattle.wire.specs.Layout.{Layout, Value, spelling, Fits, read_at}
use Rattle.wire.specs.FirstFault.{Faults, WholeFault, FirstFault}
use Rattle.wire.specs.Readers.{Passes, Answers, IsReader}

-- ---- one reader from another

-- each value that is read stands for one of the others, and each of those is read so
pub record StandFor {A B : Type 0} (fitsA : A → Type 0) (spellA : A → List ℕ) (fitsB : B → Type 0)
    (spellB : B → List ℕ) (to : A → B) : Type 0 where
  pub there : (a : A) → fitsA a → fitsB (to a) × (spellA a ≡ spellB (to a))
  pub back : (b : B) → fitsB b → (a : A) × fitsA a × (to a ≡ b) × (spellB b ≡ spellA a)

abbrev read_as : {X : Type 0} → X → Place → Reading X
read_as x place = Ok (x, place)

module _ {A B : Type 0} (fitsA : A → Type 0) (spellA : A → List ℕ) (fitsB : B → Type 0) (spellB : B → List ℕ)
    (F : Faults) (read : Place → Reading A) (to : A → B) where
  mapped_sound : StandFor fitsA spellA fitsB spellB to → (p : Place) (r : Reading A) → Answers fitsA spellA F p r
      → Answers fitsB spellB F p (mapped to r)
  mapped_sound stand p (Ok x) h =
      let b = stand.there x.0 h.0 in
      (b.0, subst (λ (front : List ℕ). Passes p front x.1) b.1 h.1)
  mapped_sound stand p (Err f) h = h

  pub mapped_reader : StandFor fitsA spellA fitsB spellB to → IsReader fitsA spellA F read
      → IsReader fitsB spellB F (λ p. mapped to (read p))
  mapped_reader stand r = record {
    sound = λ p fits. mapped_sound stand p (read p) (r.sound p fits);
    again = λ p b q h m.
        (let a = stand.back b h in
        ap (λ (answer : Reading A). mapped to answer)
        (r.again p a.0 q a.1 (subst (λ (front : List ℕ). Passes p front q) a.3 m))
        ∙ ap (λ (y : B). read_as y q) a.2);
    told = λ p off kind fits h. ap (λ (answer : Reading A). mapped to answer) (r.told p off kind fits h);
  }

module _ {A B : Type 0} (fitsA : A → Type 0) (spellA : A → List ℕ) (fitsB : B → Type 0) (spellB : B → List ℕ)
    (F : Faults) (to : A → B) where
  -- what is left after the one is left after the other
  pub left_there : StandFor fitsA spellA fitsB spellB to → (bytes : List ℕ) (at : ℕ) (kind : DataKind)
      → WholeFault fitsA spellA F bytes at kind
      → WholeFault fitsB spellB F bytes at kind
  left_there stand bytes at why (inl h) = inl h
  left_there stand bytes at why (inr h) =
      let b = stand.there h.value h.within in
      inr (record {
        value = to h.value;
        first = h.first;
        rest = h.rest;
        within = b.0;
        spelled = h.spelled ∙ ap (λ (front : List ℕ). front ++ h.first ∷ h.rest) b.1;
        at_end = h.at_end ∙ ap (λ (front : List ℕ). length front) b.1;
        kind_is = h.kind_is;
      })

  pub left_back : StandFor fitsA spellA fitsB spellB to → (bytes : List ℕ) (at : ℕ) (kind : DataKind)
      → WholeFault fitsB spellB F bytes at kind
      → WholeFault fitsA spellA F bytes at kind
  left_back stand bytes at why (inl h) = inl h
  left_back stand bytes at why (inr h) =
      let a = stand.back h.value h.within in
      inr (record {
        value = a.0;
        first = h.first;
        rest = h.rest;
        within = a.1;
        spelled = h.spelled ∙ ap (λ (front : List ℕ). front ++ h.first ∷ h.rest) a.3;
        at_end = h.at_end ∙ ap (λ (front : List ℕ). length front) a.3;
        kind_is = h.kind_is;
      })

-- the same reader, written in another way
pub same_reader : {X : Type 0} (fits : X → Type 0) (spell : X → List ℕ) (F : Faults) (read other : Place → Reading X)
    → ((p : Place) → read p ≡ other p)
    → IsReader fits spell F read
    → IsReader fits spell F other
same_reader {X} fits spell F read other same r = record {
  sound = λ p b. subst (λ (answer : Reading X). Answers fits spell F p answer) (same p) (r.sound p b);
  again = λ p x q h m. sym (same p) ∙ r.again p x q h m;
  told = λ p off kind b h. sym (same p) ∙ r.told p off kind b h;
}

-- the same values, named in another way
module _ {X : Type 0} (fits other : X → Type 0) (same : (x : X) → other x ↔ fits x) where
  fits_sound : (spell : X → List ℕ) (F : Faults) (p : Place) (r : Reading X) → Answers fits spell F p r
      → Answers other spell F p r
  fits_sound spell F p (Ok x) h = ((same x.0).1 h.0, h.1)
  fits_sound spell F p (Err f) h = h

  pub fits_reader : (spell : X → List ℕ) (F : Faults) (read : Place → Reading X) → IsReader fits spell F read
      → IsReader other spell F read
  fits_reader spell F read r = record {
    sound = λ p b. fits_sound spell F p (read p) (r.sound p b);
    again = λ p x q h m. r.again p x q ((same x).0 h) m;
    told = r.told;
  }

  pub fits_stand : {A : Type 0} (fits_a : A → Type 0) (spell_a : A → List ℕ) (spell : X → List ℕ) (to : A → X)
      → StandFor fits_a spell_a fits spell to
      → StandFor fits_a spell_a other spell to
  fits_stand fits_a spell_a spell to stand = record {
    there = λ a h. (let b = stand.there a h in ((same (to a)).1 b.0, b.1));
    back = λ b h. stand.back b ((same b).0 h);
  }

-- ---- a record is the values of its layout

-- the parts of a record, in order, and the record that is made of them
pub record HasParts {B : Type 0} (layout : Layout) (made : Value layout → B) (parts : B → Value layout) : Type 0 where
  pub again : (b : B) → Fits layout (parts b) → made (parts b) ≡ b
  pub kept : (v : Value layout) → Fits layout v → parts (made v) ≡ v

module _ {B : Type 0} (layout : Layout) (made : Value layout → B) (parts : B → Value layout)
    (has : HasParts layout made parts) where
  abbrev IsSame : Value layout → Value layout → Type 0
  IsSame v w = Fits layout w × (spelling layout v ≡ spelling layout w)

  pub parts_stand : StandFor (Fits layout) (spelling layout) (λ b. Fits layout (parts b))
      (λ b. spelling layout (parts b)) made
  parts_stand = record {
    there = λ v h. subst (λ (w : Value layout). IsSame v w) (sym (has.kept v h)) (h, refl);
    back = λ b h. (parts b, h, has.again b h, refl);
  }

  pub record_reader : IsReader (Fits layout) (spelling layout) (FirstFault layout) (read_at layout)
      → IsReader (λ b. Fits layout (parts b)) (λ b. spelling layout (parts b)) (FirstFault layout)
      (λ p. mapped made (read_at layout p))
  record_reader r =
      mapped_reader _ _ _ _ _ _ made
      parts_stand
      r

-- ---- lists and frames of records

module _ {A B : Type 0} (f : A → B) where
  abbrev pushed : {X : Type 0} → X → Reading (List X) → Reading (List X)
  pushed x r = r >>= λ others. Ok (x ∷ others.0, others.1)

  module _ (room : Option ℕ) (each : Place → Reading A) where
    abbrev each_mapped : Place → Reading B
    each_mapped p = mapped f (each p)

    pushed_mapped : (x : A) (r : Reading (List A)) → pushed (f x) (mapped (map f) r) ≡ mapped (map f) (pushed x r)
    pushed_mapped x (Ok others) = refl
    pushed_mapped x (Err e) = refl

    chosen_mapped : (n used : ℕ) (p : Place)
        → ((used : ℕ) (q : Place) → items_at room each_mapped n used q ≡ mapped (map f) (items_at room each n used q))
        → (x : A × Place) (t : Bool)
        → (cond t (Err (fault_here p TooBig)) (read_as (f x.0) x.1) >>= λ first. pushed first.0
        (items_at room each_mapped n (used + (first.1.at - p.at)) first.1))
        ≡ mapped (map f) (cond t (Err (fault_here p TooBig)) (read_as x.0 x.1) >>= λ first. pushed first.0
        (items_at room each n (used + (first.1.at - p.at)) first.1))
    chosen_mapped n used p more x true = refl
    chosen_mapped n used p more x false =
        ap (λ (r : Reading (List B)). pushed (f x.0) r) (more (used + (x.1.at - p.at)) x.1)
        ∙ pushed_mapped x.0 (items_at room each n (used + (x.1.at - p.at)) x.1)

    first_mapped : (n used : ℕ) (p : Place)
        → ((used : ℕ) (q : Place) → items_at room each_mapped n used q ≡ mapped (map f) (items_at room each n used q))
        → (r : Reading A)
        → ((mapped f r >>= in_room room used p) >>= λ first. pushed first.0
        (items_at room each_mapped n (used + (first.1.at - p.at)) first.1))
        ≡ mapped (map f) ((r >>= in_room room used p) >>= λ first. pushed first.0
        (items_at room each n (used + (first.1.at - p.at)) first.1))
    first_mapped n used p more (Ok x) = chosen_mapped n used p more x (passes_room room (used + (x.1.at - p.at)))
    first_mapped n used p more (Err e) = refl

    items-mapped : (n used : ℕ) (p : Place)
        → items_at room each_mapped n used p ≡ mapped (map f) (items_at room each n used p)
    unfolding items_at
    items-mapped zero used p = refl
    items-mapped (suc n) used p = first_mapped n used p (items-mapped n) (each p)

    counted_mapped : (r : Reading ℕ)
        → (r >>= λ n. items_at room each_mapped n.0 0 n.1) ≡ mapped (map f) (r >>= λ n. items_at room each n.0 0 n.1)
    counted_mapped (Ok n) = items-mapped n.0 0 n.1
    counted_mapped (Err e) = refl

    many_at-mapped : (most : ℕ) (p : Place)
        → many_at most room each_mapped p ≡ mapped (map f) (many_at most room each p)
    many_at-mapped most p = counted_mapped (number_at 0 most p)

    pub many_same : (other : Place → Reading B) → ((q : Place) → mapped f (each q) ≡ other q) → (most : ℕ) (p : Place)
        → mapped (map f) (many_at most room each p) ≡ many_at most room other p
    many_same other same most p =
        sym (many_at-mapped most p) ∙ ap (λ (read : Place → Reading B). many_at most room read p) (λ i q. same q i)

  module _ (held : Place → Reading A) where
    ended_mapped : (after : Place) (x : A × Place) (t : Bool)
        → (cond t (Ok (f x.0)) (Err (fault_here x.1 Trailing)) >>= λ y. read_as y after)
        ≡ mapped f (cond t (Ok x.0) (Err (fault_here x.1 Trailing)) >>= λ y. read_as y after)
    ended_mapped after x true = refl
    ended_mapped after x false = refl

    held_mapped : (after : Place) (r : Reading A)
        → ((mapped f r >>= ended) >>= λ y. read_as y after) ≡ mapped f ((r >>= ended) >>= λ y. read_as y after)
    held_mapped after (Ok x) = ended_mapped after x (length x.1.rest == 0)
    held_mapped after (Err e) = refl

    text_mapped : (r : Reading (List ℕ))
        → (r >>= λ text. whole_at (λ q. mapped f (held q)) (inside text) >>= λ x. Ok (x, text.1))
        ≡ mapped f (r >>= λ text. whole_at held (inside text) >>= λ x. Ok (x, text.1))
    text_mapped (Ok text) = held_mapped text.1 (held (inside text))
    text_mapped (Err e) = refl

    pub frame_same : (other : Place → Reading B) → ((q : Place) → mapped f (held q) ≡ other q) → (most : ℕ) (p : Place)
        → mapped f (frame_at most held p) ≡ frame_at most other p
    frame_same other same most p =
        sym (text_mapped (text_at most p)) ∙ ap (λ (read : Place → Reading B). frame_at most read p) (λ i q. same q i)

-- ---- one after the other, and one of several kinds

pub mapped-mapped : {A B C : Type 0} (f : A → B) (g : B → C) (r : Reading A)
    → mapped g (mapped f r) ≡ mapped (λ x. g (f x)) r
mapped-mapped f g (Ok x) = refl
mapped-mapped f g (Err e) = refl

-- each part of a pair as another
abbrev pub both_of : {A B C D : Type 0} → (A → C) → (B → D) → A × B → C × D
both_of f g v = (f v.0, g v.1)

module _ {A B C D : Type 0} (f : A → C) (g : B → D) (second : Place → Reading B) (second' : Place → Reading D)
    (same : (q : Place) → mapped g (second q) ≡ second' q) where
  second_same : (a : A) (r : Reading B)
      → mapped (both_of f g) (r >>= λ y. Ok ((a, y.0), y.1)) ≡ (mapped g r >>= λ y. Ok ((f a, y.0), y.1))
  second_same a (Ok y) = refl
  second_same a (Err e) = refl

  first_same : (r : Reading A)
      → mapped (both_of f g) (r >>= λ x. second x.1 >>= λ y. Ok ((x.0, y.0), y.1))
      ≡ (mapped f r >>= λ x. second' x.1 >>= λ y. Ok ((x.0, y.0), y.1))
  first_same (Ok x) = second_same x.0 (second x.1)
      ∙ ap (λ (r : Reading D). r >>= λ y. Ok ((f x.0, y.0), y.1)) (same x.1)
  first_same (Err e) = refl

  pub then_same : (first : Place → Reading A) (first' : Place → Reading C)
      → ((q : Place) → mapped f (first q) ≡ first' q) → (p : Place)
      → mapped (both_of f g) (then_at first second p) ≡ then_at first' second' p
  then_same first first' one p =
      first_same (first p) ∙ ap (λ (r : Reading C). r >>= λ x. second' x.1 >>= λ y. Ok ((x.0, y.0), y.1)) (one p)

module _ {X : ℕ → Type 0} {B : Type 0} (each : (k : ℕ) → Place → Reading (X k)) (f : (k : ℕ) → X k → B)
    (other : ℕ → Place → Reading B) (same : (k : ℕ) (q : Place) → mapped (f k) (each k q) ≡ other k q) where
  kind_dropped : (k : ℕ) (r : Reading (X k))
      → mapped (λ (v : (k : ℕ) × X k). f v.0 v.1) (r >>= λ x. Ok ((k, x.0), x.1)) ≡ mapped (f k) r
  kind_dropped k (Ok x) = refl
  kind_dropped k (Err e) = refl

  kind_same : (r : Reading ℕ)
      → mapped (λ (v : (k : ℕ) × X k). f v.0 v.1) (r >>= λ k. each k.0 k.1 >>= λ x. Ok ((k.0, x.0), x.1))
      ≡ (r >>= λ k. other k.0 k.1)
  kind_same (Ok k) = kind_dropped k.0 (each k.0 k.1) ∙ same k.0 k.1
  kind_same (Err e) = refl

  pub kinds_same : (count : ℕ) (p : Place)
      → mapped (λ (v : (k : ℕ) × X k). f v.0 v.1) (kinds_at count each p) ≡ (kind_at count p >>= λ k. other k.0 k.1)
  kinds_same count p = kind_same (kind_at count p)

-- ---- what lists of records are, as lists of their parts

pub flat_map-map : {A B : Type 0} (f : A → B) (spell : B → List ℕ) (xs : List A)
    → flat_map spell (map f xs) ≡ flat_map (λ x. spell (f x)) xs
flat_map-map f spell [] = refl
flat_map-map f spell (x ∷ xs) =
    flat_map-cons spell (f x) (map f xs)
    ∙ ap (λ (rest : List ℕ). spell (f x) ++ rest) (flat_map-map f spell xs)
    ∙ sym (flat_map-cons (λ y. spell (f y)) x xs)

pub AllByRecursion-map : {A B : Type 0} (f : A → B) (fits : B → Type 0) (xs : List A) → AllByRecursion fits (map f xs)
    → AllByRecursion (λ x. fits (f x)) xs
AllByRecursion-map f fits [] h = tt
AllByRecursion-map f fits (x ∷ xs) h = (h.0, AllByRecursion-map f fits xs h.1)

-- a list of records is spelled as the list of their parts
pub many_spelling_map : {A B : Type 0} (f : A → B) (spell : B → List ℕ) (xs : List A)
    → varint (length (map f xs)) ++ flat_map spell (map f xs) ≡ varint (length xs) ++ flat_map (λ x. spell (f x)) xs
many_spelling_map f spell xs =
    ap (λ (n : ℕ). varint n ++ flat_map spell (map f xs)) (length-map xs f)
    ∙ ap (λ (bytes : List ℕ). varint (length xs) ++ bytes) (flat_map-map f spell xs)
