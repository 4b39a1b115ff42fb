-- Readers of so many of one kind.
use Rattle.std.proofs.Common.{◌≡◌, ℕ, zero, suc, ◌+◌, ◌-◌, ◌≤◌, Bool, true, false, cond, List, [], ◌∷◌, ◌++◌, length, Option, Some, None, Ok, Err, refl, sym, ap, subst, ◌∙◌, inl, inr, arith}
use Rattle.std.specs.List.{flat_map}
use Rattle.std.proofs.lemmas.Bool.{lt-ltb, le-ltb, ltb-true, ltb-false}
use Rattle.std.proofs.lemmas.List.{length-append}
use Rattle.std.proofs.lemmas.List.Concat.{flat_map-cons}
use Rattle.wire.specs.declared.fault.DataKind.{DataKind}
use Rattle.wire.specs.declared.fault.DataKind.TheVariants.{TooBig}
use Rattle.wire.specs.Spelling.{AreBytes}
use Rattle.wire.specs.Places.{Place, Reading, ◌>>=◌, fault_here, passes_room, in_room, items_at}
use Rattle.wire.specs.Layout.{IsWithin, AreItems}
use Rattle.wire.specs.FirstFault.{Faults, FaultHere, BehindValue, RoomFault, PassesRoom, FitsRoom, ItemsFault}
use Rattle.wire.specs.Readers.{Passes, Answers, fault_at, IsReader}
use Rattle.wire.proofs.Readers.{Passes-bytes, Passes-then, Passes-none, Passes-first, Passes-second, Passes-behind, behind, done, place_is, same_fault}

-- ---- the room

room_passed : (room : Option ℕ) (size : ℕ) → passes_room room size ≡ true → PassesRoom room size
room_passed None size e = absurd cc
room_passed (Some most) size e = ltb-true most size e

room_left : (room : Option ℕ) (size : ℕ) → passes_room room size ≡ false → IsWithin room size
room_left None size e = tt
room_left (Some most) size e = ltb-false most size e

is_passed : (room : Option ℕ) (size : ℕ) → PassesRoom room size → passes_room room size ≡ true
is_passed None size h = absurd h
is_passed (Some most) size h = lt-ltb most size h

is_left : (room : Option ℕ) (size : ℕ) → IsWithin room size → passes_room room size ≡ false
is_left None size h = refl
is_left (Some most) size h = le-ltb most size h

pub IsWithin-less : (room : Option ℕ) (less size : ℕ) → less ≤ size → IsWithin room size → IsWithin room less
IsWithin-less None less size le h = tt
IsWithin-less (Some most) less size le h = omega arith

pub IsWithin-none : (room : Option ℕ) → IsWithin room 0
IsWithin-none None = tt
IsWithin-none (Some most) = omega arith

-- ---- so many

module _ {X : Type 0} (fits : X → Type 0) (spell : X → List ℕ) (F : Faults) (read : Place → Reading X) (one : IsReader fits spell F read) (room : Option ℕ) where
  abbrev pub ItemsFit : (n used : ℕ) → List X → Type 0
  ItemsFit n used xs = (length xs ≡ n) × AreItems fits spell room used xs

  abbrev pub IsItemsReader : (n used : ℕ) → Type 0
  IsItemsReader n used = IsReader (ItemsFit n used) (flat_map spell) (ItemsFault fits spell F room n used) (items_at room read n used)

  abbrev pushed : X → Reading (List X) → Reading (List X)
  pushed x r = r >>= λ others. Ok (x ∷ others.0, others.1)

  -- how many bytes a record and others take
  size_of : (used : ℕ) (x : X) (xs : List X) → used + length (flat_map spell (x ∷ xs)) ≡ (used + length (spell x)) + length (flat_map spell xs)
  size_of used x xs = omega (arith, ap length (flat_map-cons spell x xs), length-append (spell x) (flat_map spell xs))

  none_again : (p : Place) (xs : List X) (q : Place) → length xs ≡ 0 → Passes p (flat_map spell xs) q → done [] p ≡ done xs q
  none_again p [] q e m = ap (λ (to : Place). done [] to) (place_is p q (omega (arith, m.at)) m.bytes)
  none_again p (x ∷ xs) q e m = absurd (omega (arith, e))

  none_reader : (used : ℕ) → IsWithin room used → IsItemsReader 0 used
  unfolding items_at
  none_reader used w = record {
    sound = λ p fits. ((refl, record { each = tt; within = (let e : used ≡ used + 0 = omega arith in subst (λ (k : ℕ). IsWithin room k) e w) }), Passes-none p);
    again = λ p xs q h m. none_again p xs q h.0 m;
    told = λ p off kind fits h. absurd h;
  }

  module _ (n : ℕ) (more : (used : ℕ) → IsWithin room used → IsItemsReader n used) (used : ℕ) where
    abbrev Whole : Place → Reading (List X) → Type 0
    Whole p r = Answers (ItemsFit (suc n) used) (flat_map spell) (ItemsFault fits spell F room (suc n) used) p r

    tail_sound : (p : Place) (x : X × Place) → fits x.0 → Passes p (spell x.0) x.1 → IsWithin room (used + length (spell x.0)) → (r : Reading (List X))
        → Answers (ItemsFit n (used + length (spell x.0))) (flat_map spell) (ItemsFault fits spell F room n (used + length (spell x.0))) x.1 r → Whole p (pushed x.0 r)
    tail_sound p x h m w (Ok xs) k = (
      (ap suc k.0.0, record { each = (h, k.0.1.each); within = subst (λ (size : ℕ). IsWithin room size) (sym (size_of used x.0 xs.0)) k.0.1.within }),
      subst (λ (front : List ℕ). Passes p front xs.1) (sym (flat_map-cons spell x.0 xs.0)) (Passes-then p (spell x.0) x.1 (flat_map spell xs.0) xs.1 m k.1),
    )
    tail_sound p x h m w (Err f) k = record {
      off = length (spell x.0) + k.off;
      at = omega (arith, k.at, m.at);
      first = inr (inr (record { value = x.0; rest = x.1.rest; within = (h, w); behind = record { spelled = m.bytes; place = k.off; fault = k.first; further = refl } }));
    }

    abbrev rest_at : Place → ℕ → X × Place → Reading (List X)
    rest_at p size x = cond (passes_room room (used + size)) (Err (fault_here p TooBig)) (items_at room read n (used + size) x.1)

    -- how a record and those after it are read
    chosen : (p : Place) (x : X × Place) (t : Bool) → (cond t (Err (fault_here p TooBig)) (Ok x) >>= λ first. pushed first.0 (items_at room read n (used + (first.1.at - p.at)) first.1))
        ≡ pushed x.0 (cond t (Err (fault_here p TooBig)) (items_at room read n (used + (x.1.at - p.at)) x.1))
    chosen p x true = refl
    chosen p x false = refl

    step_of : (p : Place) (r : Reading X) → ((r >>= in_room room used p) >>= λ first. pushed first.0 (items_at room read n (used + (first.1.at - p.at)) first.1))
        ≡ (r >>= λ x. pushed x.0 (rest_at p (x.1.at - p.at) x))
    step_of p (Ok x) = chosen p x (passes_room room (used + (x.1.at - p.at)))
    step_of p (Err f) = refl

    step : (p : Place) → items_at room read (suc n) used p ≡ (read p >>= λ x. pushed x.0 (rest_at p (x.1.at - p.at) x))
    unfolding items_at
    step p = step_of p (read p)

    room_sound : (p : Place) → AreBytes p.rest → (x : X × Place) → fits x.0 → Passes p (spell x.0) x.1 → (t : Bool) → passes_room room (used + length (spell x.0)) ≡ t
        → Whole p (pushed x.0 (cond t (Err (fault_here p TooBig)) (items_at room read n (used + length (spell x.0)) x.1)))
    room_sound p b x h m true e = record {
      off = 0;
      at = omega arith;
      first = inr (inl (record { at_front = refl; fault = record { value = x.0; rest = x.1.rest; within = h; spelled = m.bytes; too_many = room_passed room (used + length (spell x.0)) e; kind_is = refl } }));
    }
    room_sound p b x h m false e =
        let size = used + length (spell x.0) in
        let w : IsWithin room size = room_left room size e in
        tail_sound p x h m w (items_at room read n size x.1) ((more size w).sound x.1 (Passes-bytes p (spell x.0) x.1 m b))

    first_sound : (p : Place) → AreBytes p.rest → (r : Reading X) → Answers fits spell F p r → Whole p (r >>= λ x. pushed x.0 (rest_at p (x.1.at - p.at) x))
    first_sound p b (Ok x) h =
        let size : length (spell x.0) ≡ x.1.at - p.at = omega (arith, h.1.at) in
        subst (λ (k : ℕ). Whole p (pushed x.0 (rest_at p k x))) size (room_sound p b x h.0 h.1 (passes_room room (used + length (spell x.0))) refl)
    first_sound p b (Err f) h = record { off = h.off; at = h.at; first = inl h.first }

    -- one record was read, and the others are read after it
    first_read : (p : Place) (x : X) (q : Place) → fits x → Passes p (spell x) q → items_at room read (suc n) used p ≡ pushed x (rest_at p (length (spell x)) (x, q))
    first_read p x q h m =
        let e : read p ≡ Ok (x, q) = one.again p x q h m in
        let size : q.at - p.at ≡ length (spell x) = omega (arith, m.at) in
        step p ∙ rw (e, size) refl

    items_again : (p : Place) (xs : List X) (q : Place) → ItemsFit (suc n) used xs → Passes p (flat_map spell xs) q → items_at room read (suc n) used p ≡ Ok (xs, q)
    items_again p [] q h m = absurd (omega (arith, h.0))
    items_again p (x ∷ xs) q h m =
        let a = spell x in
        let b = flat_map spell xs in
        let size = used + length a in
        let passes : Passes p (a ++ b) q = subst (λ (front : List ℕ). Passes p front q) (flat_map-cons spell x xs) m in
        let mid = behind p a (b ++ q.rest) in
        let all : IsWithin room (size + length b) = subst (λ (k : ℕ). IsWithin room k) (size_of used x xs) h.1.within in
        let w : IsWithin room size = IsWithin-less room size (size + length b) (omega arith) all in
        let left : passes_room room size ≡ false = is_left room size w in
        let others : items_at room read n size mid ≡ Ok (xs, q) = (more size w).again mid xs q (omega (arith, h.0), record { each = h.1.each.1; within = all }) (Passes-second p a b q passes) in
        first_read p x mid h.1.each.0 (Passes-first p a b q passes) ∙ rw (left, others) refl

    room_told : (p : Place) (off : ℕ) (kind : DataKind) → FaultHere (RoomFault fits spell room used) p.rest off kind → items_at room read (suc n) used p ≡ Err (fault_at p off kind)
    room_told p off kind h =
        let f = h.fault in
        let over : passes_room room (used + length (spell f.value)) ≡ true = is_passed room (used + length (spell f.value)) f.too_many in
        first_read p f.value (behind p (spell f.value) f.rest) f.within (Passes-behind p (spell f.value) f.rest f.spelled)
        ∙ rw over (same_fault (fault_here p TooBig) (fault_at p off kind) (omega (arith, h.at_front)) (sym f.kind_is))

    behind_told : (p : Place) (off : ℕ) (kind : DataKind) → AreBytes p.rest → BehindValue (FitsRoom fits spell room used) spell (λ x. ItemsFault fits spell F room n (used + length (spell x))) p.rest off kind
        → items_at room read (suc n) used p ≡ Err (fault_at p off kind)
    behind_told p off kind b h =
        let x = h.value in
        let size = used + length (spell x) in
        let mid = behind p (spell x) h.rest in
        let passes : Passes p (spell x) mid = Passes-behind p (spell x) h.rest h.behind.spelled in
        let left : passes_room room size ≡ false = is_left room size h.within.1 in
        let others : items_at room read n size mid ≡ Err (fault_at mid h.behind.place kind) = (more size h.within.1).told mid h.behind.place kind (Passes-bytes p (spell x) mid passes b) h.behind.fault in
        first_read p x mid h.within.0 passes
        ∙ rw (left, others) (same_fault (fault_at mid h.behind.place kind) (fault_at p off kind) (omega (arith, h.behind.further)) refl)

    items_told : (p : Place) (off : ℕ) (kind : DataKind) → AreBytes p.rest → ItemsFault fits spell F room (suc n) used p.rest off kind → items_at room read (suc n) used p ≡ Err (fault_at p off kind)
    items_told p off kind b (inl h) = step p ∙ rw (one.told p off kind b h) refl
    items_told p off kind b (inr (inl h)) = room_told p off kind h
    items_told p off kind b (inr (inr h)) = behind_told p off kind b h

    more_reader : IsItemsReader (suc n) used
    more_reader = record {
      sound = λ p b. subst (λ (r : Reading (List X)). Whole p r) (sym (step p)) (first_sound p b (read p) (one.sound p b));
      again = items_again;
      told = items_told;
    }

  pub items_reader : (n used : ℕ) → IsWithin room used → IsItemsReader n used
  items_reader zero used w = none_reader used w
  items_reader (suc n) used w = more_reader n (items_reader n) used
