-- Reading records one after the other, as a loop does.
use Rattle.std.proofs.Common.{◌≡◌, ℕ, suc, ◌-◌, ◌+◌, ◌≤◌, ◌<◌, List, [], ◌∷◌, ◌++◌, Option, Ok, Err, refl, sym, ap, ◌∙◌, append_assoc, arith}
use Rattle.std.proofs.lemmas.List.{append-nil}
use Rattle.wire.specs.declared.fault.DataFault.{DataFault}
use Rattle.wire.specs.declared.fault.DataFault.TheVariants as faults
use Rattle.wire.specs.Places.{◌>>=◌, Place, Reading, Fails, item_at, items_at}

-- what was read before, and what is still read
abbrev pub with_front : {X : Type 0} → List X → Reading (List X) → Reading (List X)
with_front front reading = reading >>= λ x. Ok (front ++ x.0, x.1)

regroup : {X : Type 0} (front : List X) (item : X) (reading : Reading (List X)) → with_front front (reading >>= λ x. Ok (item ∷ x.0, x.1)) ≡ with_front (front ++ item ∷ []) reading
regroup front item (Ok x) = ap (λ (xs : List _). Ok (xs, x.1)) (simp append_assoc)
regroup front item (Err f) = refl

module _ {X : Type 0} (room : Option ℕ) (each : Place → Reading X) where
  pub goes_on : (front : List X) (count i from : ℕ) (place : Place) (item : X) (after : Place) (total : Reading (List X)) → i < count → from ≤ place.at → place.at ≤ after.at
      → item_at room each (place.at - from) place ≡ Ok (item, after)
      → with_front front (items_at room each (count - i) (place.at - from) place) ≡ total → with_front (front ++ item ∷ []) (items_at room each (count - (i + 1)) (after.at - from) after) ≡ total
  unfolding items_at
  goes_on front count i from place item after total lt begun on h so_far =
      let k : count - i ≡ suc (count - (i + 1)) = omega arith in
      let used : (place.at - from) + (after.at - place.at) ≡ after.at - from = omega arith in
      let one : with_front front (items_at room each (count - i) (place.at - from) place) ≡ with_front (front ++ item ∷ []) (items_at room each (count - (i + 1)) (after.at - from) after) = rw (k, h, used) (regroup front item (items_at room each (count - (i + 1)) (after.at - from) after)) in
      sym one ∙ so_far

  pub ends : (e : DataFault) (front : List X) (count i used : ℕ) (place : Place) (total : Reading (List X)) → i < count → Fails e (item_at room each used place)
      → with_front front (items_at room each (count - i) used place) ≡ total → Fails e total
  unfolding items_at
  ends faults.NoMemory front count i used place total lt h so_far = tt
  ends (faults.At at kind) front count i used place total lt h so_far =
      let k : count - i ≡ suc (count - (i + 1)) = omega arith in
      let one : with_front front (items_at room each (count - i) used place) ≡ Err (record { at = at; kind = kind }) = rw (k, h) refl in
      sym so_far ∙ one

  pub is_done : (front : List X) (count i used : ℕ) (place : Place) (total : Reading (List X)) → count ≤ i → with_front front (items_at room each (count - i) used place) ≡ total → total ≡ Ok (front, place)
  unfolding items_at
  is_done front count i used place total le so_far =
      let k : count - i ≡ 0 = omega arith in
      let one : with_front front (items_at room each (count - i) used place) ≡ Ok (front, place) = rw k (ap (λ (xs : List X). Ok (xs, place)) (append-nil front)) in
      sym so_far ∙ one
