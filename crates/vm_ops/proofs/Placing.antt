-- What is found by trying is what has places.
use Rattle.std.proofs.Common.{◌≡◌, ℕ, zero, suc, ◌+◌, ◌-◌, ◌<◌, ◌≤◌, ◌↔◌, inl, inr, Bool, true, ◌&&◌, List, [], ◌∷◌, length, IsTrue, refl, sym, ◌∙◌, subst, arith}
use Rattle.std.specs.Prelude.{slice_index_or}
use Rattle.std.proofs.lemmas.Bool.{cases_lt}
use Rattle.vm_num.specs.Item.{Item}
use Rattle.vm_ops.specs.Signatures.{MultiGood, is_multi_good}
use Rattle.keyed.specs.Functions.{Check}
use Rattle.vm_ops.proofs.Trying.{either, or_right, no_signature}

-- ---- found by trying, so there are places

none_placed : (check : Check) (keys : List Item) (message : Item) → MultiGood check keys message []
none_placed check keys message = record {
  place = λ i. i;
  increasing = λ i less. omega (arith, less);
  within = λ i less. omega (arith, less);
  good = λ i less. absurd (omega (arith, less));
}

-- the first key's place, and the places after it
abbrev behind_first : (ℕ → ℕ) → ℕ → ℕ
behind_first place zero = 0
behind_first place (suc i) = suc (place i)

rising : (place : ℕ → ℕ) (n : ℕ) → ((i : ℕ) → i + 1 < n → place i < place (i + 1))
    → (i : ℕ) → i + 1 < suc n → behind_first place i < behind_first place (suc i)
rising place n up zero less = omega arith
rising place n up (suc i) less =
    let e : suc i ≡ i + 1 = omega arith in
    let step : place i < place (suc i) = rw e (up i (omega (arith, less))) in
    omega (arith, step)

inside : (place : ℕ → ℕ) (n m : ℕ) → ((i : ℕ) → i < n → place i < m)
    → (i : ℕ) → i < suc n → behind_first place i < suc m
inside place n m within zero less = omega arith
inside place n m within (suc i) less =
    let there : place i < m = within i (omega (arith, less)) in
    omega (arith, there)

first_taken : (check : Check) (k : Item) (keys : List Item) (message s : Item) (signatures : List Item)
    → check k message s ≡ true
    → (rest : MultiGood check keys message signatures)
    → (i : ℕ)
    → i < suc (length signatures)
    → check (slice_index_or (k ∷ keys) (behind_first rest.place i) []) message (slice_index_or (s ∷ signatures) i []) ≡ true
first_taken check k keys message s signatures good rest zero less = good
first_taken check k keys message s signatures good rest (suc i) less = rest.good i (omega (arith, less))

placed : (check : Check) (keys : List Item) (message : Item) (signatures : List Item)
    → is_multi_good check keys message signatures ≡ true → MultiGood check keys message signatures
placed check keys message [] is = none_placed check keys message
placed check [] message (s ∷ signatures) is = cc
placed check (k ∷ keys) message (s ∷ signatures) is =
    elim (either (check k message s) (is_multi_good check keys message signatures) (is_multi_good check keys message (s ∷ signatures)) is) [
      | inl taken ↦
          let rest = placed check keys message signatures taken.1 in
          record {
            place = behind_first rest.place;
            increasing = λ i less.
                let e : i + 1 ≡ suc i = omega arith in
                rw e (rising rest.place (length signatures) rest.increasing i (omega (arith, less)));
            within = inside rest.place (length signatures) (length keys) rest.within;
            good = first_taken check k keys message s signatures taken.0 rest;
          }
      | inr skipped ↦
          let rest = placed check keys message (s ∷ signatures) skipped in
          record {
            place = λ i. suc (rest.place i);
            increasing = λ i less. omega (arith, rest.increasing i less);
            within = λ i less. omega (arith, rest.within i less);
            good = rest.good;
          }
    ]

-- ---- there are places, so it is found by trying

-- the first place is the least
above : (place : ℕ → ℕ) (n : ℕ) → ((i : ℕ) → i + 1 < n → place i < place (i + 1))
    → (i : ℕ) → i < n → place 0 + i ≤ place i
above place n up zero less = omega arith
above place n up (suc i) less =
    let e : suc i ≡ i + 1 = omega arith in
    let step : place i < place (suc i) = rw e (up i (omega (arith, less))) in
    let below = above place n up i (omega (arith, less)) in
    omega (arith, step, below)

behind : (k : Item) (keys : List Item) (p : ℕ) → 0 < p → slice_index_or (k ∷ keys) p [] ≡ slice_index_or keys (p - 1) []
behind k keys zero some = absurd (omega (arith, some))
behind k keys (suc p) some = let e : suc p - 1 ≡ p = omega arith in rw e refl

-- the first key has no signature
without_first : (check : Check) (k : Item) (keys : List Item) (message s : Item) (signatures : List Item)
    → (all : MultiGood check (k ∷ keys) message (s ∷ signatures))
    → 0 < all.place 0
    → MultiGood check keys message (s ∷ signatures)
without_first check k keys message s signatures all some =
    let least = above all.place (suc (length signatures)) all.increasing in
    record {
      place = λ i. all.place i - 1;
      increasing = λ i less. omega (arith, all.increasing i less, least i (omega (arith, less)), some);
      within = λ i less. omega (arith, all.within i less, least i less, some);
      good = λ i less.
          let there : 0 < all.place i = omega (arith, least i less, some) in
          let e = behind k keys (all.place i) there in
          rw (sym e) (all.good i less);
    }

-- it has the first one
with_first : (check : Check) (k : Item) (keys : List Item) (message s : Item) (signatures : List Item)
    → (all : MultiGood check (k ∷ keys) message (s ∷ signatures))
    → MultiGood check keys message signatures
with_first check k keys message s signatures all =
    let least = above all.place (suc (length signatures)) all.increasing in
    record {
      place = λ i. all.place (suc i) - 1;
      increasing = λ i less.
          let e : suc (i + 1) ≡ suc i + 1 = omega arith in
          let step : all.place (suc i) < all.place (suc (i + 1)) = rw e (all.increasing (suc i) (omega (arith, less))) in
          omega (arith, step, least (suc i) (omega (arith, less)));
      within = λ i less. omega (arith, all.within (suc i) (omega (arith, less)), least (suc i) (omega (arith, less)));
      good = λ i less.
          let there : 0 < all.place (suc i) = omega (arith, least (suc i) (omega (arith, less))) in
          let e = behind k keys (all.place (suc i)) there in
          rw (sym e) (all.good (suc i) (omega (arith, less)));
    }

found : (check : Check) (keys : List Item) (message : Item) (signatures : List Item)
    → MultiGood check keys message signatures → is_multi_good check keys message signatures ≡ true
found check keys message [] all = no_signature check keys message
found check [] message (s ∷ signatures) all = absurd (omega (arith, all.within 0 (omega arith)))
found check (k ∷ keys) message (s ∷ signatures) all =
    elim (cases_lt 0 (all.place 0)) [
      | inl some ↦
          or_right (check k message s && is_multi_good check keys message signatures)
          (is_multi_good check keys message (s ∷ signatures))
          (found check keys message (s ∷ signatures) (without_first check k keys message s signatures all some))
      | inr none ↦
          let first : all.place 0 ≡ 0 = omega (arith, none) in
          let good : check k message s ≡ true =
          subst (λ p. check (slice_index_or (k ∷ keys) p []) message s ≡ true) first (all.good 0 (omega arith)) in
          rw good (rw (found check keys message signatures (with_first check k keys message s signatures all)) refl)
    ]

-- of an answer that is found by trying
pub by_places : (check : Check) (keys : List Item) (message : Item) (signatures : List Item) (answer : Bool)
    → answer ≡ is_multi_good check keys message signatures
    → IsTrue answer ↔ MultiGood check keys message signatures
by_places check keys message signatures answer is = (
  λ yes. placed check keys message signatures (sym is ∙ yes),
  λ all. is ∙ found check keys message signatures all,
)
