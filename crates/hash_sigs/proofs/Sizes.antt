-- What is good has these sizes.
use Rattle.std.proofs.Common.{◌≡◌, ℕ, ◌+◌, ◌*◌, ◌⊎◌, inl, inr, true, List, length}
use Rattle.std.proofs.lemmas.Bool.{eqb-true, and_parts, or_cases}
use Rattle.hash_sigs.specs.Signature.{lms_of, lms}

sizes_of : (typecode height : ℕ) (key message signature : List ℕ) → lms_of typecode height key message signature ≡ true → (length key ≡ 56) × (length signature ≡ 1132 + 32 * height)
unfolding lms_of
sizes_of typecode height key message signature h =
    let forms = (and_parts _ _ (and_parts _ _ h).0) in
    let key_form = (and_parts _ _ (and_parts _ _ forms.0).0).0 in
    let form = (and_parts _ _ (and_parts _ _ (and_parts _ _ forms.1).0).0).0 in
    (eqb-true _ _ key_form, eqb-true _ _ form)

pub sizes : (key message signature : List ℕ) → lms key message signature ≡ true → (length key ≡ 56) × ((length signature ≡ 1292) ⊎ (length signature ≡ 1452))
unfolding lms
sizes key message signature h =
    elim (or_cases _ _ h) [
      | inl five ↦ (let s = sizes_of 5 5 key message signature five in (s.0, inl s.1))
      | inr ten ↦ (let s = sizes_of 6 10 key message signature ten in (s.0, inr s.1))
    ]
