-- Writing the groups of a number into a buffer, one after the other.
use Rattle.std.proofs.Common.{◌≡◌, ℕ, zero, suc, ◌+◌, ◌-◌, ◌/◌, ◌%◌, ◌≤◌, ◌<◌, List, [], ◌∷◌, ◌++◌, length, take, set, refl, ◌∙◌, append_assoc, arith}
use Rattle.std.proofs.Math.ListN.{length-set}
use Rattle.std.proofs.lemmas.List.{take_more_set}
use Rattle.wire.specs.Spelling.{limit, groups}
use Rattle.wire.proofs.Groups.{groups-small, groups-large}

-- the first groups of a number stand in the buffer, and the others are those of what is left
pub record IsWriting (number left len : ℕ) (buffer : List ℕ) : Type 0 where
  pub long : length buffer ≡ 9
  pub few : len ≤ 8
  pub below : left < limit (8 - len)
  pub so_far : take len buffer ++ groups (8 - len) left ≡ groups 8 number

-- a number from 128 on has more than one group
more_groups : (k left : ℕ) → 128 ≤ left → left < limit k → (j : ℕ) × (k ≡ suc j)
more_groups zero left h lt = absurd (omega arith)
more_groups (suc j) left h lt = (j, refl)

writes_one : (j number left len : ℕ) (buffer : List ℕ) → 8 - len ≡ suc j → 128 ≤ left → IsWriting number left len buffer → IsWriting number (left / 128) (len + 1) (set buffer len (128 + left % 128))
writes_one j number left len buffer more h w =
    let few : len ≤ 8 = w.few in
    let long : length buffer ≡ 9 = w.long in
    let room : len < length buffer = omega arith in
    let j-is : 8 - (len + 1) ≡ j = omega arith in
    let below : left < limit (suc j) = rw more at w.below in
    let next : groups (8 - len) left ≡ (128 + left % 128) ∷ groups j (left / 128) = rw more (groups-large j left h) in
    let so_far : take len buffer ++ (128 + left % 128) ∷ groups j (left / 128) ≡ groups 8 number = rw next at w.so_far in
    record {
      long = length-set buffer len (128 + left % 128) ∙ long;
      few = omega arith;
      below = rw j-is (omega arith);
      so_far = rw (take_more_set buffer len (128 + left % 128) room, j-is) (append_assoc (take len buffer) ((128 + left % 128) ∷ []) (groups j (left / 128)) ∙ so_far);
    }

pub writes : (number left len : ℕ) (buffer : List ℕ) → 128 ≤ left → IsWriting number left len buffer → IsWriting number (left / 128) (len + 1) (set buffer len (128 + left % 128))
writes number left len buffer h w =
    let more = more_groups (8 - len) left h w.below in
    writes_one more.0 number left len buffer more.1 h w

pub has_written : (number left len : ℕ) (buffer : List ℕ) → left < 128 → IsWriting number left len buffer → take (len + 1) (set buffer len left) ≡ groups 8 number
has_written number left len buffer h w =
    let few : len ≤ 8 = w.few in
    let long : length buffer ≡ 9 = w.long in
    let room : len < length buffer = omega arith in
    let so_far : take len buffer ++ left ∷ [] ≡ groups 8 number = rw (groups-small (8 - len) left h) at w.so_far in
    take_more_set buffer len left room ∙ so_far
