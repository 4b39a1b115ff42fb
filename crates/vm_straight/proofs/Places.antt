-- Bytes at a place of a program.
use Rattle.std.proofs.Common.{◌≡◌, ℕ, ◌+◌, ◌≤◌, List, [], ◌++◌, length, refl, sym, ◌∙◌, ap, arith, append_assoc}
use Rattle.std.proofs.Common.{append-nil, length-append}
use Rattle.vm_straight.specs.Success.{HoldsAt}

pub front_held : {program : List ℕ} {at : ℕ} (a b : List ℕ) → HoldsAt program at (a ++ b) → HoldsAt program at a
front_held a b h = record {
  before = h.before;
  after = b ++ h.after;
  is = h.is ∙ (simp append_assoc);
  place = h.place;
}

pub rest_held : {program : List ℕ} {at : ℕ} (a b : List ℕ) → HoldsAt program at (a ++ b)
    → HoldsAt program (at + length a) b
rest_held a b h = record {
  before = h.before ++ a;
  after = h.after;
  is = h.is ∙ (simp append_assoc);
  place = simp length-append (omega (arith, h.place));
}

pub held_inside : {program : List ℕ} {at : ℕ} (bytes : List ℕ) → HoldsAt program at bytes
    → at + length bytes ≤ length program
held_inside {program} {at} bytes h =
    let long : length program ≡ length (h.before ++ bytes ++ h.after) = ap length h.is in
    let parts : length (h.before ++ bytes ++ h.after) ≡ length h.before + length bytes + length h.after =
    simp length-append refl in
    omega (arith, h.place)

pub all_held : (bytes : List ℕ) → HoldsAt bytes 0 bytes
all_held bytes = record { before = []; after = []; is = sym (append-nil bytes); place = refl }
