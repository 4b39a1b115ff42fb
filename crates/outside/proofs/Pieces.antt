-- What is known of a writer's bytes after several calls.
use Rattle.std.proofs.Common.{◌≡◌, ℕ, List, [], ◌∷◌, ◌++◌, ◌-◌, arith, take, drop, length, Option, Some, None, Result, Ok, Err, sym, ap, ◌∙◌, append_assoc}
use Rattle.std.specs.Result.{IsErr}
use Rattle.std.proofs.lemmas.Bool.{false≢true}
use Rattle.std.specs.Io.KnownBytes.{Appends, Keeps}
use Rattle.std.proofs.Math.Seq.{take-append_seam}
use Rattle.std.proofs.lemmas.List.{take-append-drop, append-nil, take_rest}
use Rattle.outside.specs.Whole.{WritesWhole}

-- one piece and then another
pub Appends-again : (old mid new : Option (List ℕ)) (xs ys : List ℕ) → Appends old mid xs → Appends mid new ys → Appends old new (xs ++ ys)
Appends-again None mid new xs ys p q = tt
Appends-again (Some a) None new xs ys p q = absurd p
Appends-again (Some a) (Some b) None xs ys p q = absurd q
Appends-again (Some a) (Some b) (Some c) xs ys p q = rw (q, p) (append_assoc a xs ys)

-- a piece, and then a call that adds nothing
pub Appends-then_keeps : (old mid new : Option (List ℕ)) (xs : List ℕ) → Appends old mid xs → Keeps mid new → Appends old new xs
Appends-then_keeps None mid new xs p q = tt
Appends-then_keeps (Some a) None new xs p q = absurd p
Appends-then_keeps (Some a) (Some b) None xs p q = absurd q
Appends-then_keeps (Some a) (Some b) (Some c) xs p q = q ∙ p

-- what was done is the front of all
pub Appends-front : (old new : Option (List ℕ)) (bytes done rest : List ℕ) → done ++ rest ≡ bytes → Appends old new done → (n : ℕ) × Appends old new (take n bytes)
Appends-front old new bytes done rest whole p =
    (length done, let same : take (length done) bytes ≡ done = ap (take (length done)) (sym whole) ∙ take-append_seam done rest in rw same p)

-- at an Err some of the bytes were written
pub WritesWhole-err : {T E : Type 0} (old new : Option (List ℕ)) (bytes : List ℕ) (r : Result T E) → IsErr r → (n : ℕ) × Appends old new (take n bytes) → WritesWhole old new bytes r
WritesWhole-err old new bytes (Ok x) bad part = absurd (false≢true bad)
WritesWhole-err old new bytes (Err e) bad part = part

-- the part that a write took goes from the rest to what is done
pub moved_part : (bytes done rest : List ℕ) (n : ℕ) → done ++ rest ≡ bytes → (done ++ take n rest) ++ drop n rest ≡ bytes
moved_part bytes done rest n whole = append_assoc done (take n rest) (drop n rest) ∙ ap (λ x. done ++ x) (take-append-drop n rest) ∙ whole

-- the same, with the rest as a slice is written
pub moved_slice : (bytes done rest : List ℕ) (n : ℕ) → done ++ rest ≡ bytes → (done ++ take n rest) ++ take (length rest - n) (drop n rest) ≡ bytes
moved_slice bytes done rest n whole =
    ap (λ x. (done ++ take n rest) ++ x) (take_rest rest n) ∙ moved_part bytes done rest n whole

-- with no rest, what is done is all
pub all_done : (bytes done rest : List ℕ) → length rest ≡ 0 → done ++ rest ≡ bytes → done ≡ bytes
all_done bytes done [] none whole = sym (append-nil done) ∙ whole
all_done bytes done (x ∷ rest) none whole = absurd (omega arith)
