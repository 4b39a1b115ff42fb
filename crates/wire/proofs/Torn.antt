-- Frames of which only some first bytes are there.
use Rattle.std.proofs.Common.{◌≡◌, ℕ, zero, suc, ◌+◌, ◌-◌, ◌/◌, ◌%◌, ◌^◌, ◌≤◌, ◌<◌, List, ◌∷◌, ◌++◌, length, take, get_or, Ok, Err, refl, sym, ap, subst, ◌∙◌, inl, inr, arith}
use Rattle.std.proofs.lemmas.Bool.{cases_lt}
use Rattle.std.proofs.lemmas.List.{length-append, length-take, take-append-le}
use Rattle.std.proofs.Math.Seq.{take-append-add}
use Rattle.wire.specs.declared.fault.DataKind.TheVariants.{Short}
use Rattle.wire.specs.Spelling.{varint, varstring}
use Rattle.wire.specs.Reading.{IsShort, IsShortString}
use Rattle.wire.specs.Laws.{VarintLaws}
use Rattle.wire.specs.Places.{Place, Reading}
use Rattle.wire.specs.Layout.{FrameFits, frame_spelling}
use Rattle.wire.specs.FirstFault.{Faults, FrameFault}
use Rattle.wire.specs.Readers.{Passes, IsReader}
use Rattle.wire.specs.Files.{FileLaws, FramesReadAs, FrameLaws}
use Rattle.wire.proofs.NumberLaws.{varint_laws}
use Rattle.wire.proofs.WholeReaders.{frame_reader}
use Rattle.wire.proofs.SpellingLaws.{spelling_laws}
use Rattle.wire.proofs.WholeFiles.{file_laws}

varstring-is : (x : List ℕ) → varstring x ≡ varint (length x) ++ x
unfolding varstring
varstring-is x = refl

-- the front of a number's spelling, but not all of it, has the high bit set
torn_number : (numbers : VarintLaws) (k n : ℕ) → n < 2 ^ 63 → k < length (varint n) → (i : ℕ) → i < k → 128 ≤ get_or (take k (varint n)) i 0
torn_number numbers zero n fits below i lower = absurd (omega arith)
torn_number numbers (suc k) n fits below i lower =
    elim (cases_lt n 128) [
      | inl less ↦ absurd (omega (arith, ap length (numbers.small n less), below))
      | inr more ↦
          (let is = numbers.large n more fits in
          let left : k < length (varint (n / 128)) = omega (arith, below, ap length is) in
          let others = torn_number numbers k (n / 128) (omega (arith, fits)) left in
          subst (λ (x : List ℕ). 128 ≤ get_or (take (suc k) x) i 0) (sym is) (high (128 + n % 128) (take k (varint (n / 128))) i k (omega arith) others lower))
    ]
  where
    high : (b : ℕ) (rest : List ℕ) (i k : ℕ) → 128 ≤ b → ((j : ℕ) → j < k → 128 ≤ get_or rest j 0) → i < suc k → 128 ≤ get_or (b ∷ rest) i 0
    high b rest zero k first others lower = first
    high b rest (suc i) k first others lower = others i (omega arith)

-- the front of a string's spelling, but not all of it, is short
torn_string : (numbers : VarintLaws) (most k : ℕ) (s : List ℕ) → most < 2 ^ 63 → length s ≤ most → k < length (varstring s) → IsShortString most (take k (varstring s))
torn_string numbers most k s small fits below =
    let is = varstring-is s in
    let total : k < length (varint (length s)) + length s = omega (arith, below, ap length is, length-append (varint (length s)) s) in
    elim (cases_lt k (length (varint (length s)))) [
      | inl less ↦
          (let cut : take k (varstring s) ≡ take k (varint (length s)) = ap (take k) is ∙ take-append-le k (varint (length s)) s (omega arith) in
          let len : length (take k (varint (length s))) ≡ k = omega (arith, length-take k (varint (length s))) in
          let few = numbers.few (length s) (omega arith) in
          let torn = torn_number numbers k (length s) (omega arith) less in
          inl (subst IsShort (sym cut) (omega arith, (omega arith, λ i lower. torn i (omega (arith, lower, len))))))
      | inr more ↦
          (let rest : List ℕ = take (k - length (varint (length s))) s in
          let place : length (varint (length s)) + (k - length (varint (length s))) ≡ k = omega arith in
          let cut : take k (varstring s) ≡ varint (length s) ++ rest = ap (take k) is ∙ ap (λ (n : ℕ). take n (varint (length s) ++ s)) (sym place) ∙ take-append-add (varint (length s)) s (k - length (varint (length s))) in
          inr (length s, rest, cut, omega arith, fits, omega (arith, length-take (k - length (varint (length s))) s, below, ap length is, length-append (varint (length s)) s)))
    ]

-- a frame has at least one byte
frame_some : {X : Type 0} (most : ℕ) (fits : X → Type 0) (spell : X → List ℕ) (x : X) → FrameFits most fits spell x → 0 < length (frame_spelling spell x)
frame_some most fits spell x one =
    omega (arith, varint_laws.some (length (spell x)) one.1.spelled, ap length (varstring-is (spell x)), length-append (varint (length (spell x))) (spell x))

-- fewer bytes are left after a frame than before it
pub frame_passed : {X : Type 0} (most : ℕ) (fits : X → Type 0) (spell : X → List ℕ) (x : X) (p q : Place) → FrameFits most fits spell x × Passes p (frame_spelling spell x) q → length q.rest < length p.rest
frame_passed most fits spell x p q h =
    omega (arith, frame_some most fits spell x h.0, ap length h.1.bytes, length-append (frame_spelling spell x) q.rest)

-- the laws of files of frames that do not speak of torn ones
pub frame_file : {X : Type 0} (most : ℕ) (fits : X → Type 0) (spell : X → List ℕ) (F : Faults) (read : Place → Reading X) → IsReader fits spell F read
    → FileLaws (FrameFits most fits spell) (frame_spelling spell) (FrameFault most fits spell F)
frame_file most fits spell F read one = file_laws _ _ _ (spelling_laws _ _ _ _ (frame_reader fits spell F read one most)) (frame_some most fits spell)

module _ {X : Type 0} (most : ℕ) (small : most < 2 ^ 63) (fits : X → Type 0) (spell : X → List ℕ) (F : Faults) where
  torn : (bytes : List ℕ) (xs : List X) (x : X) (k : ℕ) → FramesReadAs most fits spell F bytes (Ok xs) → FrameFits most fits spell x → 0 < k → k < length (frame_spelling spell x)
      → FramesReadAs most fits spell F (bytes ++ take k (frame_spelling spell x)) (Err (record { index = length xs; at = length bytes; kind = Short }))
  torn bytes xs x k h one some below = record {
    whole = xs;
    rest = take k (frame_spelling spell x);
    place = 0;
    within = h.0;
    spelled = ap (λ (front : List ℕ). front ++ take k (frame_spelling spell x)) h.1;
    more = λ none. absurd (omega (arith, ap length none, length-take k (frame_spelling spell x), some, below));
    first = inl (record { at_front = refl; fault = torn_string varint_laws most k (spell x) small one.1.at_most below });
    index = refl;
    at = omega (arith, ap length h.1);
  }

  pub frame_laws : (read : Place → Reading X) → IsReader fits spell F read → FrameLaws most fits spell F
  frame_laws read one = record {
    file = frame_file most fits spell F read one;
    torn = torn;
  }
