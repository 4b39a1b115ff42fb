-- What stands at the places of a public key and of a signature.
use Rattle.std.proofs.Common.{◌≡◌, ℕ, zero, suc, ◌+◌, ◌-◌, ◌*◌, ◌<◌, inl, inr, List, ◌++◌, length, take, refl, sym, ap, ◌∙◌, append_assoc, length-append, arith}
use Rattle.std.specs.Prelude.{slice_range}
use Rattle.std.proofs.lemmas.Bool.{cases_lt}
use Rattle.std.proofs.lemmas.List.{take_at, drop_at}
use Rattle.hash_sigs.specs.Strings.{u32str, u16str, joined, string_at}

pub length-u32str : (n : ℕ) → length (u32str n) ≡ 4
unfolding u32str
length-u32str n = refl

pub length-u16str : (n : ℕ) → length (u16str n) ≡ 2
unfolding u16str
length-u16str n = refl

-- strings of 32 bytes each
pub record AreValues (f : ℕ → List ℕ) (n : ℕ) : Type 0 where
  pub each : (i : ℕ) → i < n → length (f i) ≡ 32

fewer : (f : ℕ → List ℕ) (n : ℕ) → AreValues f (suc n) → AreValues f n
fewer f n v = record { each = λ i lt. v.each i (omega arith) }

pub length-joined : (f : ℕ → List ℕ) (n : ℕ) → AreValues f n → length (joined f n) ≡ 32 * n
unfolding joined
length-joined f zero v = refl
length-joined f (suc n) v =
    let rest = length-joined f n (fewer f n v) in
    let last = v.each n (omega arith) in
    omega (arith, length-append (joined f n) (f n), rest, last)

pub joined_same : (f g : ℕ → List ℕ) (n : ℕ) → ((i : ℕ) → i < n → f i ≡ g i) → joined f n ≡ joined g n
unfolding joined
joined_same f g zero e = refl
joined_same f g (suc n) e =
    ap (λ x. x ++ f n) (joined_same f g n (λ i lt. e i (omega arith)))
    ∙ ap (λ x. joined g n ++ x) (e n (omega arith))

-- the part between two others
pub part : (x y z : List ℕ) (a b : ℕ) → length x ≡ a → length y + a ≡ b → slice_range (x ++ (y ++ z)) a b ≡ y
part x y z a b hx hy =
    ap (λ s. take (b - a) s) (drop_at x (y ++ z) a hx) ∙ take_at y z (b - a) (omega arith)

pub string_of : (front back : List ℕ) (f : ℕ → List ℕ) (n i at : ℕ) → length front ≡ at → AreValues f n → i < n → string_at (front ++ (joined f n ++ back)) at i ≡ f i
unfolding joined
string_of front back f zero i at hf v lt = absurd (omega arith)
string_of front back f (suc n) i at hf v lt =
    let before = fewer f n v in
    elim (cases_lt i n) [
      | inl less ↦ ap (λ s. string_at s at i) (ap (λ s. front ++ s) (append_assoc (joined f n) (f n) back))
          ∙ string_of front (f n ++ back) f n i at hf before less
      | inr more ↦
          let same : n ≡ i = omega arith in
          let turned : front ++ ((joined f n ++ f n) ++ back) ≡ (front ++ joined f n) ++ (f n ++ back) =
          ap (λ s. front ++ s) (append_assoc (joined f n) (f n) back) ∙ sym (append_assoc front (joined f n) (f n ++ back)) in
          let len : length (front ++ joined f n) ≡ at + 32 * i =
          omega (arith, length-append front (joined f n), length-joined f n before) in
          let last = v.each n (omega arith) in
          ap (λ s. string_at s at i) turned
          ∙ part (front ++ joined f n) (f n) back (at + 32 * i) (at + 32 * i + 32) len (omega arith)
          ∙ ap f same
    ]
