-- What stands at a place of a list. Laws with their proofs.
use Rattle.std.specs.Prelude.{◌≡◌, ◌<◌, ℕ, zero, suc, List, [], ◌∷◌, length, get_or, slice_get, Option, Some, refl}
use Rattle.std.specs.List.{AllByRecursion}
use Rattle.std.proofs.Common.{sym, subst, ◌∙◌, arith}
use Rattle.std.proofs.lemmas.Option.{slice_get_read}

-- this stands at that place of the list
pub record StandsAt {X : Type 0} (xs : List X) (i : ℕ) (x : X) : Type 0 where
  pub there : i < length xs
  pub is : x ≡ get_or xs i x

read_from : {X : Type 0} (xs : List X) (i : ℕ) (d : X) → i < length xs → get_or xs i d ≡ get_or xs i (get_or xs i d)
read_from [] i d l = absurd (omega (arith, l))
read_from (x ∷ xs) zero d l = refl
read_from (x ∷ xs) (suc i) d l = read_from xs i d (omega (arith, l))

-- what is read at a place within
pub read_at : {X : Type 0} (xs : List X) (i : ℕ) (d : X) → i < length xs → StandsAt xs i (get_or xs i d)
read_at xs i d l = record { there = l; is = read_from xs i d l }

pub got : {X : Type 0} (xs : List X) (i : ℕ) (x : X) → StandsAt xs i x → slice_get xs i ≡ Some x
got xs i x s = slice_get_read xs (length xs) i x refl s.there s.is

pub same_some : {X : Type 0} (o : Option X) (x y : X) → o ≡ Some x → o ≡ Some y → y ≡ x
same_some o x y p q = cc (sym q ∙ p)

-- one thing stands at a place
pub one_there : {X : Type 0} (xs : List X) (i : ℕ) (x y : X) → slice_get xs i ≡ Some x → slice_get xs i ≡ Some y → y ≡ x
one_there xs i x y p q = same_some (slice_get xs i) x y p q

-- what holds of all holds of each
pub each_at : {X : Type 0} (P : X → Type 0) (xs : List X) (k : ℕ) (x : X) → AllByRecursion P xs
    → slice_get xs k ≡ Some x → P x
each_at P [] k x h e = absurd (cc)
each_at P (y ∷ xs) zero x h e = (let same : y ≡ x = cc in subst P same h.0)
each_at P (y ∷ xs) (suc k) x h e = each_at P xs k x h.1 e
