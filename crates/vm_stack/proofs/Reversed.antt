-- A list seen from its end.
use Rattle.std.proofs.Common.{◌≡◌, ℕ, suc, ◌+◌, ◌-◌, ◌<◌, ◌≤◌, List, ◌++◌, length, take, drop, reverse, sym, ◌∙◌, ap, arith, length-drop}
use Rattle.std.proofs.lemmas.List.{reverse-append, take_at, drop_at, length-reverse, take-append-drop, get_or-reverse}
use Rattle.std.specs.List.{remove}

-- a list in two parts, of which the second has n elements
module _ {X : Type 0} (xs : List X) (first n : ℕ) (all : first + n ≡ length xs) where
  parts : reverse xs ≡ reverse (drop first xs) ++ reverse (take first xs)
  parts = ap reverse (sym (take-append-drop first xs)) ∙ reverse-append (take first xs) (drop first xs)

  back : length (reverse (drop first xs)) ≡ n
  back = simp (length-reverse, length-drop) (omega arith)

  front_reversed : drop n (reverse xs) ≡ reverse (take first xs)
  front_reversed = ap (drop n) parts ∙ drop_at _ _ n back

  back_reversed : take n (reverse xs) ≡ reverse (drop first xs)
  back_reversed = ap (take n) parts ∙ take_at _ _ n back

module _ {X : Type 0} (n : ℕ) (xs : List X) where
  pub drop-reverse : n ≤ length xs → drop n (reverse xs) ≡ reverse (take (length xs - n) xs)
  drop-reverse within = front_reversed xs (length xs - n) n (omega arith)

  pub take-reverse : n ≤ length xs → take n (reverse xs) ≡ reverse (drop (length xs - n) xs)
  take-reverse within = back_reversed xs (length xs - n) n (omega arith)

-- the element with n after it, and the others
module _ {X : Type 0} (n : ℕ) (xs : List X) (within : n < length xs) where
  pub remove-reverse : remove (reverse xs) n ≡ reverse (remove xs (length xs - 1 - n))
  remove-reverse =
      let at : ℕ = length xs - 1 - n in
      let before : take n (reverse xs) ≡ reverse (drop (suc at) xs) = back_reversed xs (suc at) n (omega arith) in
      let behind : drop (suc n) (reverse xs) ≡ reverse (take at xs) = front_reversed xs at (suc n) (omega arith) in
      rw (before, behind) (sym (reverse-append (take at xs) (drop (suc at) xs)))

pub ruleset turned = (drop-reverse, take-reverse, remove-reverse, get_or-reverse, reverse-append)
