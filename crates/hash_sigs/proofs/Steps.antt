-- One turn more: of a chain, of strings that are joined, of a climb.
use Rattle.std.proofs.Common.{◌≡◌, ℕ, zero, suc, ◌+◌, ◌-◌, ◌/◌, ◌^◌, ◌≤◌, List, [], ◌++◌, refl, sym, ap, ◌∙◌, append_assoc, add-one, arith}
use Rattle.std.proofs.Math.Nat.{div-one, div-div-eq-div-mul, pow-suc}
use Rattle.hash_sigs.specs.Strings.{joined}
use Rattle.hash_sigs.specs.OneTime.{chain, chain_step}
use Rattle.hash_sigs.specs.Tree.{above, climbed}

pub chain_none : (id : List ℕ) (q i j : ℕ) (value : List ℕ) → value ≡ chain id q i j (j - j) value
unfolding chain
chain_none id q i j value =
    let e : j - j ≡ zero = omega arith in
    rw e refl

pub chain_more : (id : List ℕ) (q i from j : ℕ) (value : List ℕ) → from ≤ j → chain id q i from (j + 1 - from) value ≡ chain_step id q i j (chain id q i from (j - from) value)
unfolding chain
chain_more id q i from j value h =
    let e : j + 1 - from ≡ suc (j - from) = omega arith in
    let f : from + (j - from) ≡ j = omega arith in
    rw e (ap (λ k. chain_step id q i k (chain id q i from (j - from) value)) f)

pub joined_none : (f : ℕ → List ℕ) → joined f 0 ≡ []
unfolding joined
joined_none f = refl

pub joined_more : (f : ℕ → List ℕ) (n : ℕ) → joined f (n + 1) ≡ joined f n ++ f n
unfolding joined
joined_more f n = rw add-one refl

pub joined_turn : (front : List ℕ) (f : ℕ → List ℕ) (n : ℕ) (x : List ℕ) → x ≡ f n → (front ++ joined f n) ++ x ≡ front ++ joined f (n + 1)
joined_turn front f n x e =
    append_assoc front (joined f n) x
    ∙ ap (λ y. front ++ (joined f n ++ y)) e
    ∙ ap (λ y. front ++ y) (sym (joined_more f n))

pub climbed_none : (id : List ℕ) (r : ℕ) (value : List ℕ) (path : ℕ → List ℕ) → value ≡ climbed id r value path 0
unfolding climbed
climbed_none id r value path = refl

pub climbed_more : (id : List ℕ) (r : ℕ) (value : List ℕ) (path : ℕ → List ℕ) (n : ℕ) → climbed id r value path (n + 1) ≡ above id (r / 2 ^ n) (climbed id r value path n) (path n)
unfolding climbed
climbed_more id r value path n = rw add-one refl

pub half_more : (r n : ℕ) → r / 2 ^ (n + 1) ≡ r / 2 ^ n / 2
half_more r n = rw (add-one, pow-suc) (sym (div-div-eq-div-mul r (2 ^ n) 2))

pub half_none : (r : ℕ) → r ≡ r / 2 ^ 0
half_none r = sym (div-one r)
