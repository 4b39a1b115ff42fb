-- A number of at most 2^63 - 1 and its digits, and which way a test went.
use Rattle.std.proofs.Common.{◌≡◌, ℕ, ◌^◌, ◌<◌, Bool, true, false, cond, List, Some, None, arith, refl, inl, inr}
use Rattle.std.proofs.Common.{◌⊎◌}
use Rattle.std.specs.Prelude.{decimal}
use Rattle.wire.specs.Spelling.{greatest}
use Rattle.wire.specs.Decimal.{decimal_within, decimal_read, decimal_again}

-- which way a test went
pub chosen : {X : Type 0} (b : Bool) (x y z : X) → cond b x y ≡ z → ((b ≡ true) × (x ≡ z)) ⊎ ((b ≡ false) × (y ≡ z))
chosen true x y z is = inl (refl, is)
chosen false x y z is = inr (refl, is)

pub when : {X : Type 0} (b : Bool) (x z : X) → cond b (Some x) None ≡ Some z → (b ≡ true) × (x ≡ z)
when true x z is = (refl, (cc))
when false x z is = cc

-- what is read as a number is its digits
pub number_is : (bs : List ℕ) (n : ℕ) → decimal_within greatest bs ≡ Some n → (n < 2 ^ 63) × (decimal n ≡ bs)
number_is bs n is = let read = decimal_read greatest bs n (omega arith) is in (omega (arith, read.0), read.1)

pub number_again : (n : ℕ) → n < 2 ^ 63 → decimal_within greatest (decimal n) ≡ Some n
number_again n low = decimal_again greatest n (omega arith) (omega arith)
