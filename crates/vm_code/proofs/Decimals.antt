-- Decimal numbers below 2^32: what is read as a place is written so, and what is written is read again.
use Rattle.std.proofs.Common.{◌≡◌, ℕ, ◌<◌, ◌-◌, ◌^◌, List, Some, arith}
use Rattle.std.specs.Prelude.{decimal}
use Rattle.wire.specs.Decimal.{decimal_read, decimal_again}
use Rattle.vm_code.specs.Word.{place_read}

-- a place that is read is written so
pub place_written : (bs : List ℕ) (n : ℕ) → place_read bs ≡ Some n → (n < 2 ^ 32) × (decimal n ≡ bs)
place_written bs n is = let h = decimal_read (2 ^ 32 - 1) bs n (omega arith) is in (omega (arith, h.0), h.1)

-- a place that is written is read again
pub place_back : (n : ℕ) → n < 2 ^ 32 → place_read (decimal n) ≡ Some n
place_back n small = decimal_again (2 ^ 32 - 1) n (omega arith) (omega arith)
