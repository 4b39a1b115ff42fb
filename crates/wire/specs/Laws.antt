-- What holds of all spellings.
use Rattle.std.specs.Prelude.{◌≡◌, ℕ, ◌+◌, ◌/◌, ◌%◌, ◌^◌, ◌≤◌, ◌<◌, ◌↔◌, List, [], ◌∷◌, ◌++◌, length, Ok, Err}
use Rattle.wire.specs.declared.fault.WireFault.TheVariants.{Short, NotShortest, TooBig}
use Rattle.wire.specs.Spelling.{AreBytes, varint, varstring}
use Rattle.wire.specs.Reading.{varint_at, varstring_at, IsTooBig, IsShort, IsNotShortest, IsTooBigString, IsShortString}

pub record VarintLaws : Type 0 where
  -- a number below 128 is its own byte
  pub small : (n : ℕ) → n < 128 → varint n ≡ n ∷ []
  -- each other number is its low seven bits under a high bit, and then the spelling of the rest
  pub large : (n : ℕ) → 128 ≤ n → n < 2 ^ 63 → varint n ≡ (128 + n % 128) ∷ varint (n / 128)
  -- a spelling has one to nine bytes
  pub some : (n : ℕ) → n < 2 ^ 63 → 0 < length (varint n)
  pub few : (n : ℕ) → n < 2 ^ 63 → length (varint n) ≤ 9
  pub are_bytes : (n : ℕ) → n < 2 ^ 63 → AreBytes (varint n)
  -- no spelling begins another
  pub one_form : (m n : ℕ) (x y : List ℕ) → m < 2 ^ 63 → n < 2 ^ 63 → varint m ++ x ≡ varint n ++ y → (m ≡ n) × (x ≡ y)
  -- what is spelled is read again, whatever follows it
  pub again : (n : ℕ) (rest : List ℕ) → n < 2 ^ 63 → varint_at (varint n ++ rest) ≡ Ok (n, rest)
  -- what is read is spelled so
  pub spelled : (bytes : List ℕ) (n : ℕ) (rest : List ℕ) → AreBytes bytes → varint_at bytes ≡ Ok (n, rest)
      → (n < 2 ^ 63) × (bytes ≡ varint n ++ rest) × AreBytes rest
  -- when each fault comes
  pub too_big : (bytes : List ℕ) → (varint_at bytes ≡ Err TooBig) ↔ IsTooBig bytes
  pub not_shortest : (bytes : List ℕ) → (varint_at bytes ≡ Err NotShortest) ↔ IsNotShortest bytes
  pub short : (bytes : List ℕ) → (varint_at bytes ≡ Err Short) ↔ IsShort bytes

pub record VarstringLaws : Type 0 where
  pub is : (x : List ℕ) → varstring x ≡ varint (length x) ++ x
  -- no spelling begins another
  pub one_form : (s t x y : List ℕ) → length s < 2 ^ 63 → length t < 2 ^ 63 → varstring s ++ x ≡ varstring t ++ y
      → (s ≡ t) × (x ≡ y)
  -- what is spelled is read again, whatever follows it
  pub again : (most : ℕ) (s rest : List ℕ) → length s ≤ most → length s < 2 ^ 63
      → varstring_at most (varstring s ++ rest) ≡ Ok (s, rest)
  -- what is read is spelled so
  pub spelled : (most : ℕ) (bytes s rest : List ℕ) → AreBytes bytes → varstring_at most bytes ≡ Ok (s, rest)
      → (length s ≤ most) × (length s < 2 ^ 63) × (bytes ≡ varstring s ++ rest) × AreBytes rest
  -- when each fault comes
  pub too_big : (most : ℕ) (bytes : List ℕ) → AreBytes bytes
      → (varstring_at most bytes ≡ Err TooBig) ↔ IsTooBigString most bytes
  pub not_shortest : (most : ℕ) (bytes : List ℕ) → AreBytes bytes
      → (varstring_at most bytes ≡ Err NotShortest) ↔ IsNotShortest bytes
  pub short : (most : ℕ) (bytes : List ℕ) → AreBytes bytes
      → (varstring_at most bytes ≡ Err Short) ↔ IsShortString most bytes
