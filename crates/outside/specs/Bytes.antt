-- Contents are lists of bytes.
use Rattle.std.specs.Prelude.{◌≡◌, ℕ, zero, suc, ◌%◌, ◌<◌, List, [], ◌∷◌, map, Option, Some, None, slice_index}
use Rattle.std.specs.Option.{option_map}
use Rattle.std.specs.FinMap as finite
use Rattle.std.proofs.Common.{subst, arith}
use Rattle.outside.specs.Files.{Content}
use Rattle.outside.specs.MemFiles.{Contents}

-- each is below 256
abbrev pub AreBytes : List ℕ → Type 0
AreBytes bytes = (i : ℕ) → slice_index bytes i < 256

-- a file that is there holds bytes alone
abbrev pub HoldsBytes : Content → Type 0
HoldsBytes None = Unit {0}
HoldsBytes (Some bytes) = AreBytes bytes

-- Numbers as bytes: bytes are themselves.
abbrev pub as_bytes : List ℕ → List ℕ
as_bytes numbers = map (λ n. n % 256) numbers

abbrev pub content_as_bytes : Content → Content
content_as_bytes content = option_map as_bytes content

-- What files in memory hold under a name. Their lists are lists of bytes, and are taken as such.
abbrev pub content_under : Contents → List ℕ → Content
content_under files name = content_as_bytes (finite.get files name)

-- ---- what is held so is bytes

behind_byte : (n : ℕ) (bytes : List ℕ) → AreBytes bytes → (i : ℕ) → slice_index (n % 256 ∷ bytes) i < 256
behind_byte n bytes are zero = omega arith
behind_byte n bytes are (suc i) = are i

pub as_bytes-bytes : (numbers : List ℕ) → AreBytes (as_bytes numbers)
as_bytes-bytes [] = λ i. omega arith
as_bytes-bytes (n ∷ numbers) = behind_byte n (as_bytes numbers) (as_bytes-bytes numbers)

pub content_as_bytes-bytes : (content : Content) → HoldsBytes (content_as_bytes content)
content_as_bytes-bytes None = tt
content_as_bytes-bytes (Some numbers) = as_bytes-bytes numbers

pub content_under-bytes :
    (files : Contents) (of : List ℕ → Content) (name : List ℕ)
    → ◌≡◌ {A = Option (List ℕ → Content)} (Some (content_under files)) (Some of)
    → HoldsBytes (of name)
content_under-bytes files of name told =
    let same : content_under files ≡ of = cc in
    subst (λ (f : List ℕ → Content). HoldsBytes (f name)) same (content_as_bytes-bytes (finite.get files name))

-- files that say nothing of what they hold
pub none_is_bytes :
    (of : List ℕ → Content) (name : List ℕ)
    → ◌≡◌ {A = Option (List ℕ → Content)} None (Some of)
    → HoldsBytes (of name)
none_is_bytes of name told = cc
