-- What calls do to contents, where these are taken as bytes.
use Rattle.std.proofs.Common.{◌≡◌, ℕ, zero, suc, ◌%◌, ◌<◌, Bool, true, false, List, [], ◌∷◌, ◌++◌, take, Some, None, Result, Ok, Err, inl, inr, refl, sym, ◌∙◌, ap, arith}
use Rattle.std.specs.Prelude.{IsSomeAnd, slice_index}
use Rattle.std.specs.Bool.{MatchBool}
use Rattle.std.specs.FinMap as finite
use Rattle.std.specs.Str.{bytes_eq}
use Rattle.outside.specs.declared.fault.FileFault.{FileFault}
use Rattle.outside.specs.declared.fault.FileFault.TheVariants.{Failed, NoMemory}
use Rattle.outside.specs.Bytes.{AreBytes, as_bytes, content_as_bytes, content_under}
use Rattle.outside.specs.Files.{Content, WriteKind, Append, Replace, bytes_in, ReadsAfter, Wrote}
use Rattle.outside.specs.MemFiles.{Contents}

-- ---- lists

as_bytes-same : (bytes : List ℕ) → AreBytes bytes → as_bytes bytes ≡ bytes
as_bytes-same [] are = refl
as_bytes-same (b ∷ bytes) are =
    let first : b < 256 = are 0 in
    let same : b % 256 ≡ b = omega arith in
    let rest : as_bytes bytes ≡ bytes = as_bytes-same bytes (λ i. are (suc i)) in
    cc

as_bytes-append : (xs ys : List ℕ) → as_bytes (xs ++ ys) ≡ as_bytes xs ++ as_bytes ys
as_bytes-append [] ys = refl
as_bytes-append (x ∷ xs) ys = ap (λ (zs : List ℕ). (x % 256) ∷ zs) (as_bytes-append xs ys)

as_bytes-take : (n : ℕ) (xs : List ℕ) → take n (as_bytes xs) ≡ as_bytes (take n xs)
as_bytes-take zero xs = refl
as_bytes-take (suc n) [] = refl
as_bytes-take (suc n) (x ∷ xs) = ap (λ (zs : List ℕ). (x % 256) ∷ zs) (as_bytes-take n xs)

take-same : (n : ℕ) (bytes : List ℕ) → as_bytes bytes ≡ bytes → as_bytes (take n bytes) ≡ take n bytes
take-same n bytes same = sym (as_bytes-take n bytes) ∙ ap (take n) same

at_place : (b : ℕ) (bytes : List ℕ) → b < 256 → AreBytes bytes → (i : ℕ) → slice_index (b ∷ bytes) i < 256
at_place b bytes low are zero = low
at_place b bytes low are (suc i) = are i

pub take-bytes : (n : ℕ) (xs : List ℕ) → AreBytes xs → AreBytes (take n xs)
take-bytes zero xs are = λ i. omega arith
take-bytes (suc n) [] are = λ i. omega arith
take-bytes (suc n) (x ∷ xs) are = at_place x (take n xs) (are 0) (take-bytes n xs (λ i. are (suc i)))

-- ---- writes

bytes_in-as_bytes : (old : Content) → bytes_in (content_as_bytes old) ≡ as_bytes (bytes_in old)
bytes_in-as_bytes None = refl
bytes_in-as_bytes (Some bytes) = refl

appended : (old new : Content) (bytes : List ℕ) → as_bytes bytes ≡ bytes → new ≡ Some (bytes_in old ++ bytes) → content_as_bytes new ≡ Some (bytes_in (content_as_bytes old) ++ bytes)
appended old new bytes same is =
    ap content_as_bytes is
    ∙ ap (λ (xs : List ℕ). Some xs) (as_bytes-append (bytes_in old) bytes ∙ ap (λ (ys : List ℕ). as_bytes (bytes_in old) ++ ys) same ∙ ap (λ (xs : List ℕ). xs ++ bytes) (sym (bytes_in-as_bytes old)))

after : (kind : WriteKind) (done : Bool) (bytes : List ℕ) (old new : Content) → as_bytes bytes ≡ bytes → ReadsAfter kind done bytes old new → ReadsAfter kind done bytes (content_as_bytes old) (content_as_bytes new)
after Append true bytes old new same is = appended old new bytes same is
after Append false bytes old new same (n, inl is) = (n, inl (appended old new (take n bytes) (take-same n bytes same) is))
after Append false bytes old new same (n, inr (none, is)) = (n, inr (none, ap content_as_bytes is))
after Replace true bytes old new same is = ap content_as_bytes is ∙ ap (λ (xs : List ℕ). Some xs) same
after Replace false bytes old new same (inl is) = inl (ap content_as_bytes is)
after Replace false bytes old new same (inr is) = inr (ap content_as_bytes is ∙ ap (λ (xs : List ℕ). Some xs) same)

at_name : (b : Bool) (kind : WriteKind) (done : Bool) (bytes : List ℕ) (old new : Content) → as_bytes bytes ≡ bytes → MatchBool b (ReadsAfter kind done bytes old new) (new ≡ old) → MatchBool b (ReadsAfter kind done bytes (content_as_bytes old) (content_as_bytes new)) (content_as_bytes new ≡ content_as_bytes old)
at_name true kind done bytes old new same is = after kind done bytes old new same is
at_name false kind done bytes old new same is = ap content_as_bytes is

-- what a write does to the contents, it does to them as bytes
pub Wrote-as_bytes : {T : Type 0} (kind : WriteKind) (name bytes : List ℕ) (result : Result T FileFault) (old new : Contents) → AreBytes bytes → Wrote kind name bytes result (Some (finite.get old)) (Some (finite.get new)) → Wrote kind name bytes result (Some (content_under old)) (Some (content_under new))
Wrote-as_bytes kind name bytes (Ok x) old new are is =
    λ q. at_name (bytes_eq q name) kind true bytes (finite.get old q) (finite.get new q) (as_bytes-same bytes are) (is q)
Wrote-as_bytes kind name bytes (Err Failed) old new are is =
    λ q. at_name (bytes_eq q name) kind false bytes (finite.get old q) (finite.get new q) (as_bytes-same bytes are) (is q)
Wrote-as_bytes kind name bytes (Err NoMemory) old new are is =
    let same : finite.get new ≡ finite.get old = cc in
    ap (λ (f : List ℕ → Content). Some (λ (q : List ℕ). content_as_bytes (f q))) same

-- what a read gives, it gives of the content as bytes
pub read-as_bytes : (content : Content) (n : ℕ) (bytes : List ℕ) → AreBytes bytes → IsSomeAnd content (λ whole. bytes ≡ take n whole) → IsSomeAnd (content_as_bytes content) (λ whole. bytes ≡ take n whole)
read-as_bytes None n bytes are gives = absurd gives
read-as_bytes (Some whole) n bytes are gives =
    sym (as_bytes-same bytes are) ∙ ap as_bytes gives ∙ sym (as_bytes-take n whole)
