-- Strings of bytes combined byte by byte.
use Rattle.std.specs.Prelude.{ℕ, map, slice_index}
use Rattle.std.specs.List.{range_with_len}
use Rattle.vm_num.specs.Item.{Item}

-- so many bytes, each made of the bytes of a and of b at its place; past the end of a string its bytes are zero
abbrev pub each_of : (ℕ → ℕ → ℕ) → Item → Item → ℕ → Item
each_of f a b n = map (λ i. f (slice_index a i) (slice_index b i)) (range_with_len 0 n)
