-- The bytes of words, of quoted texts and of numbers. Public statements name it.
use Rattle.std.specs.Prelude.{◌≢◌, ℕ, ◌==◌, ◌&&◌, ◌||◌, not, Bool, false, List, [], ◌∷◌, IsTrue, codes}
use Rattle.std.specs.List.{list_all}
use Rattle.std.specs.Char.{is_ascii_alphabetic, is_ascii_alphanumeric}
use Rattle.std.specs.Int.{is_in_range}

-- a letter or `_`
abbrev pub begins_name : ℕ → Bool
begins_name byte = is_ascii_alphabetic byte || byte == 95

-- a letter, a digit or `_`
abbrev pub is_name_byte : ℕ → Bool
is_name_byte byte = is_ascii_alphanumeric byte || byte == 95

-- a letter or `_`, and then letters, digits and `_`
abbrev pub is_word : List ℕ → Bool
is_word [] = false
is_word (first ∷ rest) = begins_name first && list_all is_name_byte rest

-- 0x20 to 0x7e but `'`
abbrev pub is_quotable : ℕ → Bool
is_quotable byte = is_in_range 32 126 byte && not (byte == 39)

-- a word that is none of the four with a meaning of their own
pub record IsName (word : List ℕ) : Type 0 where
  pub formed : IsTrue (is_word word)
  pub not_and : word ≢ codes "AND"
  pub not_or : word ≢ codes "OR"
  pub not_inputs : word ≢ codes "inputs"
  pub not_outputs : word ≢ codes "outputs"
