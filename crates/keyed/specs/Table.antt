-- A table of the signatures that are good.
use Rattle.std.specs.Prelude.{ℕ, ◌&&◌, Bool, List, bytes_eq}
use Rattle.std.specs.List.{list_any}

-- a signature of a message, for a key
pub record Signed : Type 0 where
  pub key : List ℕ
  pub message : List ℕ
  pub signature : List ℕ

-- a row is of this key, message and signature
abbrev pub is_row : Signed → List ℕ → List ℕ → List ℕ → Bool
is_row row key message signature =
    bytes_eq row.key key && (bytes_eq row.message message && bytes_eq row.signature signature)

-- a row of the table is
abbrev pub is_signed : List Signed → List ℕ → List ℕ → List ℕ → Bool
is_signed rows key message signature = list_any (λ row. is_row row key message signature) rows
