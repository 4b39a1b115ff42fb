-- The ids of entries, for any hash as a function from bytes to bytes.
use Rattle.std.specs.Prelude.{ℕ, List, ◌++◌, codes}
use Rattle.keyed.specs.Functions.{Hash}
use Rattle.data_model.specs.declared.header.Header.{Header}
use Rattle.data_model.specs.Spelling.{header_spelling}

-- what is hashed to the id of an entry of this type with this body
abbrev pub entry_text : Hash → List ℕ → List ℕ → List ℕ
entry_text hash name body = codes "entryid:" ++ name ++ codes ":" ++ hash body

-- the id of such an entry
abbrev pub entry : Hash → List ℕ → List ℕ → List ℕ
entry hash name body = hash (entry_text hash name body)

-- the id of a block
unfoldable pub header_id : Hash → Header → List ℕ
header_id hash header = entry hash (codes "blockheader") (header_spelling header)
