-- What the calls do to files in memory.
use Rattle.std.specs.Prelude.{ℕ, true, false, List, [], ◌∷◌, ◌++◌, take}
use Rattle.std.specs.FinMap as finite
use Rattle.outside.specs.Count.{counted}
use Rattle.outside.specs.Files.{Content, WriteKind, Append, Replace, bytes_in, write_of}
use Rattle.outside.specs.MemFiles.{Contents, MemFilesState}

-- what a write that is done leaves of the file that it writes
abbrev pub content_after : WriteKind → Content → List ℕ → List ℕ
content_after Append old bytes = bytes_in old ++ bytes
content_after Replace old bytes = bytes

-- what a write that failed leaves of its bytes: the first of an append, so many at most, and none of a replace
abbrev pub torn_part : WriteKind → ℕ → List ℕ → List ℕ
torn_part Append keep bytes = take keep bytes
torn_part Replace keep bytes = []

-- Bytes after what a file has. Where there are none, all files stay as they are, and a missing one is not made.
abbrev pub with_part : List ℕ → List ℕ → Contents → Contents
with_part name [] files = files
with_part name (b ∷ part) files = finite.insert files name (bytes_in (finite.get files name) ++ b ∷ part)

-- one call more
abbrev pub with_call : MemFilesState → MemFilesState
with_call s = record s { calls = counted s.calls }

-- other bytes in a file
abbrev pub with_file : List ℕ → List ℕ → MemFilesState → MemFilesState
with_file name bytes s = record s { files = finite.insert s.files name bytes }

-- a read begun, answered Ok
abbrev pub with_read : List ℕ → ℕ → MemFilesState → MemFilesState
with_read name most s = record s { reads = s.reads ++ record { name = name; most = most } ∷ [] }

-- a read begun that failed
abbrev pub with_failed_read : List ℕ → ℕ → MemFilesState → MemFilesState
with_failed_read name most s =
    record s { reads = s.reads ++ record { name = name; most = most } ∷ []; read_faults = counted s.read_faults }

-- a write begun, answered Ok
abbrev pub with_write : WriteKind → List ℕ → List ℕ → MemFilesState → MemFilesState
with_write kind name bytes s =
    record s {
      files = finite.insert s.files name (content_after kind (finite.get s.files name) bytes);
      writes = s.writes ++ write_of kind name bytes true ∷ [];
    }

-- later appends that fail leave so many bytes
abbrev pub with_keep : ℕ → MemFilesState → MemFilesState
with_keep keep s = record s { keep = keep }

-- a write begun that failed: what it leaves of its bytes stands after the old content
abbrev pub with_failed_write : WriteKind → List ℕ → List ℕ → MemFilesState → MemFilesState
with_failed_write kind name bytes s =
    record s {
      files = with_part name (torn_part kind s.keep bytes) s.files;
      writes = s.writes ++ write_of kind name bytes false ∷ [];
      write_faults = counted s.write_faults;
    }
