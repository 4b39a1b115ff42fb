-- The records that files in memory keep of the calls begun, and their contents, as contracts see them.
use Rattle.std.specs.Prelude.{ℕ, map, string_bytes, String, Vec}
use Rattle.std.specs.BTreeMap.{BTreeMap}
use Rattle.std.specs.FinMap as finite
use Rattle.std.specs.declared.alloc.Global.{Global}
use Rattle.outside.specs.Files.{Read, Write, WriteKind, Append, Replace}
use Rattle.outside.specs.MemFiles.{Contents}
use Rattle.outside.specs.declared.begun.BegunRead.{BegunRead}
use Rattle.outside.specs.declared.begun.BegunWrite.{BegunWrite}
use Rattle.outside.specs.declared.begun.BegunKind.{BegunKind}
use Rattle.outside.specs.declared.begun.BegunKind.TheVariants.{Appended, Replaced}

-- a read that is kept
abbrev pub read_of : BegunRead → Read
read_of r = record { name = string_bytes r.name; most = r.most }

-- which of the two writes
abbrev pub write_kind : BegunKind → WriteKind
write_kind Appended = Append
write_kind Replaced = Replace

-- a write that is kept
abbrev pub begun_write : BegunWrite → Write
begun_write w = record { kind = write_kind w.kind; name = string_bytes w.name; bytes = w.bytes.items; done = w.done }

-- the contents that a map keeps
abbrev pub contents_of : BTreeMap (String Global) (Vec ℕ Global) → Contents
contents_of m = finite.from_entries (map (λ e. (string_bytes e.0, e.1.items)) m.entries)
