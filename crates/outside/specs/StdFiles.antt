-- The counts of faults that files of a runtime keep.
use Rattle.std.specs.Prelude.{ℕ}
use Rattle.outside.specs.declared.std_files.StdFiles.{StdFiles}

-- how many reads have failed
abbrev pub failed_reads : {R : Type 0} → {A : Type 0} → {F : Type 0} → StdFiles R A F → ℕ
failed_reads s = s.read_faults

-- how many appends and replaces have failed
abbrev pub failed_writes : {R : Type 0} → {A : Type 0} → {F : Type 0} → StdFiles R A F → ℕ
failed_writes s = s.write_faults
