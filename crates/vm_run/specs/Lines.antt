-- Which lines of the table work on the data stack alone. Laws name it.
use Rattle.std.specs.Prelude.{◌≡◌, ℕ, ◌==◌, ◌||◌, not, Bool, [], None}
use Rattle.vm_code.specs.Instruction.{is_within, is_jump}
use Rattle.vm_run.specs.Effect.{Row, Faults, Does, Calls}

-- the codes whose lines do: all but JUMP and JUMPIF, TOALTSTACK and FROMALTSTACK, and CHECKPREDICATE
abbrev pub on_data : ℕ → Bool
on_data code = not (is_jump code || is_within 0x6b 0x6c code || code == 0xc0)

-- A failure, or an effect that neither pops nor pushes on the alt stack and does not jump. It calls no program.
abbrev pub WorksOnData : Row → Type 0
WorksOnData (Faults kind) = Unit {0}
WorksOnData (Does e) = (e.alt_pops ≡ 0) × (e.alt_pushed ≡ []) × (e.jump ≡ None)
WorksOnData (Calls program asked count) = ⊥
