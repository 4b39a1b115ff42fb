-- What each instruction does: the code table, by ranges of codes.
use Rattle.std.specs.Prelude.{ℕ, ◌&&◌, List, if◌then◌else◌, nat_le}
use Rattle.keyed.specs.Functions.{Check}
use Rattle.vm_num.specs.Item.{Item}
use Rattle.vm_code.specs.Instruction.{Decoded}
use Rattle.vm_run.specs.Moving.{push_rule, control_rule, stack_rule}
use Rattle.vm_run.specs.Making.{string_rule, number_rule, high_rule}
pub use Rattle.vm_run.specs.Effect.{Context, Nothing, Block, BlockContext, NumbersFit, Effect}
pub use Rattle.vm_run.specs.Effect.{Row, Faults, Does, Calls, does, push_row, Rule}

-- an instruction's line, in a context and in a program of a length
abbrev pub rule : Context → Check → Decoded → ℕ → Rule
rule context check i size =
    if nat_le i.code 0x60 then push_rule i
    else (if nat_le i.code 0x6c then control_rule i size
    else (if nat_le i.code 0x7d then stack_rule i.code
    else (if nat_le i.code 0x89 then string_rule i.code
    else (if nat_le 0x8b i.code && nat_le i.code 0xa5 then number_rule i.code
    else high_rule context check i.code))))

-- on the program's length and on the items of the data stack and of the alt stack, the top first in each
unfoldable pub row : Context → Check → Decoded → ℕ → List Item → List Item → Row
row context check i size items alt = rule context check i size items alt
