-- The lines that push data and small numbers, jump, test, and move or copy items.
use Rattle.std.specs.Prelude.{ℕ, ◌+◌, ◌-◌, ◌==◌, List, [], ◌∷◌, ◌++◌, length, take, drop, Some, None, pos, negsuc}
use Rattle.std.specs.Prelude.{if◌then◌else◌, nat_le, nat_lt}
use Rattle.vm_num.specs.Item.{Item, num_bytes, is_true}
use Rattle.vm_num.specs.declared.failure.Failure.TheVariants.{Underflow, BadOpcode, BadJump, VerifyFalse, FailCode}
use Rattle.vm_code.specs.Instruction.{Decoded}
use Rattle.vm_ops.specs.Results.{entry_at}
use Rattle.vm_run.specs.Effect.{Row, Faults, Does, does, push_row, Rule, always, needs, on_one, on_two, on_alt}
use Rattle.vm_run.specs.Effect.{by_count}

-- FALSE and the codes of data up to 4e; 1NEGATE; 1 to 16
abbrev pub push_rule : Decoded → Rule
push_rule i =
    if nat_le i.code 0x4e then always (push_row i.pushed)
    else (if i.code == 0x4f then always (push_row (num_bytes (negsuc 0)))
    else (if i.code == 0x50 then always (Faults BadOpcode)
    else always (push_row (num_bytes (pos (i.code - 0x50))))))

-- pops so many items and goes on at a place, which is not past the program's length
abbrev pub jump_row : ℕ → ℕ → ℕ → Row
jump_row pops place size =
    if nat_lt size place then Faults BadJump
    else Does (record {
      pops = pops;
      pushed = [];
      alt_pops = 0;
      alt_pushed = [];
      base = 1;
      jump = Some place;
    })

-- JUMPIF: t; it jumps where t is true
abbrev pub jump_if_row : ℕ → ℕ → Item → Row
jump_if_row place size t = if is_true t then jump_row 1 place size else does 1 [] 1

-- VERIFY: t to nothing
abbrev pub verify_row : Item → Row
verify_row t = if is_true t then does 1 [] 1 else Faults VerifyFalse

-- the top item to the alt stack, and back
abbrev pub to_alt_row : Item → Row
to_alt_row a = Does (record {
  pops = 1;
  pushed = [];
  alt_pops = 0;
  alt_pushed = a ∷ [];
  base = 2;
  jump = None;
})

abbrev pub from_alt_row : Item → Row
from_alt_row a = Does (record {
  pops = 0;
  pushed = a ∷ [];
  alt_pops = 1;
  alt_pushed = [];
  base = 2;
  jump = None;
})

-- NOP, JUMP, JUMPIF, VERIFY, FAIL, TOALTSTACK, FROMALTSTACK, in a program of a length
abbrev pub control_table : Decoded → ℕ → List (ℕ × Rule)
control_table i size =
    (0x61, always (does 0 [] 1))
    ∷ (0x63, always (jump_row 0 i.target size))
    ∷ (0x64, on_one (jump_if_row i.target size))
    ∷ (0x69, on_one verify_row)
    ∷ (0x6a, always (Faults FailCode))
    ∷ (0x6b, on_one to_alt_row)
    ∷ (0x6c, on_alt from_alt_row)
    ∷ []

unfoldable pub control_rule : Decoded → ℕ → Rule
control_rule i size = entry_at (always (Faults BadOpcode)) (control_table i size) i.code

-- drops the top n items
abbrev pub drops : ℕ → ℕ → Rule
drops n base = needs n (λ items. does n [] base)

-- copies the n items that stand under so many onto the top
abbrev pub copies : ℕ → ℕ → ℕ → Rule
copies under n base = needs (under + n) (λ items. does 0 (take n (drop under items)) base)

-- moves the n items that stand under so many onto the top
abbrev pub moves : ℕ → ℕ → ℕ → Rule
moves under n base =
    needs (under + n) (λ items. does (under + n) (take n (drop under items) ++ take under items) base)

-- IFDUP: copies the top item where it is true
abbrev pub ifdup_row : Item → Row
ifdup_row t = if is_true t then does 0 (t ∷ []) 1 else does 0 [] 1

-- NIP: a b to b
abbrev pub nip_row : Item → Item → Row
nip_row a b = does 2 (b ∷ []) 1

-- TUCK: a b to b a b
abbrev pub tuck_row : Item → Item → Row
tuck_row a b = does 2 (b ∷ a ∷ b ∷ []) 1

-- PICK copies the item that stands under n of those below the count, and ROLL moves it
abbrev pub pick_row : ℕ → List Item → Row
pick_row n below =
    if nat_lt n (length below) then does 1 (take 1 (drop n below)) 2 else Faults Underflow

abbrev pub roll_row : ℕ → List Item → Row
roll_row n below =
    if nat_lt n (length below) then does (2 + n) (take 1 (drop n below) ++ take n below) 2 else Faults Underflow

-- 2DROP; 2DUP, 3DUP, 2OVER; 2ROT, 2SWAP; IFDUP, DEPTH; DROP, DUP; NIP, OVER; PICK, ROLL; ROT, SWAP; TUCK
abbrev pub stack_table : List (ℕ × Rule)
stack_table =
    (0x6d, drops 2 2)
    ∷ (0x6e, copies 0 2 2)
    ∷ (0x6f, copies 0 3 3)
    ∷ (0x70, copies 2 2 2)
    ∷ (0x71, moves 4 2 2)
    ∷ (0x72, moves 2 2 2)
    ∷ (0x73, on_one ifdup_row)
    ∷ (0x74, λ items alt. push_row (num_bytes (pos (length items))))
    ∷ (0x75, drops 1 1)
    ∷ (0x76, copies 0 1 1)
    ∷ (0x77, on_two nip_row)
    ∷ (0x78, copies 1 1 1)
    ∷ (0x79, by_count pick_row)
    ∷ (0x7a, by_count roll_row)
    ∷ (0x7b, moves 2 1 2)
    ∷ (0x7c, moves 1 1 1)
    ∷ (0x7d, on_two tuck_row)
    ∷ []

unfoldable pub stack_rule : ℕ → Rule
stack_rule code = entry_at (always (Faults BadOpcode)) stack_table code
