-- What is read at the place of a push, and the code that stands at the place of an instruction.
use Rattle.std.proofs.Common.{◌≡◌, ℕ, ◌<◌, ◌^◌, List, ◌++◌, length, Result, Ok, Err, Some, refl, sym, ap, ◌∙◌, arith}
use Rattle.std.specs.Prelude.{slice_get}
use Rattle.std.proofs.Math.ListN.{get_or}
use Rattle.std.proofs.lemmas.Option.{get_or_from_slice_get}
use Rattle.std.proofs.lemmas.List.{get_or-drop}
use Rattle.wire.specs.Spelling.{AreBytes}
use Rattle.vm_num.specs.Item.{Item}
use Rattle.vm_num.specs.Push.{push_of}
use Rattle.vm_code.specs.Instruction.{Decoded, Misread, instruction_at}
use Rattle.vm_code.specs.Text.{bytes_of}
use Rattle.vm_code.specs.Laws.{ReadingLaws, InstructionLaws}
use Rattle.vm_run.specs.Pushes.{ReadsData}

-- an item's push is read back, wherever it stands
abbrev pub PushesAreRead : Type 0
PushesAreRead =
    (item before after : List ℕ) → length item < 2 ^ 32 →
    ReadsData (instruction_at (before ++ push_of item ++ after) (length before)) item (length (push_of item))

pub push_there : PushesAreRead → (program item before after : List ℕ) (at : ℕ) → length item < 2 ^ 32
    → program ≡ before ++ push_of item ++ after → length before ≡ at
    → ReadsData (instruction_at program at) item (length (push_of item))
push_there law program item before after at short is place =
    rw (is, sym place) (law item before after short)

within : ReadingLaws → (program : List ℕ) (at : ℕ) (r : Result Decoded Misread) (item : Item) (len : ℕ)
    → instruction_at program at ≡ r → ReadsData r item len → at < length program
within laws program at (Ok d) item len is h = let w = laws.within program at d is in omega (arith, w.0, w.1)
within laws program at (Err why) item len is h = absurd h

-- a push stands within its program
pub push_within : PushesAreRead → ReadingLaws → (program item before after : List ℕ) (at : ℕ) → length item < 2 ^ 32
    → program ≡ before ++ push_of item ++ after → length before ≡ at → at < length program
push_within law laws program item before after at short is place =
    within laws program at (instruction_at program at) item (length (push_of item)) refl (push_there law program item before after at short is place)

code_first : (d : Decoded) (rest : List ℕ) → get_or (bytes_of d ++ rest) 0 0 ≡ d.code
unfolding bytes_of
code_first d rest = refl

-- the byte at the place of an instruction is its code
pub code_there : InstructionLaws → (program : List ℕ) (at : ℕ) (d : Decoded) (code : ℕ) → AreBytes program
    → instruction_at program at ≡ Ok d → slice_get program at ≡ Some code → d.code ≡ code
code_there laws program at d code bytes is there =
    let stands = laws.stands program at d bytes is in
    let rest = stands.2.0 in
    sym (code_first d rest)
    ∙ ap (λ (l : List ℕ). get_or l 0 0) (sym stands.2.1)
    ∙ get_or-drop at program 0 0
    ∙ ap (λ (n : ℕ). get_or program n 0) (omega arith)
    ∙ get_or_from_slice_get program at code 0 there
