-- Programs and their assembler texts.
use Rattle.std.specs.Prelude.{◌≡◌, ℕ, ◌+◌, ◌<◌, ◌==◌, List, [], ◌∷◌, ◌++◌, length, map, Err, sum_by}
use Rattle.std.specs.List.{AllByRecursion, flat_map, join_with_byte, slice_split}
use Rattle.vm_code.specs.declared.CodeFault.{CodeFault}
use Rattle.vm_code.specs.declared.CodeFault.TheVariants as faults
use Rattle.vm_code.specs.declared.assembler.AsmFault.{AsmFault}
use Rattle.vm_code.specs.declared.assembler.AsmFault.TheVariants as asm
use Rattle.vm_code.specs.Instruction.{Decoded, Misread, Short, BadOpcode, instruction_at}
use Rattle.vm_code.specs.Text.{bytes_of, text_of, IsInstruction}

-- A text and a program of the same instructions: their texts with one space, 32, between two, and their bytes.
pub record IsAssembly (text program : List ℕ) : Type 0 where
  pub instructions : List Decoded
  pub each : AllByRecursion IsInstruction instructions
  pub text_is : text ≡ join_with_byte 32 (map text_of instructions)
  pub program_is : program ≡ flat_map bytes_of instructions

-- a program whose first instructions stand whole, and after them none does, for this reason
pub record FirstMisread (program : List ℕ) (kind : Misread) : Type 0 where
  pub instructions : List Decoded
  pub each : AllByRecursion IsInstruction instructions
  pub rest : List ℕ
  pub program_is : program ≡ flat_map bytes_of instructions ++ rest
  pub some : 0 < length rest
  pub misread : instruction_at rest 0 ≡ Err kind

-- out of memory is free
abbrev pub IsMisread : List ℕ → CodeFault → Type 0
IsMisread program faults.Short = FirstMisread program Short
IsMisread program faults.BadOpcode = FirstMisread program BadOpcode
IsMisread program faults.NoMemory = Unit {0}

-- the words of a text, which stand between its spaces; the empty text has none
abbrev pub words : List ℕ → List (List ℕ)
words [] = []
words (b ∷ bs) = slice_split (λ c. c == 32) (b ∷ bs)

-- a word is the text of an instruction
abbrev pub IsWord : List ℕ → Type 0
IsWord word = (d : Decoded) × IsInstruction d × (word ≡ text_of d)

-- the first word of a text that is none begins at this byte: after the words before it, each with its space
pub record FirstBadWord (text : List ℕ) (at : ℕ) : Type 0 where
  pub before : List (List ℕ)
  pub word : List ℕ
  pub behind : List (List ℕ)
  pub words_are : words text ≡ before ++ (word ∷ behind)
  pub each : AllByRecursion IsWord before
  pub none : ¬ IsWord word
  pub place : at ≡ sum_by (λ w. length w + 1) before

abbrev pub IsBad : List ℕ → AsmFault → Type 0
IsBad text (asm.Bad at) = FirstBadWord text at
IsBad text asm.NoMemory = Unit {0}
