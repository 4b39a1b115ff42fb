-- What holds of instructions, of their texts, and of programs and their texts.
use Rattle.std.specs.Prelude.{◌≡◌, ◌⊎◌, ℕ, ◌+◌, ◌<◌, ◌≤◌, ◌||◌, List, ◌++◌, length, drop, Ok, Some, true}
use Rattle.hex.specs.Hex.{IsBytes}
use Rattle.vm_code.specs.Instruction.{Decoded, Misread, instruction_at, is_plain, is_jump}
use Rattle.vm_code.specs.Names.{name_of, code_of}
use Rattle.vm_code.specs.Text.{IsInstruction, bytes_of, text_of, is_counted}
use Rattle.vm_code.specs.Assembly.{IsAssembly, FirstMisread, FirstBadWord}

pub record ReadingLaws : Type 0 where
  -- an instruction takes a byte at least, and lies within the program
  pub within : (program : List ℕ) (place : ℕ) (d : Decoded)
      → instruction_at program place ≡ Ok d
      → (0 < d.len) × (place + d.len ≤ length program)
  -- it stands at the same place of every program that begins with this one
  pub begun : (program behind : List ℕ) (place : ℕ) (d : Decoded)
      → instruction_at program place ≡ Ok d
      → instruction_at (program ++ behind) place ≡ Ok d
  -- after other bytes the same is read, as much further on; a fault too
  pub fronted : (front program : List ℕ) (place : ℕ)
      → instruction_at (front ++ program) (length front + place) ≡ instruction_at program place

pub record InstructionLaws : Type 0 where
  -- what is read in a program of bytes is an instruction, and its bytes stand there
  pub stands : (program : List ℕ) (place : ℕ) (d : Decoded)
      → IsBytes program
      → instruction_at program place ≡ Ok d
      → IsInstruction d × (length (bytes_of d) ≡ d.len)
      × ((rest : List ℕ) × (drop place program ≡ bytes_of d ++ rest))
  -- an instruction is read wherever its bytes stand
  pub again : (d : Decoded) (front behind : List ℕ)
      → IsInstruction d
      → instruction_at (front ++ bytes_of d ++ behind) (length front) ≡ Ok d
  -- no two have the same text
  pub one_text : (d e : Decoded) → IsInstruction d → IsInstruction e → text_of d ≡ text_of e → d ≡ e
  -- the table names the codes that are plain, jump, or have their count after them, and no others
  pub named : (code : ℕ)
      → (is_plain code || is_jump code || is_counted code) ≡ true
      → code_of (name_of code) ≡ Some code
  -- no two have one name
  pub one_name : (name : List ℕ) (code : ℕ)
      → code_of name ≡ Some code
      → (name_of code ≡ name) × ((is_plain code || is_jump code || is_counted code) ≡ true)

pub record AssemblyLaws : Type 0 where
  -- a text has one program and a program one text, so that what is disassembled is assembled again
  pub one_program : (text p q : List ℕ) → IsAssembly text p → IsAssembly text q → p ≡ q
  pub one_text : (s t program : List ℕ) → IsAssembly s program → IsAssembly t program → s ≡ t
  -- a program of bytes has a text or a first misread place, not both, and one kind of fault there
  pub read : (program : List ℕ) → IsBytes program
      → ((text : List ℕ) × IsAssembly text program) ⊎ ((kind : Misread) × FirstMisread program kind)
  pub not_both : (text program : List ℕ) (kind : Misread) → IsAssembly text program → ¬ FirstMisread program kind
  pub one_kind : (program : List ℕ) (j k : Misread) → FirstMisread program j → FirstMisread program k → j ≡ k
  -- a text has a program or a first word that is none, not both, and one place of it
  pub said : (text : List ℕ)
      → ((program : List ℕ) × IsAssembly text program) ⊎ ((at : ℕ) × FirstBadWord text at)
  pub not_bad : (text program : List ℕ) (at : ℕ) → IsAssembly text program → ¬ FirstBadWord text at
  pub one_place : (text : List ℕ) (i j : ℕ) → FirstBadWord text i → FirstBadWord text j → i ≡ j
