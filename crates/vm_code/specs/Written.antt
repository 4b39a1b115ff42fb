-- What private contracts see of an instruction that a word says.
use Rattle.std.specs.Prelude.{◌≡◌, ℕ, List, [], ◌∷◌, ◌++◌, Option, Some, None}
use Rattle.vm_code.specs.declared.word.Word.{Word}
use Rattle.vm_code.specs.Instruction.{Decoded}

-- the same instruction, or none
abbrev pub Says : Option Word → Option Decoded → Type 0
Says None None = Unit {0}
Says None (Some d) = ⊥
Says (Some word) None = ⊥
Says (Some word) (Some d) = (word.code ≡ d.code) × (word.pushed.items ≡ d.pushed) × (word.target ≡ d.target)

-- that instruction; its length is not said
abbrev pub said : Word → Decoded
said word = record { code = word.code; pushed = word.pushed.items; target = word.target; len = 0 }

-- one word more after a text
abbrev pub with_word : List ℕ → List ℕ → List ℕ
with_word [] word = word
with_word (b ∷ bs) word = (b ∷ bs) ++ (32 ∷ word)
