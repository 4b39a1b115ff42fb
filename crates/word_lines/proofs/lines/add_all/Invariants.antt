use Rattle.std.proofs.Common.{◌≡◌, ◌++◌, drop}
use Rattle.std.specs.Prelude.{string_bytes}
use Rattle.word_lines.specs.Piece.{joined}
use Rattle.word_lines.proofs.lines.add_all.Given as goal

-- the words so far, and those that are left
abbrev pub invariant-loop-word : goal.invariant-loop-word
invariant-loop-word l = string_bytes l.line ++ joined (drop l.word-index l.words) ≡ string_bytes l.fn.line ++ joined l.words
