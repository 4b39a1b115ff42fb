-- Printed lines that no command has for its own, each with its newline.
use Rattle.std.specs.Prelude.{ℕ, List, ◌++◌, codes, decimal}
use Rattle.word_lines.specs.Piece.{newline}

abbrev pub usage_line : List ℕ
usage_line = codes "usage\n"

-- `refused size K`
abbrev pub refused_size : ℕ → List ℕ
refused_size place = codes "refused size " ++ decimal place ++ newline
