use Rattle.std.proofs.Common.{◌≡◌, ◌+◌, ◌≤◌, drop, length, map, string_bytes}
use Rattle.std.specs.List.{AllByRecursion}
use Rattle.command_lines.specs.Words.{hex_all}
use Rattle.command_lines.proofs.HexWords.{onto}
use Rattle.command_lines.proofs.words.hex_words.Given as goal

-- what was read so far before what the rest is read as
abbrev pub invariant-loop-k : goal.invariant-loop-k
invariant-loop-k l =
    (hex_all l.place (map string_bytes l.words) ≡ onto l.args (hex_all (l.place + l.k) (map string_bytes (drop l.k l.words))))
    × ((length l.args ≡ l.k) × AllByRecursion (λ bytes. length bytes ≤ 65536) l.args)
