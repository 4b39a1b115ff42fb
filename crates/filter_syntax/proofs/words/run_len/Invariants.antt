use Rattle.std.proofs.Common.{◌≡◌, ◌+◌, drop}
use Rattle.std.specs.List.{prefix_len}
use Rattle.filter_syntax.specs.Spelling.{is_name_byte}
use Rattle.filter_syntax.proofs.words.run_len.Given as goal

-- all that were passed count, and those that are left are counted from here
abbrev pub invariant-loop-k : goal.invariant-loop-k
invariant-loop-k l = prefix_len is_name_byte l.text ≡ l.k + prefix_len is_name_byte (drop l.k l.text)
