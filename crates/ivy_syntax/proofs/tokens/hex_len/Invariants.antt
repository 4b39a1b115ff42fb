use Rattle.std.proofs.Common.{◌≡◌, ◌+◌, ◌-◌, ◌≤◌, length, drop}
use Rattle.std.specs.List.{prefix_len}
use Rattle.std.specs.Char.{is_ascii_hexdigit}
use Rattle.ivy_syntax.proofs.tokens.hex_len.Given as goal

abbrev pub invariant-loop-len : goal.invariant-loop-len
invariant-loop-len l =
    (l.len + prefix_len is_ascii_hexdigit (drop l.len l.digits) ≡ prefix_len is_ascii_hexdigit l.digits)
    × (l.len ≤ length l.digits)

abbrev pub decreases-loop-len : goal.decreases-loop-len
decreases-loop-len l = length l.digits - l.len
