-- What a contract sees of a command that was read.
use Rattle.std.specs.Prelude.{◌≤◌, length, Option, Some, None, map, string_bytes}
use Rattle.command_words.specs.declared.grammar.Command.{Command as RustCommand}
use Rattle.command_words.specs.declared.grammar.Command.TheVariants as rust
use Rattle.command_words.specs.Command.{Command, Vm, Init, Apply, Quorum, limit_most}
use Rattle.wire.specs.Spelling.{greatest}

abbrev pub seen : RustCommand → Command
seen (rust.Vm limit program args) = Vm limit program.now (map string_bytes args.now)
seen (rust.Init ledger time program) = Init ledger.now time program.now
seen (rust.Apply ledger offers) = Apply ledger.now offers.now
seen (rust.Quorum m keys) = Quorum m (map string_bytes keys.now)

abbrev pub seen_command : Option RustCommand → Option Command
seen_command None = None
seen_command (Some command) = Some (seen command)

-- a limit is at most 100,000, a time is below 2 ^ 63, and a quorum has at most 16 keys, from 1 to all of them asked for
abbrev pub HasLimit : Option RustCommand → Type 0
HasLimit None = Unit {0}
HasLimit (Some (rust.Vm limit program args)) = limit ≤ limit_most
HasLimit (Some (rust.Init ledger time program)) = time ≤ greatest
HasLimit (Some (rust.Apply ledger offers)) = Unit {0}
HasLimit (Some (rust.Quorum m keys)) = (1 ≤ m) × (m ≤ length keys.now) × (length keys.now ≤ 16)
