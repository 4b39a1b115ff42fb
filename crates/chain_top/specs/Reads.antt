-- What the code holds of files that were read, as their formats say it. Only contracts of private functions name it.
use Rattle.std.specs.Prelude.{◌≡◌, ℕ, length}
use Rattle.std.specs.Vec.Iter.{into_iter_items}
use Rattle.ledger_file.specs.declared.fault.LoadFault.{LoadFault}
use Rattle.ledger_file.specs.declared.fault.LoadFault.TheVariants as faults
use Rattle.replies.specs.Refused.{RefusesBy}
use Rattle.replies.specs.declared.stop.Stop.{Stop}
use Rattle.replies.specs.declared.stop.Stop.TheVariants as stops
use Rattle.chain_top.specs.Formats.{BlocksIn, load_line}
use Rattle.chain_top.specs.declared.files.LedgerRead.{LedgerRead}
use Rattle.chain_top.specs.declared.files.BlocksRead.{BlocksRead}

abbrev pub ledger_in : LedgerRead → BlocksIn
ledger_in file = record { size = file.size; blocks = file.ledger.blocks }

abbrev pub blocks_in : BlocksRead → BlocksIn
blocks_in file = record { size = length file.bytes.items; blocks = into_iter_items file.blocks }

-- it refuses by the line of this fault of the ledger that the word at this place names, or memory ran out as the fault
-- says
abbrev pub RefusesLoad : ℕ → LoadFault → Stop → Type 0
RefusesLoad place faults.NoMemory stop = stop ≡ stops.NoMemory
RefusesLoad place fault stop = RefusesBy (load_line place fault) stop
