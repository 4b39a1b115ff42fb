use Rattle.std.proofs.Common.{◌≡◌, drop}
use Rattle.keyed.specs.Table.{is_signed}
use Rattle.keyed.proofs.table.TableCheckSigCheck.good.Given as goal

abbrev pub invariant-loop-row : goal.invariant-loop-row
invariant-loop-row l =
    is_signed (drop l.row-index l.row-items) l.key l.msg l.sig ≡ is_signed l.row-items l.key l.msg l.sig
