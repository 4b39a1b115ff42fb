-- The names of kinds of faults, as they are printed.
use Rattle.std.specs.Prelude.{ℕ, List, codes}
use Rattle.wire.specs.declared.fault.DataKind.{DataKind}
use Rattle.wire.specs.declared.fault.DataKind.TheVariants.{Short, NotShortest, TooBig, Zero, Kind, Trailing, Count}

abbrev pub kind_name : DataKind → List ℕ
kind_name Short = codes "Short"
kind_name NotShortest = codes "NotShortest"
kind_name TooBig = codes "TooBig"
kind_name Zero = codes "Zero"
kind_name Kind = codes "Kind"
kind_name Trailing = codes "Trailing"
kind_name Count = codes "Count"
