-- Each test says one rule of a well-typed source.
use Rattle.ivy_check.proofs.WellTypedLemmas.{source_is}
use Rattle.ivy_check.proofs.laws.well_typed.Goals as goal

pub returns : goal.returns
returns c = record { typed = source_is }
