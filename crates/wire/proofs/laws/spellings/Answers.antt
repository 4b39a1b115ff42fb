use Rattle.wire.proofs.NumberLaws.{varint_laws}
use Rattle.wire.proofs.StringLaws.{varstring_laws}
use Rattle.wire.proofs.laws.spellings.Goals as goal

pub returns-clause-numbers : goal.returns-clause-numbers
returns-clause-numbers c = varint_laws

pub returns-clause-strings : goal.returns-clause-strings
returns-clause-strings c = varstring_laws
