use Rattle.wire.proofs.SpellingLaws.{spelling_laws}
use Rattle.wire.proofs.WholeReaders.{whole_reader}
use Rattle.wire.proofs.record.record_readings.Goals as goal

pub returns-clause-spellings : goal.returns-clause-spellings
returns-clause-spellings g c = spelling_laws _ _ _ _ c.readings.ensures

pub returns-clause-whole : goal.returns-clause-whole
returns-clause-whole g c = whole_reader _ _ _ _ c.readings.ensures
