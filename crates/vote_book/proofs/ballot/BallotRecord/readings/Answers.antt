use Rattle.std.proofs.Common.{refl}
use Rattle.wire.specs.Records.{record_reader}
use Rattle.vote_book.specs.Spelling.{ballot_layout, ballot_made, ballot_parts}
use Rattle.vote_book.proofs.ballot.BallotRecord.readings.Goals as goal

pub returns : goal.returns
returns c =
    record_reader ballot_layout ballot_made ballot_parts (record { again = λ ballot h. refl; kept = λ v h. refl }) (c.layout_readings.ensures.reader ballot_layout)
