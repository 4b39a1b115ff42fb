use Rattle.std.proofs.Common.{refl}
use Rattle.wire.specs.Records.{record_reader}
use Rattle.trials.specs.Page.{note_layout, note_made, note_parts}
use Rattle.trials.proofs.page.NoteRecord.readings.Goals as goal

pub returns : goal.returns
returns c =
    record_reader note_layout note_made note_parts (record { again = λ note h. refl; kept = λ v h. refl }) (c.layout_readings.ensures.reader note_layout)
