use Rattle.std.proofs.Common.{refl}
use Rattle.wire.specs.Records.{record_reader}
use Rattle.trials.specs.Label.{label_fields, label_made}
use Rattle.trials.proofs.label.LabelRecord.readings.Goals as goal

pub returns : goal.returns
returns c =
    record_reader label_fields.layout label_made label_fields.parts (record { again = λ label h. refl; kept = λ v h. refl }) (c.layout_readings.ensures.reader label_fields.layout)
