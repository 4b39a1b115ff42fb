-- A label: which fields it has, one after the other, and what reads them. One of version 1 has a note, and one of
-- version 0 has none.
use Rattle.std.specs.Prelude.{◌==◌, [], ◌∷◌}
use Rattle.wire.specs.Places.{Place, Reading, mapped}
use Rattle.wire.specs.Layout.{Text, ByteOf, U32, When, Value, Fields, field_of, ◌&◌, given, read_at}
use Rattle.trials.specs.declared.label.Label.{Label}

abbrev pub label_fields : Fields Label
label_fields = given 1 (λ label. label.version) (λ version.
    field_of (ByteOf (1 ∷ 4 ∷ 9 ∷ [])) (λ label. label.colour)
    & field_of U32 (λ label. label.number)
    & field_of (When (version == 1) (Text 65536)) (λ label. label.note))

abbrev pub label_made : Value label_fields.layout → Label
label_made (version, (colour, (number, note))) =
    record { version = version; colour = colour; number = number; note = note }

abbrev pub label_at : Place → Reading Label
label_at place = mapped label_made (read_at label_fields.layout place)
