use Rattle.std.proofs.Common.{sym, ap, ◌∙◌}
use Rattle.std.specs.Prelude.{slice_get}
use Rattle.wire.specs.Places.{Place}
use Rattle.wire.proofs.FieldReaders.{not_allowed}
use Rattle.wire.proofs.cursor.Cursor.byte_of.Goals as goal

pub returns-then-not-contains-clause-read : goal.returns-then-not-contains-clause-read
returns-then-not-contains-clause-read c =
    let first = c.in-Some.ensures.value ∙ ap (λ (p : Place). slice_get p.rest 0) c.self.view_is in
    rw c.fault-then-not-contains.ensures (not_allowed c.args.allowed.now c.args.self.now c.in-Some.byte.now first (sym c.contains.ensures.value ∙ c.if-not-contains.true))
