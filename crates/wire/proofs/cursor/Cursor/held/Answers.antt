use Rattle.std.proofs.Common.{◌-◌, length, drop, ap, ◌∙◌, arith}
use Rattle.wire.specs.Places.{Place}
use Rattle.wire.proofs.WholeReaders.{text_within}
use Rattle.wire.proofs.cursor.Cursor.held.Goals as goal

pub overflow_sub-result : goal.overflow_sub-result
overflow_sub-result c =
    let rest = c.self.inside.rest.now in
    let after = ap (λ (p : Place). p.at) (c.self-in-Ok.view_is ∙ c.pass.ensures) in
    let before = ap (λ (p : Place). length p.rest - length (drop c.in-Ok.len p.rest)) c.self.view_is in
    omega (arith, text_within rest c.in-Ok.text.now c.in-Ok.len c.in-Ok.ensures.spelled, after, before)
