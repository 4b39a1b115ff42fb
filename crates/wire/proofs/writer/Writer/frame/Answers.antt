use Rattle.std.proofs.Common.{ℕ, ◌-◌, ◌∙◌, ap, arith, length}
use Rattle.wire.proofs.Turning.{framed}
use Rattle.wire.proofs.writer.Writer.frame.Goals as goal

-- a slice is shorter than 2 ^ 63 bytes
pub number-requires : goal.number-requires
number-requires g c = omega (arith, c.as_slice.type_inv.1)

pub returns : goal.returns
returns g c =
    let from = c.len-from.ensures ∙ ap length c.self.view_is in
    let len = ap (λ (n : ℕ). n - c.len-from.result) (ap length (c.as_slice.ensures ∙ c.self-2.view_is)) in
    framed c.args.self.now c.write.new.out c.self-3.inside.bytes (g.T.Record.spelling c.args.value.now) c.turn.new.self
    c.len-from.result (length c.as_slice.result.now - c.len-from.result)
    from
    len
    c.in_ok-write.ensures
    (c.self-3.view_is ∙ c.in_ok-number.ensures)
    c.turn.ensures
