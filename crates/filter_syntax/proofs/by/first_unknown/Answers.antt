use Rattle.std.proofs.Common.{arith, []}
use Rattle.filter_syntax.proofs.Unknowns.{unknown_here, room}
use Rattle.filter_syntax.proofs.by.first_unknown.Goals as goal

pub returns-then-not-is_known-clause-some : goal.returns-then-not-is_known-clause-some
returns-then-not-is_known-clause-some c =
    unknown_here c.args.names.now c.loop-name.name-index c.loop-name.at _ c.is_known.result c.loop-name-test.true
    c.loop-name.invariant.known c.loop-name.invariant.place c.is_known.ensures c.if-not-is_known.true

pub overflow_add-at-in-loop-name : goal.overflow_add-at-in-loop-name
overflow_add-at-in-loop-name c =
    omega (
      arith,
      c.requires,
      room c.args.names.now c.loop-name.name-index c.loop-name.at
          (record { ref_ptr = (0, 0); now = [] }) c.loop-name-test.true c.loop-name.invariant.place,
    )
