use Rattle.std.proofs.Common.{arith}
use Rattle.vote_book.proofs.Pushes.{push_within, code_there}
use Rattle.vote_book.proofs.reading.key_at.Goals as goal

pub returns-then-at-program-clause-pushed : goal.returns-then-at-program-clause-pushed
returns-then-at-program-clause-pushed c = λ key before after short is place.
    absurd (omega (arith, c.if-at-program.true, push_within c.pushes_read_back.ensures.bytes c.readings.ensures c.args.program.now key before after c.args.at short is place))

pub returns-in-Ok-clause-none : goal.returns-in-Ok-clause-none
returns-in-Ok-clause-none c = λ code there high.
    absurd (omega (arith, c.if-read-le-PUSHDATA4.true, code_there c.instructions.ensures c.args.program.now c.args.at _ code (λ i. omega (arith, c.type_inv.program i)) c.in-Ok.ensures.reads there))
