use Rattle.std.proofs.Common.{refl, ap, ◌∙◌}
use Rattle.command_lines.specs.Line.{accepted_line}
use Rattle.chain_top.proofs.Offering.{offer-memory, offer-accepted, offer-refused}
use Rattle.chain_top.proofs.apply.offer_one.Goals as goal

pub returns-in-Ok-clause-done : goal.returns-in-Ok-clause-done
returns-in-Ok-clause-done g c =
    let answer = c.in-Ok.ensures.answer in
    let line = ap (λ h. accepted_line h c.in-Ok.added.id) answer.0 ∙ ap (λ i. accepted_line c.args.block.header.height i) answer.1 in
    offer-accepted c.known.ensures _ _ _ _ c.args.block _ _ _ _ _ _ c.in-Ok.ensures.valid c.in-Ok.ensures.added c.requires.spelled line c.accept.ensures

pub returns-in-Err-Refused-clause-done : goal.returns-in-Err-Refused-clause-done
returns-in-Err-Refused-clause-done g c =
    offer-refused c.known.ensures _ _ _ _ c.args.block _ _ _ _ c.in-Err-Refused.refusal _ (rw c.in-Err-Refused.field-0-is at c.in-Err-Refused.ensures.refused) (ap (λ l. l.blocks) c.in-Err-Refused.ensures.unchanged) refl c.refuse.ensures

pub returns-in-Err-NoMemory-clause-done : goal.returns-in-Err-NoMemory-clause-done
returns-in-Err-NoMemory-clause-done g c = offer-memory c.known.ensures _ _ _ _ _ _ _ c.requires.stands.chain
