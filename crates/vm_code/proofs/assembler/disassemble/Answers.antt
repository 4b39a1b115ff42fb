use Rattle.std.proofs.Common.{string_bytes, arith}
use Rattle.vm_code.specs.Seen.{seen}
use Rattle.vm_code.proofs.Listing.{one_more, fault_of, told_on}
use Rattle.vm_code.proofs.assembler.disassemble.Goals as goal

pub returns-in_err-i-clause-fault : goal.returns-in_err-i-clause-fault
returns-in_err-i-clause-fault c =
    let program = c.args.program.now in
    let fault = c.in_err-i.field-0.0 in
    told_on program c.from_residual.result fault c.from_residual.ensures.1 (fault_of program (string_bytes c.loop-at.text) c.loop-at.at fault c.loop-at.invariant c.loop-at-test.true c.in_err-i.ensures.reads)

pub loop-at-preserved : goal.loop-at-preserved
loop-at-preserved c =
    let written = rw c.in_ok-put_word.was at c.put_word.ensures in
    one_more c.args.program.now (string_bytes c.loop-at.text) (string_bytes c.put_word.new.text) c.loop-at.at (seen c.in_ok-i.i) (λ i. omega (arith, c.type_inv.program i)) c.loop-at.invariant c.in_ok-i.ensures.reads written
