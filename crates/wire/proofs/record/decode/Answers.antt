use Rattle.std.proofs.Common.{arith}
use Rattle.wire.proofs.SpellingLaws.{found, only, fault, told}
use Rattle.wire.proofs.record.decode.Goals as goal

pub returns-clause-found : goal.returns-clause-found
returns-clause-found g c = found _ _ _ _ c.readings.ensures c.args.bytes.now (λ i. omega (arith, c.type_inv.bytes i)) c.all_of.result (rw c.new.ensures at c.all_of.ensures)

pub returns-clause-only : goal.returns-clause-only
returns-clause-only g c = only _ _ _ _ c.readings.ensures c.args.bytes.now (λ i. omega (arith, c.type_inv.bytes i)) c.all_of.result (rw c.new.ensures at c.all_of.ensures)

pub returns-clause-fault : goal.returns-clause-fault
returns-clause-fault g c = fault _ _ _ _ c.readings.ensures c.args.bytes.now (λ i. omega (arith, c.type_inv.bytes i)) c.all_of.result (rw c.new.ensures at c.all_of.ensures)

pub returns-clause-told : goal.returns-clause-told
returns-clause-told g c = told _ _ _ _ c.readings.ensures c.args.bytes.now (λ i. omega (arith, c.type_inv.bytes i)) c.all_of.result (rw c.new.ensures at c.all_of.ensures)
