use Rattle.std.proofs.Common.{arith}
use Rattle.wire.specs.Reading.{varstring_at}
use Rattle.wire.specs.declared.fault.WireFault.TheVariants.{Short, NotShortest, TooBig}
use Rattle.wire.proofs.NumberLaws.{fault_where}
use Rattle.wire.proofs.StringLaws.{seen, string_spelled, string_read, varstring_too_big, varstring_not_shortest, varstring_short}
use Rattle.wire.proofs.strings.take_varstring.Goals as goal

pub returns-clause-spelled : goal.returns-clause-spelled
returns-clause-spelled c = string_spelled c.args.most c.args.b.now c.string_of.result (λ i. omega (arith, c.type_inv.b i)) c.string_of.ensures.exact

pub returns-clause-read : goal.returns-clause-read
returns-clause-read c = string_read c.args.most c.args.b.now c.string_of.result (omega arith) c.string_of.ensures.within c.string_of.ensures.exact

pub returns-clause-too_big : goal.returns-clause-too_big
returns-clause-too_big c = fault_where (seen c.args.b.now) TooBig c.string_of.result (varstring_at c.args.most c.args.b.now) _ c.string_of.ensures.exact (varstring_too_big c.args.most c.args.b.now (λ i. omega (arith, c.type_inv.b i)))

pub returns-clause-not_shortest : goal.returns-clause-not_shortest
returns-clause-not_shortest c = fault_where (seen c.args.b.now) NotShortest c.string_of.result (varstring_at c.args.most c.args.b.now) _ c.string_of.ensures.exact (varstring_not_shortest c.args.most c.args.b.now (λ i. omega (arith, c.type_inv.b i)))

pub returns-clause-short : goal.returns-clause-short
returns-clause-short c = fault_where (seen c.args.b.now) Short c.string_of.result (varstring_at c.args.most c.args.b.now) _ c.string_of.ensures.exact (varstring_short c.args.most c.args.b.now (λ i. omega (arith, c.type_inv.b i)))
