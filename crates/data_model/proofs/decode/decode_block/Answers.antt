use Rattle.std.proofs.Common.{Result, subst, arith}
use Rattle.data_model.specs.declared.block.Block.{Block}
use Rattle.data_model.specs.Reading.{Fault, Gives, block_at}
use Rattle.data_model.proofs.decode.decode_block.Goals as goal

pub returns-clause-told : goal.returns-clause-told
unfolding block_at
returns-clause-told c = λ f h.
    subst (λ (reading : Result Block Fault). Gives c.decode.result reading) ((c.block_readings.ensures.fault c.args.b.now f (λ i. omega (arith, c.type_inv.b i))).1 h) c.decode.ensures.exact
