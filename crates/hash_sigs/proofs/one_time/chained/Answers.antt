use Rattle.std.proofs.Common.{◌∙◌, ap, sym, arith}
use Rattle.hash_sigs.specs.OneTime.{chain_step}
use Rattle.hash_sigs.proofs.Steps.{chain_none, chain_more}
use Rattle.hash_sigs.proofs.one_time.chained.Goals as goal

pub loop-j-init : goal.loop-j-init
loop-j-init c = chain_none c.args.id.now c.args.q c.args.i c.args.from c.args.value

pub loop-j-preserved : goal.loop-j-preserved
loop-j-preserved c =
    c.hashed-reached.ensures
    ∙ ap (λ x. chain_step c.args.id.now c.args.q c.args.i c.loop-j.j x) c.loop-j.invariant
    ∙ sym (chain_more c.args.id.now c.args.q c.args.i c.args.from c.loop-j.j c.args.value (omega arith))
