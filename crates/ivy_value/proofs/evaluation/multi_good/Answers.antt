use Rattle.ivy_value.proofs.EvaluationLemmas.{next_key, last_key}
use Rattle.vm_ops.specs.Signatures.{is_multi_good}
use Rattle.ivy_value.proofs.evaluation.multi_good.Goals as goal

pub loop-key-preserved : goal.loop-key-preserved
loop-key-preserved g c =
    let check = g.C.SigCheck.good_of c.args.sigs.now in
    rw c.unserved-left.ensures (rw c.as_slice.ensures
    (next_key check c.args.message.now c.args.keys.now c.loop-key.key-index c.key-item.result c.loop-key.left.now
    (is_multi_good check c.args.keys.now c.args.message.now c.args.signatures.now)
    c.loop-key-test.true c.key-item.is c.loop-key.invariant))

pub returns : goal.returns
returns g c =
    let check = g.C.SigCheck.good_of c.args.sigs.now in
    rw c.is_empty.ensures
    (last_key check c.args.message.now c.args.keys.now c.loop-key.key-index c.loop-key.left.now
    (is_multi_good check c.args.keys.now c.args.message.now c.args.signatures.now) c.loop-key-test.false c.loop-key.invariant)
