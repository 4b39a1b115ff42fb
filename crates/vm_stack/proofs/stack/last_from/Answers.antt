use Rattle.std.proofs.Common.{◌-◌, [], length, arith}
use Rattle.std.proofs.lemmas.List.{take_at, length_push}
use Rattle.std.proofs.lemmas.List.Edits.{length-remove}
use Rattle.std.proofs.lemmas.Slice.{put_mid-rotated}
use Rattle.vm_stack.proofs.Costs.{cost-last}
use Rattle.vm_stack.proofs.stack.last_from.Goals as goal

pub returns-clause-items : goal.returns-clause-items
returns-clause-items c =
    let turned = put_mid-rotated c.args.at (length c.deref_mut.result.now - c.args.at) c.deref_mut.result.now c.rotate_left.new.self [] (omega arith) (omega arith) c.rotate_left.ensures.after in
    rw (turned, c.deref_mut.ensures.value) (take_at _ _ _ (simp length_push (omega (arith, length-remove c.args.items.now.items c.args.at))))

pub returns-clause-cost : goal.returns-clause-cost
returns-clause-cost c = rw (returns-clause-items c) (cost-last c.args.items.now.items c.args.at (omega arith))
