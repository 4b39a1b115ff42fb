use Rattle.std.proofs.Common.{ℕ, pos, w64, ap, subst, ◌∙◌, arith}
use Rattle.std.proofs.lemmas.Int.{to_z_pos}
use Rattle.vm_num.specs.Item.{Item, num_bytes}
use Rattle.vm_run.specs.Effect.{push_row}
use Rattle.vm_run.specs.Follows.{Follows}
use Rattle.vm_run.proofs.Items.{items-cost}
use Rattle.vm_run.proofs.machine.Machine.depth.Goals as goal

pub overflow_cast-depth : goal.overflow_cast-depth
overflow_cast-depth c = omega (arith, items-cost c.args.self.now.stack.items)

pub returns : goal.returns
returns c =
    let read = to_z_pos w64 c.depth.result (omega (arith, items-cost c.args.self.now.stack.items)) in
    let item = c.as_slice.ensures.bytes ∙ c.write_num-depth.ensures.spelled ∙ ap num_bytes read ∙ ap (λ (n : ℕ). num_bytes (pos n)) c.depth.ensures in
    subst (λ (a : Item). Follows c.args.self.now (push_row a) c.add.result c.add.new.self) item c.add.ensures
