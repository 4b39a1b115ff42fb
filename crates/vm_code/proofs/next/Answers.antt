use Rattle.std.proofs.Common.{◌≡◌, ◌+◌, ◌-◌, length, take, drop, get_or, sym, ◌∙◌, ap, arith, length-drop}
use Rattle.std.proofs.lemmas.List.{take_all}
use Rattle.vm_code.specs.Instruction.{decoded, instruction_at}
use Rattle.vm_code.proofs.Front.{instruction_at-code}
use Rattle.vm_code.proofs.next.Goals as goal

pub returns-clause-reads : goal.returns-clause-reads
returns-clause-reads c =
    let program = c.args.program.now in
    let whole : take (length program - (c.args.at + 1)) (drop (c.args.at + 1) program) ≡ drop (c.args.at + 1) program = take_all _ _ (simp length-drop (omega arith)) in
    let same : decoded (get_or program c.args.at 0) (take (length program - (c.args.at + 1)) (drop (c.args.at + 1) program)) ≡ instruction_at program c.args.at =
    ap (decoded (get_or program c.args.at 0)) whole ∙ sym (instruction_at-code program c.args.at c.requires) in
    rw same at c.decode.ensures.reads
