use Rattle.std.proofs.Common.{rules, ◌≡◌, length, Some, ◌∙◌, ◌++◌, ap, drop, replicate, sym}
use Rattle.std.proofs.lemmas.Int.{to_z-of_z}
use Rattle.std.proofs.lemmas.List.{drop-replicate}
use Rattle.std.specs.Int.RustNames.{FitsSigned}
use Rattle.std.specs.Int.{cast_signed, w64, from_le_bytes}
use Rattle.vm_num.specs.Numbers.{num_past, num_is}
use Rattle.vm_num.proofs.number.read_num.Goals as goal

pub returns-then-b-gt8 : goal.returns-then-b-gt8
returns-then-b-gt8 c = sym (num_past c.args.b.now c.if-b-gt8.true)

pub returns : goal.returns
returns c =
    let b = c.args.b.now in
    let read : c.from_le_bytes.result ≡ from_le_bytes w64 (c.copy_from_slice.new.self ++ drop (length b) (replicate 8 0)) = c.from_le_bytes.ensures in
    let fits : FitsSigned w64 c.cast_signed.result = search rules in
    ap Some (to_z-of_z w64 _ fits ∙ c.cast_signed.ensures ∙ ap (cast_signed w64) (read ∙ ap (λ l. from_le_bytes w64 (l ++ drop (length b) (replicate 8 0))) c.copy_from_slice.ensures.after ∙ ap (λ l. from_le_bytes w64 (b ++ l)) (drop-replicate (length b) 8 0)))
    ∙ sym (num_is b c.if-b-gt8.false)
