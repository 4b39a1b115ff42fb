use Rattle.std.proofs.Common.{◌≡◌, ◌+◌, ℕ, List, take, sym, subst, arith}
use Rattle.std.proofs.lemmas.Grind.{common_steps}
use Rattle.std.proofs.Math.Facts.{Fits-lt-pow}
use Rattle.outside.specs.Bytes.{AreBytes}
use Rattle.outside.proofs.ByteContents.{take-bytes}
use Rattle.outside.proofs.contents.front.Goals as goal

pub returns-clause-bytes : goal.returns-clause-bytes
returns-clause-bytes c =
    let count = c.args.most + 1 in
    let same : c.in_ok-to_vec.field-0.items ≡ take count c.args.whole.now = grind (arith, common_steps) in
    let whole : AreBytes c.args.whole.now = λ i. Fits-lt-pow (c.type_inv.whole i) in
    subst (λ (xs : List ℕ). AreBytes xs) (sym same) (take-bytes count c.args.whole.now whole)
