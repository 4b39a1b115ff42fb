use Rattle.std.proofs.Common.{◌≡◌, length, take, ℕ, List, sym, ap, ◌∙◌, refl, arith}
use Rattle.std.proofs.lemmas.Int.{to_z-of_z}
use Rattle.std.specs.Int.{w64, to_le_bytes, cast_unsigned}
use Rattle.vm_num.specs.Item.{num, num_bytes, without_high_zeros}
use Rattle.vm_num.specs.Numbers.{num-num_bytes}
use Rattle.vm_num.proofs.Numbers.{one_less, none_less, length-num_bytes_least}
use Rattle.vm_num.proofs.number.write_num.Goals as goal
use Rattle.vm_num.proofs.number.write_num.Goals.{then-loop-len-test+else-bytes-len-eq0, else-loop-len-test}

pub loop-len-preserved : goal.loop-len-preserved
loop-len-preserved c =
    let keeps = one_less c.to_le_bytes-bytes.result c.loop-len.len (omega arith) (omega arith) c.if-bytes-len-eq0.true in
    record { whole = c.loop-len.invariant.whole; within = omega arith; same = keeps ∙ c.loop-len.invariant.same }

-- nothing has no zeros
ends_so : (bs : List ℕ) (n : ℕ) → n ≡ 0 → without_high_zeros (take n bs) ≡ take n bs
ends_so bs n none = rw none refl

-- what is left after the loop ends in no zero
left : (c : goal.Left-loop-len) → without_high_zeros (take c.loop-len.len c.to_le_bytes-bytes.result) ≡ take c.loop-len.len c.to_le_bytes-bytes.result
left c =
    let bs = c.to_le_bytes-bytes.result in
    let n = c.loop-len.len in
    elim c.loop-len-test.branch [
      | then-loop-len-test+else-bytes-len-eq0 w ↦ none_less bs n (omega arith) (omega arith) w.if-bytes-len-eq0.false
      | else-loop-len-test w ↦ ends_so bs n (omega arith)
    ]

-- what is left after the loop is the spelling
spelled : (c : goal.Left-loop-len) → take c.loop-len.len c.to_le_bytes-bytes.result ≡ num_bytes c.args.n
unfolding num_bytes
spelled c =
    sym (left c)
    ∙ c.loop-len.invariant.same
    ∙ ap without_high_zeros c.to_le_bytes-bytes.ensures
    ∙ ap (λ m. without_high_zeros (to_le_bytes w64 m)) c.cast_unsigned.ensures
    ∙ ap (λ z. without_high_zeros (to_le_bytes w64 (cast_unsigned w64 z))) (to_z-of_z w64 c.args.n c.ranges.n)

pub returns-clause-spelled : goal.returns-clause-spelled
returns-clause-spelled c = spelled c

pub returns-clause-read_back : goal.returns-clause-read_back
returns-clause-read_back c = ap num (spelled c) ∙ num-num_bytes c.args.n c.ranges.n

pub returns-clause-shortest : goal.returns-clause-shortest
returns-clause-shortest c = λ b are read. omega (arith, ap length (spelled c), length-num_bytes_least c.args.n b are read)
