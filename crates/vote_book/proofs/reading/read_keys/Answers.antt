use Rattle.std.proofs.Common.{◌≡◌, ℕ, List, [], ◌∷◌, ◌++◌, false, true, refl, ap, ◌∙◌, arith, length-append}
use Rattle.vote_book.proofs.Quorums.{ended, keys_more, next_read}
use Rattle.vote_book.proofs.reading.read_keys.Goals as goal

false_is_not_true : false ≡ true → ⊥
false_is_not_true e = cc

true_is_not_false : true ≡ false → ⊥
true_is_not_false e = cc

pub loop-alloc-init : goal.loop-alloc-init
loop-alloc-init c = rw c.requires (record { few = omega arith; each = tt; first = λ all m q is. (all, refl, refl) })

pub returns-in_default-clause-read : goal.returns-in_default-clause-read
returns-in_default-clause-read c = λ all m q is.
    let first = c.loop-alloc.invariant.first all m q is in
    ended c.args.program.now all c.loop-alloc.keys first.0 m c.loop-alloc.at q (is, first.1, first.2) (λ key before after short stands place. false_is_not_true (c.in_default.ensures.pushed key before after short stands place).1)

pub loop-alloc-preserved : goal.loop-alloc-preserved
loop-alloc-preserved c =
    let keys = c.loop-alloc.keys in
    let key = c.in-Some.key.now in
    let key_is : c.in_ok-from_slice.field-0 ≡ key = c.in_ok-from_slice.ensures in
    let added : c.push.new.self ≡ keys ++ key ∷ [] = c.in_ok-push.ensures.ok ∙ ap (λ (k : List ℕ). keys ++ k ∷ []) key_is in
    rw added (record {
      few = omega (arith, c.loop-alloc-test.true, c.len.ensures, length-append keys (key ∷ []));
      each = keys_more keys key c.loop-alloc.invariant.each c.in-Some.ensures.key;
      first = λ all m q is.
          (let first = c.loop-alloc.invariant.first all m q is in
          next_read c.args.program.now all keys first.0 m c.loop-alloc.at key c.in-Some.len q (is, first.1, first.2)
          (λ other before after short stands place. (c.in-Some.ensures.pushed other before after short stands place).0)
          (λ code there high. true_is_not_false (c.in-Some.ensures.none code there high)));
    })
