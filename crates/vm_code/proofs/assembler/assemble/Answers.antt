use Rattle.std.proofs.Common.{ℕ, ◌+◌, length, sym, ◌∙◌, subst, arith}
use Rattle.std.proofs.lemmas.List.{length_push}
use Rattle.std.proofs.lemmas.Iterator.Consumers.{YieldsList-turn, YieldsList-end}
use Rattle.std.proofs.lemmas.Iterator.Splits.{YieldsList-from_str_split}
use Rattle.vm_code.specs.Word.{word_read}
use Rattle.vm_code.proofs.Assembling.{Joined, word_within, joined_more, joined_all, bad_word, says_none, some_bytes}
use Rattle.vm_code.proofs.assembler.assemble.Goals as goal

pub returns-in-None-2-clause-fault : goal.returns-in-None-2-clause-fault
returns-in-None-2-clause-fault c =
    let text = c.args.text.now in
    let turn = YieldsList-turn (YieldsList-from_str_split 32 text (omega arith) (cc) (cc) (cc)) c.loop-word.yielded _ c.loop-word.yielded_by _ _ c.in-Some.word c.in-Some.is c.next.ensures.steps in
    let none = says_none c.in-Some.word.now (word_read c.in-Some.word.now) (rw c.in-None-2.is at c.in_ok-said.ensures.reads) in
    bad_word text (length c.loop-word.yielded) c.loop-word.at c.loop-word.program.items c.in-Some.word.now (some_bytes text (sym c.is_empty.ensures ∙ c.if-is_empty.false)) c.loop-word.invariant.2 turn none

pub overflow_add-at-in-loop-word : goal.overflow_add-at-in-loop-word
overflow_add-at-in-loop-word c =
    let text = c.args.text.now in
    let turn = YieldsList-turn (YieldsList-from_str_split 32 text (omega arith) (cc) (cc) (cc)) c.loop-word.yielded _ c.loop-word.yielded_by _ _ c.in-Some.word c.in-Some.is c.next.ensures.steps in
    let within = word_within text (length c.loop-word.yielded) c.loop-word.at c.loop-word.program.items c.in-Some.word.now c.loop-word.invariant.2 turn in
    omega arith

pub loop-word-preserved : goal.loop-word-preserved
loop-word-preserved c =
    let text = c.args.text.now in
    let turn = YieldsList-turn (YieldsList-from_str_split 32 text (omega arith) (cc) (cc) (cc)) c.loop-word.yielded _ c.loop-word.yielded_by _ _ c.in-Some.word c.in-Some.is c.next.ensures.steps in
    let says = rw c.in-Some-2.is at c.in_ok-said.ensures.reads in
    let put = rw c.in_ok-put-in-Some-2.was at c.put.ensures in
    let more = joined_more text (length c.loop-word.yielded) c.loop-word.at c.loop-word.program.items c.put.new.program.items c.in-Some.word.now c.in-Some-2.said c.loop-word.invariant.2 turn says put in
    (tt, tt, subst (λ (n : ℕ). Joined text n (c.loop-word.at + (length c.in-Some.word.now + 1)) c.put.new.program.items) (sym (length_push c.loop-word.yielded c.in-Some.word)) more)

pub returns-clause-program : goal.returns-clause-program
returns-clause-program c =
    let text = c.args.text.now in
    let end = YieldsList-end (YieldsList-from_str_split 32 text (omega arith) (cc) (cc) (cc)) c.loop-word.yielded _ c.loop-word.yielded_by _ _ c.in-None.is c.next.ensures.steps in
    joined_all text c.loop-word.program.items (length c.loop-word.yielded) c.loop-word.at c.loop-word.invariant.2 (omega (arith, end.1))
