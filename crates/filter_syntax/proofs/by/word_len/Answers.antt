use Rattle.std.proofs.Common.{arith, sym, ◌∙◌}
use Rattle.filter_syntax.proofs.Unknowns.{word_front, word_ends}
use Rattle.filter_syntax.proofs.by.word_len.Goals as goal

pub returns-in-len1-up-clause-word : goal.returns-in-len1-up-clause-word
returns-in-len1-up-clause-word c = λ some.
    word_front c.args.text.now c.run_len.result (omega arith)
    (sym c.begins_name.ensures ∙ c.if-begins_name.true) c.run_len.ensures.is

pub returns-in-len1-up-clause-ends : goal.returns-in-len1-up-clause-ends
returns-in-len1-up-clause-ends c = λ some. word_ends c.args.text.now c.run_len.result c.run_len.ensures.is
