use Rattle.std.proofs.Common.{◌∙◌, sym}
use Rattle.filter_syntax.proofs.Founds.{word_found, number_found, run_none}
use Rattle.filter_syntax.proofs.tokens.word_or_number.Goals as goal

pub returns-then-is_word : goal.returns-then-is_word
returns-then-is_word c =
    word_found c.args.text.now c.word_kind.result c.run_len-len.result c.run_len-len.ensures.is
    c.run_len-len.ensures.within
    (sym c.is_word.ensures ∙ c.if-is_word.true) c.word_kind.ensures

pub returns-in-Some : goal.returns-in-Some
returns-in-Some c =
    number_found c.args.text.now c.in-Some.n c.run_len-len.result c.run_len-len.ensures.is c.run_len-len.ensures.within
    (sym c.is_word.ensures ∙ c.if-is_word.false) (sym c.decimal_within.ensures.reads ∙ c.in-Some.is)

pub returns-in-None : goal.returns-in-None
returns-in-None c =
    run_none c.args.text.now c.run_len-len.result c.run_len-len.ensures.is
    (sym c.is_word.ensures ∙ c.if-is_word.false) (sym c.decimal_within.ensures.reads ∙ c.in-None.is)
