use Rattle.ivy_syntax.specs.Shown.{word_tokens}
use Rattle.ivy_syntax.proofs.PrintedParts.{next_separated}
use Rattle.ivy_syntax.proofs.printer.put_words.Goals as goal

pub loop-at-preserved : goal.loop-at-preserved
loop-at-preserved c =
    next_separated word_tokens c.args.words.now c.loop-at.at _ c.args.text.now c.loop-at.text _ _ c.loop-at-test.true
    c.index-words-at.is c.loop-at.invariant c.in_ok-put_sign_if.ensures c.in_ok-put_word.ensures
