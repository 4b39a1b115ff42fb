use Rattle.std.proofs.Common.{map, sym, subst}
use Rattle.ivy_syntax.specs.Lexeme.{tokens}
use Rattle.ivy_syntax.specs.Limits.{FirstPassed}
use Rattle.ivy_syntax.specs.Answering.{IsCut}
use Rattle.ivy_syntax.proofs.LexemeAnswers.{cut_lexemes}
use Rattle.ivy_syntax.proofs.answer.answer.Goals as goal

pub returns : goal.returns
returns c =
    let cut = cut_lexemes c.args.text.now c.in_ok-lexemes.lexemes.items _ c.in_ok-passed.passed c.in_ok-lexemes.ensures
    (subst (λ ls. FirstPassed (map (λ l. l.kind) ls) c.in_ok-passed.passed) c.deref.ensures.value c.in_ok-passed.ensures)
    c.in_ok-cut_after.ensures.cut in
    c.read.ensures c.args.text.now
    (subst (λ ls. IsCut c.args.text.now (tokens ls) c.in_ok-passed.passed) (sym c.deref-2.ensures.value) cut)
