use Rattle.std.proofs.Common.{◌∙◌, ap, sym, arith, ◌++◌, ◌∷◌, []}
use Rattle.ivy_syntax.specs.Lexeme.{tokens}
use Rattle.ivy_syntax.specs.Answering.{cut_after}
use Rattle.ivy_syntax.proofs.CutTokens.{lexemes_cut}
use Rattle.ivy_syntax.proofs.answer.cut_after.Goals as goal

pub returns-in_ok-push-clause-cut : goal.returns-in_ok-push-clause-cut
returns-in_ok-push-clause-cut c =
    lexemes_cut c.args.lexemes.now.items c.push.new.self.items c.point.result c.index.result.now c.in-Some.at
    c.in-Some.field-0-1 (omega (arith, c.if-at-len.true, c.len.ensures))
    (c.in_ok-push.ensures.items ∙ ap (λ items. items ++ (c.point.result ∷ [])) c.truncate.ensures.items)
    c.point.ensures.token c.index.ensures
    ∙ ap (cut_after (tokens c.args.lexemes.now.items)) (sym c.in-Some.is)
