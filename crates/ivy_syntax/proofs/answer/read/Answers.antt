use Rattle.std.proofs.Common.{◌∙◌, Err, sym, subst}
use Rattle.ivy_syntax.specs.Lexeme.{tokens}
use Rattle.ivy_syntax.specs.Agreement.{Agrees}
use Rattle.ivy_syntax.specs.Descent.{file_at}
use Rattle.ivy_syntax.proofs.LexemeAnswers.{passed_on, got_passed, got_source, got_early, wrong_passed, wrong_syntax}
use Rattle.ivy_syntax.proofs.LexemeAnswers.{deep_passed, deep_told}
use Rattle.ivy_syntax.proofs.answer.read.Goals as goal

pub returns-in_err-unpassed-in-Ok : goal.returns-in_err-unpassed-in-Ok
returns-in_err-unpassed-in-Ok c = λ text whole. passed_on text c.from_residual.result
    c.in_err-unpassed-in-Ok.field-0.0 c.from_residual.ensures.1
    (got_passed text c.args.lexemes.now c.args.passed whole c.in-Ok.rest.now c.in-Ok.source c.in-Ok.ensures
    c.in_err-unpassed-in-Ok.field-0.0 c.in_err-unpassed-in-Ok.ensures)

pub returns-then-ends : goal.returns-then-ends
returns-then-ends c = λ text whole.
    got_source text c.args.lexemes.now c.args.passed whole c.in-Ok.rest.now
    c.in-Ok.source c.in-Ok.ensures c.in_ok-unpassed-in-Ok.ensures (sym c.ends.ensures ∙ c.if-ends.true)

pub returns-else-ends : goal.returns-else-ends
returns-else-ends c = λ text whole.
    got_early text c.args.lexemes.now c.args.passed whole c.in-Ok.rest.now
    c.in-Ok.source c.in-Ok.ensures c.in_ok-unpassed-in-Ok.ensures (sym c.ends.ensures ∙ c.if-ends.false)
    c.syntax.result c.syntax.ensures

pub returns-in_err-unpassed-in-Err-Wrong : goal.returns-in_err-unpassed-in-Err-Wrong
returns-in_err-unpassed-in-Err-Wrong c = λ text whole.
    passed_on text c.from_residual-in_err-unpassed-in-Err-Wrong.result
    c.in_err-unpassed-in-Err-Wrong.field-0.0 c.from_residual-in_err-unpassed-in-Err-Wrong.ensures.1
    (wrong_passed text c.args.lexemes.now c.args.passed whole c.in-Err-Wrong.rest.now
    (subst (λ e. Agrees (Err e) (file_at 32 (tokens c.args.lexemes.now))) c.in-Err-Wrong.field-0-is
    c.in-Err-Wrong.ensures)
    c.in_err-unpassed-in-Err-Wrong.field-0.0 c.in_err-unpassed-in-Err-Wrong.ensures)

pub returns-in_ok-unpassed-in-Err-Wrong : goal.returns-in_ok-unpassed-in-Err-Wrong
returns-in_ok-unpassed-in-Err-Wrong c = λ text whole.
    wrong_syntax text c.args.lexemes.now c.args.passed whole c.in-Err-Wrong.rest.now
    (subst (λ e. Agrees (Err e) (file_at 32 (tokens c.args.lexemes.now))) c.in-Err-Wrong.field-0-is
    c.in-Err-Wrong.ensures)
    c.in_ok-unpassed-in-Err-Wrong.ensures c.syntax-in-Err-Wrong.result c.syntax-in-Err-Wrong.ensures

pub returns-in_err-unpassed-in-Err-Deep : goal.returns-in_err-unpassed-in-Err-Deep
returns-in_err-unpassed-in-Err-Deep c = λ text whole.
    passed_on text c.from_residual-in_err-unpassed-in-Err-Deep.result
    c.in_err-unpassed-in-Err-Deep.field-0.0 c.from_residual-in_err-unpassed-in-Err-Deep.ensures.1
    (deep_passed text c.args.lexemes.now c.args.passed whole c.in-Err-Deep.rest.now
    (subst (λ e. Agrees (Err e) (file_at 32 (tokens c.args.lexemes.now))) c.in-Err-Deep.field-0-is
    c.in-Err-Deep.ensures)
    c.in_err-unpassed-in-Err-Deep.field-0.0 c.in_err-unpassed-in-Err-Deep.ensures)

pub returns-in_ok-unpassed-in-Err-Deep : goal.returns-in_ok-unpassed-in-Err-Deep
returns-in_ok-unpassed-in-Err-Deep c = λ text whole.
    deep_told text c.args.lexemes.now c.args.passed whole c.in-Err-Deep.rest.now
    (subst (λ e. Agrees (Err e) (file_at 32 (tokens c.args.lexemes.now))) c.in-Err-Deep.field-0-is
    c.in-Err-Deep.ensures)
    c.in_ok-unpassed-in-Err-Deep.ensures c.place.result c.place.ensures
