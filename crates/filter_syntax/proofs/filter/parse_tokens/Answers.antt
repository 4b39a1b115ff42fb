use Rattle.std.proofs.Common.{◌≡◌, map, Err, subst}
use Rattle.filter_syntax.specs.Lexing.{seen}
use Rattle.filter_syntax.specs.Descent.{Agrees, root_at}
use Rattle.grammars.specs.Outcome.{Got, Wrong}
use Rattle.filter_syntax.proofs.Reported.{told_got, told_wrong}
use Rattle.filter_syntax.proofs.filter.parse_tokens.Goals as goal

pub returns-in-Ok : goal.returns-in-Ok
returns-in-Ok c = told_got c.args.kind c.args.text.now c.args.lexemes.now c.in-Ok.rest.now c.in-Ok.root c.expect_end.result
    c.requires (subst (λ b. root_at b (map (seen c.args.text.now) c.args.lexemes.now)
    ≡ Got c.in-Ok.root (map (seen c.args.text.now) c.in-Ok.rest.now)) c.has_scopes.ensures c.in-Ok.ensures) c.expect_end.ensures

pub returns-in-Err-Wrong : goal.returns-in-Err-Wrong
returns-in-Err-Wrong c = told_wrong c.args.kind c.args.text.now c.args.lexemes.now c.in-Err-Wrong.rest.now c.syntax_fault.result
    c.requires (subst (λ b. root_at b (map (seen c.args.text.now) c.args.lexemes.now)
    ≡ Wrong (map (seen c.args.text.now) c.in-Err-Wrong.rest.now)) c.has_scopes.ensures
    (subst (λ e. Agrees c.args.text.now (Err e) (root_at c.has_scopes.result (map (seen c.args.text.now) c.args.lexemes.now)))
    c.in-Err-Wrong.field-0-is c.in-Err-Wrong.ensures)) c.syntax_fault.ensures
