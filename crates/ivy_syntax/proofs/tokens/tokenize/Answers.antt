use Rattle.std.proofs.Common.{◌∙◌, ap, sym, subst, length, arith, ◌++◌, ◌∷◌, [], ◌+◌}
use Rattle.std.proofs.lemmas.List.{take_rest, length-drop, map-append}
use Rattle.ivy_syntax.specs.Lexeme.{placed, tokens}
use Rattle.grammars.specs.Steps.{ReadUpTo}
use Rattle.ivy_syntax.specs.Tokens.{AreTokens, lexicon}
use Rattle.ivy_syntax.proofs.Steps.{step_blank, step_token, step_wrong, step_end, none_here, none_further, none_since}
use Rattle.ivy_syntax.proofs.tokens.tokenize.Goals as goal
use Rattle.ivy_syntax.proofs.tokens.tokenize.Goals.{then-unclosed, else-unclosed}

pub front-requires-clause-unclosed : goal.front-requires-clause-unclosed
front-requires-clause-unclosed c =
    λ t. none_here c.args.text.now c.loop-at.at (c.loop-at.invariant.unclosed t)

pub loop-at-preserved-in-Blank : goal.loop-at-preserved-in-Blank
loop-at-preserved-in-Blank c = record {
  onto = step_blank c.args.text.now c.loop-at.at (tokens c.loop-at.lexemes.items) c.loop-at.invariant.onto
      c.in-Blank.len c.in-Blank.ensures.value c.in-Blank.ensures.within.0;
  within = omega (
    arith,
    c.in-Blank.ensures.within,
    ap length (take_rest c.args.text.now c.loop-at.at),
    length-drop c.loop-at.at c.args.text.now,
  );
  unclosed = λ t. none_further c.args.text.now c.loop-at.at c.in-Blank.len (c.loop-at.invariant.unclosed t);
}

pub loop-at-preserved : goal.loop-at-preserved
loop-at-preserved c = record {
  onto = subst (ReadUpTo lexicon c.args.text.now (c.loop-at.at + c.in-Token.len))
      (sym (ap tokens c.in_ok-push-in-Token.ensures.items ∙ map-append placed c.loop-at.lexemes.items (_ ∷ [])))
      (step_token c.args.text.now c.loop-at.at (tokens c.loop-at.lexemes.items) c.loop-at.invariant.onto
      c.in-Token.kind c.in-Token.len c.in-Token.ensures.value);
  within = omega (
    arith,
    c.in-Token.ensures.within,
    ap length (take_rest c.args.text.now c.loop-at.at),
    length-drop c.loop-at.at c.args.text.now,
  );
  unclosed = λ t. elim c.if-unclosed.branch [
    | then-unclosed w ↦ none_further c.args.text.now c.loop-at.at c.in-Token.len
        (c.loop-at.invariant.unclosed w.if-unclosed.true)
    | else-unclosed w ↦ none_since c.args.text.now c.loop-at.at c.in-Token.len c.in-Token.kind
        c.in-Token.ensures.value c.in-Token.ensures.within
        (sym w.begins_block-unclosed.ensures ∙ sym w.unclosed-is ∙ t)
  ];
}

pub returns-in-Wrong : goal.returns-in-Wrong
returns-in-Wrong c =
    subst (AreTokens 0 c.args.text.now)
    (sym (ap tokens c.in_ok-push-in-Wrong.ensures.items ∙ map-append placed c.loop-at.lexemes.items (_ ∷ [])
    ∙ ap (λ t. tokens c.loop-at.lexemes.items ++ (t ∷ [])) c.point.ensures.token))
    (step_wrong c.args.text.now c.loop-at.at (tokens c.loop-at.lexemes.items) c.loop-at.invariant.onto
    c.in-Wrong.ensures.value c.loop-at-test.true)

pub returns : goal.returns
returns c =
    subst (AreTokens 0 c.args.text.now)
    (sym (ap tokens c.in_ok-push.ensures.items ∙ map-append placed c.loop-at.lexemes.items (_ ∷ [])
    ∙ ap (λ t. tokens c.loop-at.lexemes.items ++ (t ∷ [])) c.point-2.ensures.token))
    (step_end c.args.text.now c.loop-at.at (tokens c.loop-at.lexemes.items) c.loop-at.invariant.onto
    c.loop-at-test.false)
