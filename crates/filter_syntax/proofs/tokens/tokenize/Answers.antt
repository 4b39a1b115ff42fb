use Rattle.std.proofs.Common.{◌≡◌, ℕ, List, drop, ◌∙◌, sym, ap, subst, None, arith, length-drop}
use Rattle.filter_syntax.specs.Lexing.{first_token, IsFound}
use Rattle.filter_syntax.proofs.Steps.{space_step, token_step, bad_end, whole_end, behind_is}
use Rattle.filter_syntax.proofs.tokens.tokenize.Goals as goal

pub loop-at-preserved-then-text-at-eq32 : goal.loop-at-preserved-then-text-at-eq32
loop-at-preserved-then-text-at-eq32 c = record {
  within = omega arith;
  onto = space_step c.args.text.now c.loop-at.at c.loop-at.lexemes.items c.loop-at.invariant.onto c.loop-at-test.true
      c.if-text-at-eq32.true;
}

pub loop-at-preserved : goal.loop-at-preserved
loop-at-preserved c =
    let found : IsFound (drop c.loop-at.at c.args.text.now) c.in-Some.kind c.in-Some.len
    (first_token (drop c.loop-at.at c.args.text.now)) =
    subst (λ (l : List ℕ). IsFound l c.in-Some.kind c.in-Some.len (first_token l))
    (behind_is c.args.text.now c.loop-at.at) c.in-Some.ensures in
    record {
      within = omega (arith, found.within, length-drop c.loop-at.at c.args.text.now, c.loop-at.invariant.within);
      onto = token_step c.args.text.now c.loop-at.at c.loop-at.lexemes.items c.loop-at.invariant.onto c.in-Some.len
          c.in-Some.kind c.push.new.self.items c.loop-at-test.true c.if-text-at-eq32.false found
          c.in_ok-push.ensures.items;
    }

pub returns-in_default : goal.returns-in_default
returns-in_default c =
    let none : first_token (drop c.loop-at.at c.args.text.now) ≡ None =
    ap first_token (sym (behind_is c.args.text.now c.loop-at.at)) ∙ c.in_default.ensures in
    bad_end c.args.text.now c.loop-at.at c.loop-at.lexemes.items c.loop-at.invariant.onto
    c.push-in_default.new.self.items c.mark.result c.loop-at-test.true c.if-text-at-eq32.false none c.mark.ensures
    c.in_ok-push-2.ensures.items

pub returns : goal.returns
returns c =
    whole_end c.args.text.now c.loop-at.at c.loop-at.lexemes.items c.loop-at.invariant.onto c.push-2.new.self.items
    c.mark-2.result (omega arith) c.mark-2.ensures c.in_ok-push-3.ensures.items
