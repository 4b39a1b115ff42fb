use Rattle.std.proofs.Common.{sym, subst, length, arith}
use Rattle.ivy_syntax.specs.Cutting.{front_of_cut, token_at, TakesWithin}
use Rattle.ivy_syntax.proofs.Readings.{cut_within, scanner}
use Rattle.grammars.specs.Scanner.{gap_within}
use Rattle.ivy_syntax.specs.Tokens.{lexicon}
use Rattle.ivy_syntax.proofs.Reach.{BlankFollows}
use Rattle.ivy_syntax.proofs.tokens.front.Goals as goal

pub returns-in-0-clause-within : goal.returns-in-0-clause-within
returns-in-0-clause-within c =
    subst (λ f. TakesWithin f (length c.args.text.now)) (sym c.front_of_cut.ensures)
    (subst (λ cut. TakesWithin (front_of_cut cut) (length c.args.text.now)) (sym c.token_at.ensures)
    (cut_within c.args.text.now (token_at c.args.text.now) (λ i. token_at c.args.text.now)))

pub returns-in_default-clause-within : goal.returns-in_default-clause-within
returns-in_default-clause-within c =
    (omega arith, omega (arith, c.gap_len.ensures, gap_within lexicon BlankFollows scanner c.args.text.now))
