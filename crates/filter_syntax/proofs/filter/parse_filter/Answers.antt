use Rattle.std.proofs.Common.{subst}
use Rattle.filter_syntax.specs.Limiting.{AnswersOr}
use Rattle.filter_syntax.proofs.FilterAnswers.{told}
use Rattle.filter_syntax.proofs.filter.parse_filter.Goals as goal

pub returns-clause-told : goal.returns-clause-told
returns-clause-told c = λ answer is not. told c.args.kind c.args.text.now c.parse_bytes.result answer
    (subst (λ t. AnswersOr c.args.kind t c.parse_bytes.result) c.as_bytes.ensures.value c.parse_bytes.ensures) is not
