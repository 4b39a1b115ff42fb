use Rattle.ivy_syntax.proofs.TextAnswers.{told_answer}
use Rattle.ivy_syntax.proofs.answer.parse.Goals as goal

pub returns-clause-told : goal.returns-clause-told
returns-clause-told c = λ answer is not. told_answer c.args.text.now c.answer.result answer c.answer.ensures is not
