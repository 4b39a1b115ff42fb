use Rattle.ivy_syntax.proofs.Shorter.{left_no_more, clause_shortens}
use Rattle.ivy_syntax.proofs.parser.ClausePartPart.read.Goals as goal

pub returns-clause-shorter : goal.returns-clause-shorter
returns-clause-shorter c = left_no_more c.args.rest.now c.clause.result (clause_shortens c.args.self.now.depth) c.clause.ensures
