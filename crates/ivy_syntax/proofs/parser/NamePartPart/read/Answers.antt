use Rattle.ivy_syntax.proofs.Shorter.{left_no_more, name_shortens}
use Rattle.ivy_syntax.proofs.parser.NamePartPart.read.Goals as goal

pub returns-clause-shorter : goal.returns-clause-shorter
returns-clause-shorter c = left_no_more c.args.rest.now c.name.result name_shortens c.name.ensures
