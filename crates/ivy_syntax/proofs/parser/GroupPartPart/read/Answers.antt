use Rattle.ivy_syntax.proofs.Shorter.{left_no_more, group_shortens}
use Rattle.ivy_syntax.proofs.parser.GroupPartPart.read.Goals as goal

pub returns-clause-shorter : goal.returns-clause-shorter
returns-clause-shorter c = left_no_more c.args.rest.now c.group.result group_shortens c.group.ensures
