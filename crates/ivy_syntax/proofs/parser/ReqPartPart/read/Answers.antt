use Rattle.ivy_syntax.proofs.Shorter.{left_no_more, req_shortens}
use Rattle.ivy_syntax.proofs.parser.ReqPartPart.read.Goals as goal

pub returns-clause-shorter : goal.returns-clause-shorter
returns-clause-shorter c = left_no_more c.args.rest.now c.req.result (req_shortens c.args.self.now.depth) c.req.ensures
