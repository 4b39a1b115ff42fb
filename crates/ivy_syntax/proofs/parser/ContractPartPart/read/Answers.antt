use Rattle.ivy_syntax.proofs.Shorter.{left_no_more, contract_shortens}
use Rattle.ivy_syntax.proofs.parser.ContractPartPart.read.Goals as goal

pub returns-clause-shorter : goal.returns-clause-shorter
returns-clause-shorter c = left_no_more c.args.rest.now c.contract.result (contract_shortens c.args.self.now.depth) c.contract.ensures
