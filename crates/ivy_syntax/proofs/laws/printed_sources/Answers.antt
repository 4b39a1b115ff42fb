use Rattle.ivy_syntax.proofs.Printed.{print_laws}
use Rattle.ivy_syntax.proofs.laws.printed_sources.Goals as goal

pub returns : goal.returns
returns c = print_laws
