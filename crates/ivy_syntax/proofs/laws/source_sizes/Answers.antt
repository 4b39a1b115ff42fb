use Rattle.ivy_syntax.proofs.SizeBounds.{size_laws}
use Rattle.ivy_syntax.proofs.laws.source_sizes.Goals as goal

pub returns : goal.returns
returns c = size_laws
