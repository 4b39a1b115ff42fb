-- The table of what is checked has no cause that holds.
use Rattle.std.proofs.Common.{None, subst}
use Rattle.wire.specs.Tables.{First}
use Rattle.ivy_syntax.specs.declared.tree.Source.{Source}
use Rattle.ivy_syntax.specs.Texts.{IsOfSomeText}
use Rattle.ivy_check.specs.TypeFault.{tests_of, causes_of}
use Rattle.ivy_check.specs.WellTyped.{WellTyped}
use Rattle.ivy_check.proofs.TableLemmas.{answers}
use Rattle.ivy_check.proofs.WellTypedLemmas.{source_is}
use Rattle.ivy_check.proofs.verdict.Checked.source.Goals as goal

pub returns-clause-none : goal.returns-clause-none
returns-clause-none c =
    subst (λ (s : Source). First (causes_of s) None) c.self.view_is
    (answers (tests_of c.self.inside.source) None c.self.invariant.no_fault)

pub returns-clause-text : goal.returns-clause-text
returns-clause-text c = subst IsOfSomeText c.self.view_is c.self.invariant.of_text

pub returns-clause-typed : goal.returns-clause-typed
returns-clause-typed c = subst WellTyped c.self.view_is ((source_is c.self.inside.source).0 c.self.invariant.no_fault)
