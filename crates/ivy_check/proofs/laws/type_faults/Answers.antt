-- Each cause is decided, so a table of them has one answer; where none holds, each test fails.
use Rattle.std.proofs.Common.{None}
use Rattle.ivy_check.specs.TypeFault.{tests_of}
use Rattle.ivy_check.proofs.TableLemmas.{one_answer, answer_is}
use Rattle.ivy_check.proofs.WholeLemmas.{source_whole}
use Rattle.ivy_check.proofs.laws.type_faults.Goals as goal

pub returns-clause-one : goal.returns-clause-one
returns-clause-one c = λ source. one_answer (tests_of source)

pub returns-clause-whole : goal.returns-clause-whole
returns-clause-whole c = λ source none. source_whole source (answer_is (tests_of source) None none)
