use Rattle.vm_num.specs.Numbers.{num-fits, true-num, num-none, exact-number}
use Rattle.vm_num.proofs.laws.numbers_in_range.Goals as goal

pub returns-clause-read : goal.returns-clause-read
returns-clause-read c = num-fits

pub returns-clause-truth : goal.returns-clause-truth
returns-clause-truth c = true-num

pub returns-clause-none : goal.returns-clause-none
returns-clause-none c = num-none

pub returns-clause-exact : goal.returns-clause-exact
returns-clause-exact c = exact-number
