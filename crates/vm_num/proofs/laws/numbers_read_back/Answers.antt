use Rattle.vm_num.specs.Numbers.{num-num_bytes, true-num_bytes, length-num_bytes, num_bytes-bytes}
use Rattle.vm_num.proofs.laws.numbers_read_back.Goals as goal

pub returns-clause-read : goal.returns-clause-read
returns-clause-read c = num-num_bytes

pub returns-clause-truth : goal.returns-clause-truth
returns-clause-truth c = true-num_bytes

pub returns-clause-short : goal.returns-clause-short
returns-clause-short c = length-num_bytes

pub returns-clause-bytes : goal.returns-clause-bytes
returns-clause-bytes c = num_bytes-bytes
