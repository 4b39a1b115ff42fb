-- The uses in those that were passed.
use Rattle.std.proofs.Common.{◌≡◌, take}
use Rattle.ivy_syntax.specs.Sizes.{within_word, total}
use Rattle.ivy_check.specs.Counts.{req_use_count}
use Rattle.ivy_check.proofs.counts.reqs_uses.Given as goal

abbrev pub invariant-loop-req : goal.invariant-loop-req
invariant-loop-req l = l.sum ≡ within_word (total (req_use_count l.name) (take l.req-index l.reqs))
