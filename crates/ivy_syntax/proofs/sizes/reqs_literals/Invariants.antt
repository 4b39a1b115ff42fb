use Rattle.std.proofs.Common.{◌≡◌, take}
use Rattle.ivy_syntax.specs.Sizes.{within_word, total, req_literals}
use Rattle.ivy_syntax.proofs.sizes.reqs_literals.Given as goal

abbrev pub invariant-loop-req : goal.invariant-loop-req
invariant-loop-req l = l.sum ≡ within_word (total req_literals (take l.req-index l.reqs))
