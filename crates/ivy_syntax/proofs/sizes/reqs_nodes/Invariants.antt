use Rattle.std.proofs.Common.{◌≡◌, take}
use Rattle.ivy_syntax.specs.Sizes.{within_word, total, req_nodes}
use Rattle.ivy_syntax.proofs.sizes.reqs_nodes.Given as goal

abbrev pub invariant-loop-req : goal.invariant-loop-req
invariant-loop-req l = l.sum ≡ within_word (total req_nodes (take l.req-index l.reqs))
