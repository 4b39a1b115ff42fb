use Rattle.std.proofs.Common.{arith}
use Rattle.filter_syntax.proofs.Founds.{quoted_found, quoted_none}
use Rattle.filter_syntax.proofs.tokens.quoted.Goals as goal
use Rattle.filter_syntax.proofs.tokens.quoted.Goals.{else-len-behind-via-then-len-behind+else-behind-len-eq39}
use Rattle.filter_syntax.proofs.tokens.quoted.Goals.{else-len-behind-via-else-len-behind}

pub returns-then-behind-len-eq39 : goal.returns-then-behind-len-eq39
returns-then-behind-len-eq39 c =
    quoted_found c.args.behind.now c.quotable_len-len.result c.quotable_len-len.ensures.is c.if-len-behind.true
    c.if-behind-len-eq39.true

pub returns-else-len-behind : goal.returns-else-len-behind
returns-else-len-behind c =
    elim c.else-len-behind.branch [
      | else-len-behind-via-then-len-behind+else-behind-len-eq39 w ↦ quoted_none c.args.behind.now
          c.quotable_len-len.result c.quotable_len-len.ensures.is (λ within. w.if-behind-len-eq39.false)
      | else-len-behind-via-else-len-behind w ↦ quoted_none c.args.behind.now c.quotable_len-len.result
          c.quotable_len-len.ensures.is (λ within. absurd (omega arith))
    ]
