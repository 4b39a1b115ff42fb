use Rattle.std.proofs.Common.{◌≡◌, length}
use Rattle.ivy_syntax.specs.Cutting.{keyword_among}
use Rattle.ivy_syntax.proofs.tokens.keyword_among.Given as goal

abbrev pub invariant-loop-keywords : goal.invariant-loop-keywords
invariant-loop-keywords l = keyword_among l.keywords l.word ≡ keyword_among l.initial.keywords l.word

abbrev pub decreases-loop-keywords : goal.decreases-loop-keywords
decreases-loop-keywords l = length l.keywords
