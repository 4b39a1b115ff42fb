-- Each name that was passed is used.
use Rattle.std.proofs.Common.{◌≡◌, drop}
use Rattle.std.specs.List.{flat_map}
use Rattle.ivy_check.specs.Tests.{first_of}
use Rattle.ivy_check.specs.Uses.{word_unused}
use Rattle.ivy_check.proofs.uses.group_used.Given as goal

abbrev pub invariant-loop-word : goal.invariant-loop-word
invariant-loop-word l =
    first_of (flat_map (word_unused l.clauses) (drop l.word-index l.names))
    ≡ first_of (flat_map (word_unused l.clauses) l.names)
