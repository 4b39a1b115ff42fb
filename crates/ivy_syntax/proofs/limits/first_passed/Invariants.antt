use Rattle.std.proofs.Common.{◌≡◌, ◌<◌, ℕ, None, map, take, reverse}
use Rattle.ivy_syntax.specs.Limits.{passes_at}
use Rattle.ivy_syntax.specs.Counting.{Counted}
use Rattle.ivy_syntax.proofs.limits.first_passed.Given as goal

abbrev pub invariant-loop-at : goal.invariant-loop-at
invariant-loop-at l = record {
  counted : Counted l.counts (reverse (take l.at (map (λ k. k.kind) l.lexemes)));
  none : (at : ℕ) → at < l.at → passes_at (map (λ k. k.kind) l.lexemes) at ≡ None;
}
