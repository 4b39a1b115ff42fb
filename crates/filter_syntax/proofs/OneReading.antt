-- Tokens read as one condition at most.
use Rattle.std.specs.Prelude.{◌≡◌, ◌⊎◌, ℕ, ◌+◌, Bool, List, [], ◌++◌, refl}
use Rattle.std.proofs.Common.{sym, ◌∙◌, inl, inr, arith}
use Rattle.std.proofs.lemmas.List.{append-nil}
use Rattle.grammars.specs.Outcome.{Outcome, Got, Wrong, Deep}
use Rattle.grammars.specs.Part.{Part, Goes, Alike, Decides}
use Rattle.filter_syntax.specs.declared.tree.Cond.{Cond}
use Rattle.filter_syntax.specs.Tokens.{Placed}
use Rattle.filter_syntax.specs.Grammar.{Alternatives, Reads}
use Rattle.filter_syntax.specs.Descent.{alternatives_by, unit_at}
use Rattle.filter_syntax.proofs.Rules.{Fine, GoesOr, decides_alternatives}
use Rattle.filter_syntax.proofs.Units.{decides_unit}
use Rattle.filter_syntax.proofs.Reprints.{deeper}

-- all of the tokens are alike to themselves
all_alike : (used rest u : List Placed) → u ≡ used ++ rest → Alike used rest (u ++ [])
all_alike used rest u split = record { tail = rest; split = append-nil u ∙ split; same = refl }

module _ (X : Part Placed Cond) (u : List Placed) where
  the_same : (o : Outcome Placed Cond) → Decides Fine X X GoesOr u o → (a b : Cond) → X u a → X u b → a ≡ b
  the_same (Got v rest) h a b first second =
      let like = all_alike h.used rest u h.split in
      by (h.sure u [] a first like) (h.sure u [] b second like)
    where
      by : ((u ≡ h.used) × (a ≡ v)) ⊎ Goes GoesOr [] → ((u ≡ h.used) × (b ≡ v)) ⊎ Goes GoesOr [] → a ≡ b
      by (inl x) (inl y) = x.1 ∙ sym y.1
      by (inr goes) y = absurd goes
      by (inl x) (inr goes) = absurd goes
  the_same (Wrong rest) h a b first second = absurd (h.none u [] a first (all_alike h.front rest u h.split))
  the_same (Deep rest) h a b first second = absurd (h.none u [] a first (all_alike h.front rest u h.split))

pub one_reading : (d e : ℕ) (s : Bool) (u : List Placed) (a b : Cond) → Reads Alternatives d s u a
    → Reads Alternatives e s u b → a ≡ b
one_reading d e s u a b first second =
    the_same (Reads Alternatives (d + e) s) u (alternatives_by (unit_at (d + e) s) u)
    (decides_alternatives (d + e) s (unit_at (d + e) s) (decides_unit (d + e) s) u) a b
    (deeper Alternatives d (d + e) s u a (omega arith) first)
    (deeper Alternatives e (d + e) s u b (omega arith) second)
