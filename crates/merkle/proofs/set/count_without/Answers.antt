use Rattle.std.proofs.Common.{◌≡◌, ◌+◌, ◌/◌, ◌<◌, ◌∙◌, List, ℕ, [], length, take, get_or, not, cond, Bool, ap, sym, arith}
use Rattle.std.specs.Prelude.{slice_index}
use Rattle.std.proofs.lemmas.List.Elements.{All-more}
use Rattle.std.proofs.lemmas.List.Filters.{length-filter_more}
use Rattle.merkle.specs.Roots.{has_bit, without}
use Rattle.merkle.proofs.set.count_without.Goals as goal
use Rattle.merkle.proofs.set.count_without.Goals.{then-not-has_bit, else-not-has_bit}

pub loop-id-preserved : goal.loop-id-preserved
loop-id-preserved c =
    let ids = c.args.ids.now in
    let k = c.loop-id.id-index in
    let id = get_or ids k [] in
    let step : Bool → ℕ = λ b. cond (not b) 1 0 in
    let more : length (without c.args.place (take (k + 1) ids)) ≡ length (without c.args.place (take k ids)) + step (has_bit c.args.place id) = length-filter_more (λ (x : List ℕ). not (has_bit c.args.place x)) ids k [] c.loop-id-test.true in
    record {
      count = elim c.if-not-has_bit.branch [
        | then-not-has_bit w ↦ (let one : step (has_bit c.args.place id) ≡ 1 = ap step (sym c.has_bit.ensures.bit ∙ w.if-not-has_bit.true) in omega (arith, more, one))
        | else-not-has_bit w ↦ (let none : step (has_bit c.args.place id) ≡ 0 = ap step (sym c.has_bit.ensures.bit ∙ w.if-not-has_bit.false) in omega (arith, more, none))
      ];
      within = elim c.if-not-has_bit.branch [
        | then-not-has_bit w ↦ omega arith
        | else-not-has_bit w ↦ omega arith
      ];
      bytes = All-more (λ (x : List ℕ). slice_index x (c.args.place / 8) < 256) ids k [] c.loop-id-test.true c.loop-id.invariant.bytes c.has_bit.ensures.byte;
    }
