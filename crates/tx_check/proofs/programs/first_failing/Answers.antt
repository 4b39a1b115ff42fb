use Rattle.std.proofs.Common.{◌∙◌, sym, subst, arith}
use Rattle.std.proofs.lemmas.Option.{get_or_from_slice_get, slice_get_within}
use Rattle.tx_check.specs.Contexts.{FailsAs, InputVerdict}
use Rattle.tx_check.specs.FirstPlaces.{none_more, nowhere}
use Rattle.tx_check.proofs.Verdicts.{does_not_fail}
use Rattle.tx_check.proofs.programs.first_failing.Goals as goal

pub loop-k-preserved : goal.loop-k-preserved
loop-k-preserved g c =
    let hash = g.H.IdHash.hash_of c.args.hash.now in
    let check = g.C.SigCheck.good_of c.args.sigs.now in
    let tx = c.args.tx.now in
    let k = c.loop-k.k in
    let at = c.in_ok-verdict.ensures.verdict in
    let succeeds = subst (InputVerdict hash check tx k at.input) c.in_default.is at.is in
    record {
      outs = c.in_ok-verdict.ensures.same ∙ c.loop-k.invariant.outs;
      none = none_more (FailsAs hash check tx) tx.inputs k at.input c.loop-k.invariant.none
          (record { there = slice_get_within tx.inputs k at.input at.there; is = sym (get_or_from_slice_get tx.inputs k at.input at.input at.there) })
          (does_not_fail c.one_verdict.ensures.one hash check tx k at.input c.in_default.field-0 succeeds);
    }

pub returns : goal.returns
returns g c =
    let hash = g.H.IdHash.hash_of c.args.hash.now in
    let check = g.C.SigCheck.good_of c.args.sigs.now in
    let tx = c.args.tx.now in
    nowhere (FailsAs hash check tx) tx.inputs c.loop-k.k (omega arith) c.loop-k.invariant.none
