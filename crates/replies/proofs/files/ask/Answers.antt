use Rattle.std.proofs.Common.{subst, arith}
use Rattle.outside.specs.Bytes.{AreBytes}
use Rattle.replies.proofs.Asked.{asked-cut, asked-passed, asked-long, asked-found}
use Rattle.replies.proofs.files.ask.Goals as goal

pub returns-in_err-bytes-clause-asked : goal.returns-in_err-bytes-clause-asked
returns-in_err-bytes-clause-asked g c =
    let tells = g.met.O.Outside.contents_are_bytes c.args.out.now in
    asked-passed c.args.name.now c.args.most c.args.place _ _ tells _ _ c.from_residual.ensures.1
    (asked-cut c.args.name.now c.args.most c.args.place _ _ tells _ c.in_err-bytes.ensures.does)

pub returns-then-len-most-clause-asked : goal.returns-then-len-most-clause-asked
returns-then-len-most-clause-asked g c =
    asked-long c.args.name.now c.args.most c.args.place _ _ (g.met.O.Outside.contents_are_bytes c.args.out.now) c.in_ok-bytes.bytes c.in_ok-bytes.ensures.does (subst AreBytes c.as_slice.ensures.value c.are_bytes.ensures) c.in_ok-bytes.ensures.short c.in_ok-bytes.ensures.bytes _ (omega (arith, c.if-len-most.true, c.len.ensures)) c.refused_size.ensures

pub returns-clause-asked : goal.returns-clause-asked
returns-clause-asked g c =
    asked-found c.args.name.now c.args.most c.args.place _ _ (g.met.O.Outside.contents_are_bytes c.args.out.now) c.in_ok-bytes.bytes c.in_ok-bytes.ensures.does (subst AreBytes c.as_slice.ensures.value c.are_bytes.ensures) c.in_ok-bytes.ensures.short c.in_ok-bytes.ensures.bytes (omega (arith, c.if-len-most.false, c.len.ensures))
