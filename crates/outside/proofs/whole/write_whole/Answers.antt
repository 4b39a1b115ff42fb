use Rattle.std.proofs.Common.{◌≡◌, ◌++◌, take, length, rules}
use Rattle.outside.proofs.Pieces.{Appends-again, Appends-then_keeps, Appends-front, moved_part, moved_slice, all_done, WritesWhole-err}
use Rattle.outside.proofs.whole.write_whole.Goals as goal

pub returns-in_err-taken : goal.returns-in_err-taken
returns-in_err-taken g c =
    let (done, whole, written) = c.loop-rest.invariant in
    WritesWhole-err _ _ _ _ c.from_residual.ensures.0 (Appends-front _ _ _ done _ whole (Appends-then_keeps _ _ _ _ written (c.in_err-taken.ensures.bytes)))

pub returns-then-taken-eq0 : goal.returns-then-taken-eq0
returns-then-taken-eq0 g c =
    let (done, whole, written) = c.loop-rest.invariant in
    Appends-front _ _ _ _ _ (moved_part _ done c.loop-rest.rest.now c.in_ok-taken.taken whole) (Appends-again _ _ _ _ _ written c.in_ok-taken.ensures.bytes)

pub loop-rest-preserved : goal.loop-rest-preserved
loop-rest-preserved g c =
    let (done, whole, written) = c.loop-rest.invariant in
    (done ++ take c.in_ok-taken.taken c.loop-rest.rest.now, moved_slice _ done c.loop-rest.rest.now c.in_ok-taken.taken whole, Appends-again _ _ _ _ _ written c.in_ok-taken.ensures.bytes)

pub returns-in_err-flush : goal.returns-in_err-flush
returns-in_err-flush g c =
    let (done, whole, written) = c.loop-rest.invariant in
    WritesWhole-err _ _ _ _ c.from_residual-in_err-flush.ensures.0 (Appends-front _ _ _ done _ whole (Appends-then_keeps _ _ _ _ written c.in_err-flush.ensures.bytes))

pub returns : goal.returns
returns g c =
    let (done, whole, written) = c.loop-rest.invariant in
    let none : length c.loop-rest.rest.now ≡ 0 = search rules in
    let all = all_done c.args.bytes.now done c.loop-rest.rest.now none whole in
    rw all at (Appends-then_keeps _ _ _ _ written c.in_ok-flush.ensures.bytes)
