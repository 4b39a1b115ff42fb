use Rattle.std.proofs.Common.{◌≡◌, ◌++◌, ◌∷◌, [], ◌-◌, ◌≤◌, arith}
use Rattle.std.proofs.lemmas.Result.{err_from_is_err_and}
use Rattle.wire.specs.Places.{items_at}
use Rattle.wire.proofs.Loop.{goes_on, ends, is_done}
use Rattle.wire.proofs.cursor.Cursor.items.Goals as goal

pub returns-in_err-item : goal.returns-in_err-item
returns-in_err-item g c =
    let p = err_from_is_err_and c.from_residual-in_err-item.result c.from_residual-in_err-item.ensures.1 in
    let l = c.loop in
    rw (p.1, p.2) (ends c.args.room g.T.Record.reading c.in_err-item.field-0.0 l.items c.args.count l.counter (l.self.at - c.at-from.result) l.self (items_at c.args.room g.T.Record.reading c.args.count 0 c.args.self.now) c.loop-test.true c.in_err-item.ensures.read l.invariant.read)

pub loop-preserved : goal.loop-preserved
loop-preserved g c =
    let l = c.loop in
    let from = c.at-from.result in
    let on : l.self.at ≤ c.item.new.self.at = c.in_ok-item.ensures.on in
    let begun : from ≤ l.self.at = l.invariant.on in
    let added : c.push.new.self ≡ l.items ++ c.in_ok-item.field-0 ∷ [] = c.in_ok-push.ensures.ok in
    record {
      on = omega arith;
      read = rw added (goes_on c.args.room g.T.Record.reading l.items c.args.count l.counter from l.self c.in_ok-item.field-0 c.item.new.self (items_at c.args.room g.T.Record.reading c.args.count 0 c.args.self.now) c.loop-test.true begun on c.in_ok-item.ensures.read l.invariant.read);
    }

pub returns : goal.returns
returns g c = is_done c.args.room g.T.Record.reading c.loop.items c.args.count c.loop.counter (c.loop.self.at - c.at-from.result) c.loop.self (items_at c.args.room g.T.Record.reading c.args.count 0 c.args.self.now) c.loop-test.false c.loop.invariant.read
