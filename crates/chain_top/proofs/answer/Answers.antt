use Rattle.std.proofs.Common.{[], map, ap, sym, ◌∙◌}
use Rattle.std.specs.Prelude.{string_bytes}
use Rattle.std.specs.declared.alloc.Global.{Global}
use Rattle.replies.specs.Plan.{stop_of}
use Rattle.command_words.specs.Seen.{seen, seen_command}
use Rattle.chain_top.proofs.Calling.{concludes-command, concludes-usage, concludes-none, called}
use Rattle.chain_top.proofs.answer.Goals as goal

pub returns-in-Ok-Some-clause-refs : goal.returns-in-Ok-Some-clause-refs
returns-in-Ok-Some-clause-refs g c =
    let hash = g.H.IdHash.hash_of c.args.hash.now in
    let check = g.C.SigCheck.good_of c.args.sigs.now in
    let words = map (string_bytes {Z = Global}) c.args.words.now in
    let is = ap seen_command (sym c.in-Ok-Some.field-0-is) ∙ c.in-Ok-Some.ensures.reads in
    (concludes-command c.known.ensures hash check words [] (g.O.Outside.io c.args.out.now) (g.O.Outside.io c.obey.new.out) (g.O.Outside.io c.close.new.out) c.close.result (seen c.in-Ok-Some.command) (stop_of c.obey.result) is (g.met.O.Outside.contents_are_bytes c.args.out.now) c.obey.ensures c.close.ensures).ended.refs

pub returns-in-Ok-Some-clause-call : goal.returns-in-Ok-Some-clause-call
returns-in-Ok-Some-clause-call g c =
    let hash = g.H.IdHash.hash_of c.args.hash.now in
    let check = g.C.SigCheck.good_of c.args.sigs.now in
    let words = map (string_bytes {Z = Global}) c.args.words.now in
    let is = ap seen_command (sym c.in-Ok-Some.field-0-is) ∙ c.in-Ok-Some.ensures.reads in
    called c.known.ensures c.one_reply.ensures c.growing_ledgers.ensures hash check words (g.O.Outside.io c.args.out.now) (g.O.Outside.io c.close.new.out) c.close.result
    (concludes-command c.known.ensures hash check words [] (g.O.Outside.io c.args.out.now) (g.O.Outside.io c.obey.new.out) (g.O.Outside.io c.close.new.out) c.close.result (seen c.in-Ok-Some.command) (stop_of c.obey.result) is (g.met.O.Outside.contents_are_bytes c.args.out.now) c.obey.ensures c.close.ensures)

pub returns-in-Ok-None-clause-call : goal.returns-in-Ok-None-clause-call
returns-in-Ok-None-clause-call g c =
    let hash = g.H.IdHash.hash_of c.args.hash.now in
    let check = g.C.SigCheck.good_of c.args.sigs.now in
    let words = map (string_bytes {Z = Global}) c.args.words.now in
    let is = ap seen_command (sym c.in-Ok-None.field-0-is) ∙ c.in-Ok-None.ensures.reads in
    called c.known.ensures c.one_reply.ensures c.growing_ledgers.ensures hash check words (g.O.Outside.io c.args.out.now) (g.O.Outside.io c.usage.new.out) c.usage.result
    (concludes-usage c.known.ensures hash check words [] (g.O.Outside.io c.args.out.now) (g.O.Outside.io c.usage.new.out) c.usage.result is c.usage.ensures)

pub returns-in-Err-clause-call : goal.returns-in-Err-clause-call
returns-in-Err-clause-call g c =
    let hash = g.H.IdHash.hash_of c.args.hash.now in
    let check = g.C.SigCheck.good_of c.args.sigs.now in
    let words = map (string_bytes {Z = Global}) c.args.words.now in
    let a = g.O.Outside.io c.args.out.now in
    called c.known.ensures c.one_reply.ensures c.growing_ledgers.ensures hash check words a a c.out_of_memory.result
    (concludes-none c.known.ensures hash check words [] a c.out_of_memory.result (g.met.O.Outside.contents_are_bytes c.args.out.now) (λ reply. c.out_of_memory.ensures reply a))
