use Rattle.std.proofs.Common.{[], sym, subst}
use Rattle.command_words.specs.Seen.{seen}
use Rattle.replies.specs.Runs.{Obeys}
use Rattle.chain_top.specs.Commands.{recipe_of}
use Rattle.chain_top.proofs.obey.Goals as goal

pub returns-in-Vm : goal.returns-in-Vm
returns-in-Vm g c =
    let hash = g.H.IdHash.hash_of c.args.hash.now in
    let check = g.C.SigCheck.good_of c.args.sigs.now in
    subst (λ (command : _). Obeys (recipe_of hash check [] (seen command)) (g.O.Outside.io c.args.out.now) (g.O.Outside.io c.vm.new.out) c.vm.result) (sym c.in-Vm.is) c.vm.ensures

pub returns-in-Apply : goal.returns-in-Apply
returns-in-Apply g c =
    let hash = g.H.IdHash.hash_of c.args.hash.now in
    let check = g.C.SigCheck.good_of c.args.sigs.now in
    subst (λ (command : _). Obeys (recipe_of hash check [] (seen command)) (g.O.Outside.io c.args.out.now) (g.O.Outside.io c.apply.new.out) c.apply.result) (sym c.in-Apply.is) c.apply.ensures
