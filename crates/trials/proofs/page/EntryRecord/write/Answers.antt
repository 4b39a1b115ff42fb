use Rattle.std.proofs.Common.{◌≡◌, ◌++◌, ◌∷◌, [], append_assoc, subst, sym}
use Rattle.std.specs.Prelude.{OnOk}
use Rattle.trials.specs.declared.page.Entry.{Entry}
use Rattle.trials.specs.Page.{EntryFits, entry_spelling}
use Rattle.trials.proofs.page.EntryRecord.write.Goals as goal

pub write-requires : goal.write-requires
write-requires c = (subst EntryFits c.in-Note.is c.requires).1

pub returns-in_ok-kind-in-Note : goal.returns-in_ok-kind-in-Note
returns-in_ok-kind-in-Note c =
    let IsWritten : Entry → Type 0 = λ entry. OnOk c.write.result (c.write.new.out ≡ c.args.out.now ++ entry_spelling entry) in
    let added : c.kind-in-Note.new.self ≡ c.args.out.now ++ 1 ∷ [] = c.in_ok-kind-in-Note.ensures in
    subst IsWritten (sym c.in-Note.is) (rw (added, append_assoc) at c.write.ensures)
