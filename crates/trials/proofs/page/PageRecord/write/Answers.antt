use Rattle.std.proofs.Common.{◌≡◌, ◌++◌, List, ℕ, length, append_assoc, subst, sym, ap, ◌∙◌}
use Rattle.std.specs.Prelude.{OnOk}
use Rattle.std.specs.List.{flat_map}
use Rattle.wire.specs.Spelling.{varint, varstring}
use Rattle.wire.specs.Layout.{Fits, spelling}
use Rattle.wire.specs.Records.{AllByRecursion-map, many_spelling_map}
use Rattle.trials.specs.declared.page.Entry.{Entry}
use Rattle.trials.specs.Page.{note_spelling, entry_layout, entry_parts, entry_spelling}
use Rattle.trials.proofs.page.PageRecord.write.Goals as goal

pub many-requires-clause-each : goal.many-requires-clause-each
many-requires-clause-each c = rw c.as_slice.ensures (AllByRecursion-map entry_parts (Fits entry_layout) c.args.self.now.entries c.requires.0.1.each)

pub returns : goal.returns
returns c =
    let old = c.args.out.now in
    let many : List Entry → List ℕ = λ xs. varint (length xs) ++ flat_map entry_spelling xs in
    let last = varstring (note_spelling c.args.self.now.last) in
    let slice = c.in_ok-many.ensures in
    let written = slice ∙ ap (λ (xs : List Entry). old ++ many xs) c.as_slice.ensures ∙ ap (λ (bytes : List ℕ). old ++ bytes) (sym (many_spelling_map entry_parts (spelling entry_layout) c.args.self.now.entries)) in
    subst (λ (bytes : List ℕ). OnOk c.frame.result (c.frame.new.self ≡ bytes)) (ap (λ (bytes : List ℕ). bytes ++ last) written ∙ append_assoc old _ last) c.frame.ensures
