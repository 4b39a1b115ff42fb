use Rattle.std.proofs.Common.{ap, ◌∙◌, string_bytes}
use Rattle.std.specs.FinMap as finite
use Rattle.outside.specs.Begun.{contents_of}
use Rattle.outside.proofs.Stored.{contents-insert}
use Rattle.outside.proofs.contents.set_content.Goals as goal

pub returns-clause-ok : goal.returns-clause-ok
returns-clause-ok c =
    contents-insert c.args.files.now c.insert.new.self (string_bytes c.in_ok-name.name) c.args.bytes c.in_ok-insert.ensures.updates
    ∙ ap (λ bs. finite.insert (contents_of c.args.files.now) bs c.args.bytes.items) c.in_ok-name.ensures.ok
