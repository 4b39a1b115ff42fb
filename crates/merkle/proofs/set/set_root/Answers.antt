use Rattle.std.proofs.Common.{◌∙◌, sym}
use Rattle.std.proofs.lemmas.Bool.{eqb-true}
use Rattle.merkle.specs.Roots.{set_root}
use Rattle.merkle.proofs.Sets.{none_by_length}
use Rattle.merkle.proofs.set.set_root.Goals as goal

pub returns-then-is_empty : goal.returns-then-is_empty
unfolding set_root
returns-then-is_empty g c =
    c.hash.ensures ∙ sym (none_by_length (g.H.IdHash.hash_of c.args.hash.now) 256 c.args.ids.now (eqb-true _ _ (sym c.is_empty.ensures ∙ c.if-is_empty.true)))

pub returns : goal.returns
unfolding set_root
returns g c = c.root_from.ensures
