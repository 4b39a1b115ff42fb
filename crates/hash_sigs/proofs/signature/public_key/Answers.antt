use Rattle.std.proofs.Common.{◌≡◌, ◌++◌, ap, ◌∙◌}
use Rattle.hash_sigs.specs.Strings.{u32str}
use Rattle.hash_sigs.specs.Key.{public_key, typecode}
use Rattle.hash_sigs.proofs.signature.public_key.Goals as goal

pub returns : goal.returns
unfolding public_key
returns c =
    let first : c.extend_from_slice.new.self.items ≡ u32str (typecode c.args.origin.now.height) =
    c.in_ok-extend_from_slice.ensures.items
    ∙ ap (λ x. x ++ c.u32str.result) c.in_ok-key.ensures.items
    ∙ c.u32str.ensures ∙ ap (λ n. u32str n) c.typecode.ensures in
    cc (
      first,
      c.in_ok-extend_from_slice-2.ensures.items,
      c.in_ok-extend_from_slice-3.ensures.items,
      c.in_ok-extend_from_slice-4.ensures.items,
      c.u32str-2.ensures,
      c.id.ensures.value,
      c.requires,
    )
