use Rattle.std.proofs.Common.{◌≡◌, ◌++◌, get_or, ℕ, length, subst, sym, ap, ◌∙◌}
use Rattle.hash_sigs.specs.Strings.{u32str, joined}
use Rattle.hash_sigs.specs.OneTime.{digits, message_hash}
use Rattle.hash_sigs.specs.Key.{IsHeight, public_key, signature, own_y, own_chain, own_randomizer}
use Rattle.hash_sigs.specs.Signature.{lms}
use Rattle.hash_sigs.proofs.Good.{good}
use Rattle.hash_sigs.proofs.signature.signed.Goals as goal

whole : goal.returns-clause-signature
unfolding signature own_y
whole c =
    let first : c.extend_from_slice.new.self.items ≡ u32str c.args.q =
    c.in_ok-extend_from_slice.ensures.items
    ∙ ap (λ x. x ++ c.u32str.result) c.in_ok-bytes.ensures.items
    ∙ c.u32str.ensures in
    let o = c.args.origin.now in
    let hashed : c.message_hash.result ≡ message_hash o.id c.args.q (own_randomizer o c.args.q) c.args.message.now =
    cc (c.message_hash.ensures, c.id.ensures.value, c.randomizer-randomizer.ensures) in
    let a : c.digits-digits.result ≡ digits (message_hash o.id c.args.q (own_randomizer o c.args.q) c.args.message.now) =
    c.digits-digits.ensures ∙ ap (λ x. digits x) hashed in
    let chains : joined (λ i. own_chain o c.args.q i (get_or c.digits-digits.result i 0)) 34 ≡ joined (own_y o c.args.q c.args.message.now) 34 =
    ap (λ d. joined (λ i. own_chain o c.args.q i (get_or d i 0)) 34) a in
    cc (
      first,
      chains,
      c.in_ok-extend_from_slice-2.ensures.items,
      c.in_ok-extend_from_slice-3.ensures.items,
      c.in_ok-append_chains.ensures,
      c.in_ok-extend_from_slice-4.ensures.items,
      c.in_ok-append_path.ensures,
      c.u32str-2.ensures,
      c.u32str-3.ensures,
      c.typecode.ensures,
      c.randomizer-randomizer.ensures,
    )

pub returns-clause-signature : goal.returns-clause-signature
returns-clause-signature c = whole c

pub returns-clause-good : goal.returns-clause-good
returns-clause-good c =
    let o = c.args.origin.now in
    let tall : IsHeight o.height = subst (λ (h : ℕ). IsHeight h) c.height.ensures.value c.height.ensures.height in
    let id : length o.id ≡ 16 = ap length (sym c.id.ensures.value) ∙ c.id.ensures.len in
    ap (λ s. lms (public_key o) c.args.message.now s) (whole c) ∙ good o c.args.q c.args.message.now tall id c.requires.leaf
