use Rattle.std.proofs.Common.{ℕ, ◌≡◌, List, [], ◌∷◌, ◌++◌, length, ap, ◌∙◌, append-nil}
use Rattle.std.proofs.lemmas.List.{take_at, drop_at}
use borrow.Rule.Slice.PartMut.{put_mid}
use Rattle.hash_sigs.specs.OneTime.{digits}
use Rattle.hash_sigs.proofs.one_time.digits.Goals as goal

two_halves : (x y : List ℕ) → length x ≡ 32 → put_mid 32 2 (x ++ 0 ∷ 0 ∷ []) y ≡ x ++ y
two_halves x y h =
    rw (take_at x (0 ∷ 0 ∷ []) 32 h, drop_at x (0 ∷ 0 ∷ []) 32 h) (ap (λ z. x ++ z) (append-nil y))

pub returns : goal.returns
unfolding digits
returns c =
    let hash : c.copy_from_slice.new.self ≡ c.args.hash.now = c.copy_from_slice.ensures.after in
    two_halves c.copy_from_slice.new.self c.copy_from_slice-2.new.self c.copy_from_slice.ensures.len
    ∙ cc (hash, c.copy_from_slice-2.ensures.after, c.u16str.ensures, c.checksum.ensures)
