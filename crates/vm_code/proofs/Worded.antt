-- Texts of instructions with an argument.
use Rattle.std.proofs.Common.{◌≡◌, ℕ, ◌≤◌, List, ◌++◌, true, false, sym, ◌∙◌, arith, codes}
use Rattle.std.specs.Prelude.{decimal, nat_le}
use Rattle.std.proofs.lemmas.List.{append_assoc}
use Rattle.std.proofs.lemmas.Bool.{cond-true, cond-false, le-leb, lt-leb, and_from, and_right}
use Rattle.hex.specs.Hex.{encode_lower}
use Rattle.vm_code.specs.Instruction.{Decoded, is_data, is_jump}
use Rattle.vm_code.specs.Names.{name_of}
use Rattle.vm_code.specs.Text.{text_of, is_counted}

pub counted_worded : (d : Decoded) → 76 ≤ d.code → d.code ≤ 78 → text_of d ≡ name_of d.code ++ codes ":" ++ encode_lower d.pushed
unfolding text_of
counted_worded d low high =
    let no_data : is_data d.code ≡ false = and_right (nat_le 1 d.code) _ (lt-leb d.code 75 low) in
    let count : is_counted d.code ≡ true = and_from _ _ (le-leb 76 d.code low) (le-leb d.code 78 high) in
    cond-false (is_data d.code) _ _ no_data ∙ cond-true (is_counted d.code) _ _ count

pub jump_worded : (d : Decoded) → 99 ≤ d.code → d.code ≤ 100 → text_of d ≡ name_of d.code ++ codes ":" ++ decimal d.target
unfolding text_of
jump_worded d low high =
    let no_data : is_data d.code ≡ false = and_right (nat_le 1 d.code) _ (lt-leb d.code 75 (omega arith)) in
    let no_count : is_counted d.code ≡ false = and_right (nat_le 76 d.code) _ (lt-leb d.code 78 (omega arith)) in
    let jumps : is_jump d.code ≡ true = and_from _ _ (le-leb 99 d.code low) (le-leb d.code 100 high) in
    cond-false (is_data d.code) _ _ no_data ∙ (cond-false (is_counted d.code) _ _ no_count ∙ cond-true (is_jump d.code) _ _ jumps)

-- what is written of them
pub counted_written : (d : Decoded) (text : List ℕ) → 76 ≤ d.code → d.code ≤ 78 → text ≡ name_of d.code ++ (codes ":" ++ encode_lower d.pushed) → text ≡ text_of d
counted_written d text low high is = is ∙ (sym (append_assoc (name_of d.code) (codes ":") (encode_lower d.pushed)) ∙ sym (counted_worded d low high))

pub jump_written : (d : Decoded) (text : List ℕ) → 99 ≤ d.code → d.code ≤ 100 → text ≡ name_of d.code ++ (codes ":" ++ decimal d.target) → text ≡ text_of d
jump_written d text low high is = is ∙ (sym (append_assoc (name_of d.code) (codes ":") (decimal d.target)) ∙ sym (jump_worded d low high))
