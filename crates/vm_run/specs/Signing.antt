-- The lines of signatures: CHECKSIG and CHECKMULTISIG.
use Rattle.std.specs.Prelude.{ℕ, ◌+◌, ◌*◌, ◌&&◌, ◌||◌, List, [], ◌∷◌, length, max, if◌then◌else◌, nat_eq, nat_lt}
use Rattle.vm_num.specs.Item.{Item, num}
use Rattle.vm_num.specs.declared.failure.Failure.TheVariants.{BadValue, Underflow}
use Rattle.vm_ops.specs.Results.{truth_item}
use Rattle.vm_ops.specs.Signatures.{is_multi_good, keys_in, message_in, signatures_in}
use Rattle.vm_run.specs.Effect.{Row, Faults, Rule, does, counted, with_number}
use Rattle.keyed.specs.Functions.{Check}

-- two counts on top, the deeper first, and the items below them
abbrev pub by_counts : (ℕ → ℕ → List Item → Row) → Rule
by_counts rule [] alt = Faults Underflow
by_counts rule (n ∷ []) alt = Faults Underflow
by_counts rule (n ∷ m ∷ below) alt =
    with_number (λ x. with_number (λ y. counted (λ a. counted (λ b. rule a b below) y) x) (num n)) (num m)

-- CHECKSIG: a signature, the message, the key
abbrev pub signature_row : Check → Item → Item → Item → Row
signature_row check signature message key =
    if nat_eq (length message) 32 then does 3 (truth_item (check key message signature) ∷ []) 1024
    else Faults BadValue

-- CHECKMULTISIG: m signatures, the message, n keys, and the two counts. The limit pays 1,024 for each key.
abbrev pub signatures_effect : Check → ℕ → ℕ → List Item → Row
signatures_effect check m n below =
    does (n + m + 3)
    (truth_item (is_multi_good check (keys_in n below) (message_in n below) (signatures_in m n below)) ∷ [])
    (max 1 (1024 * n))

abbrev pub signatures_row : Check → ℕ → ℕ → List Item → Row
signatures_row check m n below =
    if nat_lt n m || nat_eq m 0 && nat_lt 0 n then Faults BadValue
    else (if nat_lt (length below) (n + 1 + m) then Faults Underflow
    else (if nat_eq (length (message_in n below)) 32 then signatures_effect check m n below
    else Faults BadValue))
