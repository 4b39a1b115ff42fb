-- The lines of what the context gives: an input of a transaction, or a block.
use Rattle.std.specs.Prelude.{ℕ, ◌&&◌, ◌||◌, not, Bool, List, [], ◌∷◌, length, Option, Some, None, Result}
use Rattle.std.specs.Prelude.{Ok, Err, slice_get, pos, bytes_eq, nat_eq}
use Rattle.std.specs.Ordering.{int_eq}
use Rattle.vm_num.specs.Item.{Item, num, num_bytes}
use Rattle.vm_num.specs.declared.failure.Failure.{Failure}
use Rattle.vm_num.specs.declared.failure.Failure.TheVariants.{BadOpcode, BadValue}
use Rattle.vm_num.specs.declared.failure.Failure.TheVariants as failures
use Rattle.vm_ops.specs.Results.{truth_item, entry_at}
use Rattle.vm_stack.specs.Stacks.{item_at}
use Rattle.vm_run.specs.declared.transaction.OutSeen.{OutSeen}
use Rattle.vm_run.specs.Effect.{Context, Nothing, Tx, Block, TxContext, Row, Faults, Rule, does, push_row, always}
use Rattle.vm_run.specs.Effect.{needs, with_number, counted, in_block, in_tx}

-- An output under a program is as wanted: of this asset, this amount and this program, in version 1 of programs; and
-- where data is wanted, it is the output's hash of data.
abbrev pub is_output : OutSeen → Item → ℕ → Item → Bool → Item → Bool
is_output o refdata amount asset version_1 program =
    not o.retired
    && (bytes_eq o.asset asset
    && (nat_eq o.amount amount
    && (version_1
    && (bytes_eq o.program program && (nat_eq (length refdata) 0 || bytes_eq o.data_hash refdata)))))

abbrev pub answer_row : Result Bool Failure → Row
answer_row (Ok holds) = does 6 (truth_item holds ∷ []) 16
answer_row (Err kind) = Faults kind

abbrev pub output_row : Option OutSeen → Item → ℕ → Item → Bool → Item → Row
output_row None refdata amount asset version_1 program = answer_row (Err BadValue)
output_row (Some o) refdata amount asset version_1 program =
    answer_row (Ok (is_output o refdata amount asset version_1 program))

-- a place and an amount, neither negative, and whether a version is 1
unfoldable pub on_numbers : (ℕ → ℕ → Bool → Row) → (place amount version : Item) → Row
on_numbers rule place amount version =
    with_number (λ x.
    with_number (λ y.
    with_number (λ z. counted (λ p. counted (λ n. rule p n (int_eq z (pos 1))) y) x)
    (num version)) (num amount)) (num place)

-- a place, data, an amount, an asset, whether a version is 1, and a program
unfoldable pub on_wanted : (ℕ → Item → ℕ → Item → Bool → Item → Row) → Rule
on_wanted rule =
    needs 6 (λ items.
    on_numbers (λ p n v. rule p (item_at 4 items) n (item_at 2 items) v (item_at 0 items))
    (item_at 5 items) (item_at 3 items) (item_at 1 items))

-- CHECKOUTPUT
abbrev pub output_at : TxContext → ℕ → Item → ℕ → Item → Bool → Item → Row
output_at t place = output_row (slice_get t.outs place)

-- TXSIGHASH
abbrev pub sig_hash_row : TxContext → Row
sig_hash_row t = does 0 (t.sig_hash ∷ []) 256

-- OUTPUTID: of a spend alone
abbrev pub output_id_row : Option Item → Row
output_id_row None = Faults failures.Context
output_id_row (Some id) = push_row id

-- PROGRAM: of both
abbrev pub program_row : Context → Row
program_row Nothing = Faults failures.Context
program_row (Tx t) = push_row t.program
program_row (Block b) = push_row b.program

-- TXSIGHASH and BLOCKHASH, CHECKOUTPUT to OUTPUTID, NEXTPROGRAM and BLOCKTIME
abbrev pub context_table : Context → List (ℕ × Rule)
context_table context =
    (0xae, in_tx context (λ t. always (sig_hash_row t)))
    ∷ (0xaf, in_block context (λ b. push_row b.block_id))
    ∷ (0xc1, in_tx context (λ t. on_wanted (output_at t)))
    ∷ (0xc2, in_tx context (λ t. always (push_row t.asset)))
    ∷ (0xc3, in_tx context (λ t. always (push_row (num_bytes (pos t.amount)))))
    ∷ (0xc4, always (program_row context))
    ∷ (0xc5, in_tx context (λ t. always (push_row (num_bytes (pos t.mintime)))))
    ∷ (0xc6, in_tx context (λ t. always (push_row (num_bytes (pos t.maxtime)))))
    ∷ (0xc7, in_tx context (λ t. always (push_row t.data_hash)))
    ∷ (0xc8, in_tx context (λ t. always (push_row t.entry_data_hash)))
    ∷ (0xc9, in_tx context (λ t. always (push_row (num_bytes (pos t.index)))))
    ∷ (0xca, in_tx context (λ t. always (push_row t.entry_id)))
    ∷ (0xcb, in_tx context (λ t. always (output_id_row t.output_id)))
    ∷ (0xcd, in_block context (λ b. push_row b.next_program))
    ∷ (0xce, in_block context (λ b. push_row (num_bytes (pos b.time))))
    ∷ []

unfoldable pub context_rule : Context → ℕ → Rule
context_rule context code = entry_at (always (Faults BadOpcode)) (context_table context) code
