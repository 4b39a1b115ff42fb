-- What every line of the table keeps: its base cost is at least 1, and it jumps at most to the program's end; and what
-- the lines keep that don't jump, and those on the data stack alone.
use Rattle.std.proofs.Common.{◌≡◌, ℕ, ◌+◌, ◌≤◌, Bool, true, false, cond, List, [], ◌∷◌, length, drop, min, max, leb, ltb, eqb, Option, Some, None, Ok, Err, ℤ, pos, negsuc, refl, sym, ◌∙◌, ap, arith}
use Rattle.std.specs.Prelude.{bytes_eq, slice_get, ◌&&◌, ◌||◌}
use Rattle.std.specs.Ordering.{int_eq}
use Rattle.std.proofs.lemmas.Bool.{cond_both, ltb-false, eqb-true, true≢false}
use Rattle.std.proofs.lemmas.Bool.Decides.{nat_tests}
use Rattle.vm_num.specs.Item.{Item, num, num_bytes, is_true}
use Rattle.vm_num.specs.declared.failure.Failure.TheVariants.{Underflow, BadOpcode, BadJump}
use Rattle.vm_code.specs.Instruction.{Decoded, is_jump, jump}
use Rattle.vm_ops.specs.Results.{ItemResult, entry_at-all}
use Rattle.vm_ops.specs.Bytes.{bytes_result, bytes_base}
use Rattle.vm_ops.specs.Signatures.{message_in}
use Rattle.vm_ops.specs.Numbers.{number_result, number_base, number_count}
use Rattle.vm_run.specs.Effect.{Context, Nothing, Tx, TxContext, Block, BlockContext, Row, Faults, Does, Calls, Rule}
use Rattle.vm_run.specs.Effect.{does, always, needs, on_one, on_two, on_three, on_alt, with_number, on_number}
use Rattle.vm_run.specs.Effect.{on_two_numbers, on_three_numbers, on_size, on_part, counted, by_count, in_block}
use Rattle.vm_run.specs.Effect.{in_tx, push_row}
use Rattle.keyed.specs.Functions.{Check}
use Rattle.vm_run.specs.Moving.{push_rule, jump_row, jump_if_row, verify_row, to_alt_row, from_alt_row, control_rule, drops, copies, moves, ifdup_row, nip_row, tuck_row, pick_row, roll_row, stack_table, stack_rule}
use Rattle.vm_run.specs.Making.{string_row, of_string, of_two_strings, of_size, of_part, size_row, equalverify_row, string_table, string_rule, number_row, of_number, of_two_numbers, of_three_numbers, of_numbers, numequalverify_row, number_table, number_rule, call_row, calls, high_rule}
use Rattle.vm_run.specs.Signing.{by_counts, signature_row, signatures_row}
use Rattle.vm_run.specs.Introspection.{sig_hash_row, on_numbers, on_wanted, output_row, output_at, output_id_row, program_row, context_table, context_rule}
use Rattle.vm_run.specs.declared.transaction.OutSeen.{OutSeen}
use Rattle.vm_stack.specs.Stacks.{item_at}
use Rattle.vm_run.specs.Row.{row}
use Rattle.vm_run.specs.Lines.{on_data, WorksOnData}

-- ---- base costs

one : 1 ≤ 1
one = omega arith

number_base-fair : (code : ℕ) → 1 ≤ number_base code
number_base-fair code = grind (arith, nat_tests)

bytes_base-fair : (code : ℕ) (a b item : Item) → 1 ≤ bytes_base code a b item
bytes_base-fair code a b item =
    entry_at-all (λ (base : ℕ). 1 ≤ base) (4 + length item) (
    (0x83, 1 + length a)
    ∷ (0x84, 1 + min (length a) (length b))
    ∷ (0x85, 1 + max (length a) (length b))
    ∷ (0x86, 1 + max (length a) (length b))
    ∷ (0x87, 1 + min (length a) (length b))
    ∷ (0xa8, max 64 (length a))
    ∷ []) code (omega arith) (omega arith, (omega arith, (omega arith, (omega arith, (omega arith, (omega arith, tt))))))

-- a fact in front of others
infixr 40 ◌&◌
◌&◌ : {A B : Type 0} → A → B → A × B
first & rest = (first, rest)

abbrev pub Within : ℕ → Option ℕ → Type 0
Within size None = Unit {0}
Within size (Some place) = place ≤ size

-- the base cost, and what is asked of what is popped and pushed on the alt stack, of the jump, and of a call
abbrev pub Asked : Type 1
Asked = ℕ → List Item → Option ℕ → Type 0

abbrev pub Fair : Asked → Type 0 → Row → Type 0
Fair P C (Faults kind) = Unit {0}
Fair P C (Does e) = (1 ≤ e.base) × P e.alt_pops e.alt_pushed e.jump
Fair P C (Calls program asked count) = C

-- of effects on the data stack alone it holds
module _ (P : Asked) (C : Type 0) (none : P 0 [] None) where
  abbrev FairRule : Rule → Type 0
  FairRule rule = (items alt : List Item) → Fair P C (rule items alt)

  either : (b : Bool) (x y : Row) → Fair P C x → Fair P C y → Fair P C (cond b x y)
  either true x y p q = p
  either false x y p q = q

  either_rule : (b : Bool) (x y : Rule) → FairRule x → FairRule y → FairRule (cond b x y)
  either_rule true x y p q = p
  either_rule false x y p q = q

  -- of a code's line it holds where it has to
  needed : (b : Bool) (x y : Rule) → (b ≡ true → FairRule x) → FairRule y → FairRule (cond b x y)
  needed true x y p q = p refl
  needed false x y p q = q

  -- ---- by what a line needs

  fixed : (rule : Row) → Fair P C rule → FairRule (always rule)
  fixed rule fair items alt = fair

  needing : (n : ℕ) (rule : List Item → Row) → ((items : List Item) → Fair P C (rule items)) → FairRule (needs n rule)
  needing n rule fair items alt = either (leb n (length items)) (rule items) (Faults Underflow) (fair items) tt

  single : (rule : Item → Row) → ((a : Item) → Fair P C (rule a)) → FairRule (on_one rule)
  single rule fair [] alt = tt
  single rule fair (a ∷ items) alt = fair a

  double : (rule : Item → Item → Row) → ((a b : Item) → Fair P C (rule a b)) → FairRule (on_two rule)
  double rule fair [] alt = tt
  double rule fair (b ∷ []) alt = tt
  double rule fair (b ∷ a ∷ items) alt = fair a b

  triple : (rule : Item → Item → Item → Row) → ((a b c : Item) → Fair P C (rule a b c)) → FairRule (on_three rule)
  triple rule fair [] alt = tt
  triple rule fair (c ∷ []) alt = tt
  triple rule fair (c ∷ b ∷ []) alt = tt
  triple rule fair (c ∷ b ∷ a ∷ items) alt = fair a b c

  of_alt : (rule : Item → Row) → ((a : Item) → Fair P C (rule a)) → FairRule (on_alt rule)
  of_alt rule fair items [] = tt
  of_alt rule fair items (a ∷ alt) = fair a

  numbered : (rule : ℤ → Row) → ((x : ℤ) → Fair P C (rule x)) → (x : Option ℤ) → Fair P C (with_number rule x)
  numbered rule fair None = tt
  numbered rule fair (Some x) = fair x

  number : (rule : ℤ → Row) → ((x : ℤ) → Fair P C (rule x)) → FairRule (on_number rule)
  number rule fair = single (λ a. with_number rule (num a)) (λ a. numbered rule fair (num a))

  two_numbers : (rule : ℤ → ℤ → Row) → ((x y : ℤ) → Fair P C (rule x y)) → FairRule (on_two_numbers rule)
  two_numbers rule fair =
      double (λ a b. with_number (λ x. with_number (rule x) (num b)) (num a)) (λ a b.
      numbered (λ x. with_number (rule x) (num b)) (λ x. numbered (rule x) (fair x) (num b)) (num a))

  three_numbers : (rule : ℤ → ℤ → ℤ → Row) → ((x y z : ℤ) → Fair P C (rule x y z)) → FairRule (on_three_numbers rule)
  three_numbers rule fair =
      triple (λ a b c. with_number (λ x. with_number (λ y. with_number (rule x y) (num c)) (num b)) (num a)) (λ a b c.
      numbered (λ x. with_number (λ y. with_number (rule x y) (num c)) (num b)) (λ x.
      numbered (λ y. with_number (rule x y) (num c)) (λ y. numbered (rule x y) (fair x y) (num c)) (num b)) (num a))

  sized : (rule : Item → ℤ → Row) → ((a : Item) (n : ℤ) → Fair P C (rule a n)) → FairRule (on_size rule)
  sized rule fair = double (λ a n. with_number (rule a) (num n)) (λ a n. numbered (rule a) (fair a) (num n))

  parted : (rule : Item → ℤ → ℤ → Row) → ((a : Item) (m n : ℤ) → Fair P C (rule a m n)) → FairRule (on_part rule)
  parted rule fair =
      triple (λ a m n. with_number (λ x. with_number (rule a x) (num n)) (num m)) (λ a m n.
      numbered (λ x. with_number (rule a x) (num n)) (λ x. numbered (rule a x) (fair a x) (num n)) (num m))

  counting : (rule : ℕ → List Item → Row) → ((n : ℕ) (below : List Item) → Fair P C (rule n below)) → FairRule (by_count rule)
  counting rule fair [] alt = tt
  counting rule fair (a ∷ below) alt = numbered (counted (λ n. rule n below)) by_sign (num a)
    where
      by_sign : (x : ℤ) → Fair P C (counted (λ n. rule n below) x)
      by_sign (pos n) = fair n below
      by_sign (negsuc n) = tt

  positive : (rule : ℕ → Row) → ((n : ℕ) → Fair P C (rule n)) → (x : ℤ) → Fair P C (counted rule x)
  positive rule fair (pos n) = fair n
  positive rule fair (negsuc n) = tt

  two_counts : (rule : ℕ → ℕ → List Item → Row) → ((m n : ℕ) (below : List Item) → Fair P C (rule m n below)) → FairRule (by_counts rule)
  two_counts rule fair [] alt = tt
  two_counts rule fair (n ∷ []) alt = tt
  two_counts rule fair (n ∷ m ∷ below) alt =
      numbered _ (λ x. numbered _ (λ y. positive _ (λ a. positive _ (λ b. fair a b below) y) x) (num n)) (num m)

  of_block : (f : BlockContext → Item) (context : Context) → FairRule (in_block context (λ b. push_row (f b)))
  of_block f Nothing items alt = tt
  of_block f (Tx t) items alt = tt
  of_block f (Block b) items alt = (one, none)

  -- ---- lines

  done : (pops : ℕ) (pushed : List Item) (base : ℕ) → 1 ≤ base → Fair P C (does pops pushed base)
  done pops pushed base least = (least, none)

  bad : FairRule (always (Faults BadOpcode))
  bad items alt = tt

  dropping : (n base : ℕ) → 1 ≤ base → FairRule (drops n base)
  dropping n base least = needing n _ (λ items. (least, none))

  copying : (under n base : ℕ) → 1 ≤ base → FairRule (copies under n base)
  copying under n base least = needing (under + n) _ (λ items. (least, none))

  moving : (under n base : ℕ) → 1 ≤ base → FairRule (moves under n base)
  moving under n base least = needing (under + n) _ (λ items. (least, none))

  stringy : (code pops : ℕ) (a b : Item) (rule : ItemResult) → Fair P C (string_row code pops a b rule)
  stringy code pops a b (Ok item) = (bytes_base-fair code a b item, none)
  stringy code pops a b (Err kind) = tt

  string : (code : ℕ) → FairRule (of_string code)
  string code = single _ (λ a. stringy code 1 a [] (bytes_result code a [] (pos 0) (pos 0)))

  two_strings : (code : ℕ) → FairRule (of_two_strings code)
  two_strings code = double _ (λ a b. stringy code 2 a b (bytes_result code a b (pos 0) (pos 0)))

  size_of : (code : ℕ) → FairRule (of_size code)
  size_of code = sized _ (λ a n. stringy code 2 a [] (bytes_result code a [] (pos 0) n))

  part_of : (code : ℕ) → FairRule (of_part code)
  part_of code = parted _ (λ a m n. stringy code 3 a [] (bytes_result code a [] m n))

  numeric : (code pops : ℕ) (rule : ItemResult) → Fair P C (number_row code pops rule)
  numeric code pops (Ok item) = (number_base-fair code, none)
  numeric code pops (Err kind) = tt

  -- ---- tables

  pushing : (i : Decoded) → FairRule (push_rule i)
  pushing i =
      either_rule (leb i.code 0x4e) _ _ (λ items alt. (one, none))
      (either_rule (eqb i.code 0x4f) _ _ (λ items alt. (one, none))
      (either_rule (eqb i.code 0x50) _ _ bad (λ items alt. (one, none))))

  -- with what holds of the codes of jumps and of the alt stack, where it is one of them
  control : (i : Decoded) (size : ℕ)
      → (eqb 0x63 i.code ≡ true → FairRule (always (jump_row 0 i.target size)))
      → (eqb 0x64 i.code ≡ true → FairRule (on_one (jump_if_row i.target size)))
      → (eqb 0x6b i.code ≡ true → FairRule (on_one to_alt_row))
      → (eqb 0x6c i.code ≡ true → FairRule (on_alt from_alt_row))
      → FairRule (control_rule i size)
  unfolding control_rule
  control i size jumps jumps_if to_alt from_alt =
      either_rule (eqb 0x61 i.code) _ _ (fixed (does 0 [] 1) (one, none))
      (needed (eqb 0x63 i.code) _ _ jumps
      (needed (eqb 0x64 i.code) _ _ jumps_if
      (either_rule (eqb 0x69 i.code) _ _ (single verify_row (λ t. either (is_true t) _ _ (one, none) tt))
      (either_rule (eqb 0x6a i.code) _ _ bad
      (needed (eqb 0x6b i.code) _ _ to_alt
      (needed (eqb 0x6c i.code) _ _ from_alt bad))))))

  stack : (code : ℕ) → FairRule (stack_rule code)
  unfolding stack_rule
  stack code =
      entry_at-all FairRule (always (Faults BadOpcode)) stack_table code bad
      (dropping 2 2 (omega arith)
      & copying 0 2 2 (omega arith)
      & copying 0 3 3 (omega arith)
      & copying 2 2 2 (omega arith)
      & moving 4 2 2 (omega arith)
      & moving 2 2 2 (omega arith)
      & single ifdup_row (λ t. either (is_true t) _ _ (one, none) (one, none))
      & (λ items alt. (one, none))
      & dropping 1 1 one
      & copying 0 1 1 one
      & double nip_row (λ a b. (one, none))
      & copying 1 1 1 one
      & counting pick_row (λ n below. either (ltb n (length below)) _ _ (omega arith, none) tt)
      & counting roll_row (λ n below. either (ltb n (length below)) _ _ (omega arith, none) tt)
      & moving 2 1 2 (omega arith)
      & moving 1 1 1 one
      & double tuck_row (λ a b. (one, none))
      & tt)

  strings : (code : ℕ) → FairRule (string_rule code)
  unfolding string_rule
  strings code =
      entry_at-all FairRule (always (Faults BadOpcode)) string_table code bad
      (two_strings 0x7e
      & part_of 0x7f
      & size_of 0x80
      & size_of 0x81
      & single size_row (λ a. (one, none))
      & string 0x83
      & two_strings 0x84
      & two_strings 0x85
      & two_strings 0x86
      & two_strings 0x87
      & double equalverify_row (λ a b. either (bytes_eq a b) _ _ (omega arith, none) tt)
      & two_strings 0x89
      & tt)

  of_count : (code : ℕ) → FairRule (of_numbers code)
  of_count code =
      entry_at-all FairRule (always (Faults BadOpcode)) ((1, of_number code) ∷ (2, of_two_numbers code) ∷ (3, of_three_numbers code) ∷ []) (number_count code) bad
      (number _ (λ x. numeric code 1 (number_result code x (pos 0) (pos 0)))
      & two_numbers _ (λ x y. numeric code 2 (number_result code x y (pos 0)))
      & three_numbers _ (λ x y z. numeric code 3 (number_result code x y z))
      & tt)

  numbers : (code : ℕ) → FairRule (number_rule code)
  unfolding number_rule
  numbers code =
      entry_at-all FairRule (of_numbers code) number_table code (of_count code)
      (double _ (λ a b. (omega arith, none))
      & double _ (λ a b. (omega arith, none))
      & two_numbers numequalverify_row (λ x y. either (int_eq x y) _ _ (omega arith, none) tt)
      & tt)

  calling : C → (below : List Item) (count : ℤ) (program : Item) (asked : ℤ)
      → Fair P C (call_row below count program asked)
  calling call below (pos count) program (pos asked) = either (leb count (length below)) _ _ call tt
  calling call below (pos count) program (negsuc n) = tt
  calling call below (negsuc n) program asked = tt

  pub predicate : C → FairRule calls
  predicate call items alt =
      triple _ (λ count program asked.
      numbered _ (λ n. numbered _ (calling call (drop 3 items) n program) (num asked)) (num count)) items alt

  signatures : (check : Check) (m n : ℕ) (below : List Item) → Fair P C (signatures_row check m n below)
  signatures check m n below =
      either (ltb n m || eqb m 0 && ltb 0 n) _ _ tt
      (either (ltb (length below) (n + 1 + m)) _ _ tt
      (either (eqb (length (message_in n below)) 32) _ _ (omega arith, none) tt))

  of_tx : (rule : TxContext → Rule) → ((t : TxContext) → FairRule (rule t)) → (context : Context) → FairRule (in_tx context rule)
  of_tx rule fair Nothing items alt = tt
  of_tx rule fair (Tx t) items alt = fair t items alt
  of_tx rule fair (Block b) items alt = tt

  tx_item : (f : TxContext → Item) (context : Context) → FairRule (in_tx context (λ t. always (push_row (f t))))
  tx_item f = of_tx (λ t. always (push_row (f t))) (λ t items alt. (one, none))

  program : (context : Context) → Fair P C (program_row context)
  program Nothing = tt
  program (Tx t) = (one, none)
  program (Block b) = (one, none)

  output : (o : Option OutSeen) (refdata : Item) (amount : ℕ) (asset : Item) (version_1 : Bool) (program : Item) → Fair P C (output_row o refdata amount asset version_1 program)
  output None refdata amount asset version_1 program = tt
  output (Some o) refdata amount asset version_1 program = (omega arith, none)

  checking : (t : TxContext) → FairRule (on_wanted (output_at t))
  unfolding on_wanted on_numbers
  checking t = needing 6 _ (λ items.
      numbered _ (λ x. numbered _ (λ y. numbered _ (λ z.
      positive _ (λ p. positive _ (λ n. output (slice_get t.outs p) _ n _ _ _) y) x) (num (item_at 1 items))) (num (item_at 3 items))) (num (item_at 5 items)))

  spent_id : (id : Option Item) → Fair P C (output_id_row id)
  spent_id None = tt
  spent_id (Some id) = (one, none)

  contexts : (context : Context) (code : ℕ) → FairRule (context_rule context code)
  unfolding context_rule
  contexts context code =
      entry_at-all FairRule (always (Faults BadOpcode)) (context_table context) code bad
      (of_tx (λ t. always (sig_hash_row t)) (λ t items alt. (omega arith, none)) context
      & of_block (λ b. b.block_id) context
      & of_tx (λ t. on_wanted (output_at t)) checking context
      & tx_item (λ t. t.asset) context
      & tx_item (λ t. num_bytes (pos t.amount)) context
      & fixed (program_row context) (program context)
      & tx_item (λ t. num_bytes (pos t.mintime)) context
      & tx_item (λ t. num_bytes (pos t.maxtime)) context
      & tx_item (λ t. t.data_hash) context
      & tx_item (λ t. t.entry_data_hash) context
      & tx_item (λ t. num_bytes (pos t.index)) context
      & tx_item (λ t. t.entry_id) context
      & of_tx (λ t. always (output_id_row t.output_id)) (λ t items alt. spent_id t.output_id) context
      & of_block (λ b. b.next_program) context
      & of_block (λ b. num_bytes (pos b.time)) context
      & tt)

  others : (context : Context) (check : Check) (code : ℕ) → (eqb 0xc0 code ≡ true → C)
      → FairRule (high_rule context check code)
  unfolding high_rule
  others context check code call =
      either_rule (eqb 0xa8 code) _ _ (string 0xa8)
      (either_rule (eqb 0xac code) _ _
      (triple (signature_row check) (λ s m k. either (eqb (length m) 32) _ _ (omega arith, none) tt))
      (either_rule (eqb 0xad code) _ _ (two_counts (signatures_row check) (signatures check))
      (needed (eqb 0xc0 code) _ _ (λ is. predicate (call is)) (contexts context code))))

  lines : (context : Context) (check : Check) (i : Decoded) (size : ℕ) → FairRule (control_rule i size)
      → (eqb 0xc0 i.code ≡ true → C) → (items alt : List Item) → Fair P C (row context check i size items alt)
  unfolding row
  lines context check i size controls call =
      either_rule (leb i.code 0x60) _ _ (pushing i)
      (either_rule (leb i.code 0x6c) _ _ controls
      (either_rule (leb i.code 0x7d) _ _ (stack i.code)
      (either_rule (leb i.code 0x89) _ _ (strings i.code)
      (either_rule (leb 0x8b i.code && leb i.code 0xa5) _ _ (numbers i.code) (others context check i.code call)))))

-- ---- every line

abbrev pub Inside : ℕ → Asked
Inside size alt_pops alt_pushed jump = Within size jump

jumping : (size pops place : ℕ) → Fair (Inside size) (Unit {0}) (jump_row pops place size)
jumping size pops place =
    cond_both (ltb size place) (Faults BadJump) _ (Fair (Inside size) (Unit {0})) (λ past. tt)
    (λ not_past. (one, ltb-false size place not_past))

pub row-fair : (context : Context) (check : Check) (i : Decoded) (size : ℕ) (items alt : List Item)
    → Fair (Inside size) (Unit {0}) (row context check i size items alt)
row-fair context check i size =
    lines (Inside size) (Unit {0}) tt context check i size
    (control (Inside size) (Unit {0}) tt i size
    (λ is. fixed (Inside size) (Unit {0}) tt (jump_row 0 i.target size) (jumping size 0 i.target))
    (λ is. single (Inside size) (Unit {0}) tt (jump_if_row i.target size)
    (λ t. either (Inside size) (Unit {0}) tt (is_true t) _ _ (jumping size 1 i.target) (one, tt)))
    (λ is. single (Inside size) (Unit {0}) tt to_alt_row (λ a. (omega arith, tt)))
    (λ is. of_alt (Inside size) (Unit {0}) tt from_alt_row (λ a. (omega arith, tt))))
    (λ is. tt)

-- ---- the line of an instruction that is no jump

no_jump : (code : ℕ) → is_jump code ≡ false → (jump : ℕ) → is_jump jump ≡ true → eqb jump code ≡ true → ⊥
no_jump code straight jump jumps is = true≢false (sym jumps ∙ ap is_jump (eqb-true jump code is) ∙ straight)

abbrev pub Onward : Asked
Onward alt_pops alt_pushed jump = jump ≡ None

-- it goes on after itself
pub row-straight : (context : Context) (check : Check) (i : Decoded) (size : ℕ) → is_jump i.code ≡ false
    → (items alt : List Item) → Fair Onward (Unit {0}) (row context check i size items alt)
row-straight context check i size straight =
    lines Onward (Unit {0}) refl context check i size
    (control Onward (Unit {0}) refl i size
    (λ is. absurd (no_jump i.code straight 0x63 refl is))
    (λ is. absurd (no_jump i.code straight 0x64 refl is))
    (λ is. single Onward (Unit {0}) refl to_alt_row (λ a. (omega arith, refl)))
    (λ is. of_alt Onward (Unit {0}) refl from_alt_row (λ a. (omega arith, refl))))
    (λ is. tt)

-- it is the same in a program of any length
unequal : (b : Bool) → (b ≡ true → ⊥) → b ≡ false
unequal true not = absurd (not refl)
unequal false not = refl

control-sizes : (i : Decoded) (size size' : ℕ) → is_jump i.code ≡ false → control_rule i size ≡ control_rule i size'
unfolding control_rule
control-sizes i size size' straight =
    rw (unequal (eqb 0x63 i.code) (no_jump i.code straight 0x63 refl))
    (rw (unequal (eqb 0x64 i.code) (no_jump i.code straight 0x64 refl)) refl)

pub row-sizes : (context : Context) (check : Check) (i : Decoded) (size size' : ℕ) (items alt : List Item)
    → is_jump i.code ≡ false → row context check i size items alt ≡ row context check i size' items alt
unfolding row
row-sizes context check i size size' items alt straight =
    ap (λ (controls : Rule).
    cond (leb i.code 0x60) (push_rule i)
    (cond (leb i.code 0x6c) controls
    (cond (leb i.code 0x7d) (stack_rule i.code)
    (cond (leb i.code 0x89) (string_rule i.code)
    (cond (leb 0x8b i.code && leb i.code 0xa5) (number_rule i.code) (high_rule context check i.code))))) items alt)
    (control-sizes i size size' straight)

-- ---- the line of a code on the data stack alone

abbrev OnData : Asked
OnData alt_pops alt_pushed jump = (alt_pops ≡ 0) × (alt_pushed ≡ []) × (jump ≡ None)

other_code : (code : ℕ) → on_data code ≡ true → (other : ℕ) → on_data other ≡ false → eqb other code ≡ true → ⊥
other_code code on other off is = true≢false (sym on ∙ sym (ap on_data (eqb-true other code is)) ∙ off)

row-on_data : (context : Context) (check : Check) (i : Decoded) (size : ℕ) → on_data i.code ≡ true
    → (items alt : List Item) → Fair OnData ⊥ (row context check i size items alt)
row-on_data context check i size on =
    lines OnData ⊥ (refl, refl, refl) context check i size
    (control OnData ⊥ (refl, refl, refl) i size
    (λ is. absurd (other_code i.code on 0x63 refl is))
    (λ is. absurd (other_code i.code on 0x64 refl is))
    (λ is. absurd (other_code i.code on 0x6b refl is))
    (λ is. absurd (other_code i.code on 0x6c refl is)))
    (other_code i.code on 0xc0 refl)

only_data : (rule : Row) → Fair OnData ⊥ rule → WorksOnData rule
only_data (Faults kind) fair = tt
only_data (Does e) fair = fair.1
only_data (Calls called asked count) fair = fair

pub works_on_data : (context : Context) (check : Check) (i : Decoded) (size : ℕ) (items alt : List Item)
    → on_data i.code ≡ true → WorksOnData (row context check i size items alt)
works_on_data context check i size items alt on =
    only_data (row context check i size items alt) (row-on_data context check i size on items alt)

-- ---- the lines of jumps

pub row-jump : (context : Context) (check : Check) (place size : ℕ) (items alt : List Item)
    → row context check (jump 0x63 place) size items alt ≡ jump_row 0 place size
unfolding row control_rule
row-jump context check place size items alt = refl

pub row-jump_if : (context : Context) (check : Check) (place size : ℕ) (items alt : List Item)
    → row context check (jump 0x64 place) size items alt ≡ on_one (jump_if_row place size) items alt
unfolding row control_rule
row-jump_if context check place size items alt = refl
