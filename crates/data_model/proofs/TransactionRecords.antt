-- Transactions and their parts are declared by their layouts.
use Rattle.std.proofs.Common.{◌≡◌, ◌++◌, ℕ, List, [], ◌∷◌, length, Result, None, refl, ap, subst, ◌∙◌, append_assoc}
use Rattle.std.specs.Prelude.{map, OnOk}
use Rattle.std.specs.List.{flat_map}
use Rattle.wire.specs.Spelling.{varint, varstring}
use Rattle.wire.specs.Places.{Place, Reading, then_at, number_at, text_at, many_at}
use Rattle.wire.specs.Layout.{Layout, Number, Text, ◌▸◌, Many, Value, read_at, spelling}
use Rattle.wire.specs.Records.{both_of, many_spelling_map}
use Rattle.wire.specs.Declaring.{Declared, itself, field, both, list_of, named, either, either_made}
use Rattle.data_model.specs.declared.output_body.OutputBody.{OutputBody}
use Rattle.data_model.specs.declared.input.Spend.{Spend}
use Rattle.data_model.specs.declared.input.Input.{Input}
use Rattle.data_model.specs.declared.output.Output.{Output}
use Rattle.data_model.specs.declared.tx.Tx.{Tx}
use Rattle.data_model.specs.Limits.{longest, args_layout}
use Rattle.wire.specs.Spelling.{greatest}
use Rattle.data_model.specs.Transaction.{most_inputs, most_outputs, body_layout, body_parts, issue_layout, issue_parts, spend_layout, spend_parts, input_layout, input_parts, control_layout, control_parts, retire_layout, retire_parts, output_layout, output_parts, tx_layout, tx_parts, tx_spelling}
use Rattle.data_model.specs.TransactionReading.{body_made, body_at, issue_made, issue_at, control_made, control_at, retire_made, retire_at, spend_of, spend_at, input_at, output_at, tx_of, lists_at, next_tx_at}

pub body_declared : Declared body_layout body_made body_parts body_at
body_declared = record { has = record { again = λ b h. refl; kept = λ v h. refl }; same = λ p. refl }

pub issue_declared : Declared issue_layout issue_made issue_parts issue_at
issue_declared = record { has = record { again = λ b h. refl; kept = λ v h. refl }; same = λ p. refl }

pub control_declared : Declared control_layout control_made control_parts control_at
control_declared = record { has = record { again = λ b h. refl; kept = λ v h. refl }; same = λ p. refl }

pub retire_declared : Declared retire_layout retire_made retire_parts retire_at
retire_declared = record { has = record { again = λ b h. refl; kept = λ v h. refl }; same = λ p. refl }

-- ---- spends

abbrev behind_body : Layout
behind_body = Text longest ▸ args_layout

abbrev spend_from : Spend → OutputBody × (List ℕ × List (List ℕ))
spend_from s = (s.from, (s.refdata, s.args))

abbrev pub spend_made : Value spend_layout → Spend
spend_made v = spend_of (both_of body_made itself v)

pub spend_declared : Declared spend_layout spend_made spend_parts spend_at
spend_declared =
    named spend_layout (both_of body_made itself) (both_of body_parts itself) (then_at body_at (read_at behind_body)) spend_of spend_from
    (both body_layout behind_body body_made body_parts body_at itself itself (read_at behind_body) body_declared (field behind_body))
    (λ s. refl) (λ v. refl)

-- ---- inputs and outputs

input_again : (input : Input) → either_made issue_layout spend_layout issue_made issue_parts issue_at spend_made spend_parts spend_at Input.Issue Input.Spend input_parts (input_parts input) ≡ input
input_again (Input.Issue issue) = refl
input_again (Input.Spend spend) = refl

pub input_declared : Declared input_layout (either_made issue_layout spend_layout issue_made issue_parts issue_at spend_made spend_parts spend_at Input.Issue Input.Spend input_parts) input_parts input_at
input_declared =
    either issue_layout spend_layout issue_made issue_parts issue_at spend_made spend_parts spend_at Input.Issue Input.Spend input_parts issue_declared spend_declared
    (record { first_parts = λ issue. refl; second_parts = λ spend. refl; again = λ input h. input_again input })

output_again : (output : Output) → either_made control_layout retire_layout control_made control_parts control_at retire_made retire_parts retire_at Output.Control Output.Retire output_parts (output_parts output) ≡ output
output_again (Output.Control control) = refl
output_again (Output.Retire retire) = refl

pub output_declared : Declared output_layout (either_made control_layout retire_layout control_made control_parts control_at retire_made retire_parts retire_at Output.Control Output.Retire output_parts) output_parts output_at
output_declared =
    either control_layout retire_layout control_made control_parts control_at retire_made retire_parts retire_at Output.Control Output.Retire output_parts control_declared retire_declared
    (record { first_parts = λ control. refl; second_parts = λ retire. refl; again = λ output h. output_again output })

-- ---- transactions

abbrev tx_from : Tx → ℕ × (ℕ × (ℕ × (List ℕ × (List Input × List Output))))
tx_from t = (t.version, (t.mintime, (t.maxtime, (t.refdata, (t.inputs, t.outputs)))))

-- a number, and then the rest
abbrev with_number : {A B : Type 0} → (A → B) → ℕ × A → ℕ × B
with_number f = both_of itself f

behind_number : {A : Type 0} (rest : Layout) (made : Value rest → A) (parts : A → Value rest) (read : Place → Reading A) → Declared rest made parts read
    → Declared (Number greatest ▸ rest) (with_number made) (with_number parts) (then_at (number_at 0 greatest) read)
behind_number rest made parts read d = both (Number greatest) rest itself itself (number_at 0 greatest) made parts read (field (Number greatest)) d

abbrev inputs_layout : Layout
inputs_layout = Many most_inputs None input_layout

abbrev outputs_layout : Layout
outputs_layout = Many most_outputs None output_layout

abbrev input_made : Value input_layout → Input
input_made = either_made issue_layout spend_layout issue_made issue_parts issue_at spend_made spend_parts spend_at Input.Issue Input.Spend input_parts

abbrev output_made : Value output_layout → Output
output_made = either_made control_layout retire_layout control_made control_parts control_at retire_made retire_parts retire_at Output.Control Output.Retire output_parts

abbrev lists_layout : Layout
lists_layout = inputs_layout ▸ outputs_layout

abbrev lists_made : Value lists_layout → List Input × List Output
lists_made = both_of (map input_made) (map output_made)

abbrev lists_parts : List Input × List Output → Value lists_layout
lists_parts = both_of (map input_parts) (map output_parts)

lists_declared : Declared lists_layout lists_made lists_parts lists_at
lists_declared =
    both inputs_layout outputs_layout (map input_made) (map input_parts) (many_at most_inputs None input_at) (map output_made) (map output_parts) (many_at most_outputs None output_at)
    (list_of input_layout input_made input_parts input_at input_declared most_inputs None)
    (list_of output_layout output_made output_parts output_at output_declared most_outputs None)

abbrev pub tx_made : Value tx_layout → Tx
tx_made v = tx_of (with_number (with_number (with_number (both_of itself lists_made))) v)

pub tx_declared : Declared tx_layout tx_made tx_parts next_tx_at
tx_declared =
    named tx_layout _ _ _ tx_of tx_from
    (behind_number _ _ _ _ (behind_number _ _ _ _ (behind_number _ _ _ _ (both (Text longest) lists_layout itself itself (text_at longest) lists_made lists_parts lists_at (field (Text longest)) lists_declared))))
    (λ t. refl) (λ v. refl)

abbrev pub input_spelling : Input → List ℕ
input_spelling input = spelling input_layout (input_parts input)

abbrev pub output_spelling : Output → List ℕ
output_spelling output = spelling output_layout (output_parts output)

-- a transaction's spelling, its lists as lists of records
pub tx_spelled : (tx : Tx) → tx_spelling tx
    ≡ varint tx.version ++ (varint tx.mintime ++ (varint tx.maxtime ++ (varstring tx.refdata
    ++ ((varint (length tx.inputs) ++ flat_map input_spelling tx.inputs) ++ (varint (length tx.outputs) ++ flat_map output_spelling tx.outputs)))))
unfolding tx_spelling
tx_spelled tx = rw (many_spelling_map input_parts (spelling input_layout) tx.inputs, many_spelling_map output_parts (spelling output_layout) tx.outputs) refl

-- what is written after the number of a kind
pub behind_kind : {E : Type 0} (r : Result (Unit {0}) E) (old out new rest : List ℕ) (k : ℕ) → out ≡ old ++ k ∷ [] → OnOk r (new ≡ out ++ rest) → OnOk r (new ≡ old ++ k ∷ rest)
behind_kind r old out new rest k e written = subst (λ (bytes : List ℕ). OnOk r (new ≡ bytes)) (ap (λ (front : List ℕ). front ++ rest) e ∙ append_assoc old (k ∷ []) rest) written
