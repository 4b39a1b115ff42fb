-- Reading a transaction and its parts from left to right: what is made of the values of a layout.
use Rattle.std.specs.Prelude.{ℕ, List, None, Result}
use Rattle.wire.specs.Layout.{Text, ◌▸◌, Value, read_at}
use Rattle.wire.specs.Places.{Place, Fault, Reading, mapped, start, number_at, text_at, then_at, many_at, whole_at}
use Rattle.wire.specs.Declaring.{either_at}
use Rattle.data_model.specs.declared.output_body.OutputBody.{OutputBody}
use Rattle.data_model.specs.declared.input.Issue.{Issue}
use Rattle.data_model.specs.declared.input.Spend.{Spend}
use Rattle.data_model.specs.declared.input.Input.{Input}
use Rattle.data_model.specs.declared.output.Control.{Control}
use Rattle.data_model.specs.declared.output.Retire.{Retire}
use Rattle.data_model.specs.declared.output.Output.{Output}
use Rattle.data_model.specs.declared.tx.Tx.{Tx}
use Rattle.data_model.specs.Limits.{longest, args_layout}
use Rattle.wire.specs.Spelling.{greatest}
use Rattle.data_model.specs.Transaction.{most_inputs, most_outputs, body_layout, issue_layout, control_layout}
use Rattle.data_model.specs.Transaction.{retire_layout}

-- ---- records of fields alone

abbrev pub body_made : Value body_layout → OutputBody
body_made (source, (position, (asset, (amount, (program, data_hash))))) = record {
  source = source;
  position = position;
  asset = asset;
  amount = amount;
  program = program;
  data_hash = data_hash;
}

abbrev pub body_at : Place → Reading OutputBody
body_at place = mapped body_made (read_at body_layout place)

abbrev pub issue_made : Value issue_layout → Issue
issue_made (nonce, (asset, (amount, (program, (definition, (refdata, args)))))) = record {
  nonce = nonce;
  asset = asset;
  amount = amount;
  program = program;
  definition = definition;
  refdata = refdata;
  args = args;
}

abbrev pub issue_at : Place → Reading Issue
issue_at place = mapped issue_made (read_at issue_layout place)

abbrev pub control_made : Value control_layout → Control
control_made (asset, (amount, (program, refdata))) = record {
  asset = asset;
  amount = amount;
  program = program;
  refdata = refdata;
}

abbrev pub control_at : Place → Reading Control
control_at place = mapped control_made (read_at control_layout place)

abbrev pub retire_made : Value retire_layout → Retire
retire_made (asset, (amount, refdata)) = record { asset = asset; amount = amount; refdata = refdata }

abbrev pub retire_at : Place → Reading Retire
retire_at place = mapped retire_made (read_at retire_layout place)

-- ---- records of records

abbrev pub spend_of : OutputBody × (List ℕ × List (List ℕ)) → Spend
spend_of (from, (refdata, args)) = record { from = from; refdata = refdata; args = args }

abbrev pub spend_at : Place → Reading Spend
spend_at place = mapped spend_of (then_at body_at (read_at (Text longest ▸ args_layout)) place)

abbrev pub input_at : Place → Reading Input
input_at = either_at Input.Issue Input.Spend issue_at spend_at

abbrev pub output_at : Place → Reading Output
output_at = either_at Output.Control Output.Retire control_at retire_at

abbrev pub tx_of : ℕ × (ℕ × (ℕ × (List ℕ × (List Input × List Output)))) → Tx
tx_of (version, (mintime, (maxtime, (refdata, (inputs, outputs))))) = record {
  version = version;
  mintime = mintime;
  maxtime = maxtime;
  refdata = refdata;
  inputs = inputs;
  outputs = outputs;
}

abbrev pub lists_at : Place → Reading (List Input × List Output)
lists_at place = then_at (many_at most_inputs None input_at) (many_at most_outputs None output_at) place

abbrev pub next_tx_at : Place → Reading Tx
next_tx_at place =
    mapped tx_of
    (then_at (number_at 0 greatest)
    (then_at (number_at 0 greatest) (then_at (number_at 0 greatest) (then_at (text_at longest) lists_at)))
    place)

-- the transaction that all of the bytes spell
unfoldable pub tx_at : List ℕ → Result Tx Fault
tx_at bytes = whole_at next_tx_at (start bytes)
