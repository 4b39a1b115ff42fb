-- Which fields a transaction and its parts have, one after the other; which of them are within the limits; and how they
-- are spelled.
use Rattle.std.specs.Prelude.{◌≡◌, ℕ, ◌^◌, ◌<◌, List, length, map, None}
use Rattle.wire.specs.Layout.{Layout, Number, Amount, Id, Text, Many, Kinds, or_else, only, Value, Fields, field_of}
use Rattle.wire.specs.Layout.{fields_of, ◌&◌, fields_spelling}
use Rattle.data_model.specs.declared.output_body.OutputBody.{OutputBody}
use Rattle.data_model.specs.declared.input.Issue.{Issue}
use Rattle.data_model.specs.declared.input.Spend.{Spend}
use Rattle.data_model.specs.declared.input.Input.{Input}
use Rattle.data_model.specs.declared.output.Control.{Control}
use Rattle.data_model.specs.declared.output.Retire.{Retire}
use Rattle.data_model.specs.declared.output.Output.{Output}
use Rattle.data_model.specs.declared.tx.Tx.{Tx}
use Rattle.data_model.specs.Limits.{longest, args_layout, IsAmount, IsString, AtMost, AreArgs}
use Rattle.wire.specs.Spelling.{greatest}

-- the most inputs and the most outputs of a transaction
abbrev pub most_inputs : ℕ
most_inputs = 256

abbrev pub most_outputs : ℕ
most_outputs = 256

-- ---- an unspent output, as a spend names it

abbrev pub body_fields : Fields OutputBody
body_fields =
    field_of Id (λ b. b.source)
    & field_of (Number greatest) (λ b. b.position)
    & field_of Id (λ b. b.asset)
    & field_of (Amount greatest) (λ b. b.amount)
    & field_of (Text longest) (λ b. b.program)
    & field_of Id (λ b. b.data_hash)

abbrev pub body_layout : Layout
body_layout = body_fields.layout

abbrev pub body_parts : OutputBody → Value body_layout
body_parts = body_fields.parts

pub record IsBody (body : OutputBody) : Type 0 where
  pub source : length body.source ≡ 32
  pub position : body.position < 2 ^ 63
  pub asset : length body.asset ≡ 32
  pub amount : IsAmount body.amount
  pub program : IsString body.program
  pub data_hash : length body.data_hash ≡ 32

unfoldable pub body_spelling : OutputBody → List ℕ
body_spelling = fields_spelling body_fields

-- ---- inputs

abbrev pub issue_fields : Fields Issue
issue_fields =
    field_of (Text longest) (λ i. i.nonce)
    & field_of Id (λ i. i.asset)
    & field_of (Amount greatest) (λ i. i.amount)
    & field_of (Text longest) (λ i. i.program)
    & field_of (Text longest) (λ i. i.definition)
    & field_of (Text longest) (λ i. i.refdata)
    & field_of args_layout (λ i. i.args)

abbrev pub issue_layout : Layout
issue_layout = issue_fields.layout

abbrev pub issue_parts : Issue → Value issue_layout
issue_parts = issue_fields.parts

pub record IsIssue (issue : Issue) : Type 0 where
  pub nonce : IsString issue.nonce
  pub asset : length issue.asset ≡ 32
  pub amount : IsAmount issue.amount
  pub program : IsString issue.program
  pub definition : IsString issue.definition
  pub refdata : IsString issue.refdata
  pub args : AreArgs issue.args

abbrev pub spend_fields : Fields Spend
spend_fields =
    fields_of body_fields (λ s. s.from)
    & field_of (Text longest) (λ s. s.refdata)
    & field_of args_layout (λ s. s.args)

abbrev pub spend_layout : Layout
spend_layout = spend_fields.layout

abbrev pub spend_parts : Spend → Value spend_layout
spend_parts = spend_fields.parts

pub record IsSpend (spend : Spend) : Type 0 where
  pub from : IsBody spend.from
  pub refdata : IsString spend.refdata
  pub args : AreArgs spend.args

-- 0 for an issuance, 1 for a spend
abbrev pub input_kinds : ℕ → Layout
input_kinds = or_else issue_layout (only spend_layout)

abbrev pub input_layout : Layout
input_layout = Kinds 2 input_kinds

abbrev pub input_parts : Input → Value input_layout
input_parts (Input.Issue issue) = (0, issue_parts issue)
input_parts (Input.Spend spend) = (1, spend_parts spend)

abbrev pub IsInput : Input → Type 0
IsInput (Input.Issue issue) = IsIssue issue
IsInput (Input.Spend spend) = IsSpend spend

-- ---- outputs

abbrev pub control_fields : Fields Control
control_fields =
    field_of Id (λ c. c.asset)
    & field_of (Amount greatest) (λ c. c.amount)
    & field_of (Text longest) (λ c. c.program)
    & field_of (Text longest) (λ c. c.refdata)

abbrev pub control_layout : Layout
control_layout = control_fields.layout

abbrev pub control_parts : Control → Value control_layout
control_parts = control_fields.parts

pub record IsControl (control : Control) : Type 0 where
  pub asset : length control.asset ≡ 32
  pub amount : IsAmount control.amount
  pub program : IsString control.program
  pub refdata : IsString control.refdata

abbrev pub retire_fields : Fields Retire
retire_fields =
    field_of Id (λ r. r.asset)
    & field_of (Amount greatest) (λ r. r.amount)
    & field_of (Text longest) (λ r. r.refdata)

abbrev pub retire_layout : Layout
retire_layout = retire_fields.layout

abbrev pub retire_parts : Retire → Value retire_layout
retire_parts = retire_fields.parts

pub record IsRetire (retire : Retire) : Type 0 where
  pub asset : length retire.asset ≡ 32
  pub amount : IsAmount retire.amount
  pub refdata : IsString retire.refdata

-- 0 for an output under a program, 1 for a retirement
abbrev pub output_kinds : ℕ → Layout
output_kinds = or_else control_layout (only retire_layout)

abbrev pub output_layout : Layout
output_layout = Kinds 2 output_kinds

abbrev pub output_parts : Output → Value output_layout
output_parts (Output.Control control) = (0, control_parts control)
output_parts (Output.Retire retire) = (1, retire_parts retire)

abbrev pub IsOutput : Output → Type 0
IsOutput (Output.Control control) = IsControl control
IsOutput (Output.Retire retire) = IsRetire retire

-- ---- transactions

abbrev pub tx_fields : Fields Tx
tx_fields =
    field_of (Number greatest) (λ t. t.version)
    & field_of (Number greatest) (λ t. t.mintime)
    & field_of (Number greatest) (λ t. t.maxtime)
    & field_of (Text longest) (λ t. t.refdata)
    & field_of (Many most_inputs None input_layout) (λ t. map input_parts t.inputs)
    & field_of (Many most_outputs None output_layout) (λ t. map output_parts t.outputs)

abbrev pub tx_layout : Layout
tx_layout = tx_fields.layout

abbrev pub tx_parts : Tx → Value tx_layout
tx_parts = tx_fields.parts

pub record IsTx (tx : Tx) : Type 0 where
  pub version : tx.version < 2 ^ 63
  pub mintime : tx.mintime < 2 ^ 63
  pub maxtime : tx.maxtime < 2 ^ 63
  pub refdata : IsString tx.refdata
  pub inputs : AtMost most_inputs IsInput tx.inputs
  pub outputs : AtMost most_outputs IsOutput tx.outputs

unfoldable pub tx_spelling : Tx → List ℕ
tx_spelling = fields_spelling tx_fields
