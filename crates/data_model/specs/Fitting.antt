-- What is within the limits by the names of its fields is within those of its layout, and the other way round. Laws
-- with their proofs.
use Rattle.std.specs.Prelude.{◌≡◌, ℕ, ◌^◌, ◌<◌, List, [], ◌∷◌, length, map, None, ◌↔◌, refl}
use Rattle.std.specs.List.{AllByRecursion}
use Rattle.std.proofs.Common.{sym, subst, arith}
use Rattle.std.proofs.lemmas.List.{length-map}
use Rattle.wire.specs.Layout.{Layout, Text, Many, Value, Fits, FieldsFit, IsNumber}
use Rattle.data_model.specs.declared.header.Header.{Header}
use Rattle.data_model.specs.declared.output_body.OutputBody.{OutputBody}
use Rattle.data_model.specs.declared.input.Issue.{Issue}
use Rattle.data_model.specs.declared.input.Spend.{Spend}
use Rattle.data_model.specs.declared.input.Input.{Input}
use Rattle.data_model.specs.declared.output.Control.{Control}
use Rattle.data_model.specs.declared.output.Retire.{Retire}
use Rattle.data_model.specs.declared.output.Output.{Output}
use Rattle.data_model.specs.declared.tx.Tx.{Tx}
use Rattle.data_model.specs.Limits.{longest, most_args, args_layout, IsAmount, IsString, AtMost, AreArgs}
use Rattle.wire.specs.Spelling.{greatest}
use Rattle.data_model.specs.Transaction.{most_inputs, most_outputs, body_layout, body_parts, IsBody}
use Rattle.data_model.specs.Transaction.{issue_layout, issue_parts, IsIssue, spend_layout, spend_parts, IsSpend}
use Rattle.data_model.specs.Transaction.{input_layout, input_parts, IsInput, control_layout, control_parts, IsControl}
use Rattle.data_model.specs.Transaction.{retire_layout, retire_parts, IsRetire, output_layout, output_parts, IsOutput}
use Rattle.data_model.specs.Transaction.{tx_layout, tx_parts, IsTx}
use Rattle.data_model.specs.Layout.{header_fields}
use Rattle.data_model.specs.Spelling.{IsHeader}

-- ---- fields

number : (n : ℕ) → n < 2 ^ 63 → IsNumber 0 greatest n
number n h = record { least_at_most = omega arith; at_most = omega arith; spelled = h }

amount : (n : ℕ) → IsAmount n → IsNumber 1 greatest n
amount n h = record { least_at_most = h.some; at_most = omega (arith, h.small); spelled = h.small }

is_amount : (n : ℕ) → IsNumber 1 greatest n → IsAmount n
is_amount n h = record { some = h.least_at_most; small = h.spelled }

text : (bytes : List ℕ) → IsString bytes → Fits (Text longest) bytes
text bytes h = record { least_at_most = omega arith; at_most = h; spelled = omega (arith, h) }

-- ---- lists

module _ {X : Type 0} (fits : X → Type 0) (each : Layout) (parts : X → Value each)
    (same : (x : X) → fits x ↔ Fits each (parts x)) where
  all : (xs : List X) → AllByRecursion fits xs → AllByRecursion (Fits each) (map parts xs)
  all [] h = tt
  all (x ∷ xs) h = ((same x).0 h.0, all xs h.1)

  are_all : (xs : List X) → AllByRecursion (Fits each) (map parts xs) → AllByRecursion fits xs
  are_all [] h = tt
  are_all (x ∷ xs) h = ((same x).1 h.0, are_all xs h.1)

  module _ (most : ℕ) (few : most < 2 ^ 63) where
    list : (xs : List X) → AtMost most fits xs → Fits (Many most None each) (map parts xs)
    list xs h =
        let count : length (map parts xs) ≡ length xs = length-map xs parts in (
          record {
            least_at_most = omega arith;
            at_most = omega (arith, h.count, count);
            spelled = omega (arith, h.count, count, few);
          },
          record { each = all xs h.each; within = tt },
        )

    is_list : (xs : List X) → Fits (Many most None each) (map parts xs) → AtMost most fits xs
    is_list xs h = record { count = omega (arith, h.0.at_most, length-map xs parts); each = are_all xs h.1.each }

itself : (args : List (List ℕ)) → map (λ arg. arg) args ≡ args
itself [] = refl
itself (arg ∷ args) = λ i. arg ∷ itself args i

pub args_fit : (args : List (List ℕ)) → AreArgs args ↔ Fits args_layout args
args_fit args =
    let same : (arg : List ℕ) → IsString arg ↔ Fits (Text longest) arg = λ arg. (text arg, λ h. h.at_most) in
    let few : most_args < 2 ^ 63 = omega arith in (
      λ h. subst (Fits args_layout) (itself args) (list IsString (Text longest) (λ arg. arg) same most_args few args h),
      λ h. is_list IsString (Text longest) (λ arg. arg) same most_args few args
          (subst (Fits args_layout) (sym (itself args)) h),
    )

-- ---- headers

pub header_fits : (header : Header) → IsHeader header ↔ FieldsFit header_fields header
header_fits header = (
  λ h. (
    number _ h.version,
    (number _ h.height, (h.previous, (number _ h.time, (h.tx_root, (h.unspent_root, text _ h.next_program))))),
  ),
  λ (version, (height, (previous, (time, (tx_root, (unspent_root, next_program)))))). record {
    version = version.spelled;
    height = height.spelled;
    previous = previous;
    time = time.spelled;
    tx_root = tx_root;
    unspent_root = unspent_root;
    next_program = next_program.at_most;
  },
)

-- ---- transactions

pub body_fits : (body : OutputBody) → IsBody body ↔ Fits body_layout (body_parts body)
body_fits body = (
  λ h. (h.source, (number _ h.position, (h.asset, (amount _ h.amount, (text _ h.program, h.data_hash))))),
  λ (source, (position, (asset, (amount, (program, data_hash))))). record {
    source = source;
    position = position.spelled;
    asset = asset;
    amount = is_amount _ amount;
    program = program.at_most;
    data_hash = data_hash;
  },
)

pub issue_fits : (issue : Issue) → IsIssue issue ↔ Fits issue_layout (issue_parts issue)
issue_fits issue = (
  λ h. (
    text _ h.nonce,
    (
      h.asset,
      (
        amount _ h.amount,
        (text _ h.program, (text _ h.definition, (text _ h.refdata, (args_fit issue.args).0 h.args))),
      ),
    ),
  ),
  λ (nonce, (asset, (amount, (program, (definition, (refdata, args)))))). record {
    nonce = nonce.at_most;
    asset = asset;
    amount = is_amount _ amount;
    program = program.at_most;
    definition = definition.at_most;
    refdata = refdata.at_most;
    args = (args_fit issue.args).1 args;
  },
)

pub spend_fits : (spend : Spend) → IsSpend spend ↔ Fits spend_layout (spend_parts spend)
spend_fits spend = (
  λ h. ((body_fits spend.from).0 h.from, (text _ h.refdata, (args_fit spend.args).0 h.args)),
  λ (from, (refdata, args)). record {
    from = (body_fits spend.from).1 from;
    refdata = refdata.at_most;
    args = (args_fit spend.args).1 args;
  },
)

pub input_fits : (input : Input) → IsInput input ↔ Fits input_layout (input_parts input)
input_fits (Input.Issue issue) = (λ h. (omega arith, (issue_fits issue).0 h), λ h. (issue_fits issue).1 h.1)
input_fits (Input.Spend spend) = (λ h. (omega arith, (spend_fits spend).0 h), λ h. (spend_fits spend).1 h.1)

pub control_fits : (control : Control) → IsControl control ↔ Fits control_layout (control_parts control)
control_fits control = (
  λ h. (h.asset, (amount _ h.amount, (text _ h.program, text _ h.refdata))),
  λ (asset, (amount, (program, refdata))). record {
    asset = asset;
    amount = is_amount _ amount;
    program = program.at_most;
    refdata = refdata.at_most;
  },
)

pub retire_fits : (retire : Retire) → IsRetire retire ↔ Fits retire_layout (retire_parts retire)
retire_fits retire = (
  λ h. (h.asset, (amount _ h.amount, text _ h.refdata)),
  λ (asset, (amount, refdata)). record { asset = asset; amount = is_amount _ amount; refdata = refdata.at_most },
)

pub output_fits : (output : Output) → IsOutput output ↔ Fits output_layout (output_parts output)
output_fits (Output.Control control) =
    (λ h. (omega arith, (control_fits control).0 h), λ h. (control_fits control).1 h.1)
output_fits (Output.Retire retire) = (λ h. (omega arith, (retire_fits retire).0 h), λ h. (retire_fits retire).1 h.1)

pub tx_fits : (tx : Tx) → IsTx tx ↔ Fits tx_layout (tx_parts tx)
tx_fits tx =
    let few : most_inputs < 2 ^ 63 = omega arith in (
      λ h. (
        number _ h.version,
        (
          number _ h.mintime,
          (
            number _ h.maxtime,
            (
              text _ h.refdata,
              (
                list IsInput input_layout input_parts input_fits most_inputs few tx.inputs h.inputs,
                list IsOutput output_layout output_parts output_fits most_outputs few tx.outputs h.outputs,
              ),
            ),
          ),
        ),
      ),
      λ (version, (mintime, (maxtime, (refdata, (inputs, outputs))))). record {
        version = version.spelled;
        mintime = mintime.spelled;
        maxtime = maxtime.spelled;
        refdata = refdata.at_most;
        inputs = is_list IsInput input_layout input_parts input_fits most_inputs few tx.inputs inputs;
        outputs = is_list IsOutput output_layout output_parts output_fits most_outputs few tx.outputs outputs;
      },
    )
