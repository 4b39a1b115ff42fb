use Rattle.std.proofs.Common.{◌≡◌, ◌++◌, subst, sym}
use Rattle.std.specs.Prelude.{OnOk}
use Rattle.wire.specs.Layout.{spelling}
use Rattle.data_model.specs.declared.output.Output.{Output}
use Rattle.data_model.specs.Transaction.{output_layout, output_parts, IsOutput}
use Rattle.data_model.proofs.TransactionRecords.{behind_kind}
use Rattle.data_model.proofs.tx_records.OutputRecord.write.Goals as goal

pub write-requires : goal.write-requires
write-requires c = subst IsOutput c.in-Control.is c.requires

pub write-requires-in-Retire : goal.write-requires-in-Retire
write-requires-in-Retire c = subst IsOutput c.in-Retire.is c.requires

pub returns-in_ok-kind-in-Control : goal.returns-in_ok-kind-in-Control
returns-in_ok-kind-in-Control c =
    let IsWritten : Output → Type 0 = λ output. OnOk c.write.result (c.write.new.out ≡ c.args.out.now ++ spelling output_layout (output_parts output)) in
    subst IsWritten (sym c.in-Control.is) (behind_kind _ _ _ _ _ _ c.in_ok-kind-in-Control.ensures c.write.ensures)

pub returns-in_ok-kind-in-Retire : goal.returns-in_ok-kind-in-Retire
returns-in_ok-kind-in-Retire c =
    let IsWritten : Output → Type 0 = λ output. OnOk c.write-in-Retire.result (c.write-in-Retire.new.out ≡ c.args.out.now ++ spelling output_layout (output_parts output)) in
    subst IsWritten (sym c.in-Retire.is) (behind_kind _ _ _ _ _ _ c.in_ok-kind-in-Retire.ensures c.write-in-Retire.ensures)
