use Rattle.std.proofs.Common.{◌≡◌, ◌++◌, subst, sym}
use Rattle.std.specs.Prelude.{OnOk}
use Rattle.wire.specs.Layout.{spelling}
use Rattle.data_model.specs.declared.input.Input.{Input}
use Rattle.data_model.specs.Transaction.{input_layout, input_parts, IsInput}
use Rattle.data_model.proofs.TransactionRecords.{behind_kind}
use Rattle.data_model.proofs.tx_records.InputRecord.write.Goals as goal

pub write-requires : goal.write-requires
write-requires c = subst IsInput c.in-Issue.is c.requires

pub write-requires-in-Spend : goal.write-requires-in-Spend
write-requires-in-Spend c = subst IsInput c.in-Spend.is c.requires

pub returns-in_ok-kind-in-Issue : goal.returns-in_ok-kind-in-Issue
returns-in_ok-kind-in-Issue c =
    let IsWritten : Input → Type 0 = λ input. OnOk c.write.result (c.write.new.out ≡ c.args.out.now ++ spelling input_layout (input_parts input)) in
    subst IsWritten (sym c.in-Issue.is) (behind_kind _ _ _ _ _ _ c.in_ok-kind-in-Issue.ensures c.write.ensures)

pub returns-in_ok-kind-in-Spend : goal.returns-in_ok-kind-in-Spend
returns-in_ok-kind-in-Spend c =
    let IsWritten : Input → Type 0 = λ input. OnOk c.write-in-Spend.result (c.write-in-Spend.new.out ≡ c.args.out.now ++ spelling input_layout (input_parts input)) in
    subst IsWritten (sym c.in-Spend.is) (behind_kind _ _ _ _ _ _ c.in_ok-kind-in-Spend.ensures c.write-in-Spend.ensures)
