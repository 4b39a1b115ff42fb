-- Which fields a header and a block have, one after the other.
use Rattle.std.specs.Prelude.{ℕ, map, Some}
use Rattle.wire.specs.Layout.{Layout, Number, Id, Text, Many, Fields, field_of, fields_of, ◌&◌}
use Rattle.data_model.specs.declared.header.Header.{Header}
use Rattle.data_model.specs.declared.block.Block.{Block}
use Rattle.data_model.specs.Limits.{longest, args_layout}
use Rattle.wire.specs.Spelling.{greatest}
use Rattle.data_model.specs.Transaction.{tx_layout, tx_parts}

-- the most transactions of a block, and the most bytes that they take together
abbrev pub most_txs : ℕ
most_txs = 10000

abbrev pub most_tx_bytes : ℕ
most_tx_bytes = 16777216

abbrev pub header_fields : Fields Header
header_fields =
    field_of (Number greatest) (λ h. h.version)
    & field_of (Number greatest) (λ h. h.height)
    & field_of Id (λ h. h.previous)
    & field_of (Number greatest) (λ h. h.time)
    & field_of Id (λ h. h.tx_root)
    & field_of Id (λ h. h.unspent_root)
    & field_of (Text longest) (λ h. h.next_program)

abbrev pub header_layout : Layout
header_layout = header_fields.layout

abbrev pub txs_layout : Layout
txs_layout = Many most_txs (Some most_tx_bytes) tx_layout

abbrev pub block_fields : Fields Block
block_fields =
    fields_of header_fields (λ b. b.header)
    & field_of args_layout (λ b. b.args)
    & field_of txs_layout (λ b. map tx_parts b.txs)

abbrev pub block_layout : Layout
block_layout = block_fields.layout
