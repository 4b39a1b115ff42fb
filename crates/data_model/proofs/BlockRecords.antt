-- Headers and blocks are the values of their layouts.
use Rattle.std.proofs.Common.{◌≡◌, ℕ, List, [], ◌∷◌, ◌++◌, length, Some, refl, sym, ap, ◌∙◌, append_assoc, arith}
use Rattle.std.specs.Prelude.{map, ◌↔◌}
use Rattle.std.specs.List.{flat_map, AllByRecursion}
use Rattle.std.proofs.lemmas.List.{length-map}
use Rattle.wire.specs.Places.{whole_at}
use Rattle.wire.specs.Layout.{Layout, Then, Value, Fits, spelling, FieldsFit, fields_spelling}
use Rattle.wire.specs.FirstFault.{FirstFault}
use Rattle.wire.specs.Readers.{IsReader, IsWholeReader}
use Rattle.wire.specs.LayoutLaws.{SpellingLaws, LayoutLaws, RecordLaws}
use Rattle.wire.specs.Declaring.{Declared, itself, field, both, list_of, named, named_stand, named_reader, record_laws}
use Rattle.wire.specs.Records.{StandFor, mapped_reader, same_reader, both_of, many_spelling_map, flat_map-map}
use Rattle.data_model.specs.declared.header.Header.{Header}
use Rattle.data_model.specs.declared.block.Block.{Block}
use Rattle.data_model.specs.declared.tx.Tx.{Tx}
use Rattle.data_model.specs.Limits.{args_layout}
use Rattle.data_model.specs.Layout.{most_txs, most_tx_bytes, header_fields, header_layout, txs_layout, block_fields, block_layout}
use Rattle.data_model.specs.Spelling.{IsHeader, AreTxs, IsBlock, args_spelling, header_spelling, txs_spelling, block_spelling}
use Rattle.data_model.specs.Fitting.{args_fit, header_fits, tx_fits}
use Rattle.data_model.specs.Reading.{args_at, header_made, header_at, txs_at, block_of, next_block_at, block_at}
use Rattle.data_model.specs.Transaction.{tx_layout, tx_parts, IsTx, tx_spelling}
use Rattle.data_model.specs.TransactionReading.{next_tx_at}
use Rattle.data_model.proofs.TransactionRecords.{tx_made, tx_declared}
use Rattle.data_model.specs.Laws.{BlockLaws}

-- ---- headers

header_declared : Declared header_layout header_made header_fields.parts header_at
header_declared = record { has = record { again = λ h fits. refl; kept = λ v fits. refl }; same = λ p. refl }

pub header_reader : LayoutLaws → IsReader IsHeader header_spelling (FirstFault header_layout) header_at
unfolding header_spelling
header_reader laws = named_reader header_layout header_made header_fields.parts IsHeader header_fits header_at header_declared laws

-- ---- blocks

txs_spelled : (txs : List Tx) → spelling txs_layout (map tx_parts txs) ≡ txs_spelling txs
unfolding tx_spelling
txs_spelled txs = many_spelling_map tx_parts (spelling tx_layout) txs

txs_size : (txs : List Tx) → length (flat_map (spelling tx_layout) (map tx_parts txs)) ≡ length (flat_map tx_spelling txs)
unfolding tx_spelling
txs_size txs = ap (λ (bytes : List ℕ). length bytes) (flat_map-map tx_parts (spelling tx_layout) txs)

parts_fit : (txs : List Tx) → AllByRecursion IsTx txs → AllByRecursion (Fits tx_layout) (map tx_parts txs)
parts_fit [] h = tt
parts_fit (tx ∷ txs) h = ((tx_fits tx).0 h.0, parts_fit txs h.1)

fit_parts : (txs : List Tx) → AllByRecursion (Fits tx_layout) (map tx_parts txs) → AllByRecursion IsTx txs
fit_parts [] h = tt
fit_parts (tx ∷ txs) h = ((tx_fits tx).1 h.0, fit_parts txs h.1)

txs_fit : (txs : List Tx) → AreTxs txs → Fits txs_layout (map tx_parts txs)
txs_fit txs h =
    let same = length-map txs tx_parts in (
      record { least_at_most = omega arith; at_most = omega (arith, h.count, same); spelled = omega (arith, h.count, same) },
      record { each = parts_fit txs h.each; within = omega (arith, h.within, txs_size txs) },
    )

fit_txs : (txs : List Tx) → Fits txs_layout (map tx_parts txs) → AreTxs txs
fit_txs txs h =
    let same = length-map txs tx_parts in
    record {
      count = omega (arith, h.0.at_most, same);
      each = fit_parts txs h.1.each;
      within = omega (arith, h.1.within, txs_size txs);
    }

block_spelled : (block : Block) → fields_spelling block_fields block ≡ block_spelling block
unfolding block_spelling header_spelling
block_spelled block =
    ap (λ (txs : List ℕ). header_spelling block.header ++ (args_spelling block.args ++ txs)) (txs_spelled block.txs)
    ∙ sym (append_assoc (header_spelling block.header) (args_spelling block.args) (txs_spelling block.txs))

block_fits : (block : Block) → IsBlock block ↔ FieldsFit block_fields block
block_fits block = (
  λ h. ((header_fits block.header).0 h.header, ((args_fit block.args).0 h.args, txs_fit block.txs h.txs)),
  λ (header, (args, txs)). record {
    header = (header_fits block.header).1 header;
    args = (args_fit block.args).1 args;
    txs = fit_txs block.txs txs;
  },
)

abbrev block_from : Block → Header × (List (List ℕ) × List Tx)
block_from b = (b.header, (b.args, b.txs))

txs_declared : Declared txs_layout (map tx_made) (map tx_parts) txs_at
txs_declared = list_of tx_layout tx_made tx_parts next_tx_at tx_declared most_txs (Some most_tx_bytes)

abbrev behind_header : Layout
behind_header = Then args_layout txs_layout

abbrev block_made : Value block_layout → Block
block_made v = block_of (both_of header_made (both_of itself (map tx_made)) v)

block_declared : Declared block_layout block_made block_fields.parts next_block_at
block_declared =
    named block_layout _ _ _ block_of block_from
    (both header_layout behind_header header_made header_fields.parts header_at _ _ _ header_declared
    (both args_layout txs_layout itself itself args_at (map tx_made) (map tx_parts) txs_at (field args_layout) txs_declared))
    (λ b. refl) (λ v. refl)

block_stand : StandFor (Fits block_layout) (spelling block_layout) IsBlock block_spelling block_made
block_stand =
    let named = named_stand block_layout block_made block_fields.parts IsBlock block_fits block_declared.has in
    record {
      there = λ v h. (let same = named.there v h in (same.0, same.1 ∙ block_spelled (block_made v)));
      back = λ block h. (let same = named.back block h in (same.0, same.1, same.2, sym (block_spelled block) ∙ same.3));
    }

pub block_reader : LayoutLaws → IsReader IsBlock block_spelling (FirstFault block_layout) next_block_at
block_reader laws =
    same_reader _ _ _ _ _ block_declared.same (mapped_reader _ _ IsBlock block_spelling _ _ block_made block_stand (laws.reader block_layout))

-- ---- the laws of both

pub block_laws : LayoutLaws → SpellingLaws IsHeader header_spelling (FirstFault header_layout) → SpellingLaws IsBlock block_spelling (FirstFault block_layout) → IsWholeReader IsBlock block_spelling (FirstFault block_layout) (whole_at next_block_at) → BlockLaws
unfolding block_at
block_laws layouts headers blocks whole =
    let laws : RecordLaws block_layout IsBlock block_spelling block_at = record_laws block_layout IsBlock block_spelling block_made block_stand layouts blocks next_block_at whole in
    record {
      spelled = laws.spelled;
      again = laws.again;
      one_form = λ a b ha hb e. (laws.one_form a b [] [] ha hb (ap (λ (bytes : List ℕ). bytes ++ []) e)).0;
      one_header = λ a b x y ha hb e. headers.one_form a b x y ha hb e;
      fault = laws.fault;
      within = laws.within;
      one_fault = laws.one_fault;
    }
