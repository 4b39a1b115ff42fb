-- A block within its limits is short enough for a frame.
use Rattle.std.proofs.Common.{ℕ, ◌*◌, ◌≤◌, List, [], ◌∷◌, length, ap, arith}
use Rattle.std.specs.List.{flat_map, AllByRecursion}
use Rattle.std.proofs.lemmas.List.{length-append}
use Rattle.wire.specs.Spelling.{varint, varstring}
use Rattle.wire.specs.Laws.{VarintLaws, VarstringLaws}
use Rattle.data_model.specs.declared.header.Header.{Header}
use Rattle.data_model.specs.declared.block.Block.{Block}
use Rattle.data_model.specs.Limits.{IsString, AreArgs}
use Rattle.data_model.specs.Spelling.{IsHeader, IsBlock, args_spelling, header_spelling, block_spelling}
use Rattle.data_model.specs.Files.{IsFramed}

module _ (numbers : VarintLaws) (strings : VarstringLaws) where
  text_len : (text : List ℕ) → IsString text → length (varstring text) ≤ 65545
  text_len text small =
      let few = numbers.few (length text) (omega (arith, small)) in
      omega (arith, small, ap length (strings.is text), length-append (varint (length text)) text)

  texts_len : (texts : List (List ℕ)) → AllByRecursion IsString texts → length (flat_map varstring texts) ≤ 65545 * length texts
  texts_len [] h = omega arith
  texts_len (text ∷ texts) h =
      let one = text_len text h.0 in
      let others = texts_len texts h.1 in
      omega (arith, length-append (varstring text) (flat_map varstring texts))

  args_len : (args : List (List ℕ)) → AreArgs args → length (args_spelling args) ≤ 4200000
  args_len args h =
      let few = numbers.few (length args) (omega (arith, h.count)) in
      let texts = texts_len args h.each in
      omega (arith, h.count, length-append (varint (length args)) (flat_map varstring args))

  header_len : (header : Header) → IsHeader header → length (header_spelling header) ≤ 70000
  unfolding header_spelling
  header_len header h =
      let version = numbers.few header.version h.version in
      let height = numbers.few header.height h.height in
      let time = numbers.few header.time h.time in
      let program = text_len header.next_program h.next_program in
      omega (arith, length-append {A = ℕ}, h.previous, h.tx_root, h.unspent_root)

  pub IsFramed-block : (block : Block) → IsBlock block → IsFramed block
  unfolding block_spelling
  IsFramed-block block h =
      let header = header_len block.header h.header in
      let args = args_len block.args h.args in
      let count = numbers.few (length block.txs) (omega (arith, h.txs.count)) in
      (h, record { least_at_most = omega arith; at_most = omega (arith, h.txs.within, length-append {A = ℕ}); spelled = omega (arith, h.txs.within, length-append {A = ℕ}) })
