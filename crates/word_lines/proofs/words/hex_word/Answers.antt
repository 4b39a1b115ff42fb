use Rattle.std.proofs.Common.{◌≡◌, Some, Err, sym, ◌∙◌, ap, arith, rules}
use Rattle.hex.specs.Hex.{decode_of}
use Rattle.word_lines.proofs.Readings.{hex_short, hex_long, hex_decoded, hex_none}
use Rattle.word_lines.proofs.words.hex_word.Goals as goal

pub returns-then-word-gt-HEX_MOST-clause-reads : goal.returns-then-word-gt-HEX_MOST-clause-reads
returns-then-word-gt-HEX_MOST-clause-reads c = sym (hex_long c.args.word.now (omega arith))

pub returns-in-Ok-clause-reads : goal.returns-in-Ok-clause-reads
returns-in-Ok-clause-reads c = sym (hex_decoded _ _ (omega arith) c.in-Ok.ensures.ok ∙ ap Some (sym c.from_vec.ensures))

pub returns-in-Ok-clause-short : goal.returns-in-Ok-clause-short
returns-in-Ok-clause-short c = hex_short c.args.word.now c.from_vec.result (hex_decoded _ _ (omega arith) c.in-Ok.ensures.ok ∙ ap Some (sym c.from_vec.ensures))

pub returns-in-Err-clause-reads : goal.returns-in-Err-clause-reads
returns-in-Err-clause-reads c =
    let is : decode_of c.args.word.now ≡ Err c.in-Err.field-0 = search rules in
    sym (hex_none _ _ is)
