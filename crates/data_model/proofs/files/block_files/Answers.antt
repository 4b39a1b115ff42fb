use Rattle.std.proofs.Common.{arith}
use Rattle.data_model.proofs.FrameLengths.{IsFramed-block}
use Rattle.data_model.proofs.files.block_files.Goals as goal

pub returns : goal.returns
returns c = record {
  frames = c.file_readings.ensures 67108864 (omega arith);
  framed = IsFramed-block c.spellings.ensures.numbers c.spellings.ensures.strings;
}
