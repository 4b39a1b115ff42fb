use Rattle.std.proofs.Common.{refl}
use Rattle.chain_top.specs.Formats.{blocks_file}
use Rattle.chain_top.specs.Reads.{blocks_in}
use Rattle.replies.specs.Recipes.{file_read}
use Rattle.chain_top.proofs.files.read_blocks.Goals as goal

pub returns-clause-read : goal.returns-clause-read
returns-clause-read g c =
    file_read (blocks_file c.args.name.now c.args.place) blocks_in _ _ c.in_ok-bytes.bytes _ c.blocks_of.result refl c.in_ok-bytes.ensures.asked c.blocks_of.ensures.read
