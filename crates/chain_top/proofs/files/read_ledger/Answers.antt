use Rattle.chain_top.specs.Formats.{ledger_file}
use Rattle.chain_top.specs.Reads.{ledger_in}
use Rattle.replies.specs.Recipes.{file_read}
use Rattle.chain_top.proofs.files.read_ledger.Goals as goal

pub returns-clause-read : goal.returns-clause-read
returns-clause-read g c =
    let hash = g.H.IdHash.hash_of c.args.hash.now in
    let check = g.C.SigCheck.good_of c.args.sigs.now in
    file_read (ledger_file hash check c.args.name.now c.args.place) ledger_in _ _ c.in_ok-bytes.bytes _ c.load_ledger.result c.as_slice.ensures.value c.in_ok-bytes.ensures.asked c.load_ledger.ensures.read
