use Rattle.std.proofs.Common.{◌<◌, [], length, ◌∙◌, arith}
use Rattle.std.proofs.lemmas.List.{get_or_read}
use Rattle.std.proofs.lemmas.Nat.{pow_pos}
use Rattle.hash_sigs.proofs.Levels.{root_of}
use Rattle.hash_sigs.proofs.key.LmsKey.resume.Goals as goal

pub public_key-requires : goal.public_key-requires
public_key-requires c =
    let nodes = c.in_ok-nodes.nodes.items in
    let some : 1 < length nodes = omega (arith, c.in_ok-nodes.ensures.len, pow_pos c.new-origin.result.height) in
    get_or_read nodes 1 c.index.result.now some c.index.ensures []
    ∙ root_of c.new-origin.result nodes c.in_ok-nodes.ensures.nodes
