use Rattle.chain_top.proofs.Replies.{reply_laws}
use Rattle.chain_top.proofs.laws.one_reply.Goals as goal

pub returns : goal.returns
returns c = reply_laws c.known.ensures
