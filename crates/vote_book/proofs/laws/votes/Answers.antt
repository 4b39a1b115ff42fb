use Rattle.vote_book.proofs.Votes.{vote_laws}
use Rattle.vote_book.proofs.laws.votes.Goals as goal

pub returns : goal.returns
returns c = vote_laws
