use Rattle.entry_ids.specs.Entry.{header_id}
use Rattle.entry_ids.proofs.header.block_id.Goals as goal

pub returns : goal.returns
unfolding header_id
returns g c = rw (← c.in_ok-body.ensures, ← c.deref.ensures.value) c.entry_id.ensures
