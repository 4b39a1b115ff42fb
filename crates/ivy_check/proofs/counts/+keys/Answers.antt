-- The keys of a call are its own and those of its arguments.
use Rattle.ivy_check.proofs.CountLemmas.{in_call, in_members}
use Rattle.ivy_check.proofs.counts.+keys.Goals as goal

pub key_count-returns-in-Call : goal.key_count-returns-in-Call
key_count-returns-in-Call t c =
    in_call c.args.e.now _ _ _ _ _ _ _ _ c.in-Call.is c.as_slice.ensures c.as_slice-in-Call.ensures
    c.as_slice-in-Call-2.ensures c.call_keys.ensures c.exprs_keys.ensures c.saturating_add.ensures

pub key_count-returns-in-Members : goal.key_count-returns-in-Members
key_count-returns-in-Members t c =
    in_members c.args.e.now _ _ _ c.in-Members.is c.as_slice-in-Members.ensures c.exprs_keys-in-Members.ensures
