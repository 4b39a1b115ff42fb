-- A name that stands somewhere is counted there, and each use and each key is a node.
use Rattle.ivy_check.proofs.CountLemmas.{counted, clause_counted, clause_used, contract_used, uses_few, keys_few}
use Rattle.ivy_check.proofs.laws.use_counts.Goals as goal

pub returns : goal.returns
returns c = record {
  counted = counted;
  in_clause = clause_counted;
  clause_used = clause_used;
  contract_used = contract_used;
  few_uses = uses_few;
  few_keys = keys_few;
}
