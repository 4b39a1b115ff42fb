use Rattle.std.proofs.Common.{rules, refl}
use Rattle.std.proofs.lemmas.Iterator.{items_from_collect}
use Rattle.std.proofs.lemmas.Iterator.Adapters.{YieldsList-from_skip, YieldsList-from_vec}
use Rattle.chaincore.proofs.words_of.Goals as goal

pub returns-in-Ok-collect-clause-words : goal.returns-in-Ok-collect-clause-words
returns-in-Ok-collect-clause-words c = let h = items_from_collect c.collect.result c.collect.ensures.ran (YieldsList-from_skip {s = c.skip.result} 1 (YieldsList-from_vec {s = c.skip.result.iter} _ refl c.skip.result.iter.rest.ok.0) c.skip.ensures.count) in search (rules, h, c.skip.ensures.source)
