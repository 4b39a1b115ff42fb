-- How long the prefix of a list is whose elements pass a test.
use Rattle.std.proofs.lemmas.List.Sums.{prefix_len-drop_yes, prefix_len-drop_no, prefix_len-drop_all}
use Rattle.std.proofs.lemmas.List.Sums.{prefix_len-le-length}

pub ruleset runs = (prefix_len-drop_yes, prefix_len-drop_no, prefix_len-drop_all, prefix_len-le-length)
