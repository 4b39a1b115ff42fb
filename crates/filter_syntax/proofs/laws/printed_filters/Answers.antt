use Rattle.filter_syntax.proofs.Reprints.{shown_again, shown_formed}
use Rattle.filter_syntax.proofs.OneReading.{one_reading}
use Rattle.filter_syntax.proofs.Parentheses.{fewest_parentheses, needed_parentheses, bare_operands}
use Rattle.filter_syntax.proofs.AsMany.{as_many}
use Rattle.filter_syntax.proofs.Groupings.{shown_text}
use Rattle.filter_syntax.proofs.laws.printed_filters.Goals as goal

pub returns : goal.returns
returns c = record {
  again = shown_again;
  formed = shown_formed;
  as_many = as_many;
  text = shown_text;
  one = one_reading;
  fewest = fewest_parentheses;
  needed = needed_parentheses;
  bare = bare_operands;
}
