-- The laws of the tokens that sources are printed with.
use Rattle.std.specs.Prelude.{ℕ, List}
use Rattle.std.proofs.Common.{sym, subst}
use Rattle.ivy_syntax.specs.declared.tree.Source.{Source}
use Rattle.ivy_syntax.specs.Token.{End}
use Rattle.ivy_syntax.specs.Tokens.{Placed, AreTokens, written}
use Rattle.ivy_syntax.specs.Texts.{ReadsAs}
use Rattle.ivy_syntax.specs.Shown.{shown}
use Rattle.ivy_syntax.proofs.TreeLimits.{limits_by_tree}
use Rattle.ivy_syntax.specs.Printing.{ReadsLike, PrintLaws}
use Rattle.ivy_syntax.specs.TreeLimits.{SourceIsWithin, LimitsByTree}
use Rattle.ivy_syntax.proofs.Written.{is_read_back}
use Rattle.ivy_syntax.proofs.Splits.{closed}
use Rattle.ivy_syntax.proofs.Reprinted.{file_reprinted}
use Rattle.ivy_syntax.proofs.Spellable.{shown_written}
use Rattle.ivy_syntax.proofs.LimitsUnplaced.{within_alike}
use Rattle.ivy_syntax.proofs.Parentheses.{fewest_parentheses, needed_parentheses}

-- The text that is printed of a source that a text is reads as it, apart from the places.
reads_again : LimitsByTree → (text : List ℕ) (source : Source) → ReadsAs text source
    → ReadsLike (written (shown source)) source
reads_again limits text source h =
    let back = is_read_back (shown source) (shown_written text source h) in
    let c = closed (shown source) End back.0 back.2 in
    let r = file_reprinted 32 h.tokens c.first source h.reads c.same in
    let within : SourceIsWithin r.0
    = within_alike source r.0 (sym r.2) ((limits 32 h.tokens source h.reads).0 h.few) in
    record {
      tree = r.0;
      reads = record {
        tokens = c.first;
        end = c.place;
        are = subst (λ (l : List Placed). AreTokens 0 (written (shown source)) l) c.all back.1;
        reads = r.1;
        few = (limits 32 c.first r.0 r.1).1 within;
      };
      same = r.2;
    }

pub print_laws_by : LimitsByTree → PrintLaws
print_laws_by limits = record {
  again = λ text source h. (shown_written text source h, reads_again limits text source h);
  reads = file_reprinted;
  fewest = fewest_parentheses;
  needed = needed_parentheses;
}

pub print_laws : PrintLaws
print_laws = print_laws_by limits_by_tree
