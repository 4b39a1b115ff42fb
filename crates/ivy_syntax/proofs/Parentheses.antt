-- No tokens with fewer parentheses than those that are printed read as the source.
use Rattle.std.specs.Prelude.{◌≡◌, ◌≤◌, ◌+◌, List, [], ◌∷◌, ◌++◌}
use Rattle.std.proofs.Common.{sym, ap, ◌∙◌, subst, arith}
use Rattle.ivy_syntax.specs.declared.tree.Source.{Source}
use Rattle.ivy_syntax.specs.declared.lexeme.Symbol.TheVariants as symbol
use Rattle.ivy_syntax.specs.Token.{Token, Sign}
use Rattle.ivy_syntax.specs.Shown.{shown}
use Rattle.ivy_syntax.specs.Printing.{opened, TokensReadLike}
use Rattle.ivy_syntax.specs.Unplaced.{unplaced}
use Rattle.ivy_syntax.proofs.Kept.{opened_joined, fewer_opened}
use Rattle.ivy_syntax.proofs.KeptTokens.{file_kept}
use Rattle.ivy_syntax.proofs.ShownUnplaced.{shown_unplaced}

-- what is printed of sources that are the same apart from their places is the same
same_shown : (a b : Source) → unplaced a ≡ unplaced b → shown a ≡ shown b
same_shown a b same = sym (shown_unplaced a) ∙ ap shown same ∙ shown_unplaced b

pub fewest_parentheses : (tokens : List Token) (source : Source) → TokensReadLike tokens source
    → opened (shown source) ≤ opened tokens
fewest_parentheses tokens source h =
    let few : opened (shown h.tree) ≤ opened tokens =
    subst (λ (l : List Token). opened (shown h.tree) ≤ opened l) h.are
    (fewer_opened (file_kept h.depth h.placed h.tree h.reads)) in
    subst (λ (l : List Token). opened l ≤ opened tokens) (same_shown h.tree source h.same) few

pub needed_parentheses : (source : Source) (before between behind : List Token)
    → shown source ≡ before ++ (Sign symbol.OpenParen ∷ (between ++ (Sign symbol.CloseParen ∷ behind)))
    → TokensReadLike (before ++ (between ++ behind)) source → ⊥
needed_parentheses source before between behind is h =
    let inside : List Token = between ++ (Sign symbol.CloseParen ∷ behind) in
    let all : opened (shown source) ≡ opened (before ++ (Sign symbol.OpenParen ∷ inside)) = ap opened is in
    let one : opened (Sign symbol.OpenParen ∷ inside) ≡ 1 + opened inside
    = opened_joined (Sign symbol.OpenParen ∷ []) inside in
    let none : opened (Sign symbol.CloseParen ∷ behind) ≡ 0 + opened behind
    = opened_joined (Sign symbol.CloseParen ∷ []) behind in
    omega (
      arith,
      fewest_parentheses (before ++ (between ++ behind)) source h,
      all,
      one,
      none,
      opened_joined before (Sign symbol.OpenParen ∷ inside),
      opened_joined between (Sign symbol.CloseParen ∷ behind),
      opened_joined before (between ++ behind),
      opened_joined between behind,
    )
