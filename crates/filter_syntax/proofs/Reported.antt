-- What the code reports of a text, by what reading its lexemes comes to.
use Rattle.std.specs.Prelude.{◌≡◌, ℕ, Bool, true, false, List, [], ◌∷◌, map, Option, Result, Ok, Err, refl}
use Rattle.std.proofs.Common.{sym, ap, ◌∙◌, subst, true≢false}
use Rattle.std.proofs.lemmas.Option.{none-some}
use Rattle.grammars.specs.Text.{next}
use Rattle.grammars.specs.Outcome.{Got, Wrong}
use Rattle.filter_syntax.specs.declared.tree.Cond.{Cond}
use Rattle.filter_syntax.specs.declared.tree.RowKind.{RowKind}
use Rattle.filter_syntax.specs.declared.fault.FilterFault.{FilterFault}
use Rattle.filter_syntax.specs.declared.fault.FilterFault.TheVariants as faults
use Rattle.filter_syntax.specs.declared.tokens.Lexeme.{Lexeme}
use Rattle.filter_syntax.specs.declared.tokens.Kind.{Kind}
use Rattle.filter_syntax.specs.declared.tokens.Kind.TheVariants as kinds
use Rattle.filter_syntax.specs.Token.{Token, End}
use Rattle.filter_syntax.specs.Lexing.{seen}
use Rattle.filter_syntax.specs.Descent.{root_at}
use Rattle.filter_syntax.specs.Texts.{has_scopes, HasTokens, ReadsAs}
use Rattle.filter_syntax.specs.Limiting.{ReadsOr, Closes, IsSyntaxOf}
use Rattle.filter_syntax.proofs.Places.{Begun}
use Rattle.filter_syntax.proofs.Verdict.{wrong_told, early_told, whole_told, wrong_some, got_some}

-- a lexeme that is seen as the end is one
ends_so : (text : List ℕ) (l : Lexeme) (k : Kind) → l.kind ≡ k → (seen text l).0 ≡ End → k ≡ kinds.End
ends_so text l k is ends = of_kind k (ap (λ k. (seen text (record l { kind = k })).0) (sym is) ∙ ends)
  where
    is_end : Token → Bool
    is_end End = true
    is_end _ = false

    of_kind : (k : Kind) → (seen text (record l { kind = k })).0 ≡ End → k ≡ kinds.End
    of_kind kinds.End h = refl
    of_kind _ h = absurd (true≢false (sym (ap is_end h)))

-- these lexemes are some
some_lexeme : (text : List ℕ) (rest : List Lexeme) → Begun (map (seen text) rest)
    → (l : Lexeme) × (ls : List Lexeme) × (rest ≡ l ∷ ls)
some_lexeme text [] h = absurd (none-some h.first (ap next h.all))
some_lexeme text (l ∷ ls) h = (l, ls, refl)

pub told_wrong : (kind : RowKind) (text : List ℕ) (lexemes rest : List Lexeme) (fault : FilterFault)
    → HasTokens text (map (seen text) lexemes)
    → root_at (has_scopes kind) (map (seen text) lexemes) ≡ Wrong (map (seen text) rest)
    → IsSyntaxOf rest fault → ReadsOr kind text (Err fault)
told_wrong kind text lexemes rest fault has read is =
    let some = some_lexeme text rest (wrong_some kind text (map (seen text) lexemes) (map (seen text) rest) has read) in
    let at : fault ≡ faults.Syntax some.0.from = subst (λ rest. IsSyntaxOf rest fault) some.2 is in
    subst (λ fault. ReadsOr kind text (Err fault)) (sym at)
    (wrong_told kind text (map (seen text) lexemes) (map (seen text) rest) has read (seen text some.0)
    (map (seen text) some.1) (ap (map (seen text)) some.2))

pub told_got : (kind : RowKind) (text : List ℕ) (lexemes rest : List Lexeme) (root : Option Cond)
    (result : Result (Option Cond) FilterFault) → HasTokens text (map (seen text) lexemes)
    → root_at (has_scopes kind) (map (seen text) lexemes) ≡ Got root (map (seen text) rest)
    → Closes root rest result → ReadsOr kind text result
told_got kind text lexemes rest root (Ok found) has read closes =
    let l = closes.1.0 in
    subst (λ found. ReadsAs kind text found) (sym closes.0)
    (whole_told kind text (map (seen text) lexemes) (map (seen text) rest) root has read (seen text l)
    (map (seen text) closes.1.1) (ap (map (seen text)) closes.1.2) (ap (λ k. (seen text (record l { kind = k })).0) closes.1.3))
told_got kind text lexemes rest root (Err fault) has read closes =
    let some = some_lexeme text rest
    (got_some kind text (map (seen text) lexemes) (map (seen text) rest) root has read) in
    let at : fault ≡ faults.Syntax some.0.from = subst (λ rest. IsSyntaxOf rest fault) some.2 closes.0 in
    subst (λ fault. ReadsOr kind text (Err fault)) (sym at)
    (early_told kind text (map (seen text) lexemes) (map (seen text) rest) root has read (seen text some.0)
    (map (seen text) some.1) (ap (map (seen text)) some.2)
    (λ ends. closes.1 some.0 some.1 some.2 (ends_so text some.0 some.0.kind refl ends)))
