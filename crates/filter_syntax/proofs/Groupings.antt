-- What bare operands read as, and what the text of a condition does.
use Rattle.std.specs.Prelude.{◌≡◌, ℕ, ◌+◌, Bool, List, [], ◌∷◌, ◌++◌, map, refl}
use Rattle.std.specs.List.{AllByRecursion}
use Rattle.std.proofs.Common.{sym, ap, ◌∙◌, subst, arith}
use Rattle.std.proofs.lemmas.Option.{none-some}
use Rattle.std.proofs.lemmas.List.{map-append}
use mathlib.Core.List.{append_assoc}
use Rattle.grammars.specs.Text.{next}
use Rattle.grammars.specs.Places.{kinds}
use Rattle.filter_syntax.specs.declared.tree.Cond.{Cond}
use Rattle.filter_syntax.specs.declared.tree.Cond.TheVariants as conditions
use Rattle.filter_syntax.specs.Token.{Token, And, Or, End, CanBeWritten, written}
use Rattle.filter_syntax.specs.Tokens.{Placed, AreTokens}
use Rattle.filter_syntax.specs.Grammar.{Rule, Alternatives, Conjunction, Reads, conjunction}
use Rattle.filter_syntax.specs.Grammar as grammar
use Rattle.filter_syntax.specs.Shown.{tokens_at}
use Rattle.filter_syntax.specs.Printing.{TokensRead, TextReads, OrRight, AndLeft, AndRight, with_bare}
use Rattle.filter_syntax.specs.Printing.{GroupingLaws}
use Rattle.filter_syntax.proofs.Places.{split, headed, token_of}
use Rattle.filter_syntax.proofs.TokenLists.{token_laws}
use Rattle.filter_syntax.proofs.ShownParts.{or_tokens, and_tokens}
use Rattle.filter_syntax.proofs.Reprints.{placed, unplaced_placed, deeper, shown_again, shown_formed}

-- two parts with a token between them
unplaced_pair : (u : List Placed) (t : Token) (w : List Placed)
    → kinds (u ++ ((t, 0) ∷ w)) ≡ kinds u ++ (t ∷ kinds w)
unplaced_pair u t w = map-append (λ (p : Placed). p.0) u ((t, 0) ∷ w)

pair_same : (u w : List Placed) (t : Token) (x y : List Token) → kinds u ≡ x → kinds w ≡ y
    → kinds (u ++ ((t, 0) ∷ w)) ≡ x ++ (t ∷ y)
pair_same u w t x y first second =
    unplaced_pair u t w ∙ ap (λ (l : List Token). l ++ (t ∷ kinds w)) first
    ∙ ap (λ (l : List Token). x ++ (t ∷ l)) second

-- a condition, and one after OR as it is printed
joined_or : (s : Bool) (x y : List Token) (a b : Cond) → TokensRead Alternatives s x a → TokensRead Conjunction s y b
    → TokensRead Alternatives s (x ++ (Or ∷ tokens_at Conjunction b)) (conditions.Or a b)
joined_or s x y a b h k =
    let d = h.depth + k.depth in
    let shown : List Placed = placed (tokens_at Conjunction b) in
    let second : Reads Conjunction k.depth s shown b =
    shown_again Conjunction k.depth s k.placed shown b k.reads (unplaced_placed (tokens_at Conjunction b)) in
    record {
      depth = d;
      placed = h.placed ++ ((Or, 0) ∷ shown);
      same = pair_same h.placed shown Or x (tokens_at Conjunction b) h.same (unplaced_placed (tokens_at Conjunction b));
      reads = grammar.or 0 (deeper Alternatives h.depth d s h.placed a (omega arith) h.reads)
          (deeper Conjunction k.depth d s shown b (omega arith) second);
    }

-- and after AND
joined_and : (s : Bool) (x y : List Token) (a b : Cond) → TokensRead Conjunction s x a → TokensRead grammar.Unit s y b
    → TokensRead Conjunction s (x ++ (And ∷ tokens_at grammar.Unit b)) (conditions.And a b)
joined_and s x y a b h k =
    let d = h.depth + k.depth in
    let shown : List Placed = placed (tokens_at grammar.Unit b) in
    let second : Reads grammar.Unit k.depth s shown b =
    shown_again grammar.Unit k.depth s k.placed shown b k.reads (unplaced_placed (tokens_at grammar.Unit b)) in
    record {
      depth = d;
      placed = h.placed ++ ((And, 0) ∷ shown);
      same = pair_same h.placed shown And x (tokens_at grammar.Unit b) h.same
          (unplaced_placed (tokens_at grammar.Unit b));
      reads = grammar.and 0 (deeper Conjunction h.depth d s h.placed a (omega arith) h.reads)
          (deeper grammar.Unit k.depth d s shown b (omega arith) second);
    }

reads_same : (rule : Rule) (s : Bool) (x y : List Token) (c : Cond) → x ≡ y → TokensRead rule s x c
    → TokensRead rule s y c
reads_same rule s x y c is h = subst (λ (l : List Token). TokensRead rule s l c) is h

-- an operator after two parts is one after the second
regrouped : (x y z : List Token) (t u : Token) → (x ++ (t ∷ y)) ++ (u ∷ z) ≡ x ++ (t ∷ (y ++ (u ∷ z)))
regrouped x y z t u = append_assoc x (t ∷ y) (u ∷ z)

or_or : (s : Bool) (tokens : List Token) (a b c d : Cond) → TokensRead Alternatives s (with_bare OrRight a b) d
    → TokensRead Conjunction s tokens c
    → TokensRead Alternatives s (with_bare OrRight a (conditions.Or b c)) (conditions.Or d c)
or_or s tokens a b c d h k =
    reads_same Alternatives s (with_bare OrRight a b ++ (Or ∷ tokens_at Conjunction c))
    (with_bare OrRight a (conditions.Or b c)) (conditions.Or d c)
    (regrouped (tokens_at Alternatives a) (tokens_at Alternatives b) (tokens_at Conjunction c) Or Or
    ∙ ap (λ (l : List Token). tokens_at Alternatives a ++ (Or ∷ l)) (sym (or_tokens Alternatives b c)))
    (joined_or s (with_bare OrRight a b) tokens d c h k)

and_or : (s : Bool) (tokens : List Token) (a b c d : Cond) → TokensRead Alternatives s (with_bare AndRight a b) d
    → TokensRead Conjunction s tokens c
    → TokensRead Alternatives s (with_bare AndRight a (conditions.Or b c)) (conditions.Or d c)
and_or s tokens a b c d h k =
    reads_same Alternatives s (with_bare AndRight a b ++ (Or ∷ tokens_at Conjunction c))
    (with_bare AndRight a (conditions.Or b c)) (conditions.Or d c)
    (regrouped (tokens_at Conjunction a) (tokens_at Alternatives b) (tokens_at Conjunction c) And Or
    ∙ ap (λ (l : List Token). tokens_at Conjunction a ++ (And ∷ l)) (sym (or_tokens Alternatives b c)))
    (joined_or s (with_bare AndRight a b) tokens d c h k)

and_and : (s : Bool) (tokens : List Token) (a b c d : Cond)
    → TokensRead Conjunction s (tokens_at Conjunction a ++ (And ∷ tokens_at Conjunction b)) d
    → TokensRead grammar.Unit s tokens c
    → TokensRead Conjunction s (with_bare AndRight a (conditions.And b c)) (conditions.And d c)
and_and s tokens a b c d h k =
    let x : List Token = tokens_at Conjunction a ++ (And ∷ tokens_at Conjunction b) in
    reads_same Conjunction s (x ++ (And ∷ tokens_at grammar.Unit c)) (with_bare AndRight a (conditions.And b c))
    (conditions.And d c)
    (regrouped (tokens_at Conjunction a) (tokens_at Conjunction b) (tokens_at grammar.Unit c) And And
    ∙ ap (λ (l : List Token). tokens_at Conjunction a ++ (And ∷ l)) (sym (and_tokens Alternatives b c)))
    (joined_and s x tokens d c h k)

-- a condition as it is printed
shown_reads : (rule : Rule) (s : Bool) (tokens : List Token) (c : Cond) → TokensRead rule s tokens c
    → TokensRead rule s (tokens_at rule c) c
shown_reads rule s tokens c h = record {
  depth = h.depth;
  placed = placed (tokens_at rule c);
  same = unplaced_placed (tokens_at rule c);
  reads = shown_again rule h.depth s h.placed (placed (tokens_at rule c)) c h.reads
      (unplaced_placed (tokens_at rule c));
}

or_and : (s : Bool) (first second third : List Token) (a b c : Cond) → TokensRead Alternatives s first a
    → TokensRead Conjunction s second b → TokensRead grammar.Unit s third c
    → TokensRead Alternatives s (with_bare AndLeft (conditions.Or a b) c) (conditions.Or a (conditions.And b c))
or_and s first second third a b c h k m =
    let x : List Token = tokens_at Alternatives a in
    let y : List Token = tokens_at Conjunction b in
    let z : List Token = tokens_at grammar.Unit c in
    let inner = joined_and s y third b c (shown_reads Conjunction s second b k) m in
    reads_same Alternatives s (x ++ (Or ∷ tokens_at Conjunction (conditions.And b c)))
    (with_bare AndLeft (conditions.Or a b) c) (conditions.Or a (conditions.And b c))
    (ap (λ (l : List Token). x ++ (Or ∷ l)) (and_tokens Conjunction b c) ∙ sym (regrouped x y z Or And)
    ∙ ap (λ (l : List Token). l ++ (And ∷ z)) (sym (or_tokens Alternatives a b)))
    (joined_or s x (y ++ (And ∷ z)) a (conditions.And b c) (shown_reads Alternatives s first a h) inner)

pub grouping_laws : GroupingLaws
grouping_laws = record { or_or = or_or; or_and = or_and; and_or = and_or; and_and = and_and }

-- ---- texts

none_left : (w : List Placed) → map token_of w ≡ [] → w ≡ []
none_left [] same = refl
none_left (t ∷ w) same = absurd (none-some (token_of t) (sym (ap next same)))

-- What is written of the tokens of a condition reads as it.
pub shown_text : (d : ℕ) (s : Bool) (u : List Placed) (c : Cond) → Reads Alternatives d s u c
    → AllByRecursion CanBeWritten (kinds u) → TextReads d s (written (tokens_at Alternatives c)) c
shown_text d s u c h fine =
    let ts : List Token = tokens_at Alternatives c in
    let read = token_laws.again ts (shown_formed Alternatives d s u c h fine) in
    let whole : map token_of read.0 ≡ map token_of (placed ts ++ ((End, 0) ∷ [])) =
    read.2 ∙ sym (pair_same (placed ts) [] End ts [] (unplaced_placed ts) refl) in
    let parts = split read.0 (placed ts) ((End, 0) ∷ []) whole in
    let e = headed parts.second End 0 [] parts.as_second in
    record {
      tokens = parts.first;
      end = e.at;
      are = subst (AreTokens 0 (written ts))
          (parts.joined ∙ ap (λ (l : List Placed). parts.first ++ l)
          (e.joined ∙ ap (λ (l : List Placed). (End, e.at) ∷ l) (none_left e.behind e.same))) read.1;
      reads = shown_again Alternatives d s u parts.first c h (parts.as_first ∙ unplaced_placed ts);
    }
