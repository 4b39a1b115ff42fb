-- Each rule of the grammar comes out as the parser goes.
use Rattle.std.specs.Prelude.{◌≡◌, ◌⊎◌, ℕ, Bool, true, List, [], ◌∷◌, ◌++◌}
use Rattle.std.specs.Prelude.{refl}
use Rattle.std.proofs.Common.{sym, ap, ◌∙◌, inl, inr, subst, true≢false}
use Rattle.std.proofs.lemmas.Option.{none-some}
use Rattle.grammars.specs.Text.{next}
use Rattle.grammars.specs.Part.{Part, NoMore, Completes, Decides}
use Rattle.grammars.specs.Heads.{decides_as}
use Rattle.grammars.specs.Chain.{IsChain, Chained, chained_reads, chained_one, chained_more, decides_chained}
use Rattle.filter_syntax.specs.declared.tree.Cond.{Cond}
use Rattle.filter_syntax.specs.declared.tree.Cond.TheVariants as conditions
use Rattle.filter_syntax.specs.declared.tree.FilterValue.TheVariants as values
use Rattle.filter_syntax.specs.Token.{Equals, And, Or, Name, Number}
use Rattle.filter_syntax.specs.Token.{CanBeWritten}
use Rattle.filter_syntax.specs.Tokens.{Placed}
use Rattle.filter_syntax.specs.Spelling.{IsName}
use Rattle.std.specs.List.{AllByRecursion}
use Rattle.std.proofs.Common.{arith}
use Rattle.filter_syntax.specs.Grammar.{Rule, Alternatives, Conjunction, Reads, conjunction, unit, parentheses, inputs}
use Rattle.filter_syntax.specs.Grammar.{outputs, comparison, IsValue, Text, Decimal, Parameter}
use Rattle.filter_syntax.specs.Grammar as grammar
use Rattle.filter_syntax.specs.Descent.{Reader, is_and, is_or, conjunction_by}
use Rattle.filter_syntax.specs.Descent.{alternatives_by}

abbrev others : List ℕ → List ℕ
others [] = []
others (b ∷ bytes) = bytes

nil_cons : (b : ℕ) (bytes : List ℕ) → b ∷ bytes ≡ [] → ⊥
nil_cons b bytes same = none-some b (sym (ap next same))

-- a condition goes on with AND, or with AND and OR
abbrev pub GoesAnd : Placed → Type 0
GoesAnd t = is_and t ≡ true

abbrev pub GoesOr : Placed → Type 0
GoesOr t = (is_and t ≡ true) ⊎ (is_or t ≡ true)

-- what a rule goes on with
abbrev pub goes : Rule → Placed → Type 0
goes Alternatives = GoesOr
goes Conjunction = GoesAnd
goes grammar.Unit = NoMore

-- the token can be written
abbrev pub Fine : Placed → Type 0
Fine t = CanBeWritten t.0

-- a part of the grammar comes out as this reader reads
abbrev pub Comes : Rule → ℕ → Bool → Reader → Type 0
Comes rule depth scopes read =
    (ts : List Placed) → Decides Fine (Reads rule depth scopes) (Reads rule depth scopes) (goes rule) ts (read ts)

-- `a` is a name
a_name : IsName (97 ∷ [])
a_name = record {
  formed = refl;
  not_and = λ same. nil_cons _ _ (sym (ap others same));
  not_or = λ same. nil_cons _ _ (sym (ap others same));
  not_inputs = λ same. nil_cons _ _ (sym (ap others same));
  not_outputs = λ same. nil_cons _ _ (sym (ap others same));
}

a_fine : AllByRecursion Fine ((Name (97 ∷ []), 0) ∷ (Equals, 0) ∷ (Number 0, 0) ∷ [])
a_fine = (a_name, (tt, (omega arith, tt)))

-- `a=0`
pub a_comparison : (depth : ℕ) (scopes : Bool) → Completes Fine (Reads grammar.Unit depth scopes) []
a_comparison depth scopes = record {
  more = (Name (97 ∷ []), 0) ∷ (Equals, 0) ∷ (Number 0, 0) ∷ [];
  value = conditions.Is (97 ∷ []) (values.Number 0);
  fine = a_fine;
  reads = comparison 0 0 0 (Decimal 0);
}

pub some_unit : (rule : Rule) (depth : ℕ) (scopes : Bool) → Completes Fine (Reads rule depth scopes) []
some_unit grammar.Unit depth scopes = a_comparison depth scopes
some_unit Conjunction depth scopes =
    let c = a_comparison depth scopes in record { more = c.more; value = c.value; fine = c.fine; reads = unit c.reads }
some_unit Alternatives depth scopes =
    let c = a_comparison depth scopes in
    record { more = c.more; value = c.value; fine = c.fine; reads = conjunction (unit c.reads) }

-- ---- chains

the_and : (t : Placed) → is_and t ≡ true → t ≡ (And, t.1)
the_and (And, at) is = refl
the_and _ is = absurd (true≢false (sym is))

the_or : (t : Placed) → is_or t ≡ true → t ≡ (Or, t.1)
the_or (Or, at) is = refl
the_or _ is = absurd (true≢false (sym is))

abbrev join_and : Placed → Cond → Cond → Cond
join_and t a b = conditions.And a b

abbrev join_or : Placed → Cond → Cond → Cond
join_or t a b = conditions.Or a b

module _ (depth : ℕ) (scopes : Bool) where
  abbrev Units : Part Placed Cond
  Units = Reads grammar.Unit depth scopes

  abbrev Conjunctions : Part Placed Cond
  Conjunctions = Reads Conjunction depth scopes

  -- a chain of units is a conjunction, and the other way round
  ands : (u : List Placed) (c : Cond) → Chained is_and join_and Units u c → Reads Conjunction depth scopes u c
  ands = chained_reads is_and join_and Units (Reads Conjunction depth scopes) (λ u a h. unit h)
      (λ u w t a b h is k. subst (λ t. Reads Conjunction depth scopes (u ++ (t ∷ w)) (conditions.And a b)) (sym (the_and t is))
      (grammar.and t.1 h k))

  of_ands : (u : List Placed) (c : Cond) → Reads Conjunction depth scopes u c → Chained is_and join_and Units u c
  of_ands u c (unit h) = chained_one is_and join_and Units u c h
  of_ands _ _ (grammar.and {u = u} {w = w} {a = a} {b = b} at h k) =
      chained_more is_and join_and Units u w (And, at) a b (of_ands u a h) refl k

  -- a chain of conjunctions is what an alternative is, and the other way round
  ors : (u : List Placed) (c : Cond) → Chained is_or join_or Conjunctions u c → Reads Alternatives depth scopes u c
  ors = chained_reads is_or join_or Conjunctions (Reads Alternatives depth scopes) (λ u a h. conjunction h)
      (λ u w t a b h is k. subst (λ t. Reads Alternatives depth scopes (u ++ (t ∷ w)) (conditions.Or a b)) (sym (the_or t is))
      (grammar.or t.1 h k))

  of_ors : (u : List Placed) (c : Cond) → Reads Alternatives depth scopes u c → Chained is_or join_or Conjunctions u c
  of_ors u c (conjunction h) = chained_one is_or join_or Conjunctions u c h
  of_ors _ _ (grammar.or {u = u} {w = w} {a = a} {b = b} at h k) =
      chained_more is_or join_or Conjunctions u w (Or, at) a b (of_ors u a h) refl k

  module _ (read : Reader) (comes : Comes grammar.Unit depth scopes read) where
    ands_chain : IsChain Fine is_and (λ t. Units) (λ t. Units) NoMore GoesAnd (λ t. read)
    ands_chain = record {
      within = λ t u v h. h;
      some = λ t is. some_unit grammar.Unit depth scopes;
      apart = λ t is more. more;
      covers = λ t more. absurd more;
      ons = λ t is. is;
      reads = λ t ts is. comes ts;
    }

    pub decides_conjunction : Comes Conjunction depth scopes (conjunction_by read)
    decides_conjunction ts =
        decides_as Fine (Reads Conjunction depth scopes) (Reads Conjunction depth scopes)
        (Chained is_and join_and Units) (Chained is_and join_and Units) GoesAnd GoesAnd ts (λ t c. c) ands ands
        (λ u r c h _. inl (of_ands u c h)) (λ u r c h _. inl (of_ands u c h)) (conjunction_by read ts)
        (decides_chained Fine is_and Units Units NoMore GoesAnd read join_and ands_chain (λ u v h. h) comes ts)

    ors_chain : IsChain Fine is_or (λ t. Conjunctions) (λ t. Conjunctions) GoesAnd GoesOr (λ t. conjunction_by read)
    ors_chain = record {
      within = λ t u v h. h;
      some = λ t is. some_unit Conjunction depth scopes;
      apart = λ t is ands. true≢false (sym ands ∙ ap is_and (the_or t is));
      covers = λ t is. inl is;
      ons = λ t is. inr is;
      reads = λ t ts is. decides_conjunction ts;
    }

    pub decides_alternatives : Comes Alternatives depth scopes (alternatives_by read)
    decides_alternatives ts =
        decides_as Fine (Reads Alternatives depth scopes) (Reads Alternatives depth scopes)
        (Chained is_or join_or Conjunctions) (Chained is_or join_or Conjunctions) GoesOr GoesOr ts (λ t c. c) ors ors
        (λ u r c h _. inl (of_ors u c h)) (λ u r c h _. inl (of_ors u c h)) (alternatives_by read ts)
        (decides_chained Fine is_or Conjunctions Conjunctions GoesAnd GoesOr (conjunction_by read) join_or ors_chain
        (λ u v h. h) decides_conjunction ts)
