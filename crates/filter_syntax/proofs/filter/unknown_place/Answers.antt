use Rattle.std.proofs.Common.{◌≡◌, map, ℕ, List, Some, None, sym, subst}
use Rattle.std.specs.Prelude.{Option, IfSome, IfNone}
use Rattle.std.proofs.lemmas.Option.{none-some, same_Some}
use Rattle.filter_syntax.specs.declared.tree.RowKind.{RowKind}
use Rattle.filter_syntax.specs.declared.tree.Cond.{Cond}
use Rattle.filter_syntax.specs.Lexing.{seen}
use Rattle.filter_syntax.specs.Texts.{ReadsAs, UnknownAt, AreKnown}
use Rattle.filter_syntax.specs.Compared.{comparisons, FirstUnknown}
use Rattle.filter_syntax.proofs.FilterAnswers.{few_comparisons, unknown_told}
use Rattle.filter_syntax.proofs.filter.unknown_place.Goals as goal

pub first_unknown-requires : goal.first_unknown-requires
first_unknown-requires c = few_comparisons c.args.kind c.args.text.now c.in-Some.cond
    (subst (λ r. ReadsAs c.args.kind c.args.text.now r) c.in-Some.is c.requires.reads)

some_place : (kind : RowKind) (text : List ℕ) (found : Option ℕ) → (at : ℕ) × (found ≡ Some at) × UnknownAt kind text at
    → IfSome found (λ at. UnknownAt kind text at)
some_place kind text None h = absurd (none-some h.0 h.1)
some_place kind text (Some at) h = subst (λ at. UnknownAt kind text at) (sym (same_Some at h.0 h.1)) h.2

no_place : (kind : RowKind) (text : List ℕ) (root : Option Cond) (found : Option ℕ)
    → (at : ℕ) × (found ≡ Some at) × UnknownAt kind text at → IfNone found (AreKnown kind root)
no_place kind text root None h = absurd (none-some h.0 h.1)
no_place kind text root (Some at) h = tt

pub returns-in_ok-first_unknown-in-Some-clause-some : goal.returns-in_ok-first_unknown-in-Some-clause-some
returns-in_ok-first_unknown-in-Some-clause-some c = some_place c.args.kind c.args.text.now c.nth_name.result
    (unknown_told c.args.kind c.args.text.now (map (seen c.args.text.now) c.args.lexemes.now) c.in-Some.cond
    c.in_ok-first_unknown-in-Some.field-0 c.nth_name.result c.requires.tokens
    (subst (λ r. ReadsAs c.args.kind c.args.text.now r) c.in-Some.is c.requires.reads)
    (subst (λ r. IfSome r (λ index. FirstUnknown c.args.kind (comparisons None c.in-Some.cond) index))
    c.in_ok-first_unknown-in-Some.was c.first_unknown.ensures.some) (c.nth_name.ensures c.args.text.now))

pub returns-in_ok-first_unknown-in-Some-clause-none : goal.returns-in_ok-first_unknown-in-Some-clause-none
returns-in_ok-first_unknown-in-Some-clause-none c = no_place c.args.kind c.args.text.now c.args.root.now c.nth_name.result
    (unknown_told c.args.kind c.args.text.now (map (seen c.args.text.now) c.args.lexemes.now) c.in-Some.cond
    c.in_ok-first_unknown-in-Some.field-0 c.nth_name.result c.requires.tokens
    (subst (λ r. ReadsAs c.args.kind c.args.text.now r) c.in-Some.is c.requires.reads)
    (subst (λ r. IfSome r (λ index. FirstUnknown c.args.kind (comparisons None c.in-Some.cond) index))
    c.in_ok-first_unknown-in-Some.was c.first_unknown.ensures.some) (c.nth_name.ensures c.args.text.now))
