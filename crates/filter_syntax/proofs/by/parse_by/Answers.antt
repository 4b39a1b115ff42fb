use Rattle.std.proofs.Common.{◌≡◌, ◌∙◌, ap, List, ℕ, map, length, Ok, Err, arith, rules}
use Rattle.filter_syntax.specs.By.{IsBy, IsUnknownFault, before_next}
use Rattle.filter_syntax.specs.declared.fault.FilterFault.TheVariants as faults
use Rattle.std.proofs.lemmas.Result.{err_from_is_err_and}
use denote.Ref.{Bor}
use Rattle.filter_syntax.proofs.NameAnswers.{joins_length, split_told}
use Rattle.filter_syntax.proofs.by.parse_by.Goals as goal

pub returns-in_err-names-clause-told : goal.returns-in_err-names-clause-told
returns-in_err-names-clause-told c = λ answer is known.
    let p = err_from_is_err_and c.from_residual.result c.from_residual.ensures.1 in
    let same : c.from_residual.result ≡ Err c.in_err-names.field-0.0 = p.1 ∙ ap Err p.2 in
    same ∙ split_told c.args.text.now c.as_bytes.result.now c.in_err-names.field-0.0 answer c.as_bytes.ensures.value
    c.in_err-names.ensures.fault
    (λ none. known (same ∙ none)) is

pub first_unknown-requires : goal.first_unknown-requires
first_unknown-requires c =
    let long = joins_length c.as_bytes.result.now
    (map (λ name. name.now) c.in_ok-names.names.items) c.in_ok-names.ensures.found in
    let same = ap (λ (l : List (Bor (List ℕ))). length
    (before_next (map (λ name. name.now) l))) c.as_slice.ensures.value in
    omega (arith, long, same, c.as_bytes.ensures.len)

pub returns-in-Some-clause-told : goal.returns-in-Some-clause-told
returns-in-Some-clause-told c = λ answer is known.
    let fault : IsUnknownFault c.args.text.now c.in-Some.at = search rules in
    c.lists_of_names.ensures.one c.args.text.now (Err (faults.UnknownAttribute c.in-Some.at)) answer fault is

pub returns-clause-told : goal.returns-clause-told
returns-clause-told c = λ answer is known.
    let by : IsBy c.args.text.now c.in_ok-each_once.field-0 = search rules in
    c.lists_of_names.ensures.one c.args.text.now (Ok c.in_ok-each_once.field-0) answer by is
