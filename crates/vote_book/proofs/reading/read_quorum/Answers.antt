use Rattle.std.proofs.Common.{◌≡◌, ℕ, List, length, Some, None, true, false, sym, ap, ◌∙◌, arith}
use Rattle.std.specs.Prelude.{Option}
use Rattle.std.proofs.lemmas.Slice.Eq.{bytes_eq-Decides}
use Rattle.vote_book.specs.Quorum.{quorum_of}
use Rattle.vote_book.proofs.Quorums.{number_read, few_asked}
use Rattle.vote_book.proofs.reading.read_quorum.Goals as goal

none_is_not : (m : ℕ) → ◌≡◌ {A = Option ℕ} None (Some m) → ⊥
none_is_not m e = cc

same_number : (m n : ℕ) → ◌≡◌ {A = Option ℕ} (Some m) (Some n) → m ≡ n
same_number m n e = cc

false_is_not_true : false ≡ true → ⊥
false_is_not_true e = cc

pub returns-in_default-clause-only : goal.returns-in_default-clause-only
returns-in_default-clause-only c = λ keys m q is.
    let read = c.in_ok-at.ensures.read keys m q is in
    absurd (none_is_not m (c.in_default.ensures.pushed m q.some (few_asked keys m q) (number_read c.args.program.now keys m c.in_ok-at.at q is read.1)))

pub returns-then-m-len-clause-only : goal.returns-then-m-len-clause-only
returns-then-m-len-clause-only c = λ keys m q is.
    let read = c.in_ok-at.ensures.read keys m q is in
    let number = same_number c.in-Some.m m (c.in-Some.ensures.pushed m q.some (few_asked keys m q) (number_read c.args.program.now keys m c.in_ok-at.at q is read.1)) in
    let count = ap (λ (l : List (List ℕ)). length l) read.0 in
    absurd (omega (arith, c.if-m-len.true, c.len.ensures, number, count, q.at_most))

pub returns-then-eq-clause-only : goal.returns-then-eq-clause-only
returns-then-eq-clause-only c = λ keys m q is.
    let read = c.in_ok-at.ensures.read keys m q is in
    let number = same_number c.in-Some.m m (c.in-Some.ensures.pushed m q.some (few_asked keys m q) (number_read c.args.program.now keys m c.in_ok-at.at q is read.1)) in
    ap (λ (l : List (List ℕ)). Some (l, c.in-Some.m)) read.0 ∙ ap (λ (n : ℕ). Some (keys, n)) number

pub returns-else-eq-clause-only : goal.returns-else-eq-clause-only
returns-else-eq-clause-only c = λ keys m q is.
    let read = c.in_ok-at.ensures.read keys m q is in
    let number = same_number c.in-Some.m m (c.in-Some.ensures.pushed m q.some (few_asked keys m q) (number_read c.args.program.now keys m c.in_ok-at.at q is read.1)) in
    let made : c.in_ok-same.same.items ≡ quorum_of keys m =
    c.in_ok-same.ensures ∙ ap (λ (l : List (List ℕ)). quorum_of l c.in-Some.m) read.0 ∙ ap (λ (n : ℕ). quorum_of keys n) number in
    let same : c.as_slice.result.now ≡ c.args.program.now = c.as_slice.ensures.value ∙ made ∙ sym is in
    absurd (false_is_not_true (c.if-eq.ensures ∙ (bytes_eq-Decides c.as_slice.result.now c.args.program.now).1 same))
