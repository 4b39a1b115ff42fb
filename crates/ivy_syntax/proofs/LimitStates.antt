-- What the limits are told from, as a state that goes on token by token.
use Rattle.std.proofs.Common.{◌≡◌, ◌↔◌, ◌<◌, ◌&&◌, ℕ, zero, suc, Bool, false, List, [], ◌∷◌, ◌++◌}
use Rattle.std.proofs.Common.{length, take, reverse, map, refl, ap, sym, ◌∙◌, arith}
use Rattle.std.proofs.Common.{Option, Some, None, if◌then◌else◌}
use Rattle.std.specs.Prelude.{slice_get, slice_index_or, option_map}
use Rattle.std.proofs.lemmas.List.{append_assoc, append-nil, reverse-append}
use Rattle.grammars.specs.Places.{kinds}
use Rattle.ivy_syntax.specs.declared.lexeme.Kind.{Kind}
use Rattle.ivy_syntax.specs.declared.lexeme.Kind.TheVariants as kind
use Rattle.ivy_syntax.specs.Tokens.{Placed}
use Rattle.ivy_syntax.specs.Token.{kind_of}
use Rattle.ivy_syntax.specs.Limits.{is_contract, is_clause, is_requires, is_of, is_statement, is_name, is_operator}
use Rattle.ivy_syntax.specs.Limits.{is_comma, opens, closes, leads_param, leads_expression, begins_section}
use Rattle.ivy_syntax.specs.Limits.{begins_part, takes_expressions, count_since, nowhere, last_of, holds, before}
use Rattle.ivy_syntax.specs.Limits.{params, commas, at_least, passes}
use Rattle.ivy_syntax.specs.Counting.{next_last, without_first, first_of}
use Rattle.ivy_syntax.specs.Texts.{AreFew}
use Rattle.ivy_syntax.proofs.CountSteps.{told, first_get_is, level, stack_of, level_step}

-- ---- a state, and the next one

-- `stack` are the commas of the open brackets, the innermost first; `last` is the token right before.
pub record State : Type 0 where
  pub contracts : ℕ
  pub clauses : ℕ
  pub statements : ℕ
  pub assets : ℕ
  pub operators : ℕ
  pub params : ℕ
  pub section : Option Kind
  pub part : Option Kind
  pub last : Option Kind
  pub stack : List ℕ

abbrev pub start : State
start = record {
  contracts = 0;
  clauses = 0;
  statements = 0;
  assets = 0;
  operators = 0;
  params = 0;
  section = None;
  part = None;
  last = None;
  stack = [];
}

abbrev pub counted : ℕ → Bool → Bool → ℕ
counted n clears counts = if clears then 0 else (if counts then suc n else n)

abbrev pub first_more : List ℕ → List ℕ
first_more [] = []
first_more (n ∷ stack) = suc n ∷ stack

abbrev pub stacked : Bool → Bool → Bool → Bool → List ℕ → List ℕ
stacked section shut up comma stack =
    if section then []
    else (if shut then without_first stack else (if up then 0 ∷ stack else (if comma then first_more stack else stack)))

abbrev pub next : State → Kind → State
next s t = record {
  contracts = counted s.contracts false (is_contract t);
  clauses = counted s.clauses (is_contract t) (is_clause t);
  statements = counted s.statements (is_clause t) (is_statement t);
  assets = counted s.assets (is_requires t) (is_of t);
  operators = counted s.operators (leads_expression t) (is_operator t);
  params = counted s.params (begins_section t) (is_name t && holds leads_param s.last);
  section = next_last s.section (begins_section t) t;
  part = next_last s.part (begins_part t) t;
  last = Some t;
  stack = stacked (begins_section t) (closes t) (opens t) (is_comma t) s.stack;
}

abbrev pub state_after : State → List Placed → State
state_after s [] = s
state_after s (t ∷ ts) = state_after (next s (kind_of t.0)) ts

-- ---- the limits

-- the number of the limit that the token passes
abbrev pub passed : State → Kind → Option ℕ
passed s t =
    told s.contracts s.clauses s.statements s.assets s.operators s.params s.section s.part s.last (first_of s.stack) t

-- one member too many begins here
abbrev pub member_passed : State → Bool
member_passed s = holds is_comma s.last && holds takes_expressions s.section && at_least 16 (first_of s.stack)

-- none of the tokens passes one
abbrev pub NonePasses : State → List Placed → Type 0
NonePasses s [] = Unit {0}
NonePasses s (t ∷ ts) = (passed s (kind_of t.0) ≡ None) × NonePasses (next s (kind_of t.0)) ts

-- ---- one list after the other

pub after_both : (s : State) (u w : List Placed) → state_after s (u ++ w) ≡ state_after (state_after s u) w
after_both s [] w = refl
after_both s (t ∷ u) w = after_both (next s (kind_of t.0)) u w

pub first_passes : (s : State) (u w : List Placed) → NonePasses s (u ++ w) → NonePasses s u
first_passes s [] w h = tt
first_passes s (t ∷ u) w h = (h.0, first_passes (next s (kind_of t.0)) u w h.1)

pub second_passes : (s : State) (u w : List Placed) → NonePasses s (u ++ w) → NonePasses (state_after s u) w
second_passes s [] w h = h
second_passes s (t ∷ u) w h = second_passes (next s (kind_of t.0)) u w h.1

pub both_pass : (s : State) (u w : List Placed) → NonePasses s u → NonePasses (state_after s u) w
    → NonePasses s (u ++ w)
both_pass s [] w h k = k
both_pass s (t ∷ u) w h k = (h.0, both_pass (next s (kind_of t.0)) u w h.1 k)

-- ---- the state of the tokens before one

record Tells (s : State) (back : List Kind) : Type 0 where
  contracts : s.contracts ≡ count_since nowhere is_contract back
  clauses : s.clauses ≡ count_since is_contract is_clause back
  statements : s.statements ≡ count_since is_clause is_statement back
  assets : s.assets ≡ count_since is_requires is_of back
  operators : s.operators ≡ count_since leads_expression is_operator back
  params : s.params ≡ params back
  section : s.section ≡ last_of begins_section back
  part : s.part ≡ last_of begins_part back
  last : s.last ≡ before back
  stack : (outside : ℕ) → slice_get s.stack outside ≡ commas outside back

first_get : (stack : List ℕ) → slice_get (first_more stack) 0 ≡ option_map suc (slice_get stack 0)
first_get [] = refl
first_get (n ∷ stack) = refl

other_get : (stack : List ℕ) (d : ℕ) → slice_get (first_more stack) (suc d) ≡ slice_get stack (suc d)
other_get [] d = refl
other_get (n ∷ stack) d = refl

tells_next : (s : State) (t : Kind) (back : List Kind) → Tells s back → Tells (next s t) (t ∷ back)
unfolding level stack_of
tells_next s t back h = record {
  contracts = ap (λ n. counted n false (is_contract t)) h.contracts;
  clauses = ap (λ n. counted n (is_contract t) (is_clause t)) h.clauses;
  statements = ap (λ n. counted n (is_clause t) (is_statement t)) h.statements;
  assets = ap (λ n. counted n (is_requires t) (is_of t)) h.assets;
  operators = ap (λ n. counted n (leads_expression t) (is_operator t)) h.operators;
  params = λ i. counted (h.params i) (begins_section t) (is_name t && holds leads_param (h.last i));
  section = ap (λ o. next_last o (begins_section t) t) h.section;
  part = ap (λ o. next_last o (begins_part t) t) h.part;
  last = refl;
  stack = level_step (begins_section t) (closes t) (opens t) (is_comma t) s.stack (first_more s.stack)
      (λ d. commas d back) (first_get s.stack) (other_get s.stack) h.stack;
}

passed_is : (s : State) (back : List Kind) → Tells s back → (t : Kind) → passed s t ≡ passes back t
passed_is s back h t =
    let top : first_of s.stack ≡ commas 0 back = first_get_is s.stack ∙ h.stack 0 in
    (λ i. told (h.contracts i) (h.clauses i) (h.statements i) (h.assets i) (h.operators i) (h.params i) (h.section i)
    (h.part i) (h.last i) (top i) t)

-- ---- all tokens

abbrev tokens_of : List Placed → List Kind
tokens_of u = map kind_of (kinds u)

-- after so many others
abbrev passes_behind : List Kind → List Kind → ℕ → Option ℕ
passes_behind back tokens at = passes (reverse (take at tokens) ++ back) (slice_index_or tokens at kind.End)

abbrev EachIsFew : List Kind → List Kind → Type 0
EachIsFew back tokens = (at : ℕ) → at < length tokens → passes_behind back tokens at ≡ None

back_longer : (t : Kind) (ts back : List Kind) (at : ℕ)
    → reverse (take at ts) ++ (t ∷ back) ≡ reverse (t ∷ take at ts) ++ back
back_longer t ts back at =
    sym (ap (λ u. u ++ back) (reverse-append (t ∷ []) (take at ts)) ∙ append_assoc (reverse (take at ts)) (t ∷ []) back)

to_each : (u : List Placed) (s : State) (back : List Kind) → Tells s back → NonePasses s u
    → EachIsFew back (tokens_of u)
to_each [] s back h few at less = absurd (omega arith)
to_each (t ∷ u) s back h few zero less = sym (passed_is s back h (kind_of t.0)) ∙ few.0
to_each (t ∷ u) s back h few (suc at) less =
    ap (λ back. passes back (slice_index_or (tokens_of u) at kind.End))
    (sym (back_longer (kind_of t.0) (tokens_of u) back at))
    ∙ to_each u (next s (kind_of t.0)) (kind_of t.0 ∷ back) (tells_next s (kind_of t.0) back h) few.1 at (omega arith)

of_each : (u : List Placed) (s : State) (back : List Kind) → Tells s back → EachIsFew back (tokens_of u)
    → NonePasses s u
of_each [] s back h each = tt
of_each (t ∷ u) s back h each = (
  passed_is s back h (kind_of t.0) ∙ each 0 (omega arith),
  of_each u (next s (kind_of t.0)) (kind_of t.0 ∷ back) (tells_next s (kind_of t.0) back h)
      (λ at less. ap (λ back. passes back (slice_index_or (tokens_of u) at kind.End))
      (back_longer (kind_of t.0) (tokens_of u) back at) ∙ each (suc at) (omega arith)),
)

start_tells : Tells start []
start_tells = record {
  contracts = refl;
  clauses = refl;
  statements = refl;
  assets = refl;
  operators = refl;
  params = refl;
  section = refl;
  part = refl;
  last = refl;
  stack = λ d. refl;
}

-- No token of a text passes a limit exactly where none does from the first state on.
pub few_passes : (u : List Placed) → AreFew (kinds u) ↔ NonePasses start u
few_passes u = (
  λ few. of_each u start [] start_tells
      (λ at less. ap (λ back. passes back (slice_index_or (tokens_of u) at kind.End))
      (append-nil (reverse (take at (tokens_of u)))) ∙ few at less),
  λ few at less. ap (λ back. passes back (slice_index_or (tokens_of u) at kind.End))
      (sym (append-nil (reverse (take at (tokens_of u))))) ∙ to_each u start [] start_tells few at less,
)
