-- The counts follow the tokens, and tell the limits that are passed.
use Rattle.std.proofs.Common.{◌≡◌, ◌≤◌, ◌<◌, ◌+◌, ◌-◌, ◌^◌, ◌&&◌, ◌==◌, ℕ, zero, suc, Bool, true, false, List, [], ◌∷◌}
use Rattle.std.proofs.Common.{length, take, get_or, reverse, map, cond, refl, ap, sym, ◌∙◌, subst, arith}
use Rattle.std.proofs.Common.{Option, Some, None}
use Rattle.std.specs.Prelude.{slice_get, option_map, nat_le, is_none, if◌then◌else◌}
use Rattle.std.proofs.lemmas.Bool.{cond-true, cond-false, lt-ltb, ne_eqb}
use Rattle.std.proofs.lemmas.List.{take_more, reverse-append, length-reverse, length-take-le, length-map, get_or-map}
use Rattle.ivy_syntax.specs.declared.lexeme.Kind.{Kind}
use Rattle.ivy_syntax.specs.declared.lexeme.Kind.TheVariants as kind
use Rattle.ivy_syntax.specs.declared.lexeme.Lexeme.{Lexeme}
use Rattle.ivy_syntax.specs.declared.limits.Counts.{Counts}
use Rattle.ivy_syntax.specs.Token.{kind_of}
use Rattle.grammars.specs.Places as places
use Rattle.ivy_syntax.specs.Lexeme.{token_of, tokens}
use Rattle.ivy_syntax.specs.Limits.{is_contract, is_clause, is_requires, is_of, is_statement, is_name, is_operator}
use Rattle.ivy_syntax.specs.Limits.{is_comma}
use Rattle.ivy_syntax.specs.Limits.{opens, closes, leads_param, leads_expression, begins_section, begins_part}
use Rattle.ivy_syntax.specs.Limits.{count_since}
use Rattle.ivy_syntax.specs.Limits.{nowhere, holds, before, params, commas, at_least, passes, passes_at}
use Rattle.ivy_syntax.specs.Limits.{takes_expressions}
use Rattle.ivy_syntax.specs.Counting.{Counted, next_count, next_last, without_first, first_more, nested, first_of}
use Rattle.ivy_syntax.specs.Counting.{Noted}
use Rattle.ivy_syntax.specs.Counting.{counts_passed}

-- ---- counters

short_choice : (clears counts : Bool) (n most : ℕ) → n ≤ most → cond clears 0 (cond counts (suc n) n) ≤ suc most
short_choice true counts n most h = omega arith
short_choice false true n most h = omega arith
short_choice false false n most h = omega arith

short_count : (clears counts : Kind → Bool) (back : List Kind) → count_since clears counts back ≤ length back
short_count clears counts [] = omega arith
short_count clears counts (t ∷ back) =
    short_choice (clears t) (counts t) (count_since clears counts back) (length back) (short_count clears counts back)

next_is : (n : ℕ) (clears counts : Bool) → n < 2 ^ 64 - 1
    → next_count n clears counts ≡ cond clears 0 (cond counts (suc n) n)
next_is n true counts h = refl
next_is n false true h = cond-true _ _ _ (lt-ltb n (2 ^ 64 - 1) h) ∙ omega arith
next_is n false false h = refl

count_next : (clears counts : Kind → Bool) (t : Kind) (back : List Kind) (n : ℕ) → n ≡ count_since clears counts back
    → length back < 2 ^ 63 → next_count n (clears t) (counts t) ≡ count_since clears counts (t ∷ back)
count_next clears counts t back n e h =
    ap (λ m. next_count m (clears t) (counts t)) e
    ∙ next_is (count_since clears counts back) (clears t) (counts t) (omega (arith, short_count clears counts back))

params_short : (back : List Kind) → params back ≤ length back
params_short [] = omega arith
params_short (t ∷ back) =
    short_choice (begins_section t) (is_name t && holds leads_param (before back)) (params back) (length back)
    (params_short back)

params_next : (t : Kind) (back : List Kind) (n : ℕ) (last : Option Kind) → n ≡ params back → last ≡ before back
    → length back < 2 ^ 63
    → next_count n (begins_section t) (is_name t && holds leads_param last) ≡ params (t ∷ back)
params_next t back n last e f h =
    (λ i. next_count (e i) (begins_section t) (is_name t && holds leads_param (f i)))
    ∙ next_is (params back) (begins_section t) (is_name t && holds leads_param (before back))
    (omega (arith, params_short back))

-- ---- brackets

Stacked : List ℕ → List Kind → Type 0
Stacked stack back = (outside : ℕ) → slice_get stack outside ≡ commas outside back

tail_get : (stack : List ℕ) (d : ℕ) → slice_get (without_first stack) d ≡ slice_get stack (suc d)
tail_get [] d = refl
tail_get (n ∷ stack) d = refl

more_is : (n : ℕ) → n < 2 ^ 63 → next_count n false true ≡ suc n
more_is n h = next_is n false true (omega arith)

short_get : (stack : List ℕ) → Type 0
short_get [] = Unit {0}
short_get (n ∷ stack) = n < 2 ^ 63

first_get : (stack : List ℕ) → short_get stack
    → slice_get (first_more stack) 0 ≡ option_map suc (slice_get stack 0)
unfolding short_get
first_get [] h = refl
first_get (n ∷ stack) h = ap Some (more_is n h)

other_get : (stack : List ℕ) (d : ℕ) → slice_get (first_more stack) (suc d) ≡ slice_get stack (suc d)
other_get [] d = refl
other_get (n ∷ stack) d = refl

suc_not : (d : ℕ) → (suc d == 0) ≡ false
suc_not d = ne_eqb (suc d) 0 (λ e. omega (arith, e))

one_less : (d : ℕ) → suc d - 1 ≡ d
one_less d = omega arith

-- a step, by the tests of its token
unfoldable pub level : Bool → Bool → Bool → Bool → ℕ → (ℕ → Option ℕ) → Option ℕ
level section shut up comma d rest =
    cond section None (cond shut (rest (suc d)) (cond up (cond (d == 0) (Some 0) (rest (d - 1)))
    (cond (comma && d == 0) (option_map suc (rest 0)) (rest d))))

unfoldable pub stack_of : Bool → Bool → Bool → Bool → List ℕ → List ℕ → List ℕ
stack_of section shut up comma stack more =
    cond section [] (cond shut (without_first stack) (cond up (0 ∷ stack) (cond comma more stack)))

-- the second stack is the first with one comma more
pub level_step : (section shut up comma : Bool) (stack more : List ℕ) (rest : ℕ → Option ℕ)
    → slice_get more 0 ≡ option_map suc (slice_get stack 0)
    → ((d : ℕ) → slice_get more (suc d) ≡ slice_get stack (suc d))
    → ((d : ℕ) → slice_get stack d ≡ rest d)
    → (d : ℕ) → slice_get (stack_of section shut up comma stack more) d ≡ level section shut up comma d rest
unfolding level stack_of
level_step true shut up comma stack more rest first others h d = refl
level_step false true up comma stack more rest first others h d = tail_get stack d ∙ h (suc d)
level_step false false true comma stack more rest first others h zero = refl
level_step false false true comma stack more rest first others h (suc d) =
    h d ∙ ap rest (sym (one_less d)) ∙ sym (cond-false (suc d == 0) (Some 0) (rest (suc d - 1)) (suc_not d))
level_step false false false true stack more rest first others h zero = first ∙ ap (option_map suc) (h 0)
level_step false false false true stack more rest first others h (suc d) =
    others d ∙ h (suc d) ∙ sym (cond-false (suc d == 0) (option_map suc (rest 0)) (rest (suc d)) (suc_not d))
level_step false false false false stack more rest first others h d = h d

-- no bracket has more commas than there are tokens
IsShort : ℕ → Option ℕ → Type 0
IsShort most None = Unit {0}
IsShort most (Some n) = n ≤ most

longer : (most : ℕ) (o : Option ℕ) → IsShort most o → IsShort (suc most) o
unfolding IsShort
longer most None h = tt
longer most (Some n) h = omega arith

one_longer : (most : ℕ) (o : Option ℕ) → IsShort most o → IsShort (suc most) (option_map suc o)
unfolding IsShort
one_longer most None h = tt
one_longer most (Some n) h = omega arith

level_short : (section shut up comma : Bool) (d most : ℕ) (rest : ℕ → Option ℕ) → ((d : ℕ) → IsShort most (rest d))
    → IsShort (suc most) (level section shut up comma d rest)
unfolding level IsShort
level_short true shut up comma d most rest h = tt
level_short false true up comma d most rest h = longer most (rest (suc d)) (h (suc d))
level_short false false true comma zero most rest h = omega arith
level_short false false true comma (suc d) most rest h =
    subst (IsShort (suc most)) (sym (cond-false (suc d == 0) (Some 0) (rest (suc d - 1)) (suc_not d)))
    (longer most (rest (suc d - 1)) (h (suc d - 1)))
level_short false false false true zero most rest h = one_longer most (rest 0) (h 0)
level_short false false false true (suc d) most rest h =
    subst (IsShort (suc most)) (sym (cond-false (suc d == 0) (option_map suc (rest 0)) (rest (suc d)) (suc_not d)))
    (longer most (rest (suc d)) (h (suc d)))
level_short false false false false d most rest h = longer most (rest d) (h d)

commas_short : (back : List Kind) (d : ℕ) → IsShort (length back) (commas d back)
unfolding level IsShort
commas_short [] d = tt
commas_short (t ∷ back) d =
    level_short (begins_section t) (closes t) (opens t) (is_comma t) d (length back) (λ d. commas d back)
    (commas_short back)

stack_short : (stack : List ℕ) (back : List Kind) → Stacked stack back → length back < 2 ^ 63 → short_get stack
unfolding Stacked IsShort short_get
stack_short [] back h small = tt
stack_short (n ∷ stack) back h small =
    let most : IsShort (length back) (Some n) = subst (IsShort (length back)) (sym (h 0)) (commas_short back 0) in
    omega (arith, most)

stacked_next : (stack : List ℕ) (t : Kind) (back : List Kind) → Stacked stack back → length back < 2 ^ 63
    → Stacked (nested stack t) (t ∷ back)
unfolding Stacked level stack_of
stacked_next stack t back h small =
    level_step (begins_section t) (closes t) (opens t) (is_comma t) stack (first_more stack) (λ d. commas d back)
    (first_get stack (stack_short stack back h small)) (other_get stack) h

-- ---- a token more

pub counted_next : (old new : Counts) (t : Kind) (back : List Kind) → Counted old back → Noted old new t
    → length back < 2 ^ 63 → Counted new (t ∷ back)
unfolding Stacked
counted_next old new t back c n small = record {
  contracts = n.contracts ∙ count_next nowhere is_contract t back old.contracts c.contracts small;
  clauses = n.clauses ∙ count_next is_contract is_clause t back old.clauses c.clauses small;
  statements = n.statements ∙ count_next is_clause is_statement t back old.statements c.statements small;
  assets = n.assets ∙ count_next is_requires is_of t back old.assets c.assets small;
  operators = n.operators ∙ count_next leads_expression is_operator t back old.operators c.operators small;
  params = n.params ∙ params_next t back old.params old.before c.params c.before small;
  section = n.section ∙ ap (λ o. next_last o (begins_section t) t) c.section;
  part = n.part ∙ ap (λ o. next_last o (begins_part t) t) c.part;
  before = n.before;
  brackets = λ d. ap (λ stack. slice_get stack d) n.brackets
      ∙ stacked_next (reverse old.brackets.items) t back c.brackets small d;
}

-- ---- the limits

pub first_get_is : (stack : List ℕ) → first_of stack ≡ slice_get stack 0
first_get_is [] = refl
first_get_is (n ∷ stack) = refl

-- the numbers of the limits, by what they are told from
abbrev pub told : ℕ → ℕ → ℕ → ℕ → ℕ → ℕ → Option Kind → Option Kind → Option Kind → Option ℕ → Kind → Option ℕ
told contracts clauses statements assets operators params section part last top t =
    if is_contract t && nat_le 16 contracts then Some 1
    else (if is_name t && holds leads_param last && holds is_contract section && nat_le 32 params then Some 2
    else (if is_clause t && nat_le 16 clauses then Some 3
    else (if is_name t && holds leads_param last && holds is_clause section && nat_le 32 params then Some 4
    else (if is_name t && holds is_comma last && holds is_requires part && is_none top && nat_le 8 assets then Some 5
    else (if is_statement t && nat_le 64 statements then Some 6
    else (if holds is_comma last && holds takes_expressions section && at_least 16 top then Some 8
    else (if is_operator t && nat_le 256 operators then Some 9
    else None)))))))

pub passed_is : (c : Counts) (back : List Kind) → Counted c back → (t : Kind) → counts_passed c t ≡ passes back t
passed_is c back h t =
    let top : first_of (reverse c.brackets.items) ≡ commas 0 back
    = first_get_is (reverse c.brackets.items) ∙ h.brackets 0 in
    (λ i. told (h.contracts i) (h.clauses i) (h.statements i) (h.assets i) (h.operators i) (h.params i) (h.section i)
    (h.part i) (h.before i) (top i) t)

-- ---- the tokens before a place

abbrev pub kinds : List Lexeme → List Kind
kinds lexemes = map (λ l. l.kind) lexemes

kind_at : (lexemes : List Lexeme) (at : ℕ) (d : Lexeme) → at < length lexemes
    → get_or (kinds lexemes) at kind.End ≡ (get_or lexemes at d).kind
kind_at lexemes at d h = get_or-map (λ l. l.kind) lexemes at d kind.End h

back_next : (tokens : List Kind) (at : ℕ) (t : Kind) → at < length tokens → get_or tokens at kind.End ≡ t
    → reverse (take (at + 1) tokens) ≡ t ∷ reverse (take at tokens)
back_next tokens at t h e =
    ap reverse (take_more tokens at kind.End h) ∙ reverse-append (take at tokens) (get_or tokens at kind.End ∷ [])
    ∙ ap (λ u. u ∷ reverse (take at tokens)) e

pub step_counted : (lexemes : List Lexeme) (at : ℕ) (d : Lexeme) (old new : Counts)
    → Counted old (reverse (take at (kinds lexemes))) → Noted old new (get_or lexemes at d).kind
    → at < length lexemes → length lexemes < 2 ^ 63 → Counted new (reverse (take (at + 1) (kinds lexemes)))
step_counted lexemes at d old new c n h small =
    let all : length (kinds lexemes) ≡ length lexemes = length-map lexemes (λ l. l.kind) in
    let size : length (reverse (take at (kinds lexemes))) ≡ at
    = length-reverse (take at (kinds lexemes)) ∙ length-take-le at (kinds lexemes) (omega arith) in
    subst (Counted new)
    (sym (back_next (kinds lexemes) at (get_or lexemes at d).kind (omega arith) (kind_at lexemes at d h)))
    (counted_next old new (get_or lexemes at d).kind (reverse (take at (kinds lexemes))) c n (omega arith))

pub step_passed : (lexemes : List Lexeme) (at : ℕ) (d : Lexeme) (counts : Counts) (found : Option ℕ)
    → Counted counts (reverse (take at (kinds lexemes))) → found ≡ counts_passed counts (get_or lexemes at d).kind
    → at < length lexemes → passes_at (kinds lexemes) at ≡ found
step_passed lexemes at d counts found c e h =
    ap (λ t. passes (reverse (take at (kinds lexemes))) t) (kind_at lexemes at d h)
    ∙ sym (passed_is counts (reverse (take at (kinds lexemes))) c (get_or lexemes at d).kind) ∙ sym e

-- ---- the kinds of cuts are those of their tokens

kind_is : (k : Kind) (bytes : List ℕ) → kind_of (token_of k bytes) ≡ k
kind_is (kind.Word k) bytes = refl
kind_is (kind.Sign s) bytes = refl
kind_is (kind.Operation o) bytes = refl
kind_is kind.Name bytes = refl
kind_is (kind.Number n) bytes = refl
kind_is kind.Hex bytes = refl
kind_is kind.Quoted bytes = refl
kind_is kind.End bytes = refl
kind_is kind.Bad bytes = refl

pub kinds_placed : (lexemes : List Lexeme) → map kind_of (places.kinds (tokens lexemes)) ≡ kinds lexemes
kinds_placed [] = refl
kinds_placed (l ∷ lexemes) = (λ i. kind_is l.kind l.bytes.now i ∷ kinds_placed lexemes i)
