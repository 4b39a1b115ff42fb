-- The counts from which the limits are known, one token after the other. Only contracts of private functions name it.
use Rattle.std.specs.Prelude.{◌≡◌, ◌+◌, ◌-◌, ◌^◌, ℕ, Bool, true, false, ◌&&◌, nat_le, nat_lt, if◌then◌else◌}
use Rattle.std.specs.Prelude.{List, [], ◌∷◌, reverse, slice_get, Option, Some, None, is_none}
use Rattle.ivy_syntax.specs.declared.lexeme.Kind.{Kind}
use Rattle.ivy_syntax.specs.declared.limits.Counts.{Counts}
use Rattle.ivy_syntax.specs.Limits.{is_contract, is_clause, is_requires, is_of, is_statement, is_name, is_operator}
use Rattle.ivy_syntax.specs.Limits.{is_comma}
use Rattle.ivy_syntax.specs.Limits.{opens, closes, leads_param, leads_expression, begins_section, begins_part}
use Rattle.ivy_syntax.specs.Limits.{takes_expressions, count_since, nowhere, last_of, holds, before, params, commas}
use Rattle.ivy_syntax.specs.Limits.{at_least}

-- the counts of the tokens before one, the nearest first
pub record Counted (counts : Counts) (back : List Kind) : Type 0 where
  pub contracts : counts.contracts ≡ count_since nowhere is_contract back
  pub clauses : counts.clauses ≡ count_since is_contract is_clause back
  pub statements : counts.statements ≡ count_since is_clause is_statement back
  pub assets : counts.assets ≡ count_since is_requires is_of back
  pub operators : counts.operators ≡ count_since leads_expression is_operator back
  pub params : counts.params ≡ params back
  pub section : counts.section ≡ last_of begins_section back
  pub part : counts.part ≡ last_of begins_part back
  pub before : counts.before ≡ before back
  pub brackets : (outside : ℕ) → slice_get (reverse counts.brackets.items) outside ≡ commas outside back

-- ---- a step

abbrev pub next_count : ℕ → Bool → Bool → ℕ
next_count n clears counts =
    if clears then 0 else (if counts then (if nat_lt n (2 ^ 64 - 1) then n + 1 else n) else n)

abbrev pub next_last : Option Kind → Bool → Kind → Option Kind
next_last last wanted t = if wanted then Some t else last

abbrev pub without_first : List ℕ → List ℕ
without_first [] = []
without_first (n ∷ stack) = stack

abbrev pub first_more : List ℕ → List ℕ
first_more [] = []
first_more (n ∷ stack) = next_count n false true ∷ stack

-- the commas of the open brackets, the innermost first
abbrev pub nested : List ℕ → Kind → List ℕ
nested stack t =
    if begins_section t then []
    else (if closes t then without_first stack
    else (if opens t then 0 ∷ stack
    else (if is_comma t then first_more stack else stack)))

abbrev pub first_of : List ℕ → Option ℕ
first_of [] = None
first_of (n ∷ stack) = Some n

pub record Noted (old new : Counts) (t : Kind) : Type 0 where
  pub contracts : new.contracts ≡ next_count old.contracts false (is_contract t)
  pub clauses : new.clauses ≡ next_count old.clauses (is_contract t) (is_clause t)
  pub statements : new.statements ≡ next_count old.statements (is_clause t) (is_statement t)
  pub assets : new.assets ≡ next_count old.assets (is_requires t) (is_of t)
  pub operators : new.operators ≡ next_count old.operators (leads_expression t) (is_operator t)
  pub params : new.params ≡ next_count old.params (begins_section t) (is_name t && holds leads_param old.before)
  pub section : new.section ≡ next_last old.section (begins_section t) t
  pub part : new.part ≡ next_last old.part (begins_part t) t
  pub before : new.before ≡ Some t
  pub brackets : reverse new.brackets.items ≡ nested (reverse old.brackets.items) t

-- ---- the limits by the counts

abbrev pub param_passed : (Kind → Bool) → Counts → Kind → Bool
param_passed owner c t = is_name t && holds leads_param c.before && holds owner c.section && nat_le 32 c.params

abbrev pub requirement_passed : Counts → Kind → Bool
requirement_passed c t =
    is_name t && holds is_comma c.before && holds is_requires c.part
    && is_none (first_of (reverse c.brackets.items)) && nat_le 8 c.assets

abbrev pub member_passed : Counts → Bool
member_passed c =
    holds is_comma c.before && holds takes_expressions c.section && at_least 16 (first_of (reverse c.brackets.items))

abbrev pub counts_passed : Counts → Kind → Option ℕ
counts_passed c t =
    if is_contract t && nat_le 16 c.contracts then Some 1
    else (if param_passed is_contract c t then Some 2
    else (if is_clause t && nat_le 16 c.clauses then Some 3
    else (if param_passed is_clause c t then Some 4
    else (if requirement_passed c t then Some 5
    else (if is_statement t && nat_le 64 c.statements then Some 6
    else (if member_passed c then Some 8
    else (if is_operator t && nat_le 256 c.operators then Some 9
    else None)))))))
