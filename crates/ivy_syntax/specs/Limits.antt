-- The counted limits of a text, over its tokens alone. `back` are the tokens before one, the nearest first. Public
-- statements rest on this file.
use Rattle.std.specs.Prelude.{◌≡◌, ◌<◌, ℕ, suc, Bool, true, false, ◌&&◌, not, nat_le, ◌==◌, ◌-◌, if◌then◌else◌}
use Rattle.std.specs.Prelude.{List, [], ◌∷◌, length, reverse, take, slice_index_or, Option, Some, None, is_none}
use Rattle.std.specs.Prelude.{option_map}
use Rattle.ivy_syntax.specs.declared.lexeme.Keyword.TheVariants as keyword
use Rattle.ivy_syntax.specs.declared.lexeme.Symbol.TheVariants as symbol
use Rattle.ivy_syntax.specs.declared.lexeme.Kind.{Kind}
use Rattle.ivy_syntax.specs.declared.lexeme.Kind.TheVariants.{Word, Sign, Operation, Name, End}

-- ---- kinds of tokens

abbrev pub is_contract : Kind → Bool
is_contract (Word keyword.Contract) = true
is_contract _ = false

abbrev pub is_clause : Kind → Bool
is_clause (Word keyword.Clause) = true
is_clause _ = false

abbrev pub is_requires : Kind → Bool
is_requires (Word keyword.Requires) = true
is_requires _ = false

abbrev pub is_of : Kind → Bool
is_of (Word keyword.Of) = true
is_of _ = false

abbrev pub is_statement : Kind → Bool
is_statement (Word keyword.Verify) = true
is_statement (Word keyword.Lock) = true
is_statement (Word keyword.Unlock) = true
is_statement _ = false

abbrev pub is_name : Kind → Bool
is_name Name = true
is_name _ = false

abbrev pub is_operator : Kind → Bool
is_operator (Operation o) = true
is_operator _ = false

abbrev pub is_comma : Kind → Bool
is_comma (Sign symbol.Comma) = true
is_comma _ = false

abbrev pub opens : Kind → Bool
opens (Sign symbol.OpenParen) = true
opens (Sign symbol.OpenBracket) = true
opens _ = false

abbrev pub closes : Kind → Bool
closes (Sign symbol.CloseParen) = true
closes (Sign symbol.CloseBracket) = true
closes _ = false

-- after which a parameter stands
abbrev pub leads_param : Kind → Bool
leads_param (Sign symbol.OpenParen) = true
leads_param (Sign symbol.Comma) = true
leads_param _ = false

-- after which an expression stands that is counted by itself
abbrev pub leads_expression : Kind → Bool
leads_expression (Word keyword.Verify) = true
leads_expression (Word keyword.With) = true
leads_expression (Word keyword.Of) = true
leads_expression (Sign symbol.Colon) = true
leads_expression _ = false

-- a keyword but `true` and `false` begins a section
abbrev pub begins_section : Kind → Bool
begins_section (Word keyword.True) = false
begins_section (Word keyword.False) = false
begins_section (Word k) = true
begins_section _ = false

-- ---- what stands before a token

-- how many of these stand after the last of those
abbrev pub count_since : (Kind → Bool) → (Kind → Bool) → List Kind → ℕ
count_since clears counts [] = 0
count_since clears counts (t ∷ back) =
    if clears t then 0
    else (if counts t then suc (count_since clears counts back) else count_since clears counts back)

abbrev pub nowhere : Kind → Bool
nowhere t = false

-- the last of these
abbrev pub last_of : (Kind → Bool) → List Kind → Option Kind
last_of wanted [] = None
last_of wanted (t ∷ back) = if wanted t then Some t else last_of wanted back

-- whether there is such a one
abbrev pub holds : (Kind → Bool) → Option Kind → Bool
holds test None = false
holds test (Some t) = test t

-- the token right before
abbrev pub before : List Kind → Option Kind
before [] = None
before (t ∷ back) = Some t

-- the names after `(` or `,` since the last section began
abbrev pub params : List Kind → ℕ
params [] = 0
params (t ∷ back) =
    if begins_section t then 0
    else (if is_name t && holds leads_param (before back) then suc (params back) else params back)

-- How many commas stand at its own level in the bracket round this place, or in that outside so many others; nothing
-- where the section has opened none that is open still.
abbrev pub commas : ℕ → List Kind → Option ℕ
commas outside [] = None
commas outside (t ∷ back) =
    if begins_section t then None
    else (if closes t then commas (suc outside) back
    else (if opens t then (if outside == 0 then Some 0 else commas (outside - 1) back)
    else (if is_comma t && outside == 0 then option_map suc (commas 0 back)
    else commas outside back)))

abbrev pub at_least : ℕ → Option ℕ → Bool
at_least least None = false
at_least least (Some n) = nat_le least n

-- ---- the limits, each passed by a token after which so many stand already

-- a contract is counted at its keyword
abbrev pub passes_contracts : List Kind → Kind → Bool
passes_contracts back t = is_contract t && nat_le 16 (count_since nowhere is_contract back)

-- a parameter of a contract or of a clause is counted at its name
abbrev pub passes_params : (Kind → Bool) → List Kind → Kind → Bool
passes_params owner back t =
    is_name t && holds leads_param (before back) && holds owner (last_of begins_section back) && nat_le 32 (params back)

abbrev pub passes_clauses : List Kind → Kind → Bool
passes_clauses back t = is_clause t && nat_le 16 (count_since is_contract is_clause back)

abbrev pub begins_part : Kind → Bool
begins_part t = begins_section t && not (is_of t)

-- a requirement is counted at its name; each one before it has its `of`
abbrev pub passes_requirements : List Kind → Kind → Bool
passes_requirements back t =
    is_name t && holds is_comma (before back) && holds is_requires (last_of begins_part back) && is_none (commas 0 back)
    && nat_le 8 (count_since is_requires is_of back)

abbrev pub passes_statements : List Kind → Kind → Bool
passes_statements back t = is_statement t && nat_le 64 (count_since is_clause is_statement back)

abbrev pub takes_expressions : Kind → Bool
takes_expressions (Word keyword.Verify) = true
takes_expressions (Word keyword.With) = true
takes_expressions (Word keyword.Of) = true
takes_expressions (Word keyword.Requires) = true
takes_expressions _ = false

-- a member of a list or call is counted at its first token, after a comma
abbrev pub passes_members : List Kind → Bool
passes_members back =
    holds is_comma (before back) && holds takes_expressions (last_of begins_section back) && at_least 16 (commas 0 back)

abbrev pub passes_operators : List Kind → Kind → Bool
passes_operators back t = is_operator t && nat_le 256 (count_since leads_expression is_operator back)

-- the smallest number of these limits that the token passes
abbrev pub passes : List Kind → Kind → Option ℕ
passes back t =
    if passes_contracts back t then Some 1
    else (if passes_params is_contract back t then Some 2
    else (if passes_clauses back t then Some 3
    else (if passes_params is_clause back t then Some 4
    else (if passes_requirements back t then Some 5
    else (if passes_statements back t then Some 6
    else (if passes_members back then Some 8
    else (if passes_operators back t then Some 9
    else None)))))))

-- the limit that the token at this place passes
abbrev pub passes_at : List Kind → ℕ → Option ℕ
passes_at tokens at = passes (reverse (take at tokens)) (slice_index_or tokens at End)

-- The first token that passes a limit, by its place among the tokens, and the number; or none does.
abbrev pub FirstPassed : List Kind → Option (ℕ × ℕ) → Type 0
FirstPassed tokens None = (at : ℕ) → at < length tokens → passes_at tokens at ≡ None
FirstPassed tokens (Some found) =
    (found.0 < length tokens) × (passes_at tokens found.0 ≡ Some found.1)
    × ((at : ℕ) → at < found.0 → passes_at tokens at ≡ None)
