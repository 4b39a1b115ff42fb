-- The tokens of a source pass no counted limit exactly where its tree has no more of anything than that.
use Rattle.std.proofs.Common.{◌≡◌, ◌≤◌, ◌<◌, ◌+◌, ℕ, suc, List, [], ◌∷◌, ◌++◌, length, refl, ap, subst, arith}
use Rattle.std.proofs.Common.{false, Option, Some, None}
use Rattle.std.proofs.lemmas.List.{append_assoc, length-append}
use Rattle.ivy_syntax.specs.declared.tree.Contract.{Contract}
use Rattle.ivy_syntax.specs.declared.lexeme.Keyword.TheVariants as keyword
use Rattle.ivy_syntax.specs.declared.lexeme.Symbol.TheVariants as symbol
use Rattle.ivy_syntax.specs.declared.lexeme.Kind.{Kind}
use Rattle.ivy_syntax.specs.declared.lexeme.Kind.TheVariants as kind
use Rattle.ivy_syntax.specs.Token as token
use Rattle.ivy_syntax.specs.Tokens.{Placed}
use Rattle.ivy_syntax.specs.Grammar.{word, IsContract, contract, Contracts, a_contract, more_contracts, file}
use Rattle.ivy_syntax.specs.Limits.{is_comma, holds}
use Rattle.ivy_syntax.specs.TreeLimits.{params_of, ClauseIsWithin, ContractIsWithin, LimitsByTree}
use Rattle.ivy_syntax.proofs.LimitStates.{State, start, few_passes}
use Rattle.ivy_syntax.proofs.LimitExpressions.{within, behind}
use Rattle.ivy_syntax.proofs.LimitReadings.{Reading, and_then, passing, limited, ended, fits_as, ends_as}
use Rattle.ivy_syntax.proofs.LimitReadings.{Many, OneMore, one_is, is_one, more_are, are_more}
use Rattle.ivy_syntax.proofs.LimitParams.{AllParams, read_params}
use Rattle.ivy_syntax.proofs.LimitClauses.{Rest, rest_of, counting, opening_brace, closing_brace, begun, counted_here}
use Rattle.ivy_syntax.proofs.LimitClauses.{room_here, ClausesRead, clauses_read}

-- ---- a contract

abbrev ContractParts : ℕ → Contract → Type 0
ContractParts c tree = (c < 16) × ((params_of tree.params ≤ 32) × Many ClauseIsWithin 16 0 tree.clauses)

parts_within : (c : ℕ) (tree : Contract) → ContractParts c tree → OneMore ContractIsWithin 16 c tree
parts_within c tree f =
    (f.0, record { params = f.1.0; clauses = omega (arith, f.1.1.0); each = f.1.1.1 })

within_parts : (c : ℕ) (tree : Contract) → OneMore ContractIsWithin 16 c tree → ContractParts c tree
within_parts c tree f = (f.0, (f.1.params, (omega (arith, f.1.clauses), f.1.each)))

record ContractRead (c d m : ℕ) (last : Option Kind) (x : Rest) (u : List Placed) (tree : Contract) : Type 0 where
  clauses : ℕ
  statements : ℕ
  rest : Rest
  reads : Reading (counting c d m last x) u (counting (suc c) clauses statements (Some closing_brace) rest)
      (OneMore ContractIsWithin 16 c tree)

contract_read : (depth c d m : ℕ) (last : Option Kind) (x : Rest) (u : List Placed) (tree : Contract)
    → holds is_comma last ≡ false → IsContract depth u tree → ContractRead c d m last x u tree
contract_read depth c d m last x _ _ no_comma (contract {u = u} {w = w} {groups = groups} {clauses = clauses} at name
    place first close locks value held begin finish h j) =
    let s : State = counting c d m last x in
    let opened : State = counting (suc c) 0 m (Some (kind.Word keyword.Contract)) (begun keyword.Contract x) in
    let named : State = counting (suc c) 0 m (Some kind.Name) (begun keyword.Contract x) in
    let name_token : Placed = (token.Name name, place) in
    let paren : Placed = (token.Sign symbol.OpenParen, first) in
    let unparen : Placed = (token.Sign symbol.CloseParen, close) in
    let locks_token : Placed = (token.Word keyword.Locks, locks) in
    let value_token : Placed = (token.Name value, held) in
    let brace : Placed = (token.Sign symbol.OpenBrace, begin) in
    let unbrace : Placed = (token.Sign symbol.CloseBrace, finish) in
    let tree : Contract
    = record { name = word name place; params = groups; value = word value held; clauses = clauses } in
    let p : AllParams named (u ++ (unparen ∷ [])) groups
    = read_params named u groups close (record { owned = refl; requires = refl; takes = refl }) refl h in
    let behind_params : State = behind named p.operators (kind.Sign symbol.CloseParen) p.params in
    let y : Rest = begun keyword.Locks (rest_of behind_params) in
    let locking : State = counting (suc c) 0 m (Some (kind.Word keyword.Locks)) y in
    let valued : State = counting (suc c) 0 m (Some kind.Name) y in
    let in_brace : State = counting (suc c) 0 m (Some opening_brace) y in
    let b : ClausesRead (suc c) 0 m (Some opening_brace) y w clauses
    = clauses_read depth (suc c) 0 m (Some opening_brace) y w clauses refl j in
    let behind_clauses : State
    = counting (suc c) (0 + length clauses) b.statements (Some closing_brace) b.rest in
    let body : List Placed = w ++ (unbrace ∷ []) in
    let rest : List Placed = locks_token ∷ value_token ∷ brace ∷ body in
    let ParamsFit : Type 0 = params_of groups ≤ 32 in
    let ClausesFit : Type 0 = Many ClauseIsWithin 16 0 clauses in
    let AllFit : Type 0 = ParamsFit × ClausesFit in
    let of_body : Reading in_brace body behind_clauses ClausesFit
    = ended in_brace behind_clauses w unbrace ClausesFit refl b.reads in
    let of_brace : Reading valued (brace ∷ body) behind_clauses ClausesFit
    = passing valued brace behind_clauses body ClausesFit refl of_body in
    let of_value : Reading locking (value_token ∷ brace ∷ body) behind_clauses ClausesFit
    = passing locking value_token behind_clauses (brace ∷ body) ClausesFit refl of_brace in
    let of_rest : Reading behind_params rest behind_clauses ClausesFit
    = passing behind_params locks_token behind_clauses (value_token ∷ brace ∷ body) ClausesFit refl of_value in
    let of_params : Reading (within named (kind.Sign symbol.OpenParen)) ((u ++ (unparen ∷ [])) ++ rest) behind_clauses
    AllFit
    = and_then (within named (kind.Sign symbol.OpenParen)) behind_params behind_clauses (u ++ (unparen ∷ [])) rest
    ParamsFit ClausesFit p.reads of_rest in
    let all : List Placed = u ++ (unparen ∷ rest) in
    let of_all : Reading (within named (kind.Sign symbol.OpenParen)) all behind_clauses AllFit
    = subst (λ ts. Reading (within named (kind.Sign symbol.OpenParen)) ts behind_clauses AllFit)
    (append_assoc u (unparen ∷ []) rest) of_params in
    let of_paren : Reading named (paren ∷ all) behind_clauses AllFit
    = passing named paren behind_clauses all AllFit refl of_all in
    let of_name : Reading opened (name_token ∷ paren ∷ all) behind_clauses AllFit
    = passing opened name_token behind_clauses (paren ∷ all) AllFit refl of_paren in
    record {
      clauses = 0 + length clauses;
      statements = b.statements;
      rest = b.rest;
      reads = fits_as s behind_clauses ((token.Word keyword.Contract, at) ∷ name_token ∷ paren ∷ all)
          (ContractParts c tree) (OneMore ContractIsWithin 16 c tree) (parts_within c tree) (within_parts c tree)
          (limited s (token.Word keyword.Contract, at) behind_clauses (name_token ∷ paren ∷ all) (c < 16) AllFit
          (counted_here s 1 16 c) (room_here s 1 16 c no_comma) of_name);
    }

-- ---- all contracts

record ContractsRead (c d m : ℕ) (last : Option Kind) (x : Rest) (u : List Placed) (trees : List Contract) : Type 0
  where
    clauses : ℕ
    statements : ℕ
    rest : Rest
    reads : Reading (counting c d m last x) u
        (counting (c + length trees) clauses statements (Some closing_brace) rest) (Many ContractIsWithin 16 c trees)

contracts_read : (depth c d m : ℕ) (last : Option Kind) (x : Rest) (u : List Placed) (trees : List Contract)
    → holds is_comma last ≡ false → Contracts depth u trees → ContractsRead c d m last x u trees
contracts_read depth c d m last x u _ no_comma (a_contract {c = tree} h) =
    let s : State = counting c d m last x in
    let one : ContractRead c d m last x u tree = contract_read depth c d m last x u tree no_comma h in
    let end : State = counting (c + 1) one.clauses one.statements (Some closing_brace) one.rest in
    record {
      clauses = one.clauses;
      statements = one.statements;
      rest = one.rest;
      reads = fits_as s end u (OneMore ContractIsWithin 16 c tree) (Many ContractIsWithin 16 c (tree ∷ []))
          (one_is ContractIsWithin 16 c tree) (is_one ContractIsWithin 16 c tree)
          (ends_as s (counting (suc c) one.clauses one.statements (Some closing_brace) one.rest) end u
          (OneMore ContractIsWithin 16 c tree)
          (ap (λ n. counting n one.clauses one.statements (Some closing_brace) one.rest) (omega arith)) one.reads);
    }
contracts_read depth c d m last x _ _ no_comma (more_contracts {u = u} {w = w} {contracts = trees} {c = tree} h j) =
    let s : State = counting c d m last x in
    let before : ContractsRead c d m last x u trees = contracts_read depth c d m last x u trees no_comma h in
    let n : ℕ = c + length trees in
    let one : ContractRead n before.clauses before.statements (Some closing_brace) before.rest w tree
    = contract_read depth n before.clauses before.statements (Some closing_brace) before.rest w tree refl j in
    let middle : State = counting n before.clauses before.statements (Some closing_brace) before.rest in
    let end : State
    = counting (c + length (trees ++ (tree ∷ []))) one.clauses one.statements (Some closing_brace) one.rest in
    let First : Type 0 = Many ContractIsWithin 16 c trees in
    let Second : Type 0 = OneMore ContractIsWithin 16 n tree in
    record {
      clauses = one.clauses;
      statements = one.statements;
      rest = one.rest;
      reads = fits_as s end (u ++ w) (First × Second) (Many ContractIsWithin 16 c (trees ++ (tree ∷ [])))
          (more_are ContractIsWithin 16 c trees tree) (are_more ContractIsWithin 16 c trees tree)
          (and_then s middle end u w First Second before.reads
          (ends_as middle (counting (suc n) one.clauses one.statements (Some closing_brace) one.rest) end w Second
          (ap (λ n. counting n one.clauses one.statements (Some closing_brace) one.rest)
          (omega (arith, length-append trees (tree ∷ [])))) one.reads));
    }

-- ---- a source

pub limits_by_tree : LimitsByTree
limits_by_tree depth _ _ (file {u = u} {contracts = trees} h) =
    let r : ContractsRead 0 0 0 None (rest_of start) u trees
    = contracts_read depth 0 0 0 None (rest_of start) u trees refl h in
    let few = few_passes u in (
      λ k. (let all = r.reads.to (few.0 k) in record { contracts = omega (arith, all.0); each = all.1 }),
      λ f. few.1 (r.reads.from (omega (arith, f.contracts), f.each)),
    )
