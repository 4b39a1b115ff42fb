-- A typed clause has a core, which holds exactly where it does.
use Rattle.std.proofs.Common.{◌≡◌, ◌↔◌, ◌<◌, ℕ, zero, suc, ◌+◌, length, take, get_or, arith, Bool, true, false, ◌||◌, List, [], ◌∷◌, ◌++◌, map, Option, Some, None, option_map, refl, ap, sym, ◌∙◌, subst, bytes_eq, if◌then◌else◌}
use Rattle.std.specs.Prelude.{option_and_then}
use Rattle.std.specs.List.{AllByRecursion}
use Rattle.std.proofs.lemmas.List.{take_more}
use Rattle.ivy_syntax.specs.declared.tree.Expr.{Expr}
use Rattle.ivy_syntax.specs.declared.tree.Req.{Req}
use Rattle.ivy_syntax.specs.declared.tree.Stmt.{Stmt}
use Rattle.ivy_syntax.specs.declared.tree.Stmt.TheVariants as stmt
use Rattle.ivy_syntax.specs.declared.tree.ClauseTree.{ClauseTree}
use Rattle.ivy_syntax.specs.declared.tree.Contract.{Contract}
use Rattle.ivy_check.specs.declared.types.IvyType.{IvyType}
use Rattle.ivy_check.specs.declared.types.IvyType.TheVariants.{Amount, Asset, Boolean, Program}
use Rattle.ivy_check.specs.Scope.{Scope}
use Rattle.ivy_check.specs.Typing.{is_one_of, HasType, TakesType}
use Rattle.ivy_check.specs.WellTyped.{required_names, RequirementIsTyped, StatementIsTyped, ClauseIsTyped, ContractIsTyped}
use Rattle.vm_num.specs.Item.{Item}
use Rattle.ivy_value.specs.declared.kind.Kind.{Kind}
use Rattle.ivy_check.specs.declared.parameters.Param.{Param}
use Rattle.ivy_value.specs.Items.{Spending}
use Rattle.ivy_check.specs.Parameters.{parameters}
use Rattle.ivy_value.specs.Value.{One, item, item_value}
use Rattle.ivy_value.specs.Holds.{IsTruth, HasOutput, requirement_of, required_asset, required_amount, amount_of, StatementsHold, Holds}
use Rattle.ivy_value.specs.Holds as holds
use Rattle.ivy_value.specs.Term.{Term, item_of}
use Rattle.ivy_value.specs.Steps.{Worth, Locked, Required, Step, Verify, Lock, Clause, clause_of, StepsHold}
use Rattle.ivy_value.specs.Steps as steps
use Rattle.ivy_value.specs.Lowered.{single, lowered_term, lowered_req, lowered_worth, lowered_stmts, followed_by, locked}
use Rattle.ivy_value.specs.Lowered.{required, one_step, lowered_clause, lowered_clauses}
use Rattle.ivy_value.specs.declared.tree.CoreClause.{CoreClause}
use Rattle.ivy_value.specs.declared.tree.CoreContract.{CoreContract}
use Rattle.ivy_value.specs.Laws.{IsClauseCore, AreClauseCores, IsCore, AreCores}
use Rattle.ivy_value.specs.Laws as laws
use Rattle.ivy_value.proofs.Agrees.{names, Agrees, agrees, taken}

item_of_one : (kind : Kind) (o : Option Item) → item (option_map (One kind) o) ≡ o
item_of_one kind None = refl
item_of_one kind (Some a) = refl

module _ (scope : Scope) where
  -- the term of an expression has its item
  pub record HasTerm (e : Expr) : Type 0 where
    pub core : Term
    pub lowers : lowered_term (names scope) e ≡ Some core
    pub same : (s : Spending) → item_value scope s e ≡ item_of s core

  term_of_agreed : (e : Expr) (kind : Kind) → Agrees scope e kind → HasTerm e
  term_of_agreed e kind a = record {
    core = a.core;
    lowers = ap single a.lowers;
    same = λ s. ap item (a.same s) ∙ item_of_one kind (item_of s a.core);
  }

  typed_term : (e : Expr) (type : IvyType) → HasType scope e type → HasTerm e
  typed_term e type h = term_of_agreed e _ (agrees scope h)

  pub taken_term : (e : Expr) (type : IvyType) → TakesType scope e type → HasTerm e
  taken_term e type h = term_of_agreed e _ (taken scope h)

  -- ---- values

  -- the requirement of a value that is required is there, and typed
  required_is : (name : List ℕ) (reqs : List Req) → AllByRecursion (RequirementIsTyped scope) reqs
      → is_one_of (required_names reqs) name ≡ true
      → (req : Req) × (requirement_of name reqs ≡ Some req) × RequirementIsTyped scope req
  required_is name [] all is = absurd cc
  required_is name (req ∷ reqs) all is = by_first (bytes_eq req.name.name name) refl is (required_is name reqs all.1)
    where
      by_first : (b : Bool) → bytes_eq req.name.name name ≡ b → (b || is_one_of (required_names reqs) name) ≡ true
          → (is_one_of (required_names reqs) name ≡ true
          → (req : Req) × (requirement_of name reqs ≡ Some req) × RequirementIsTyped scope req)
          → (r : Req) × (requirement_of name (req ∷ reqs) ≡ Some r) × RequirementIsTyped scope r
      by_first true eq is next = (req, ap (λ (b : Bool). if b then Some req else requirement_of name reqs) eq, all.0)
      by_first false eq is next =
          let found = next is in
          (found.0, ap (λ (b : Bool). if b then Some req else requirement_of name reqs) eq ∙ found.1, found.2)

  abbrev Lowers : List ℕ → Option Worth
  Lowers = lowered_worth (names scope) scope.contract.value.name scope.clause.reqs

  record HasWorth (name : List ℕ) : Type 0 where
    worth : Worth
    lowers : Lowers name ≡ Some worth
    asset : (s : Spending) → holds.asset_of scope s name ≡ steps.asset_of s worth
    units : (s : Spending) → holds.units_of scope s name ≡ steps.units_of s worth

  worth_is : (name : List ℕ) (b : Bool) → bytes_eq scope.contract.value.name name ≡ b
      → AllByRecursion (RequirementIsTyped scope) scope.clause.reqs
      → (b || is_one_of (required_names scope.clause.reqs) name) ≡ true
      → HasWorth name
  worth_is name true eq all is = record {
    worth = Locked;
    lowers = ap (λ (b : Bool). if b then Some Locked
        else option_and_then (lowered_req (names scope)) (requirement_of name scope.clause.reqs)) eq;
    asset = λ s. ap (λ (b : Bool). if b then Some s.context.asset
        else required_asset scope s (requirement_of name scope.clause.reqs)) eq;
    units = λ s. ap (λ (b : Bool). if b then Some s.context.amount
        else required_amount scope s (requirement_of name scope.clause.reqs)) eq;
  }
  worth_is name false eq all is =
      let req = required_is name scope.clause.reqs all is in
      let amount = taken_term req.0.amount Amount req.2.amount in
      let asset = taken_term req.0.asset Asset req.2.asset in record {
        worth = Required amount.core asset.core;
        lowers = ap (λ (b : Bool). if b then Some Locked
            else option_and_then (lowered_req (names scope)) (requirement_of name scope.clause.reqs)) eq
            ∙ ap (option_and_then (lowered_req (names scope))) req.1
            ∙ (λ i. required (amount.lowers i) (asset.lowers i));
        asset = λ s. ap (λ (b : Bool). if b then Some s.context.asset
            else required_asset scope s (requirement_of name scope.clause.reqs)) eq
            ∙ ap (required_asset scope s) req.1
            ∙ asset.same s;
        units = λ s. ap (λ (b : Bool). if b then Some s.context.amount
            else required_amount scope s (requirement_of name scope.clause.reqs)) eq
            ∙ ap (required_amount scope s) req.1
            ∙ ap amount_of (amount.same s);
      }

  -- ---- statements

  abbrev LowersAll : List Stmt → Option (List Step)
  LowersAll = lowered_stmts (names scope) scope.contract.value.name scope.clause.reqs

  record HasSteps (stmts : List Stmt) : Type 1 where
    core : List Step
    lowers : LowersAll stmts ≡ Some core
    same : (s : Spending) (k : ℕ) → StatementsHold scope s k stmts ≡ StepsHold s k core

  steps_are : (stmts : List Stmt) → AllByRecursion (RequirementIsTyped scope) scope.clause.reqs
      → AllByRecursion (StatementIsTyped scope) stmts → HasSteps stmts
  steps_are [] reqs all = record { core = []; lowers = refl; same = λ s k. refl }
  steps_are (stmt.Verify at e ∷ stmts) reqs all =
      let first = typed_term e Boolean all.0 in
      let rest = steps_are stmts reqs all.1 in record {
        core = Verify first.core ∷ rest.core;
        lowers = λ i. followed_by (one_step (option_map (λ t. Verify t) (first.lowers i))) (rest.lowers i);
        same = λ s k i. IsTruth (first.same s i) × rest.same s k i;
      }
  steps_are (stmt.Lock at v e ∷ stmts) reqs all =
      let program = typed_term e Program all.0.1 in
      let worth = worth_is v.name (bytes_eq scope.contract.value.name v.name) refl reqs all.0.0 in
      let rest = steps_are stmts reqs all.1 in record {
        core = Lock worth.worth program.core ∷ rest.core;
        lowers = λ i. followed_by (one_step (locked (worth.lowers i) (program.lowers i))) (rest.lowers i);
        same = λ s k i. HasOutput s.context (s.context.index + k) (worth.asset s i) (worth.units s i) (program.same s i)
            × rest.same s (k + 1) i;
      }
  steps_are (stmt.Unlock at v ∷ stmts) reqs all =
      let rest = steps_are stmts reqs all.1 in record {
        core = rest.core;
        lowers = ap (followed_by (Some [])) rest.lowers;
        same = rest.same;
      }

-- ---- clauses

-- types that are equal hold together
hold_together : (A B : Type 0) → A ≡ B → A ↔ B
hold_together A B is = subst (λ (C : Type 0). A ↔ C) is (both A)
  where
    both : (A : Type 0) → A ↔ A
    both A = ((λ a. a), (λ a. a))

pub record HasCore (contract : Contract) (trees : List ClauseTree) : Type 0 where
  pub clauses : List Clause
  pub lowers : lowered_clauses (parameters contract.params) contract.value.name trees ≡ Some clauses
  pub are : AreClauseCores contract trees clauses

clauses_are : (contract : Contract) (trees : List ClauseTree) → AllByRecursion (ClauseIsTyped contract) trees
    → HasCore contract trees
unfolding lowered_clause
clauses_are contract [] all = record { clauses = []; lowers = refl; are = laws.none }
clauses_are contract (tree ∷ trees) all =
    let scope : Scope = record { contract = contract; clause = tree } in
    let first = steps_are scope tree.stmts all.0.requirements all.0.statements.each in
    let rest = clauses_are contract trees all.1 in
    let clause : Clause = record { given = parameters tree.params; steps = first.core } in record {
      clauses = clause ∷ rest.clauses;
      lowers = λ i. followed_by (option_map (λ (c : Clause). c ∷ [])
          (option_map (λ (steps : List Step). record { given = parameters tree.params; steps = steps }) (first.lowers i))) (rest.lowers i);
      are = laws.one_more (record {
        params = refl;
        same = λ s. hold_together (Holds scope s) (StepsHold s 0 first.core) (first.same s 0);
      }) rest.are;
    }

-- the walk over the clauses of a typed contract ends with their core
pub core_is : (contract : Contract) → ContractIsTyped contract → HasCore contract contract.clauses
core_is contract typed = clauses_are contract contract.clauses typed.clauses

-- so the walk does not end without
pub there_is_core : (contract : Contract) (o : Option (List CoreClause)) → ContractIsTyped contract → o ≡ None
    → option_map (map clause_of) o ≡ lowered_clauses (parameters contract.params) contract.value.name contract.clauses
    → ⊥
there_is_core contract o typed none is = cc_none (sym (ap (option_map (map clause_of)) none) ∙ is ∙ (core_is contract typed).lowers)
  where
    cc_none : None ≡ Some (core_is contract typed).clauses → ⊥
    cc_none h = cc

pub core_of_typed : (contract : Contract) (held : List Param) (clauses : List CoreClause) → ContractIsTyped contract
    → held ≡ parameters contract.params
    → Some (map clause_of clauses) ≡ lowered_clauses held contract.value.name contract.clauses
    → IsCore contract (record { held = held; clauses = clauses })
core_of_typed contract held clauses typed held_is is =
    let core = core_is contract typed in record {
      params = held_is;
      clauses = subst (λ (cs : List Clause). AreClauseCores contract contract.clauses cs)
          (sym (some_is (is ∙ ap (λ (h : List Param). lowered_clauses h contract.value.name contract.clauses) held_is ∙ core.lowers))) core.are;
    }
  where
    some_is : Some (map clause_of clauses) ≡ Some (core_is contract typed).clauses → map clause_of clauses ≡ (core_is contract typed).clauses
    some_is h = cc

-- ---- contracts

pub no_cores : (contracts : List Contract) (cores : List CoreContract) → cores ≡ [] → AreCores (take 0 contracts) cores
no_cores contracts cores is = subst (λ (cs : List CoreContract). AreCores [] cs) (sym is) laws.none

cores_more : (contracts : List Contract) (cores : List CoreContract) (contract : Contract) (core : CoreContract)
    → AreCores contracts cores → IsCore contract core → AreCores (contracts ++ contract ∷ []) (cores ++ core ∷ [])
cores_more [] [] contract core laws.none is = laws.one_more is laws.none
cores_more [] (d ∷ cores) contract core are is = elim are [ ]
cores_more (c ∷ contracts) [] contract core are is = elim are [ ]
cores_more (c ∷ contracts) (d ∷ cores) contract core (laws.one_more first are) is =
    laws.one_more first (cores_more contracts cores contract core are is)

pub cores_next : (contracts : List Contract) (k : ℕ) (cores : List CoreContract) (contract : Contract) (core : CoreContract)
    → k < length contracts → contract ≡ get_or contracts k contract
    → AreCores (take k contracts) cores → IsCore contract core
    → AreCores (take (k + 1) contracts) (cores ++ core ∷ [])
cores_next contracts k cores contract core there at are is =
    subst (λ (cs : List Contract). AreCores cs (cores ++ core ∷ []))
    (sym (take_more contracts k contract there ∙ ap (λ (x : Contract). take k contracts ++ x ∷ []) (sym at)))
    (cores_more (take k contracts) cores contract core are is)

pub contract_typed : (contracts : List Contract) (k : ℕ) (contract : Contract) → AllByRecursion ContractIsTyped contracts
    → k < length contracts → contract ≡ get_or contracts k contract → ContractIsTyped contract
contract_typed [] k contract all there at = absurd (omega (arith, there))
contract_typed (c ∷ contracts) zero contract all there at = subst ContractIsTyped (sym at) all.0
contract_typed (c ∷ contracts) (suc k) contract all there at =
    contract_typed contracts k contract all.1 (omega (arith, there)) at

-- for the loop over contracts
pub ruleset walking = (no_cores, cores_next, contract_typed)
