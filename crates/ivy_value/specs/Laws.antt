-- What holds of values, of clauses and of core. Public statements name it.
use Rattle.std.specs.Prelude.{◌≡◌, ◌↔◌, ℕ, List, [], ◌∷◌, map}
use Rattle.ivy_syntax.specs.declared.tree.ClauseTree.{ClauseTree}
use Rattle.ivy_syntax.specs.declared.tree.Contract.{Contract}
use Rattle.vm_num.specs.Item.{Item}
use Rattle.ivy_value.specs.declared.tree.CoreContract.{CoreContract}
use Rattle.ivy_value.specs.Items.{Spending}
use Rattle.ivy_check.specs.Parameters.{parameters}
use Rattle.ivy_value.specs.Holds.{Holds, Selects}
use Rattle.ivy_value.specs.Steps.{Clause, clause_of, StepsHold}

-- ---- core

-- the core of a clause: it has the clause's parameters, and for every spending it holds exactly where the clause does
pub record IsClauseCore (contract : Contract) (tree : ClauseTree) (clause : Clause) : Type 0 where
  pub params : clause.given ≡ parameters tree.params
  pub same : (s : Spending) → Holds (record { contract = contract; clause = tree }) s ↔ StepsHold s 0 clause.steps

-- those of several, in order
pub data AreClauseCores (contract : Contract) : List ClauseTree → List Clause → Type 0 where
  none : AreClauseCores contract [] []
  one_more : {tree : ClauseTree} {trees : List ClauseTree} {clause : Clause} {clauses : List Clause}
      → IsClauseCore contract tree clause
      → AreClauseCores contract trees clauses
      → AreClauseCores contract (tree ∷ trees) (clause ∷ clauses)

-- the core of a contract
pub record IsCore (contract : Contract) (core : CoreContract) : Type 0 where
  pub params : core.held ≡ parameters contract.params
  pub clauses : AreClauseCores contract contract.clauses (map clause_of core.clauses)

-- those of several, in order
pub data AreCores : List Contract → List CoreContract → Type 0 where
  none : AreCores [] []
  one_more : {contract : Contract} {contracts : List Contract} {core : CoreContract} {cores : List CoreContract}
      → IsCore contract core
      → AreCores contracts cores
      → AreCores (contract ∷ contracts) (core ∷ cores)

-- ---- selection

-- By any arguments one clause is selected at most, and with one list of its arguments.
abbrev pub OneIsSelected : Type 0
OneIsSelected = (contract : Contract) (arguments : List Item) (i j : ℕ) (held given : List Item)
    → Selects contract arguments i held
    → Selects contract arguments j given
    → (i ≡ j) × (held ≡ given)
