-- Why a transaction is refused: the table of refusals, X1 to X14, a definition a cause.
use Rattle.std.specs.Prelude.{◌≡◌, ◌≢◌, ◌<◌, ◌≤◌, ◌^◌, ◌⊎◌, ℕ, List, [], ◌∷◌, ◌++◌, map, take, slice_get, Contains}
use Rattle.std.specs.Prelude.{Option, Some, None, if◌then◌else◌, bytes_eq}
use Rattle.std.specs.List.{sum_by}
use Rattle.wire.specs.Tables.{First, Cause, Reports}
use Rattle.data_model.specs.declared.input.Input.{Input}
use Rattle.data_model.specs.declared.output.Output.{Output}
use Rattle.data_model.specs.declared.tx.Tx.{Tx}
use Rattle.entry_ids.specs.declared.input.Named.{Named}
use Rattle.keyed.specs.Functions.{Hash}
use Rattle.entry_ids.specs.Ids.{asset_id, output_id, mux_id, result_id, result_ids, names}
use Rattle.vm_num.specs.declared.failure.Failure.{Failure}
use Rattle.keyed.specs.Functions.{Check}
use Rattle.tx_check.specs.declared.refusal.TxRefusal.{TxRefusal}
use Rattle.tx_check.specs.declared.refusal.TxRefusal.TheVariants.{X1, X2, X3, X4, X5, X6, X7, X8, X9, X10, X11, X12}
use Rattle.tx_check.specs.declared.refusal.TxRefusal.TheVariants.{X13, X14}
use Rattle.tx_check.specs.declared.refusal.TxFault.{TxFault}
use Rattle.tx_check.specs.declared.refusal.TxFault.TheVariants.{Refused, NoMemory}
use Rattle.tx_check.specs.Contexts.{FailsAt}
use Rattle.tx_check.specs.FirstPlace.{AtFirst}
use Rattle.tx_check.specs.Parts.{asset_in, amount_in}
use Rattle.tx_check.specs.View.{State, HasId, Holds, IsLive}

-- ---- the version and the times

-- X1: the version is not 1
abbrev pub IsOfAnotherVersion : Tx → Cause TxRefusal
IsOfAnotherVersion tx = Reports (tx.version ≢ 1) (X1 tx.version)

-- X2: there is a maxtime, and mintime passes it
abbrev pub HasNoTime : Tx → Cause TxRefusal
HasNoTime tx = Reports ((tx.maxtime ≢ 0) × (tx.maxtime < tx.mintime)) (X2 tx.mintime tx.maxtime)

-- X3: the block's time is below mintime
abbrev pub IsEarly : ℕ → Tx → Cause TxRefusal
IsEarly time tx = Reports (time < tx.mintime) (X3 tx.mintime time)

-- X4: there is a maxtime, and the block's time passes it
abbrev pub IsLate : ℕ → Tx → Cause TxRefusal
IsLate time tx = Reports ((tx.maxtime ≢ 0) × (tx.maxtime < time)) (X4 tx.maxtime time)

-- ---- what sets a transaction apart from all others

-- an issuance with a nonce
abbrev pub UsesNonce : Input → Type 0
UsesNonce (Input.Issue issue) = issue.nonce ≢ []
UsesNonce (Input.Spend spend) = ⊥

-- X5: an issuance has a nonce and there is no maxtime; the first
abbrev pub HasEndlessNonce : Tx → Cause TxRefusal
HasEndlessNonce tx = AtFirst (λ k input. Reports (UsesNonce input × (tx.maxtime ≡ 0)) (X5 k)) tx.inputs

-- a spend, or an issuance with a nonce
abbrev pub TellsApart : Input → Type 0
TellsApart (Input.Issue issue) = issue.nonce ≢ []
TellsApart (Input.Spend spend) = Unit {0}

-- X6: no input is a spend or an issuance with a nonce
abbrev pub IsNotToldApart : Tx → Cause TxRefusal
IsNotToldApart tx =
    Reports ((k : ℕ) (input : Input) → slice_get tx.inputs k ≡ Some input → TellsApart input → ⊥) X6

-- what the inputs name, in order: the outputs that they spend, the nonces that they use
abbrev pub named_by : Hash → Tx → List Named
named_by hash tx = map (names hash tx) tx.inputs

-- the name of an output that is spent
abbrev pub IsSpend : Named → Type 0
IsSpend Named.Nothing = ⊥
IsSpend (Named.Nonce id) = ⊥
IsSpend (Named.Output id) = Unit {0}

-- X7: a spend names the output of an earlier input; the first
abbrev pub HasSpentTwice : List Named → Cause TxRefusal
HasSpentTwice named = AtFirst (λ k name. Reports (IsSpend name × Contains (take k named) name) (X7 k)) named

-- the name of a nonce
abbrev pub IsNonce : Named → Type 0
IsNonce Named.Nothing = ⊥
IsNonce (Named.Nonce id) = Unit {0}
IsNonce (Named.Output id) = ⊥

-- X8: an issuance names the nonce of an earlier input; the first
abbrev pub HasUsedTwice : List Named → Cause TxRefusal
HasUsedTwice named = AtFirst (λ k name. Reports (IsNonce name × Contains (take k named) name) (X8 k)) named

-- ---- assets

-- an issuance whose asset is not the id of its program and its definition
abbrev pub IssuesAnother : Hash → (initial : List ℕ) → Input → Type 0
IssuesAnother hash initial (Input.Issue issue) =
    issue.asset ≢ asset_id hash initial issue.program issue.definition
IssuesAnother hash initial (Input.Spend spend) = ⊥

-- X9: the first such issuance
abbrev pub HasAnotherAsset : Hash → (initial : List ℕ) → Tx → Cause TxRefusal
HasAnotherAsset hash initial tx = AtFirst (λ k input. Reports (IssuesAnother hash initial input) (X9 k)) tx.inputs

-- the asset of an output's value
abbrev pub asset_out : Output → List ℕ
asset_out (Output.Control control) = control.asset
asset_out (Output.Retire retire) = retire.asset

-- the assets in the order of their first appearance, some of them more than once
abbrev pub assets : Tx → List (List ℕ)
assets tx = map asset_in tx.inputs ++ map asset_out tx.outputs

-- how many units of the asset an output takes
abbrev pub amount_out : Output → ℕ
amount_out (Output.Control control) = control.amount
amount_out (Output.Retire retire) = retire.amount

-- so many units of one asset, counted as units of another
abbrev pub units : (asset of_asset : List ℕ) → ℕ → ℕ
units asset of_asset amount = if bytes_eq of_asset asset then amount else 0

-- the units of an asset that the inputs bring, and those that the outputs take
unfoldable pub sum_in : List ℕ → List Input → ℕ
sum_in asset inputs = sum_by (λ input. units asset (asset_in input) (amount_in input)) inputs

unfoldable pub sum_out : List ℕ → List Output → ℕ
sum_out asset outputs = sum_by (λ output. units asset (asset_out output) (amount_out output)) outputs

-- two sums differ, or one of them reaches 2^63
abbrev pub AreUnbalanced : ℕ → ℕ → Type 0
AreUnbalanced into out = (into ≢ out) ⊎ ((2 ^ 63 ≤ into) ⊎ (2 ^ 63 ≤ out))

-- the sums of an asset are so
abbrev pub IsUnbalanced : Tx → List ℕ → Cause TxRefusal
IsUnbalanced tx asset =
    Reports
    (AreUnbalanced (sum_in asset tx.inputs) (sum_out asset tx.outputs))
    (X10 asset (sum_in asset tx.inputs) (sum_out asset tx.outputs))

-- X10: the first asset that is unbalanced
abbrev pub HasUnbalanced : Tx → Cause TxRefusal
HasUnbalanced tx = AtFirst (λ k asset. IsUnbalanced tx asset) (assets tx)

-- ---- what the chain shows

-- a spend of an output that is not unspent with its id and this body
abbrev pub SpendsNone : Hash → State → Input → Type 0
SpendsNone hash state (Input.Issue issue) = ⊥
SpendsNone hash state (Input.Spend spend) = Holds state (output_id hash spend.from) spend.from → ⊥

-- X11: the first such spend
abbrev pub HasSpentNone : Hash → State → Tx → Cause TxRefusal
HasSpentNone hash state tx = AtFirst (λ k input. Reports (SpendsNone hash state input) (X11 k)) tx.inputs

-- the name of a nonce that is live
abbrev pub UsesLive : State → Named → Type 0
UsesLive state Named.Nothing = ⊥
UsesLive state (Named.Nonce id) = IsLive state id
UsesLive state (Named.Output id) = ⊥

-- X12: a nonce is live; the first
abbrev pub HasLiveNonce : State → List Named → Cause TxRefusal
HasLiveNonce state named = AtFirst (λ k name. Reports (UsesLive state name) (X12 k)) named

-- an output under a program
abbrev pub IsControl : Output → Type 0
IsControl (Output.Control control) = Unit {0}
IsControl (Output.Retire retire) = ⊥

-- an id is that of an unspent output, or of one of the first so many of these outputs and retirements
abbrev pub IsTaken : State → List (List ℕ) → ℕ → List ℕ → Type 0
IsTaken state results k id = HasId state id ⊎ Contains (take k results) id

-- the output at a place is under a program, and its id is taken
abbrev pub TakesId : Hash → State → Tx → ℕ → Output → Cause TxRefusal
TakesId hash state tx k output =
    let id = result_id hash (mux_id hash tx) k output in
    Reports (IsControl output × IsTaken state (result_ids hash tx) k id) (X13 k id)

-- X13: the first such output
abbrev pub HasTakenId : Hash → State → Tx → Cause TxRefusal
HasTakenId hash state tx = AtFirst (TakesId hash state tx) tx.outputs

-- ---- programs

-- the program of an input fails in its context, with this kind at this place
abbrev pub FailsThere : Hash → Check → Tx → ℕ → Input → Cause TxRefusal
FailsThere hash check tx k input reported =
    (kind : Failure) × (at : ℕ) × FailsAt hash check tx k input kind at × (reported ≡ X14 k kind at)

-- X14: the first input whose program does not succeed
abbrev pub HasFailing : Hash → Check → Tx → Cause TxRefusal
HasFailing hash check tx = AtFirst (FailsThere hash check tx) tx.inputs

-- ---- the table

-- X1 to X4
abbrev pub time_causes : ℕ → Tx → List (Cause TxRefusal)
time_causes time tx = IsOfAnotherVersion tx ∷ HasNoTime tx ∷ IsEarly time tx ∷ IsLate time tx ∷ []

-- X5 to X8
abbrev pub name_causes : Hash → Tx → List (Cause TxRefusal)
name_causes hash tx =
    HasEndlessNonce tx
    ∷ IsNotToldApart tx
    ∷ HasSpentTwice (named_by hash tx)
    ∷ HasUsedTwice (named_by hash tx)
    ∷ []

-- X9 and X10
abbrev pub asset_causes : Hash → (initial : List ℕ) → Tx → List (Cause TxRefusal)
asset_causes hash initial tx = HasAnotherAsset hash initial tx ∷ HasUnbalanced tx ∷ []

-- X11 to X13
abbrev pub state_causes : Hash → State → Tx → List (Cause TxRefusal)
state_causes hash state tx =
    HasSpentNone hash state tx ∷ HasLiveNonce state (named_by hash tx) ∷ HasTakenId hash state tx ∷ []

-- X14
abbrev pub program_causes : Hash → Check → Tx → List (Cause TxRefusal)
program_causes hash check tx = HasFailing hash check tx ∷ []

-- of a transaction in a block of this time, after what a chain shows
abbrev pub tx_causes : Hash → Check → State → ℕ → Tx → List (Cause TxRefusal)
tx_causes hash check state time tx =
    time_causes time tx
    ++ (name_causes hash tx
    ++ (asset_causes hash state.initial tx
    ++ (state_causes hash state tx
    ++ program_causes hash check tx)))

-- The first cause of the table that holds of a transaction, or none.
pub record Refusal (hash : Hash) (check : Check) (state : State) (time : ℕ) (tx : Tx) (cause : Option TxRefusal)
    : Type 0 where
  pub first : First (tx_causes hash check state time tx) cause

-- no cause holds
abbrev pub TxValid : Hash → Check → State → ℕ → Tx → Type 0
TxValid hash check state time tx = Refusal hash check state time tx None

-- a fault is the first cause that holds; out of memory is free
abbrev pub Refuses : Hash → Check → State → ℕ → Tx → TxFault → Type 0
Refuses hash check state time tx (Refused cause) = Refusal hash check state time tx (Some cause)
Refuses hash check state time tx NoMemory = Unit {0}
