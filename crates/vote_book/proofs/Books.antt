-- The first fault of a book's bytes is the one that reading them gives.
use Rattle.std.proofs.Common.{◌≡◌, ℕ, ◌+◌, List, Result, Ok, Err, sym, ap, subst, ◌∙◌, arith}
use Rattle.wire.specs.Spelling.{AreBytes}
use Rattle.wire.specs.Places.{Fault, start, whole_at}
use Rattle.wire.specs.FirstFault.{FirstFault, WholeFault}
use Rattle.wire.specs.Readers.{IsWholeReader, WholeAnswers}
use Rattle.wire.specs.declared.fault.DataKind.{DataKind}
use Rattle.vote_book.specs.declared.ballot.Ballot.{Ballot}
use Rattle.vote_book.specs.Spelling.{ballot_layout, BallotFits, ballot_spelling, ballot_at}

abbrev IsRead : Type 0
IsRead = IsWholeReader BallotFits ballot_spelling (FirstFault ballot_layout) (whole_at ballot_at)

abbrev FaultOf : List ℕ → ℕ → DataKind → Type 0
FaultOf bytes at kind = WholeFault BallotFits ballot_spelling (FirstFault ballot_layout) bytes at kind

abbrev fault_of : ℕ → DataKind → Fault
fault_of at kind = record { at = at; kind = kind }

abbrev pub read_of : List ℕ → Result Ballot Fault
read_of bytes = whole_at ballot_at (start bytes)

pub fault_told : IsRead → (bytes : List ℕ) (at : ℕ) (kind : DataKind) → AreBytes bytes → FaultOf bytes at kind
    → read_of bytes ≡ Err (fault_of at kind)
fault_told r bytes at kind b h =
    let from_start : 0 + at ≡ at = omega arith in
    r.told (start bytes) at kind b h ∙ ap (λ (n : ℕ). Err (fault_of n kind)) from_start

pub fault_is : IsRead → (bytes : List ℕ) (at : ℕ) (kind : DataKind) → AreBytes bytes → read_of bytes ≡ Err (fault_of at kind)
    → FaultOf bytes at kind
fault_is r bytes at kind b is =
    let IsAnswer : Result Ballot Fault → Type 0 = λ answer. WholeAnswers BallotFits ballot_spelling (FirstFault ballot_layout) (start bytes) answer in
    let h = subst IsAnswer is (r.sound (start bytes) b) in
    let from_start : h.off ≡ at = omega (arith, h.at) in
    subst (λ (n : ℕ). FaultOf bytes n kind) from_start h.first

-- a reading has one fault
pub one_fault : (reading : Result Ballot Fault) (i j : ℕ) (k l : DataKind) → reading ≡ Err (fault_of i k) → reading ≡ Err (fault_of j l)
    → ◌≡◌ {A = ℕ × DataKind} (i, k) (j, l)
one_fault reading i j k l p q =
    let e : fault_of i k ≡ fault_of j l = same (sym p ∙ q) in
    ap (λ (f : Fault). (f.at, f.kind)) e
  where
    same : {x y : Fault} → ◌≡◌ {A = Result Ballot Fault} (Err x) (Err y) → x ≡ y
    same e = cc

pub no_fault : (reading : Result Ballot Fault) (ballot : Ballot) (f : Fault) → reading ≡ Ok ballot → reading ≡ Err f → ⊥
no_fault reading ballot f p q = apart (sym p ∙ q)
  where
    apart : ◌≡◌ {A = Result Ballot Fault} (Ok ballot) (Err f) → ⊥
    apart e = cc
