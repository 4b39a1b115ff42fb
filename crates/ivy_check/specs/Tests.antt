-- Tests in their order, of which the first that holds is reported, by its place and kind. Public statements name it.
use Rattle.std.specs.Prelude.{ℕ, Bool, List, [], ◌∷◌, ◌++◌, Option, Some, None, IsTrue, if◌then◌else◌}
use Rattle.wire.specs.Tables.{Cause, Reports}

-- what is reported: the place and the kind of a fault
abbrev pub Reported : Type 0
Reported = ℕ × ℕ

-- a test: whether it holds, and the fault that stands then
pub record Test : Type 0 where
  pub holds : Bool
  pub at : ℕ
  pub kind : ℕ

-- a fault of this kind stands at this place where that holds
abbrev pub fault : (kind at : ℕ) → Bool → List Test
fault kind at holds = record { holds = holds; at = at; kind = kind } ∷ []

-- a test as a cause of a table
abbrev pub cause_of : Test → Cause Reported
cause_of test = Reports (IsTrue test.holds) (test.at, test.kind)

-- tests as a table
abbrev pub causes : List Test → List (Cause Reported)
causes [] = []
causes (test ∷ tests) = cause_of test ∷ causes tests

-- what the first test that holds reports
abbrev pub first_of : List Test → Option Reported
first_of [] = None
first_of (test ∷ tests) = if test.holds then Some (test.at, test.kind) else first_of tests

-- the tests of things in order, each of which may look at those before it
abbrev pub walked : {A : Type 0} → (List A → A → List Test) → (before things : List A) → List Test
walked tests before [] = []
walked tests before (thing ∷ things) = tests before thing ++ walked tests (before ++ thing ∷ []) things
