-- A table of refusals: causes in order, of which the first that holds is reported.
use Rattle.std.specs.Prelude.{◌≡◌, ◌≢◌, ◌⊎◌, List, [], ◌∷◌, ◌++◌, Option, Some, None, refl}
use Rattle.std.proofs.Common.{sym, ap, ◌∙◌, inl, inr}
use Rattle.wire.specs.Decisions.{Decided, stable, not_decided}

-- a cause of a table, as what it may report: it holds, and reports these values
abbrev pub Cause : Type 0 → Type 1
Cause R = R → Type 0

-- this holds, and this is reported of it
abbrev pub Reports : {R : Type 0} → Type 0 → R → Cause R
Reports holds values reported = holds × (reported ≡ values)

-- a cause that is kept free, or that nothing is there for as yet
abbrev pub Free : {R : Type 0} → Cause R
Free reported = ⊥

-- a cause does not hold, whatever it might report
abbrev pub HoldsNot : {R : Type 0} → Cause R → Type 0
HoldsNot cause = (reported : _) → cause reported → ⊥

-- The first cause that holds, by what it reports: it holds, and no cause before it does. Or none: no cause holds.
abbrev pub First : {R : Type 0} → List (Cause R) → Option R → Type 0
First [] None = Unit {0}
First [] (Some reported) = ⊥
First (cause ∷ causes) None = HoldsNot cause × First causes None
First (cause ∷ causes) (Some reported) = cause reported ⊎ (HoldsNot cause × First causes (Some reported))

-- ---- what holds of all tables

-- a cause holds or does not, and reports one thing
pub record IsCause {R : Type 0} (cause : Cause R) : Type 0 where
  pub decided : ((reported : R) × cause reported) ⊎ HoldsNot cause
  pub one : (a b : R) → cause a → cause b → a ≡ b

abbrev pub AreCauses : {R : Type 0} → List (Cause R) → Type 0
AreCauses [] = Unit {0}
AreCauses (cause ∷ causes) = IsCause cause × AreCauses causes

-- of a table there is one answer
pub record OneAnswer {R : Type 0} (causes : List (Cause R)) : Type 0 where
  pub some : (answer : Option R) × First causes answer
  pub one : (a b : Option R) → First causes a → First causes b → a ≡ b

module _ {R : Type 0} where
  behind : (cause : Cause R) (causes : List (Cause R)) → HoldsNot cause → (answer : Option R) → First causes answer
      → First (cause ∷ causes) answer
  behind cause causes not None h = (not, h)
  behind cause causes not (Some reported) h = inr (not, h)

  some_answer : (causes : List (Cause R)) → AreCauses causes → (answer : Option R) × First causes answer
  some_answer [] are = (None, tt)
  some_answer (cause ∷ causes) are = elim are.0.decided [
    | inl h ↦ (Some h.0, inl h.1)
    | inr not ↦ (let others = some_answer causes are.1 in (others.0, behind cause causes not others.0 others.1))
  ]

  one_answer : (causes : List (Cause R)) → AreCauses causes → (a b : Option R) → First causes a → First causes b → a ≡ b
  one_answer [] are None None p q = refl
  one_answer [] are None (Some b) p q = absurd q
  one_answer [] are (Some a) b p q = absurd p
  one_answer (cause ∷ causes) are None None p q = refl
  one_answer (cause ∷ causes) are None (Some b) p (inl h) = absurd (p.0 b h)
  one_answer (cause ∷ causes) are None (Some b) p (inr q) = one_answer causes are.1 None (Some b) p.1 q.1
  one_answer (cause ∷ causes) are (Some a) None (inl h) q = absurd (q.0 a h)
  one_answer (cause ∷ causes) are (Some a) None (inr p) q = one_answer causes are.1 (Some a) None p.1 q.1
  one_answer (cause ∷ causes) are (Some a) (Some b) (inl h) (inl k) = ap (λ (r : R). Some r) (are.0.one a b h k)
  one_answer (cause ∷ causes) are (Some a) (Some b) (inl h) (inr q) = absurd (q.0 a h)
  one_answer (cause ∷ causes) are (Some a) (Some b) (inr p) (inl k) = absurd (p.0 b k)
  one_answer (cause ∷ causes) are (Some a) (Some b) (inr p) (inr q) = one_answer causes are.1 (Some a) (Some b) p.1 q.1

-- a table of such causes has one answer
pub one_answer_of : {R : Type 0} (causes : List (Cause R)) → AreCauses causes → OneAnswer causes
one_answer_of causes are = record { some = some_answer causes are; one = one_answer causes are }

-- ---- a table in two parts

module _ {R : Type 0} where
  -- the first cause of the first part is the first of both
  pub first_of_front : (front later : List (Cause R)) (reported : R) → First front (Some reported)
      → First (front ++ later) (Some reported)
  first_of_front [] later reported h = absurd h
  first_of_front (cause ∷ front) later reported (inl h) = inl h
  first_of_front (cause ∷ front) later reported (inr h) = inr (h.0, first_of_front front later reported h.1)

  -- where no cause of the first part holds, the second part has the answer
  pub first_of_later : (front later : List (Cause R)) (answer : Option R) → First front None → First later answer
      → First (front ++ later) answer
  first_of_later [] later answer none h = h
  first_of_later (cause ∷ front) later answer none h =
      behind cause (front ++ later) none.0 answer (first_of_later front later answer none.1 h)

  -- no cause of both holds, so none of either does
  pub none_of_parts : (front later : List (Cause R)) → First (front ++ later) None → First front None × First later None
  none_of_parts [] later h = (tt, h)
  none_of_parts (cause ∷ front) later h = (let parts = none_of_parts front later h.1 in ((h.0, parts.0), parts.1))

  pub causes_of_parts : (front later : List (Cause R)) → AreCauses front → AreCauses later → AreCauses (front ++ later)
  causes_of_parts [] later h k = k
  causes_of_parts (cause ∷ front) later h k = (h.0, causes_of_parts front later h.1 k)

-- ---- causes that are decided

-- what is reported where something holds, which is decided, is a cause
pub decided_cause : {R P : Type 0} {values : R} → Decided P → IsCause (Reports P values)
decided_cause {values = values} (inl h) = record { decided = inl (values, (h, refl)); one = λ a b p q. p.1 ∙ sym q.1 }
decided_cause (inr not) = record { decided = inr (λ reported p. not p.0); one = λ a b p q. p.1 ∙ sym q.1 }

pub free_cause : {R : Type 0} → IsCause {R = R} Free
free_cause = record { decided = inr (λ reported h. h); one = λ a b p q. absurd p }

module _ {R : Type 0} {values : R} where
  -- where the cause does not hold, this is not so
  pub not_so : {P : Type 0} → HoldsNot (Reports P values) → P → ⊥
  not_so none p = none values (p, refl)

  -- where a difference is no cause, two things are the same
  pub same : {X : Type 0} {x y : X} → Decided (x ≡ y) → HoldsNot (Reports (x ≢ y) values) → x ≡ y
  same d none = stable d (λ n. not_so none n)

  -- and where they are the same, their difference is none
  pub no_difference : {X : Type 0} {x y : X} → x ≡ y → HoldsNot (Reports (x ≢ y) values)
  no_difference e reported h = h.0 e

-- a difference that is decided is a cause
pub differs : {R X : Type 0} {x y : X} {values : R} → Decided (x ≡ y) → IsCause (Reports (x ≢ y) values)
differs d = decided_cause (not_decided d)

-- what is said of the causes of a table, one after the other
infixr 5 ◌&◌
abbrev pub ◌&◌ : {P Q : Type 0} → P → Q → P × Q
p & q = (p, q)
