-- Parts with a bound on their nesting, and what is read within any bound.
-- Only proofs and contracts of private functions name it.
use Rattle.std.specs.Prelude.{ℕ, zero, suc, ◌+◌, List}
use Rattle.std.proofs.Common.{inl, subst, arith}
use Rattle.grammars.specs.Outcome.{Outcome}
use Rattle.grammars.specs.Part.{Part, Decides}
use Rattle.grammars.specs.Heads.{Covers, decides_as}
use Rattle.grammars.specs.Sequence.{Within}

-- the part, within some bound
abbrev pub Any : {T V : Type 0} → (ℕ → Part T V) → Part T V
Any X u v = (depth : ℕ) × X depth u v

-- what is read within a bound is read within the next one
abbrev pub Grows : {T V : Type 0} → (ℕ → Part T V) → Type 0
Grows X = (depth : ℕ) → Within (X depth) (X (suc depth))

pub within_any : {T V : Type 0} (X : ℕ → Part T V) (depth : ℕ) → Within (X depth) (Any X)
within_any X depth u v h = (depth, h)

pub higher : {T V : Type 0} (X : ℕ → Part T V) → Grows X → (more depth : ℕ) (u : List T) (v : V) → X depth u v
    → X (more + depth) u v
higher X grows zero depth u v h = subst (λ d. X d u v) (omega arith) h
higher X grows (suc more) depth u v h =
    subst (λ d. X d u v) (omega arith) (grows (more + depth) u v (higher X grows more depth u v h))

-- Two parts that are within some bound are within one.
pub together : {T V W : Type 0} (X : ℕ → Part T V) (Z : ℕ → Part T W) → Grows X → Grows Z
    → (u w : List T) (a : V) (b : W)
    → Any X u a → Any Z w b → (depth : ℕ) × X depth u a × Z depth w b
together X Z grows_x grows_z u w a b h k = (
  k.0 + h.0,
  higher X grows_x k.0 h.0 u a h.1,
  subst (λ depth. Z depth w b) (omega arith) (higher Z grows_z h.0 k.0 w b k.1),
)

-- What is decided of parts is decided of those that are the same on all lists.
pub decides_same : {T V : Type 0} (F : T → Type 0) (X Y X' Y' : Part T V) (C D : T → Type 0) (ts : List T) → Covers C D
    → Within X' X → Within Y' Y → Within X X' → Within Y Y' → (o : Outcome T V) → Decides F X' Y' C ts o
    → Decides F X Y D ts o
decides_same F X Y X' Y' C D ts covers to_x to_y from_x from_y o h =
    decides_as F X Y X' Y' C D ts covers to_x to_y (λ u r v reads _. inl (from_x u v reads))
    (λ u r v reads _. inl (from_y u v reads)) o h
