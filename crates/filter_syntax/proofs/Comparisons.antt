-- The attributes that a condition compares, and the first unknown one of them, from those of its parts.
use Rattle.std.specs.Prelude.{◌≡◌, ℕ, suc, ◌+◌, ◌<◌, Bool, false, List, [], ◌∷◌, ◌++◌, length, Option, Some, refl}
use Rattle.std.proofs.Common.{arith, sym, ap, ◌∙◌, subst, length-append}
use Rattle.std.proofs.lemmas.Bool.{false≢true}
use Rattle.std.specs.List.{AllByRecursion}
use Rattle.std.proofs.lemmas.Option.{same_Some}
use mathlib.Core.List.{append_assoc}
use Rattle.grammars.specs.Text.{next}
use Rattle.filter_syntax.specs.Intermediate.{AllKnown}
use Rattle.filter_syntax.specs.declared.tree.RowKind.{RowKind}
use Rattle.filter_syntax.specs.declared.tree.Cond.{Cond, roll-Cond}
use Rattle.filter_syntax.specs.declared.tree.Cond.TheOpen.{Cond-F}
use Rattle.filter_syntax.specs.declared.tree.Cond.TheFolds.{map-Cond, fold-roll-Cond}
use Rattle.filter_syntax.specs.declared.tree.Cond.TheVariants as conditions
use Rattle.filter_syntax.specs.declared.tree.FilterValue.{FilterValue}
use Rattle.filter_syntax.specs.Attributes.{attributes}
use Rattle.wire.specs.Strings.{is_among}
use Rattle.filter_syntax.specs.Compared.{Compared, comparisons_by, comparisons, IsKnown, FirstUnknown}

abbrev rest_of : {T : Type 0} → List T → List T
rest_of [] = []
rest_of (t ∷ ts) = ts

-- ---- those of each condition

folded : (scope : Option Bool) (layer : Cond-F Cond) → comparisons scope (roll-Cond layer)
    ≡ comparisons_by (map-Cond Cond (Option Bool → List Compared) (λ c scope. comparisons scope c) layer) scope
folded scope layer = ap (λ (f : Option Bool → List Compared). f scope)
    (fold-roll-Cond (Option Bool → List Compared) comparisons_by layer)

pub or_comparisons : (scope : Option Bool) (a b : Cond)
    → comparisons scope (conditions.Or a b) ≡ comparisons scope a ++ comparisons scope b
or_comparisons scope a b = ap (comparisons scope) (sym (conditions.rolls-Or a b)) ∙ folded scope (Cond-F.Or a b)

pub and_comparisons : (scope : Option Bool) (a b : Cond)
    → comparisons scope (conditions.And a b) ≡ comparisons scope a ++ comparisons scope b
and_comparisons scope a b = ap (comparisons scope) (sym (conditions.rolls-And a b)) ∙ folded scope (Cond-F.And a b)

pub scope_comparisons : (scope : Option Bool) (inputs : Bool) (c : Cond)
    → comparisons scope (conditions.Scope inputs c) ≡ comparisons (Some inputs) c
scope_comparisons scope inputs c =
    ap (comparisons scope) (sym (conditions.rolls-Scope inputs c)) ∙ folded scope (Cond-F.Scope inputs c)

pub is_comparisons : (scope : Option Bool) (name : List ℕ) (value : FilterValue)
    → comparisons scope (conditions.Is name value) ≡ (scope, name) ∷ []
is_comparisons scope name value =
    ap (comparisons scope) (sym (conditions.rolls-Is name value)) ∙ folded scope (Cond-F.Is name value)

-- ---- the first unknown one

known_joined : (kind : RowKind) (a b : List Compared) → AllByRecursion (IsKnown kind) a
    → AllByRecursion (IsKnown kind) b
    → AllByRecursion (IsKnown kind) (a ++ b)
known_joined kind [] b h k = k
known_joined kind (x ∷ a) b h k = (h.0, known_joined kind a b h.1 k)

-- all of two parts are known
pub known_both : (kind : RowKind) (a b : List Compared) (n m : ℕ) → AllKnown kind a n → AllKnown kind b m
    → AllKnown kind (a ++ b) (n + m)
known_both kind a b n m h k = record {
  known = known_joined kind a b h.known k.known;
  number = ap (λ n. n + m) h.number ∙ ap (λ m. length a + m) k.number ∙ sym (length-append a b);
}

-- the first unknown one stands in the first of two parts
pub first_before : (kind : RowKind) (a b : List Compared) (index : ℕ) → FirstUnknown kind a index
    → FirstUnknown kind (a ++ b) index
first_before kind a b index h = record {
  before = h.before;
  attribute = h.attribute;
  behind = h.behind ++ b;
  split = ap (λ a. a ++ b) h.split ∙ append_assoc h.before (h.attribute ∷ h.behind) b;
  known = h.known;
  unknown = h.unknown;
  place = h.place;
}

-- it stands in the second
pub first_behind : (kind : RowKind) (a b : List Compared) (n index : ℕ) → AllKnown kind a n → FirstUnknown kind b index
    → FirstUnknown kind (a ++ b) (n + index)
first_behind kind a b n index h k = record {
  before = a ++ k.before;
  attribute = k.attribute;
  behind = k.behind;
  split = ap (λ b. a ++ b) k.split ∙ sym (append_assoc a k.before (k.attribute ∷ k.behind));
  known = known_joined kind a k.before h.known k.known;
  unknown = k.unknown;
  place = ap (λ n. n + index) h.number ∙ ap (λ m. length a + m) k.place ∙ sym (length-append a k.before);
}

-- it is the only one
pub first_alone : (kind : RowKind) (compared : Compared) → is_among (attributes kind compared.0) compared.1 ≡ false
    → FirstUnknown kind (compared ∷ []) 0
first_alone kind compared fails = record {
  before = [];
  attribute = compared;
  behind = [];
  split = refl;
  known = tt;
  unknown = λ known. false≢true (sym fails ∙ known);
  place = refl;
}

-- for the walk over a condition
pub ruleset by_parts = (
  or_comparisons,
  and_comparisons,
  scope_comparisons,
  is_comparisons,
  known_both,
  first_before,
  first_behind,
  first_alone,
)

-- ---- what the index reports

-- It is one of the attributes' indices.
pub first_within : (kind : RowKind) (compared : List Compared) (index : ℕ) → FirstUnknown kind compared index
    → index < length compared
first_within kind compared index h =
    omega (
      arith,
      h.place,
      ap (λ (l : List Compared). length l) h.split,
      length-append h.before (h.attribute ∷ h.behind),
    )

-- Where one is unknown, not all are known.
pub known_none : (kind : RowKind) (before : List Compared) (attribute : Compared) (behind : List Compared)
    → AllByRecursion (IsKnown kind) (before ++ attribute ∷ behind)
    → IsKnown kind attribute
known_none kind [] attribute behind known = known.0
known_none kind (x ∷ before) attribute behind known = known_none kind before attribute behind known.1

pub first_not_known : (kind : RowKind) (compared : List Compared) (index : ℕ) → FirstUnknown kind compared index
    → ¬ AllByRecursion (IsKnown kind) compared
first_not_known kind compared index h = λ known.
    h.unknown (known_none kind h.before h.attribute h.behind (subst (AllByRecursion (IsKnown kind)) h.split known))

first_at : (kind : RowKind) (a : List Compared) (x : Compared) (p : List Compared) (b : List Compared) (y : Compared)
    (q : List Compared)
    → AllByRecursion (IsKnown kind) a
    → AllByRecursion (IsKnown kind) b
    → ¬ IsKnown kind x
    → ¬ IsKnown kind y
    → a ++ x ∷ p ≡ b ++ y ∷ q
    → length a ≡ length b
first_at kind [] x p [] y q h k not_x not_y same = refl
first_at kind [] x p (z ∷ b) y q h k not_x not_y same =
    absurd (not_x (subst (IsKnown kind) (sym (same_Some x z (ap next same))) k.0))
first_at kind (z ∷ a) x p [] y q h k not_x not_y same =
    absurd (not_y (subst (IsKnown kind) (same_Some z y (ap next same)) h.0))
first_at kind (z ∷ a) x p (w ∷ b) y q h k not_x not_y same =
    ap suc (first_at kind a x p b y q h.1 k.1 not_x not_y (ap rest_of same))

-- There is one such index.
pub first_one : (kind : RowKind) (compared : List Compared) (i j : ℕ) → FirstUnknown kind compared i
    → FirstUnknown kind compared j
    → i ≡ j
first_one kind compared i j h k =
    h.place
    ∙ first_at kind h.before h.attribute h.behind k.before k.attribute k.behind h.known k.known h.unknown k.unknown
    (sym h.split ∙ k.split)
    ∙ sym k.place
