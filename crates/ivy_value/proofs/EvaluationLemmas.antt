-- For the evaluation of core: signatures tried one after the other, arguments gathered, and number literals.
use Rattle.std.proofs.Common.{◌≡◌, ◌<◌, ◌≤◌, ◌^◌, ℕ, suc, ◌+◌, Bool, true, false, ◌&&◌, ◌||◌, List, [], ◌∷◌, ◌++◌, length, drop, Option, Some, None, option_map, refl, ap, sym, ◌∙◌, pos, w64, nat_eq, if◌then◌else◌, get_or, arith}
use Rattle.std.specs.Int.{cast_signed, to_le_bytes}
use Rattle.std.proofs.lemmas.Int.{of_z-to_z}
pub use Rattle.std.proofs.lemmas.List.{take_min, drop_min}
use Rattle.std.proofs.lemmas.List.{append_assoc, drop_all}
use Rattle.std.proofs.Math.Seq.{drop-cons}
use Rattle.std.proofs.Math.Dec.{eqb-suc-zero}
use Rattle.keyed.specs.Functions.{Check}
use Rattle.vm_num.specs.Item.{Item, num_bytes, without_high_zeros}
use Rattle.vm_ops.specs.Signatures.{is_multi_good}
use Rattle.ivy_syntax.specs.declared.tree.Expr.{Expr}
use Rattle.ivy_check.specs.Scope.{Scope}
use Rattle.ivy_value.specs.declared.tree.Core.{Core}
use Rattle.ivy_value.specs.Term.{one_more, term_of, item_of}
use Rattle.ivy_value.specs.Lowered.{Names, lowered_term}
use Rattle.ivy_value.specs.Evaluated.{unserved, IsTypedIn, AreNamesOf, IsCoreOf}
use Rattle.ivy_value.proofs.Agrees.{names}
use Rattle.ivy_value.proofs.ClauseCores.{taken_term}
use Rattle.ivy_value.proofs.Gathered.{after}

-- ---- signatures

or_true : (a b : Bool) → b ≡ true → (a || b) ≡ true
or_true true b h = refl
or_true false b h = h

module _ (check : Check) (message : Item) where
  -- Where several signatures are good for keys, all but the first are.
  fewer : (keys : List Item) (s : Item) (sigs : List Item) → is_multi_good check keys message (s ∷ sigs) ≡ true
      → is_multi_good check keys message sigs ≡ true
  fewer [] s sigs h = absurd cc
  fewer (k ∷ keys) s [] h = refl
  fewer (k ∷ keys) s (t ∷ sigs) h =
      or_true (check k message t && is_multi_good check keys message sigs) (is_multi_good check keys message (t ∷ sigs))
      (by_first (check k message s) (is_multi_good check keys message (t ∷ sigs)) refl
      (is_multi_good check keys message (s ∷ t ∷ sigs)) (fewer keys s (t ∷ sigs)) h)
    where
      by_first : (c d : Bool) → is_multi_good check keys message (t ∷ sigs) ≡ d → (e : Bool)
          → (e ≡ true → is_multi_good check keys message (t ∷ sigs) ≡ true)
          → (c && d || e) ≡ true → is_multi_good check keys message (t ∷ sigs) ≡ true
      by_first true true is e later h = is
      by_first true false is e later h = later h
      by_first false d is e later h = later h

  -- A key that is good for the first signature may be given to it.
  given_first : (k : Item) (keys : List Item) (s : Item) (sigs : List Item) → check k message s ≡ true
      → is_multi_good check (k ∷ keys) message (s ∷ sigs) ≡ is_multi_good check keys message sigs
  given_first k keys s sigs good =
      ap (λ (c : Bool). c && is_multi_good check keys message sigs || is_multi_good check keys message (s ∷ sigs)) good
      ∙ by_rest (is_multi_good check keys message sigs) (is_multi_good check keys message (s ∷ sigs)) (fewer keys s sigs)
    where
      by_rest : (a b : Bool) → (b ≡ true → a ≡ true) → (a || b) ≡ a
      by_rest true b less = refl
      by_rest false true less = sym (less refl)
      by_rest false false less = refl

  pub serve : (k : Item) (keys : List Item) (sigs : List Item)
      → is_multi_good check (k ∷ keys) message sigs ≡ is_multi_good check keys message (unserved check k message sigs)
  serve k keys [] = no_signatures keys
    where
      no_signatures : (keys : List Item) → true ≡ is_multi_good check keys message []
      no_signatures [] = refl
      no_signatures (k ∷ keys) = refl
  serve k keys (s ∷ sigs) = by_check (check k message s) refl
    where
      by_check : (c : Bool) → check k message s ≡ c
          → is_multi_good check (k ∷ keys) message (s ∷ sigs)
          ≡ is_multi_good check keys message (unserved check k message (s ∷ sigs))
      by_check true good =
          given_first k keys s sigs good
          ∙ sym (ap (λ (c : Bool). is_multi_good check keys message (if c then sigs else s ∷ sigs)) good)
      by_check false good =
          ap (λ (c : Bool). c && is_multi_good check keys message sigs || is_multi_good check keys message (s ∷ sigs)) good
          ∙ sym (ap (λ (c : Bool). is_multi_good check keys message (if c then sigs else s ∷ sigs)) good)

-- no key is left
pub none_left : (check : Check) (message : Item) (sigs : List Item) → nat_eq (length sigs) 0 ≡ is_multi_good check [] message sigs
none_left check message [] = refl
none_left check message (s ∷ sigs) = eqb-suc-zero (length sigs)

next_is : (i : ℕ) → suc i ≡ i + 1
next_is i = omega arith

-- the key at a place, and those after it
pub next_key : (check : Check) (message : Item) (keys : List Item) (i : ℕ) (k : Item) (left : List Item) (all : Bool)
    → i < length keys → k ≡ get_or keys i k
    → is_multi_good check (drop i keys) message left ≡ all
    → is_multi_good check (drop (i + 1) keys) message (unserved check k message left) ≡ all
next_key check message keys i k left all there at is =
    sym (serve check message k (drop (i + 1) keys) left)
    ∙ sym (ap (λ (ks : List Item). is_multi_good check ks message left)
    (drop-cons keys i k there ∙ (λ j. sym at j ∷ drop (next_is i j) keys)))
    ∙ is

pub last_key : (check : Check) (message : Item) (keys : List Item) (i : ℕ) (left : List Item) (all : Bool)
    → length keys ≤ i
    → is_multi_good check (drop i keys) message left ≡ all
    → nat_eq (length left) 0 ≡ all
last_key check message keys i left all past is =
    none_left check message left
    ∙ sym (ap (λ (ks : List Item). is_multi_good check ks message left) (drop_all i keys past))
    ∙ is

-- ---- arguments

pub one_after : (items : List Item) (item : Item) (rest : Option (List Item))
    → after items (one_more (Some item) rest) ≡ after (items ++ item ∷ []) rest
one_after items item None = refl
one_after items item (Some rest) = ap (λ (l : List Item). Some l) (sym (append_assoc items (item ∷ []) rest))

-- ---- literals

pub literal_bytes : (n : ℕ) → n < 2 ^ 64 → num_bytes (cast_signed w64 n) ≡ num_bytes (pos n)
unfolding num_bytes
literal_bytes n fits = ap (λ (m : ℕ). without_high_zeros (to_le_bytes w64 m)) (of_z-to_z w64 n fits)

-- ---- expressions

names_are : (scope : Scope) (n : Names) → AreNamesOf scope n → n ≡ names scope
names_are scope n are = λ i. record { held = are.held i; given = are.given i }

-- A typed expression has a core,
pub has_core : (n : Names) (e : Expr) (o : Option Core) → ((scope : Scope) × AreNamesOf scope n × IsTypedIn scope e)
    → o ≡ None
    → option_map term_of o ≡ lowered_term n e
    → ⊥
has_core n e o typed none is =
    no_core (sym (ap (option_map term_of) none) ∙ is ∙ ap (λ (m : Names). lowered_term m e) (names_are typed.0 n typed.1)
    ∙ (taken_term typed.0 e typed.2.0 typed.2.1).lowers)
  where
    no_core : None ≡ Some (taken_term typed.0 e typed.2.0 typed.2.1).core → ⊥
    no_core h = cc

-- whose item is its value.
pub core_value : (scope : Scope) (n : Names) (e : Expr) (core : Core) → AreNamesOf scope n → IsTypedIn scope e
    → Some (term_of core) ≡ lowered_term n e
    → IsCoreOf scope e (term_of core)
core_value scope n e core are typed is = λ s.
    let t = taken_term scope e typed.0 typed.1 in
    ap (item_of s) (same_core (is ∙ ap (λ (m : Names). lowered_term m e) (names_are scope n are) ∙ t.lowers)) ∙ sym (t.same s)
  where
    same_core : Some (term_of core) ≡ Some (taken_term scope e typed.0 typed.1).core
        → term_of core ≡ (taken_term scope e typed.0 typed.1).core
    same_core h = cc

pub ruleset evaluated = (has_core, core_value)

-- for the split of the arguments
pub ruleset splitting = (take_min, drop_min)
