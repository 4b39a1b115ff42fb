-- Names that are new after others, and walks of tests that ask for such names.
use Rattle.std.proofs.Common.{◌≡◌, ◌↔◌, ◌||◌, ℕ, Bool, true, false, not, List, [], ◌∷◌, ◌++◌, Option, Some, None}
use Rattle.std.proofs.Common.{refl, ap, sym, ◌∙◌, subst, map, is_some, codes, if◌then◌else◌}
use Rattle.std.specs.Prelude.{⊤, bytes_eq}
use Rattle.std.specs.List.{flat_map, AllByRecursion, IsDistinct}
use Rattle.std.proofs.lemmas.Bool.{false_from_ne_true}
use Rattle.std.proofs.lemmas.List.Folds.{list_any-append}
use Rattle.std.proofs.lemmas.List.{append_assoc, append-nil, map-append}
use Rattle.std.proofs.lemmas.Grind.{flat_map-append}
use Rattle.std.proofs.lemmas.Slice.Eq.{bytes_eq-Decides}
use Rattle.ivy_check.specs.declared.types.IvyType.TheVariants as type
use Rattle.ivy_check.specs.declared.functions.Function.TheVariants as function
use Rattle.ivy_check.specs.Tests.{Test, fault, walked}
use Rattle.ivy_check.specs.Functions.{function_named, is_reserved}
use Rattle.ivy_check.specs.Types.{type_named}
use Rattle.ivy_check.specs.Typing.{is_one_of}
use Rattle.ivy_check.specs.WellTyped.{reserved_names, AreDistinct}
use Rattle.ivy_check.proofs.WholeLemmas.{none_both}
use Rattle.ivy_check.proofs.TypeWords.{not_both}
use Rattle.ivy_check.proofs.TypingRules.{Passes, both_pass, passes_if, passes_unless}
use Rattle.ivy_check.proofs.TypingFound.{passed_if, passed_unless}

-- ---- both ways

pub iff_then : {A B C : Type 0} → A ↔ B → B ↔ C → A ↔ C
iff_then f g = ((λ a. g.0 (f.0 a)), (λ c. f.1 (g.1 c)))

pub iff_pair : {A B C D : Type 0} → A ↔ C → B ↔ D → (A × B) ↔ (C × D)
iff_pair f g = ((λ p. (f.0 p.0, g.0 p.1)), (λ p. (f.1 p.0, g.1 p.1)))

pub passes_both : (a b : List Test) → Passes (a ++ b) ↔ (Passes a × Passes b)
passes_both a b = (none_both a b, λ p. both_pass a b p.0 p.1)

pub passes_fault : (kind at : ℕ) (b : Bool) → Passes (fault kind at b) ↔ (b ≡ false)
passes_fault kind at b = (passed_if kind at b, passes_if kind at b)

pub passes_not : (kind at : ℕ) (b : Bool) → Passes (fault kind at (not b)) ↔ (b ≡ true)
passes_not kind at b = (passed_unless kind at b, passes_unless kind at b)

pub same_answer : (a b c : Bool) → a ≡ b → (a ≡ c) ↔ (b ≡ c)
same_answer a b c h = ((λ k. sym h ∙ k), (λ k. h ∙ k))

pub neither : (x y : Bool) → ((x || y) ≡ false) ↔ ((x ≡ false) × (y ≡ false))
neither true y = ((λ h. absurd cc), (λ h. h.0))
neither false y = ((λ h. (refl, h)), (λ h. h.1))

-- ---- all of a list

module _ {X : Type 0} (P : X → Type 0) where
  pub all_append : (xs ys : List X) → AllByRecursion P (xs ++ ys) ↔ (AllByRecursion P xs × AllByRecursion P ys)
  all_append [] ys = ((λ h. (tt, h)), (λ h. h.1))
  all_append (x ∷ xs) ys =
      let more = all_append xs ys in (
        (λ h. let both = more.0 h.1 in ((h.0, both.0), both.1)),
        (λ h. (h.0.0, more.1 (h.0.1, h.1))),
      )

  pub all_map : {Y : Type 0} (f : Y → X) (ys : List Y) → AllByRecursion (λ y. P (f y)) ys ↔ AllByRecursion P (map f ys)
  all_map f [] = ((λ h. tt), (λ h. tt))
  all_map f (y ∷ ys) =
      let more = all_map f ys in ((λ h. (h.0, more.0 h.1)), (λ h. (h.0, more.1 h.1)))

  pub all_flat : {Y : Type 0} (f : Y → List X) (ys : List Y)
      → AllByRecursion (λ y. AllByRecursion P (f y)) ys ↔ AllByRecursion P (flat_map f ys)
  all_flat f [] = ((λ h. tt), (λ h. tt))
  all_flat f (y ∷ ys) =
      let more = all_flat f ys in
      let both = all_append (f y) (flat_map f ys) in (
        (λ h. both.1 (h.0, more.0 h.1)),
        (λ h. let parts = both.0 h in (parts.0, more.1 parts.1)),
      )

pub all_both : {X : Type 0} (P Q : X → Type 0) (xs : List X)
    → AllByRecursion (λ x. P x × Q x) xs ↔ (AllByRecursion P xs × AllByRecursion Q xs)
all_both P Q [] = ((λ h. (tt, tt)), (λ h. tt))
all_both P Q (x ∷ xs) =
    let more = all_both P Q xs in (
      (λ h. let both = more.0 h.1 in ((h.0.0, both.0), (h.0.1, both.1))),
      (λ h. ((h.0.0, h.1.0), more.1 (h.0.1, h.1.1))),
    )

pub all_iff : {X : Type 0} (P Q : X → Type 0) → ((x : X) → P x ↔ Q x) → (xs : List X)
    → AllByRecursion P xs ↔ AllByRecursion Q xs
all_iff P Q each [] = ((λ h. tt), (λ h. tt))
all_iff P Q each (x ∷ xs) = iff_pair (each x) (all_iff P Q each xs)

-- ---- new names

-- each of these names is none of those that are taken, and none before it
abbrev pub AreNew : (taken names : List (List ℕ)) → Type 0
AreNew taken [] = ⊤
AreNew taken (name ∷ names) = (is_one_of taken name ≡ false) × AreNew (taken ++ name ∷ []) names

pub new_append : (taken a b : List (List ℕ)) → AreNew taken (a ++ b) ↔ (AreNew taken a × AreNew (taken ++ a) b)
new_append taken [] b = (
  (λ h. (tt, subst (λ (t : List (List ℕ)). AreNew t b) (sym (append-nil taken)) h)),
  (λ h. subst (λ (t : List (List ℕ)). AreNew t b) (append-nil taken) h.1),
)
new_append taken (name ∷ a) b =
    let more = new_append (taken ++ name ∷ []) a b in
    let same : (taken ++ name ∷ []) ++ a ≡ taken ++ (name ∷ a) = append_assoc taken (name ∷ []) a in (
      (λ h. let both = more.0 h.1 in ((h.0, both.0), subst (λ (t : List (List ℕ)). AreNew t b) same both.1)),
      (λ h. (h.0.0, more.1 (h.0.1, subst (λ (t : List (List ℕ)). AreNew t b) (sym same) h.1))),
    )

pub one_more : (taken : List (List ℕ)) (name : List ℕ)
    → AreDistinct (taken ++ name ∷ []) ↔ (AreDistinct taken × (is_one_of taken name ≡ false))
unfolding IsDistinct
one_more [] name = ((λ h. (tt, refl)), (λ h. (tt, tt)))
one_more (first ∷ taken) name =
    let more = one_more taken name in
    let split = all_append (λ (other : List ℕ). bytes_eq first other ≡ false) taken (name ∷ []) in
    let either = neither (bytes_eq first name) (is_one_of taken name) in (
      (λ h.
          let parts = split.0 h.0 in
          let both = more.0 h.1 in
          ((parts.0, both.0), either.1 (parts.1.0, both.1))),
      (λ h.
          let parts = either.0 h.1 in
          (split.1 (h.0.0, (parts.0, tt)), more.1 (h.0.1, parts.1))),
    )

-- names that are distinct after others
pub distinct_after : (taken names : List (List ℕ))
    → AreDistinct (taken ++ names) ↔ (AreDistinct taken × AreNew taken names)
distinct_after taken [] = (
  (λ h. (subst AreDistinct (append-nil taken) h, tt)),
  (λ h. subst AreDistinct (sym (append-nil taken)) h.0),
)
distinct_after taken (name ∷ names) =
    let more = distinct_after (taken ++ name ∷ []) names in
    let one = one_more taken name in
    let same : (taken ++ name ∷ []) ++ names ≡ taken ++ (name ∷ names) = append_assoc taken (name ∷ []) names in (
      (λ h.
          let both = more.0 (subst AreDistinct (sym same) h) in
          let parts = one.0 both.0 in
          (parts.0, (parts.1, both.1))),
      (λ h. subst AreDistinct same (more.1 (one.1 (h.0, h.1.0), h.1.1))),
    )

pub distinct_is : (names : List (List ℕ)) → AreNew [] names ↔ AreDistinct names
unfolding IsDistinct
distinct_is names =
    let both = distinct_after [] names in ((λ h. both.1 (tt, h)), (λ h. (both.0 h).1))

-- ---- walks

-- Each thing has names, which are new after those that are taken from outside and from the things before it.
module _ {X : Type 0} (names : X → List (List ℕ)) (P : X → Type 0) (tests : List X → X → List Test)
    (outer : List (List ℕ))
    (each : (before : List X) (x : X)
    → Passes (tests before x) ↔ (AreNew (outer ++ flat_map names before) (names x) × P x)) where
  walk_from : (before xs : List X)
      → Passes (walked tests before xs)
      ↔ (AreNew (outer ++ flat_map names before) (flat_map names xs) × AllByRecursion P xs)
  walk_from before [] = ((λ h. (tt, tt)), (λ h. refl))
  walk_from before (x ∷ xs) =
      let one = each before x in
      let more = walk_from (before ++ x ∷ []) xs in
      let taken : List (List ℕ) = outer ++ flat_map names before in
      let both = passes_both (tests before x) (walked tests (before ++ x ∷ []) xs) in
      let split = new_append taken (names x) (flat_map names xs) in
      let same : outer ++ flat_map names (before ++ x ∷ []) ≡ taken ++ names x =
      ap (λ (l : List (List ℕ)). outer ++ l)
      (flat_map-append names before (x ∷ [])
      ∙ ap (λ (l : List (List ℕ)). flat_map names before ++ l) (append-nil (names x)))
      ∙ sym (append_assoc outer (flat_map names before) (names x)) in (
        (λ h.
            let parts = both.0 h in
            let here = one.0 parts.0 in
            let later = more.0 parts.1 in (
              split.1 (here.0, subst (λ (t : List (List ℕ)). AreNew t (flat_map names xs)) same later.0),
              (here.1, later.1),
            )),
        (λ h.
            let parts = split.0 h.0 in
            both.1 (
              one.1 (parts.0, h.1.0),
              more.1 (subst (λ (t : List (List ℕ)). AreNew t (flat_map names xs)) (sym same) parts.1, h.1.1),
            )),
      )

  pub walk_names : (xs : List X)
      → Passes (walked tests [] xs) ↔ (AreNew outer (flat_map names xs) × AllByRecursion P xs)
  walk_names xs =
      subst (λ (t : List (List ℕ)). Passes (walked tests [] xs) ↔ (AreNew t (flat_map names xs) × AllByRecursion P xs))
      (append-nil outer) (walk_from [] xs)

-- Each thing has one name.
module _ {X : Type 0} (name : X → List ℕ) (P : X → Type 0) (tests : List X → X → List Test)
    (outer : List (List ℕ))
    (each : (before : List X) (x : X)
    → Passes (tests before x) ↔ ((is_one_of (outer ++ map name before) (name x) ≡ false) × P x)) where
  named_from : (before xs : List X)
      → Passes (walked tests before xs) ↔ (AreNew (outer ++ map name before) (map name xs) × AllByRecursion P xs)
  named_from before [] = ((λ h. (tt, tt)), (λ h. refl))
  named_from before (x ∷ xs) =
      let one = each before x in
      let more = named_from (before ++ x ∷ []) xs in
      let taken : List (List ℕ) = outer ++ map name before in
      let both = passes_both (tests before x) (walked tests (before ++ x ∷ []) xs) in
      let same : outer ++ map name (before ++ x ∷ []) ≡ taken ++ name x ∷ [] =
      ap (λ (l : List (List ℕ)). outer ++ l) (map-append name before (x ∷ []))
      ∙ sym (append_assoc outer (map name before) (name x ∷ [])) in (
        (λ h.
            let parts = both.0 h in
            let here = one.0 parts.0 in
            let later = more.0 parts.1 in (
              (here.0, subst (λ (t : List (List ℕ)). AreNew t (map name xs)) same later.0),
              (here.1, later.1),
            )),
        (λ h. both.1 (
          one.1 (h.0.0, h.1.0),
          more.1 (subst (λ (t : List (List ℕ)). AreNew t (map name xs)) (sym same) h.0.1, h.1.1),
        )),
      )

  pub walk_named : (xs : List X)
      → Passes (walked tests [] xs) ↔ (AreNew outer (map name xs) × AllByRecursion P xs)
  walk_named xs =
      subst (λ (t : List (List ℕ)). Passes (walked tests [] xs) ↔ (AreNew t (map name xs) × AllByRecursion P xs))
      (append-nil outer) (named_from [] xs)

-- ---- reserved names

pub turned : (a b : List ℕ) → bytes_eq a b ≡ bytes_eq b a
turned a b = by_answer (bytes_eq b a) refl
  where
    by_answer : (x : Bool) → bytes_eq b a ≡ x → bytes_eq a b ≡ x
    by_answer true h = (bytes_eq-Decides a b).1 (sym ((bytes_eq-Decides b a).0 h))
    by_answer false h =
        false_from_ne_true (bytes_eq a b) (λ k. not_both (bytes_eq b a)
        ((bytes_eq-Decides b a).1 (sym ((bytes_eq-Decides a b).0 k))) h)

some_if : {A : Type 0} (b : Bool) (x : A) (rest : Option A) → is_some (if b then Some x else rest) ≡ (b || is_some rest)
some_if true x rest = refl
some_if false x rest = refl

-- one name of a chain of names
link : {A : Type 0} (name word : List ℕ) (x : A) (rest : Option A) (later : Bool) → is_some rest ≡ later
    → is_some (if bytes_eq name word then Some x else rest) ≡ (bytes_eq word name || later)
link name word x rest later h =
    some_if (bytes_eq name word) x rest ∙ (λ i. turned name word i || h i)

abbrev type_names : List (List ℕ)
type_names =
    codes "Amount" ∷ codes "Asset" ∷ codes "Boolean" ∷ codes "Hash" ∷ codes "Integer" ∷ codes "Program"
    ∷ codes "PublicKey" ∷ codes "Signature" ∷ codes "String" ∷ codes "Time" ∷ []

abbrev function_names : List (List ℕ)
function_names =
    codes "abs" ∷ codes "min" ∷ codes "max" ∷ codes "size" ∷ codes "bytes" ∷ codes "sha256"
    ∷ codes "concat" ∷ codes "concatpush" ∷ codes "checkTxSig" ∷ codes "checkTxMultiSig"
    ∷ codes "before" ∷ codes "after" ∷ []

a_type : (name : List ℕ) → is_some (type_named name) ≡ is_one_of type_names name
a_type name =
    link name (codes "Amount") type.Amount _ _ (
    link name (codes "Asset") type.Asset _ _ (
    link name (codes "Boolean") type.Boolean _ _ (
    link name (codes "Hash") type.Hash _ _ (
    link name (codes "Integer") type.Integer _ _ (
    link name (codes "Program") type.Program _ _ (
    link name (codes "PublicKey") type.PublicKey _ _ (
    link name (codes "Signature") type.Signature _ _ (
    link name (codes "String") type.String _ _ (
    link name (codes "Time") type.Time None false refl)))))))))

a_function : (name : List ℕ) → is_some (function_named name) ≡ is_one_of function_names name
a_function name =
    link name (codes "abs") function.Abs _ _ (
    link name (codes "min") function.Min _ _ (
    link name (codes "max") function.Max _ _ (
    link name (codes "size") function.Size _ _ (
    link name (codes "bytes") function.BytesOf _ _ (
    link name (codes "sha256") function.Sha256 _ _ (
    link name (codes "concat") function.Concat _ _ (
    link name (codes "concatpush") function.ConcatPush _ _ (
    link name (codes "checkTxSig") function.CheckTxSig _ _ (
    link name (codes "checkTxMultiSig") function.CheckTxMultiSig _ _ (
    link name (codes "before") function.Before _ _ (
    link name (codes "after") function.After None false refl)))))))))))

pub reserved_is : (name : List ℕ) → is_reserved name ≡ is_one_of reserved_names name
reserved_is name =
    (λ i. a_type name i || a_function name i)
    ∙ sym (list_any-append (λ (other : List ℕ). bytes_eq other name) type_names function_names)
