-- Each name of a list once.
use Rattle.std.proofs.Common.{◌≡◌, ℕ, ◌+◌, ◌<◌, ◌||◌, Bool, true, false, List, [], ◌∷◌, ◌++◌, length, take, map}
use Rattle.std.proofs.Common.{get_or, refl, sym, ap, ◌∙◌, subst, ◌⊎◌, inl, inr, append_assoc}
use Rattle.std.specs.Prelude.{not, filter}
use Rattle.std.proofs.lemmas.Slice.Eq.{bytes_eq-Decides}
use Rattle.std.proofs.lemmas.Bool.{cond-true, cond-false, cases_Bool, or_from, or_left, or_parts, false≢true}
use Rattle.std.proofs.lemmas.Bool.{false_from_ne_true}
use Rattle.std.proofs.lemmas.List.{append-nil, map-append, take_more}
use denote.Ref.{Bor}
use Rattle.std.proofs.lemmas.List.Elements.{filter-append}
use Rattle.std.specs.Str.{bytes_eq}
use Rattle.wire.specs.Strings.{is_among}
use Rattle.filter_syntax.specs.By.{Names, each_once}

same : (x y : List ℕ) → bytes_eq x y ≡ true → x ≡ y
same x y is = (bytes_eq-Decides x y).0 is

self_same : (x y : List ℕ) → x ≡ y → bytes_eq x y ≡ true
self_same x y is = (bytes_eq-Decides x y).1 is

other_way : (x y : List ℕ) → bytes_eq x y ≡ false → bytes_eq y x ≡ false
other_way x y is = false_from_ne_true (bytes_eq y x) (λ e. false≢true (sym is ∙ self_same x y (sym (same y x e))))

-- all but one name
abbrev pub without : List ℕ → Names → Names
without y names = filter (λ other. not (bytes_eq other y)) names

gone_first : (y o : List ℕ) (names : Names) → bytes_eq o y ≡ true → without y (o ∷ names) ≡ without y names
gone_first y o names is = cond-false (not (bytes_eq o y)) (o ∷ without y names) (without y names) (ap not is)

kept_first : (y o : List ℕ) (names : Names) → bytes_eq o y ≡ false → without y (o ∷ names) ≡ o ∷ without y names
kept_first y o names is = cond-true (not (bytes_eq o y)) (o ∷ without y names) (without y names) (ap not is)

gone : (y : List ℕ) (names : Names) → is_among (without y names) y ≡ false
gone y [] = refl
gone y (o ∷ names) = by (cases_Bool (bytes_eq o y)) (gone y names)
  where
    by : (bytes_eq o y ≡ true) ⊎ (bytes_eq o y ≡ false) → is_among (without y names) y ≡ false
        → is_among (without y (o ∷ names)) y ≡ false
    by (inl is) rest = ap (λ (l : Names). is_among l y) (gone_first y o names is) ∙ rest
    by (inr is) rest = ap (λ (l : Names). is_among l y) (kept_first y o names is)
        ∙ or_from (bytes_eq o y) (is_among (without y names) y) is rest

stays : (y x : List ℕ) (names : Names) → bytes_eq y x ≡ false → is_among (without y names) x ≡ is_among names x
stays y x [] apart = refl
stays y x (o ∷ names) apart = by (cases_Bool (bytes_eq o y)) (stays y x names apart)
  where
    by : (bytes_eq o y ≡ true) ⊎ (bytes_eq o y ≡ false) → is_among (without y names) x ≡ is_among names x
        → is_among (without y (o ∷ names)) x ≡ is_among (o ∷ names) x
    by (inl is) rest =
        let here : bytes_eq o x ≡ false = ap (λ (l : List ℕ). bytes_eq l x) (same o y is) ∙ apart in
        ap (λ (l : Names). is_among l x) (gone_first y o names is) ∙ rest
        ∙ ap (λ (b : Bool). b || is_among names x) (sym here)
    by (inr is) rest = ap (λ (l : Names). is_among l x) (kept_first y o names is)
        ∙ ap (λ (b : Bool). bytes_eq o x || b) rest

pub among_once : (names : Names) (x : List ℕ) → is_among (each_once names) x ≡ is_among names x
among_once [] x = refl
among_once (y ∷ names) x = by (cases_Bool (bytes_eq y x)) (among_once names x)
  where
    by : (bytes_eq y x ≡ true) ⊎ (bytes_eq y x ≡ false) → is_among (each_once names) x ≡ is_among names x
        → is_among (each_once (y ∷ names)) x ≡ is_among (y ∷ names) x
    by (inl is) rest = or_left (bytes_eq y x) (is_among (without y (each_once names)) x) is
        ∙ sym (or_left (bytes_eq y x) (is_among names x) is)
    by (inr is) rest = ap (λ (b : Bool). bytes_eq y x || b) (stays y x (each_once names) is ∙ rest)

-- ---- one name more

pub once_new : (names : Names) (x : List ℕ) → is_among names x ≡ false
    → each_once (names ++ x ∷ []) ≡ each_once names ++ x ∷ []
once_new [] x is = refl
once_new (y ∷ names) x is =
    let parts = or_parts (bytes_eq y x) (is_among names x) is in
    ap (λ (l : Names). y ∷ without y l) (once_new names x parts.1)
    ∙ ap (λ (l : Names). y ∷ l) (filter-append (λ other. not (bytes_eq other y)) (each_once names) (x ∷ [])
    ∙ ap (λ (l : Names). without y (each_once names) ++ l) (kept_first y x [] (other_way y x parts.0)))

or_false : (b : Bool) → (b || false) ≡ b
or_false true = refl
or_false false = refl

pub once_again : (names : Names) (x : List ℕ) → is_among names x ≡ true → each_once (names ++ x ∷ []) ≡ each_once names
once_again [] x is = cc
once_again (y ∷ names) x is = by (cases_Bool (is_among names x)) (once_again names x)
  where
    first : is_among names x ≡ false → bytes_eq y x ≡ true
    first among = sym (or_false (bytes_eq y x)) ∙ ap (λ (b : Bool). bytes_eq y x || b) (sym among) ∙ is

    by : (is_among names x ≡ true) ⊎ (is_among names x ≡ false)
        → (is_among names x ≡ true → each_once (names ++ x ∷ []) ≡ each_once names)
        → each_once ((y ∷ names) ++ x ∷ []) ≡ each_once (y ∷ names)
    by (inl among) rest = ap (λ (l : Names). y ∷ without y l) (rest among)
    by (inr among) rest =
        let x_is_y : bytes_eq x y ≡ true = self_same x y (sym (same y x (first among))) in
        ap (λ (l : Names). y ∷ without y l) (once_new names x among)
        ∙ ap (λ (l : Names). y ∷ l) (filter-append (λ other. not (bytes_eq other y)) (each_once names) (x ∷ [])
        ∙ ap (λ (l : Names). without y (each_once names) ++ l) (gone_first y x [] x_is_y)
        ∙ append-nil (without y (each_once names)))

-- ---- what stands first is kept first

pub once_front : (names more : Names) → (rest : Names) × (each_once (names ++ more) ≡ each_once names ++ rest)
once_front names [] = ([], ap each_once (append-nil names) ∙ sym (append-nil (each_once names)))
once_front names (x ∷ more) = by (cases_Bool (is_among names x)) (once_front (names ++ x ∷ []) more)
  where
    moved : each_once (names ++ (x ∷ more)) ≡ each_once ((names ++ x ∷ []) ++ more)
    moved = ap each_once (sym (append_assoc names (x ∷ []) more))

    by : (is_among names x ≡ true) ⊎ (is_among names x ≡ false)
        → (rest : Names) × (each_once ((names ++ x ∷ []) ++ more) ≡ each_once (names ++ x ∷ []) ++ rest)
        → (rest : Names) × (each_once (names ++ (x ∷ more)) ≡ each_once names ++ rest)
    by (inl again) on = (on.0, moved ∙ on.1 ∙ ap (λ (l : Names). l ++ on.0) (once_again names x again))
    by (inr new) on = (
      x ∷ on.0,
      moved ∙ on.1 ∙ ap (λ (l : Names). l ++ on.0) (once_new names x new)
          ∙ append_assoc (each_once names) (x ∷ []) on.0,
    )

-- ---- none stands twice

abbrev IsApartAll : Names → Type 0
IsApartAll [] = Unit {0}
IsApartAll (x ∷ names) = (is_among names x ≡ false) × IsApartAll names

fewer : (y x : List ℕ) (names : Names) → is_among names x ≡ false → is_among (without y names) x ≡ false
fewer y x [] none = refl
fewer y x (o ∷ names) none = by (cases_Bool (bytes_eq o y)) (or_parts (bytes_eq o x) (is_among names x) none)
    (fewer y x names)
  where
    by : (bytes_eq o y ≡ true) ⊎ (bytes_eq o y ≡ false) → (bytes_eq o x ≡ false) × (is_among names x ≡ false)
        → (is_among names x ≡ false → is_among (without y names) x ≡ false) → is_among (without y (o ∷ names)) x ≡ false
    by (inl is) parts rest = ap (λ (l : Names). is_among l x) (gone_first y o names is) ∙ rest parts.1
    by (inr is) parts rest = ap (λ (l : Names). is_among l x) (kept_first y o names is)
        ∙ or_from (bytes_eq o x) (is_among (without y names) x) parts.0 (rest parts.1)

apart_without : (y : List ℕ) (names : Names) → IsApartAll names → IsApartAll (without y names)
apart_without y [] apart = tt
apart_without y (o ∷ names) apart = by (cases_Bool (bytes_eq o y)) (apart_without y names apart.1)
  where
    by : (bytes_eq o y ≡ true) ⊎ (bytes_eq o y ≡ false) → IsApartAll (without y names)
        → IsApartAll (without y (o ∷ names))
    by (inl is) rest = subst IsApartAll (sym (gone_first y o names is)) rest
    by (inr is) rest = subst IsApartAll (sym (kept_first y o names is)) (fewer y o names apart.0, rest)

once_apart : (names : Names) → IsApartAll (each_once names)
once_apart [] = tt
once_apart (y ∷ names) = (gone y (each_once names), apart_without y (each_once names) (once_apart names))

apart_at : (before : Names) (x : List ℕ) (behind : Names) → IsApartAll (before ++ x ∷ behind)
    → is_among behind x ≡ false
apart_at [] x behind apart = apart.0
apart_at (y ∷ before) x behind apart = apart_at before x behind apart.1

pub never_twice : (names before : Names) (x : List ℕ) (behind : Names) → each_once names ≡ before ++ x ∷ behind
    → is_among behind x ≡ false
never_twice names before x behind is = apart_at before x behind (subst IsApartAll is (once_apart names))

-- ---- a list of references to names

pub take_names : (names : List (Bor (List ℕ))) (i : ℕ) (d : Bor (List ℕ)) → i < length names
    → map (λ name. name.now) (take (i + 1) names) ≡ map (λ name. name.now) (take i names) ++ (get_or names i d).now ∷ []
take_names names i d within =
    ap (λ (l : List (Bor (List ℕ))). map (λ name. name.now) l) (take_more names i d within)
    ∙ map-append (λ name. name.now) (take i names) (get_or names i d ∷ [])

pub step_again : (names : List (Bor (List ℕ))) (i : ℕ) (d : Bor (List ℕ)) (kept seen : Names) (test : Bool)
    → i < length names
    → kept ≡ each_once (map (λ name. name.now) (take i names))
    → seen ≡ kept → test ≡ is_among seen (get_or names i d).now → test ≡ true
    → kept ≡ each_once (map (λ name. name.now) (take (i + 1) names))
step_again names i d kept seen test within is whole tests among =
    let front : Names = map (λ name. name.now) (take i names) in
    let there : is_among front (get_or names i d).now ≡ true =
    sym (among_once front (get_or names i d).now)
    ∙ ap (λ (l : Names). is_among l (get_or names i d).now) (sym (whole ∙ is)) ∙ sym tests ∙ among in
    is ∙ sym (once_again front (get_or names i d).now there) ∙ ap each_once (sym (take_names names i d within))

pub step_new : (names : List (Bor (List ℕ))) (i : ℕ) (d : Bor (List ℕ)) (kept seen after : Names) (test : Bool)
    → i < length names
    → kept ≡ each_once (map (λ name. name.now) (take i names))
    → seen ≡ kept → test ≡ is_among seen (get_or names i d).now → test ≡ false
    → after ≡ kept ++ (get_or names i d).now ∷ []
    → after ≡ each_once (map (λ name. name.now) (take (i + 1) names))
step_new names i d kept seen after test within is whole tests among new =
    let front : Names = map (λ name. name.now) (take i names) in
    let there : is_among front (get_or names i d).now ≡ false =
    sym (among_once front (get_or names i d).now)
    ∙ ap (λ (l : Names). is_among l (get_or names i d).now) (sym (whole ∙ is)) ∙ sym tests ∙ among in
    new ∙ ap (λ (l : Names). l ++ (get_or names i d).now ∷ []) is
    ∙ sym (once_new front (get_or names i d).now there) ∙ ap each_once (sym (take_names names i d within))
