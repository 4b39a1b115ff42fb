-- Each text has one answer: the filter that it is, or its fault.
use Rattle.std.specs.Prelude.{◌≡◌, ◌⊎◌, ℕ, zero, suc, ◌≤◌, ◌<◌, ◌^◌, Bool, true, false, List, [], ◌∷◌, ◌++◌, length, cond, map}
use Rattle.std.specs.Prelude.{Option, Some, None, Result, Ok, Err, slice_get, refl}
use Rattle.std.specs.List.{AllByRecursion}
use Rattle.std.proofs.Common.{sym, ap, ◌∙◌, inl, inr, subst, true≢false, arith}
use Rattle.std.proofs.lemmas.Option.{none-some, same_Some}
use Rattle.std.proofs.lemmas.List.Elements.{filter_map-append}
use mathlib.Core.List.{append-nil}
use Rattle.grammars.specs.Text.{next, Ended, FirstWrong, one_first_wrong}
use Rattle.filter_syntax.specs.declared.tree.Cond.{Cond}
use Rattle.filter_syntax.specs.declared.tree.Filter.{Filter}
use Rattle.filter_syntax.specs.declared.tree.RowKind.{RowKind}
use Rattle.filter_syntax.specs.declared.fault.FilterFault.{FilterFault}
use Rattle.filter_syntax.specs.declared.fault.FilterFault.TheVariants as faults
use Rattle.filter_syntax.specs.Token.{Name, End, Bad, CanBeWritten, written}
use Rattle.filter_syntax.specs.Shown.{shown, tokens_at}
use Rattle.grammars.specs.Tokens.{ends}
use Rattle.filter_syntax.specs.Tokens.{Placed}
use Rattle.filter_syntax.specs.Grammar.{Alternatives}
use Rattle.filter_syntax.specs.Texts.{IsFilterText, HasTokens, SyntaxAt, ReadsAs, UnknownAt, AreKnown, kind_of, limited_to}
use Rattle.filter_syntax.specs.Texts.{has_scopes, is_comparison, AnswersFilter, FilterLaws}
use Rattle.filter_syntax.specs.Limiting.{AnswersOr}
use Rattle.filter_syntax.specs.Compared.{Compared, comparisons, IsKnown, FirstUnknown, places_of_names, name_place}
use Rattle.filter_syntax.proofs.Counted.{counted, place_found}
use Rattle.filter_syntax.proofs.Reprints.{shown_formed}
use Rattle.filter_syntax.proofs.Groupings.{shown_text}
use Rattle.filter_syntax.proofs.TokenLists.{token_laws}
use Rattle.filter_syntax.proofs.Verdict.{fine_tokens, fine_kinds, others_of, rest_of, no_syntax, same_reading, some_reading}
use Rattle.filter_syntax.specs.Attributes.{attributes}
use Rattle.wire.specs.Strings.{is_among}

-- ---- a text's tokens, and the names among them

pub one_tokens : (text : List ℕ) (a b : List Placed) → HasTokens text a → HasTokens text b → a ≡ b
one_tokens text a b h k =
    h.limited ∙ ap (limited_to 256) (token_laws.one 0 text h.placed k.placed h.are k.are) ∙ sym k.limited

names_more : (p : Placed) (ps : List Placed) (most : ℕ) → length (places_of_names ps) ≤ most
    → length (places_of_names (p ∷ ps)) ≤ suc most
names_more (Name name, at) ps most h = omega (arith, h)
names_more _ ps most h = omega (arith, h)

names_same : (p : Placed) (ps : List Placed) → is_comparison p ≡ false → places_of_names (p ∷ ps) ≡ places_of_names ps
names_same (Name name, at) ps is = absurd (true≢false is)
names_same _ ps is = refl

names_within : (most : ℕ) (ps : List Placed) → length (places_of_names (limited_to most ps)) ≤ most
names_within most [] = omega arith
names_within zero (p ∷ ps) = by_kind (is_comparison p) refl (names_within zero ps)
  where
    by_kind : (b : Bool) → is_comparison p ≡ b → length (places_of_names (limited_to zero ps)) ≤ 0
        → length (places_of_names (cond b ((Bad, p.1) ∷ []) (p ∷ limited_to zero ps))) ≤ 0
    by_kind true is h = omega arith
    by_kind false is h =
        subst (λ (l : List ℕ). length l ≤ 0) (sym (names_same p (limited_to zero ps) is)) h
names_within (suc most) (p ∷ ps) = by_kind (is_comparison p) refl (names_within most ps) (names_within (suc most) ps)
  where
    by_kind : (b : Bool) → is_comparison p ≡ b → length (places_of_names (limited_to most ps)) ≤ most
        → length (places_of_names (limited_to (suc most) ps)) ≤ suc most
        → length (places_of_names (p ∷ limited_to (cond b most (suc most)) ps)) ≤ suc most
    by_kind true is h k = names_more p (limited_to most ps) most h
    by_kind false is h k =
        subst (λ (l : List ℕ). length l ≤ suc most) (sym (names_same p (limited_to (suc most) ps) is)) k

names_before : (ts : List Placed) (end : ℕ) → places_of_names (ts ++ ((End, end) ∷ [])) ≡ places_of_names ts
names_before ts end = filter_map-append name_place ts ((End, end) ∷ []) ∙ append-nil (places_of_names ts)

-- a filter that a text reads as has few comparisons
pub few_comparisons : (kind : RowKind) (text : List ℕ) (c : Cond) → ReadsAs kind text (Some c)
    → length (comparisons None c) < 2 ^ 64
few_comparisons kind text c h =
    let few : length (places_of_names (limited_to 256 h.has.placed)) ≤ 256 = names_within 256 h.has.placed in
    let same : places_of_names (limited_to 256 h.has.placed) ≡ places_of_names h.tokens =
    ap places_of_names (sym h.has.limited) ∙ names_before h.tokens h.end in
    omega (
      arith,
      few,
      ap (λ (l : List ℕ). length l) same,
      counted Alternatives 32 (has_scopes kind) h.tokens c h.reads None,
    )

-- the place that is found for the first unknown one
pub unknown_told : (kind : RowKind) (text : List ℕ) (tokens : List Placed) (c : Cond) (index : ℕ) (found : Option ℕ)
    → HasTokens text tokens → ReadsAs kind text (Some c) → FirstUnknown kind (comparisons None c) index
    → found ≡ slice_get (places_of_names tokens) index
    → (at : ℕ) × (found ≡ Some at) × UnknownAt kind text at
unknown_told kind text tokens c index found has h first is =
    let place = place_found kind Alternatives 32 (has_scopes kind) h.tokens c None index h.reads first in
    let same : places_of_names tokens ≡ places_of_names h.tokens =
    ap places_of_names (one_tokens text tokens (h.tokens ++ ((End, h.end) ∷ [])) has h.has) ∙ names_before h.tokens h.end in (
      place.0,
      is ∙ ap (λ l. slice_get l index) same ∙ place.1,
      record { root = c; reads = h; index = index; first = first; place = place.1 },
    )

-- ---- one answer

all_known : (kind : RowKind) (list : List Compared)
    → AllByRecursion (IsKnown kind) list ⊎ ((index : ℕ) × FirstUnknown kind list index)
all_known kind [] = inl tt
all_known kind (x ∷ list) = by_known (is_among (attributes kind x.0) x.1) refl (all_known kind list)
  where
    by_known : (b : Bool) → is_among (attributes kind x.0) x.1 ≡ b
        → AllByRecursion (IsKnown kind) list ⊎ ((index : ℕ) × FirstUnknown kind list index)
        → AllByRecursion (IsKnown kind) (x ∷ list) ⊎ ((index : ℕ) × FirstUnknown kind (x ∷ list) index)
    by_known true is (inl all) = inl (is, all)
    by_known true is (inr found) = inr (
      suc found.0,
      record {
        before = x ∷ found.1.before;
        attribute = found.1.attribute;
        behind = found.1.behind;
        split = ap (λ l. x ∷ l) found.1.split;
        known = (is, found.1.known);
        unknown = found.1.unknown;
        place = ap suc found.1.place;
      },
    )
    by_known false is rest = inr (
      0,
      record {
        before = [];
        attribute = x;
        behind = list;
        split = refl;
        known = tt;
        unknown = λ known. true≢false (sym known ∙ is);
        place = refl;
      },
    )

some_answer : (kind : RowKind) (text : List ℕ) → (answer : Result Filter FilterFault) × AnswersFilter kind text answer
some_answer kind text =
    let read = token_laws.some 0 text in
    by_reading (some_reading kind text (limited_to 256 read.0) (record { placed = read.0; are = read.1; limited = refl }))
  where
    by_known : (c : Cond) → ReadsAs kind text (Some c)
        → AllByRecursion (IsKnown kind) (comparisons None c) ⊎ ((index : ℕ) × FirstUnknown kind (comparisons None c) index)
        → (answer : Result Filter FilterFault) × AnswersFilter kind text answer
    by_known c h (inl all) = (Ok (record { kind = kind; root = Some c }), (refl, h, all))
    by_known c h (inr found) =
        let place = place_found kind Alternatives 32 (has_scopes kind) h.tokens c None found.0 h.reads found.1 in (
          Err (faults.UnknownAttribute place.0),
          record { root = c; reads = h; index = found.0; first = found.1; place = place.1 },
        )

    by_root : (r : Option Cond) → ReadsAs kind text r
        → (answer : Result Filter FilterFault) × AnswersFilter kind text answer
    by_root None h = (Ok (record { kind = kind; root = None }), (refl, h, tt))
    by_root (Some c) h = by_known c h (all_known kind (comparisons None c))

    by_reading : ((r : Option Cond) × ReadsAs kind text r) ⊎ ((at : ℕ) × SyntaxAt kind text at)
        → (answer : Result Filter FilterFault) × AnswersFilter kind text answer
    by_reading (inl found) = by_root found.0 found.1
    by_reading (inr found) = (Err (faults.Syntax found.0), found.1)

-- both read, with the same tokens
both_read : (kind : RowKind) (text : List ℕ) (a b : Option Cond) (h : ReadsAs kind text a) (k : ReadsAs kind text b)
    → (h.tokens ≡ k.tokens) × (a ≡ b)
both_read kind text a b h k = same_reading kind text a b h k
    (one_tokens text (h.tokens ++ ((End, h.end) ∷ [])) (k.tokens ++ ((End, k.end) ∷ [])) h.has k.has)

not_both : (kind : RowKind) (text : List ℕ) (r : Option Cond) (at : ℕ) → ReadsAs kind text r → SyntaxAt kind text at → ⊥
not_both kind text r at h k = no_syntax kind text r at h k
    (one_tokens text k.tokens (h.tokens ++ ((End, h.end) ∷ [])) k.has h.has)

-- tokens after prefixes of one length
same_place : (f g : List Placed) (p q : Placed) (r s : List Placed) → map kind_of f ≡ map kind_of g
    → f ++ (p ∷ r) ≡ g ++ (q ∷ s) → p ≡ q
same_place [] [] p q r s kinds same = same_Some p q (ap next same)
same_place [] (t ∷ g) p q r s kinds same = absurd (none-some t.0 (ap next kinds))
same_place (t ∷ f) [] p q r s kinds same = absurd (none-some t.0 (sym (ap next kinds)))
same_place (t ∷ f) (u ∷ g) p q r s kinds same = same_place f g p q r s (ap rest_of kinds) (ap others_of same)

one_syntax : (kind : RowKind) (text : List ℕ) (a b : ℕ) → SyntaxAt kind text a → SyntaxAt kind text b → a ≡ b
one_syntax kind text a b h k =
    let tokens : h.tokens ≡ k.tokens = one_tokens text h.tokens k.tokens h.has k.has in
    let fronts : map kind_of h.front ≡ map kind_of k.front = one_first_wrong (Ended (IsFilterText kind) End)
    (map kind_of k.tokens) (map kind_of h.front) (map kind_of k.front) h.wrong k.wrong (map kind_of h.behind)
    (map kind_of k.behind)
    (subst (λ ts. FirstWrong (Ended (IsFilterText kind) End) (map kind_of ts) (map kind_of h.front) h.wrong
    (map kind_of h.behind)) tokens h.first) k.first in
    ap (λ (p : Placed). p.1) (same_place h.front k.front (h.wrong, a) (k.wrong, b) h.behind k.behind fronts
    (sym h.split ∙ tokens ∙ k.split))

-- of a list in which one is unknown not all are known, and the first has one index
known_at : (kind : RowKind) (before : List Compared) (x : Compared) (behind : List Compared)
    → AllByRecursion (IsKnown kind) (before ++ (x ∷ behind)) → IsKnown kind x
known_at kind [] x behind h = h.0
known_at kind (y ∷ before) x behind h = known_at kind before x behind h.1

not_known : (kind : RowKind) (list : List Compared) (index : ℕ) → FirstUnknown kind list index
    → AllByRecursion (IsKnown kind) list → ⊥
not_known kind list index first all = first.unknown
    (known_at kind first.before first.attribute first.behind (subst (AllByRecursion (IsKnown kind)) first.split all))

abbrev compared_behind : List Compared → List Compared
compared_behind [] = []
compared_behind (x ∷ list) = list

one_length : (kind : RowKind) (f g : List Compared) (x y : Compared) (r s : List Compared)
    → f ++ (x ∷ r) ≡ g ++ (y ∷ s) → AllByRecursion (IsKnown kind) f → (IsKnown kind x → ⊥)
    → AllByRecursion (IsKnown kind) g → (IsKnown kind y → ⊥) → length f ≡ length g
one_length kind [] [] x y r s same f_known x_not g_known y_not = refl
one_length kind [] (z ∷ g) x y r s same f_known x_not g_known y_not =
    absurd (x_not (subst (IsKnown kind) (sym (same_Some x z (ap next same))) g_known.0))
one_length kind (z ∷ f) [] x y r s same f_known x_not g_known y_not =
    absurd (y_not (subst (IsKnown kind) (same_Some z y (ap next same)) f_known.0))
one_length kind (z ∷ f) (w ∷ g) x y r s same f_known x_not g_known y_not =
    ap suc (one_length kind f g x y r s (ap compared_behind same) f_known.1 x_not g_known.1 y_not)

one_unknown : (kind : RowKind) (text : List ℕ) (a b : ℕ) → UnknownAt kind text a → UnknownAt kind text b → a ≡ b
one_unknown kind text a b h k =
    let both = both_read kind text (Some h.root) (Some k.root) h.reads k.reads in
    let roots : h.root ≡ k.root = same_Some h.root k.root both.1 in
    let indices : h.index ≡ k.index = h.first.place ∙ one_length kind h.first.before k.first.before h.first.attribute
    k.first.attribute h.first.behind k.first.behind
    (sym h.first.split ∙ ap (comparisons None) roots ∙ k.first.split) h.first.known h.first.unknown k.first.known
    k.first.unknown ∙ sym k.first.place in
    same_Some a b (sym h.place ∙ ap (λ (n : ℕ). slice_get (places_of_names h.reads.tokens) n) indices
    ∙ ap (λ ts. slice_get (places_of_names ts) k.index) both.0 ∙ k.place)

-- a filter whose attributes are known has no unknown one
not_unknown : (kind : RowKind) (text : List ℕ) (r : Option Cond) (at : ℕ) → ReadsAs kind text r → AreKnown kind r
    → UnknownAt kind text at → ⊥
not_unknown kind text r at h known k = not_known kind (comparisons None k.root) k.index k.first
    (subst (AreKnown kind) (both_read kind text r (Some k.root) h k.reads).1 known)

one_answer : (kind : RowKind) (text : List ℕ) (a b : Result Filter FilterFault) → AnswersFilter kind text a
    → AnswersFilter kind text b → a ≡ b
one_answer kind text (Ok a) (Ok b) h k = ap Ok (same_filter a b (h.0 ∙ sym k.0)
    (both_read kind text a.root b.root h.1 k.1).1)
  where
    same_filter : (a b : Filter) → a.kind ≡ b.kind → a.root ≡ b.root → a ≡ b
    same_filter a b kinds roots = ap (λ k. record { kind = k; root = a.root }) kinds
        ∙ ap (λ r. record { kind = b.kind; root = r }) roots
one_answer kind text (Ok a) (Err (faults.Syntax at)) h k = absurd (not_both kind text a.root at h.1 k)
one_answer kind text (Ok a) (Err (faults.UnknownAttribute at)) h k = absurd (not_unknown kind text a.root at h.1 h.2 k)
one_answer kind text (Ok a) (Err faults.NoMemory) h k = absurd k
one_answer kind text (Err (faults.Syntax at)) (Ok b) h k = absurd (not_both kind text b.root at k.1 h)
one_answer kind text (Err (faults.Syntax a)) (Err (faults.Syntax b)) h k =
    ap (λ (at : ℕ). Err (faults.Syntax at)) (one_syntax kind text a b h k)
one_answer kind text (Err (faults.Syntax a)) (Err (faults.UnknownAttribute b)) h k =
    absurd (not_both kind text (Some k.root) a k.reads h)
one_answer kind text (Err (faults.Syntax a)) (Err faults.NoMemory) h k = absurd k
one_answer kind text (Err (faults.UnknownAttribute at)) (Ok b) h k = absurd (not_unknown kind text b.root at k.1 k.2 h)
one_answer kind text (Err (faults.UnknownAttribute a)) (Err (faults.Syntax b)) h k =
    absurd (not_both kind text (Some h.root) b h.reads k)
one_answer kind text (Err (faults.UnknownAttribute a)) (Err (faults.UnknownAttribute b)) h k =
    ap (λ (at : ℕ). Err (faults.UnknownAttribute at)) (one_unknown kind text a b h k)
one_answer kind text (Err (faults.UnknownAttribute a)) (Err faults.NoMemory) h k = absurd k
one_answer kind text (Err faults.NoMemory) b h k = absurd h

-- ---- what is printed

names_one : (p : Placed) (ps : List Placed) → is_comparison p ≡ true
    → length (places_of_names (p ∷ ps)) ≡ suc (length (places_of_names ps))
names_one (Name name, at) ps is = refl
names_one _ ps is = absurd (true≢false (sym is))

none_named : (p : Placed) (ps : List Placed) → is_comparison p ≡ true → length (places_of_names (p ∷ ps)) ≤ 0 → ⊥
none_named p ps is few = omega (arith, names_one p ps is, few)

fewer_named : (p : Placed) (ps : List Placed) (most : ℕ) → is_comparison p ≡ true
    → length (places_of_names (p ∷ ps)) ≤ suc most → length (places_of_names ps) ≤ most
fewer_named p ps most is few = omega (arith, names_one p ps is, few)

within_all : (most : ℕ) (ps : List Placed) → length (places_of_names ps) ≤ most → limited_to most ps ≡ ps
within_all zero [] few = refl
within_all (suc most) [] few = refl
within_all zero (p ∷ ps) few = by_kind (is_comparison p) refl (within_all zero ps)
  where
    by_kind : (b : Bool) → is_comparison p ≡ b → (length (places_of_names ps) ≤ 0 → limited_to zero ps ≡ ps)
        → cond b ((Bad, p.1) ∷ []) (p ∷ limited_to zero ps) ≡ p ∷ ps
    by_kind true is rest = absurd (none_named p ps is few)
    by_kind false is rest =
        ap (λ ps. p ∷ ps) (rest (subst (λ (l : List ℕ). length l ≤ 0) (names_same p ps is) few))
within_all (suc most) (p ∷ ps) few = by_kind (is_comparison p) refl (within_all most ps) (within_all (suc most) ps)
  where
    by_kind : (b : Bool) → is_comparison p ≡ b → (length (places_of_names ps) ≤ most → limited_to most ps ≡ ps)
        → (length (places_of_names ps) ≤ suc most → limited_to (suc most) ps ≡ ps)
        → p ∷ limited_to (cond b most (suc most)) ps ≡ p ∷ ps
    by_kind true is rest other = ap (λ ps. p ∷ ps) (rest (fewer_named p ps most is few))
    by_kind false is rest other =
        ap (λ ps. p ∷ ps) (other (subst (λ (l : List ℕ). length l ≤ suc most) (names_same p ps is) few))

printed_read : (kind : RowKind) (text : List ℕ) (c : Cond) → ReadsAs kind text (Some c)
    → ReadsAs kind (written (tokens_at Alternatives c)) (Some c)
printed_read kind text c h =
    let t = shown_text 32 (has_scopes kind) h.tokens c h.reads (fine_kinds h.tokens (fine_tokens kind text (Some c) h)) in
    let few : length (places_of_names (limited_to 256 h.has.placed)) ≤ 256 = names_within 256 h.has.placed in
    let same : places_of_names (limited_to 256 h.has.placed) ≡ places_of_names h.tokens =
    ap places_of_names (sym h.has.limited) ∙ names_before h.tokens h.end in
    let short : length (places_of_names (t.tokens ++ ((End, t.end) ∷ []))) ≤ 256 =
    omega (
      arith,
      few,
      ap (λ (l : List ℕ). length l) same,
      ap (λ (l : List ℕ). length l) (names_before t.tokens t.end),
      counted Alternatives 32 (has_scopes kind) h.tokens c h.reads None,
      counted Alternatives 32 (has_scopes kind) t.tokens c t.reads None,
    ) in
    record {
      tokens = t.tokens;
      end = t.end;
      has = record {
        placed = t.tokens ++ ((End, t.end) ∷ []);
        are = t.are;
        limited = sym (within_all 256 (t.tokens ++ ((End, t.end) ∷ [])) short);
      };
      reads = t.reads;
    }

printed_again : (kind : RowKind) (text : List ℕ) (r : Option Cond) → ReadsAs kind text r
    → AllByRecursion CanBeWritten (shown r) × ReadsAs kind (written (shown r)) r
printed_again kind text None h = (
  tt,
  record {
    tokens = [];
    end = 0;
    has = record { placed = (End, 0) ∷ []; are = ends 0; limited = refl };
    reads = refl;
  },
)
printed_again kind text (Some c) h = (
  shown_formed Alternatives 32 (has_scopes kind) h.tokens c h.reads
      (fine_kinds h.tokens (fine_tokens kind text (Some c) h)),
  printed_read kind text c h,
)

pub filter_laws : FilterLaws
filter_laws = record {
  some = some_answer;
  one = one_answer;
  printed = λ kind text filter h.
      let p = printed_again kind text filter.root h.1 in (p.0, (h.0, p.1, h.2));
}

-- what is answered is the answer, unless memory ran out
pub told : (kind : RowKind) (text : List ℕ) (result answer : Result Filter FilterFault) → AnswersOr kind text result
    → AnswersFilter kind text answer → (result ≡ Err faults.NoMemory → ⊥) → result ≡ answer
told kind text (Ok filter) answer h k not = one_answer kind text (Ok filter) answer h k
told kind text (Err (faults.Syntax at)) answer h k not = one_answer kind text (Err (faults.Syntax at)) answer h k
told kind text (Err (faults.UnknownAttribute at)) answer h k not =
    one_answer kind text (Err (faults.UnknownAttribute at)) answer h k
told kind text (Err faults.NoMemory) answer h k not = absurd (not refl)
