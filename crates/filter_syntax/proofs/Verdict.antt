-- What reading the tokens of a text comes to says of it.
use Rattle.std.specs.Prelude.{◌≡◌, ◌⊎◌, ℕ, zero, suc, Bool, true, false, List, [], ◌∷◌, ◌++◌, cond, map}
use Rattle.std.specs.Prelude.{Option, Some, None, refl}
use Rattle.std.specs.List.{AllByRecursion}
use Rattle.std.proofs.Common.{sym, ap, ◌∙◌, inl, inr, subst, true≢false}
use Rattle.std.proofs.lemmas.Option.{none-some, same_Some}
use mathlib.Core.List.{append-nil}
use Rattle.grammars.specs.Text.{next, Ended, none_in_text}
use Rattle.grammars.specs.Outcome.{Outcome, Got, Wrong, Deep, ◌>>=◌}
use Rattle.grammars.specs.Part.{Part, Goes, Decides}
use Rattle.grammars.specs.Heads.{Turns, Nothing, decides_as, decides_nothing}
use Rattle.grammars.specs.Bits.{Made, decides_made}
use Rattle.grammars.specs.Whole.{AreOpen, Speaks, IsRead, Verdict, WrongAt, decides_text}
use Rattle.filter_syntax.specs.declared.tree.Cond.{Cond}
use Rattle.filter_syntax.specs.declared.tree.RowKind.{RowKind}
use Rattle.filter_syntax.specs.Token.{Token, And, Or}
use Rattle.filter_syntax.specs.Token.{End, Bad, CanBeWritten}
use Rattle.filter_syntax.specs.Tokens.{Placed, AreTokens}
use Rattle.grammars.specs.Tokens as tokens
use Rattle.filter_syntax.specs.Grammar.{Alternatives, Reads}
use Rattle.filter_syntax.specs.Descent.{unit_at, alternatives_by, ends_text, root_at}
use Rattle.filter_syntax.specs.Texts.{has_scopes, IsFilter, IsFilterText, HasTokens, SyntaxAt, ReadsAs, kind_of, limited_to}
use Rattle.filter_syntax.specs.Texts.{is_comparison}
use Rattle.filter_syntax.proofs.Rules.{Fine, GoesOr, decides_alternatives}
use Rattle.filter_syntax.proofs.Units.{decides_unit}
use Rattle.filter_syntax.proofs.Places.{clean, replaced, nothing, Begun, begun_by, map_joined}
use Rattle.filter_syntax.proofs.TokenLists.{token_laws}

-- ---- a text's tokens

-- tokens that can be written, and one that ends them
pub record Shaped (ts : List Placed) : Type 0 where
  pub good : List Placed
  pub last : Placed
  pub all : ts ≡ good ++ (last ∷ [])
  pub fine : AllByRecursion Fine good
  pub ends : ends_text last.0 ≡ true

shaped_more : (p : Placed) (ts : List Placed) → CanBeWritten p.0 → Shaped ts → Shaped (p ∷ ts)
shaped_more p ts fine h = record {
  good = p ∷ h.good;
  last = h.last;
  all = ap (λ ts. p ∷ ts) h.all;
  fine = (fine, h.fine);
  ends = h.ends;
}

shaped_tokens : (at : ℕ) (text : List ℕ) (ts : List Placed) → AreTokens at text ts → Shaped ts
shaped_tokens at _ _ (tokens.ends _) =
    record { good = []; last = (End, at); all = refl; fine = tt; ends = refl }
shaped_tokens at _ ts (tokens.passes _ _ gap rest _ begins more) = shaped_tokens _ rest ts more
shaped_tokens at _ _ (tokens.stops _ byte text quiet none) =
    record { good = []; last = (Bad, at); all = refl; fine = tt; ends = refl }
shaped_tokens at _ _ (tokens.takes _ text token bytes rest ts quiet long behind) =
    shaped_more (token, at) ts long.begins.spelled.0 (shaped_tokens _ rest ts behind)

within_shaped : (most : ℕ) (good : List Placed) (last : Placed) → AllByRecursion Fine good → ends_text last.0 ≡ true
    → Shaped (limited_to most (good ++ (last ∷ [])))
within_shaped zero [] last fine ends = by_last (is_comparison last)
  where
    by_last : (b : Bool) → Shaped (cond b ((Bad, last.1) ∷ []) (last ∷ []))
    by_last true = record { good = []; last = (Bad, last.1); all = refl; fine = tt; ends = refl }
    by_last false = record { good = []; last = last; all = refl; fine = tt; ends = ends }
within_shaped (suc most) [] last fine ends =
    record { good = []; last = last; all = refl; fine = tt; ends = ends }
within_shaped zero (p ∷ good) last fine ends =
    by_kind (is_comparison p) (within_shaped zero good last fine.1 ends)
  where
    by_kind : (b : Bool) → Shaped (limited_to zero (good ++ (last ∷ [])))
        → Shaped (cond b ((Bad, p.1) ∷ []) (p ∷ limited_to zero (good ++ (last ∷ []))))
    by_kind true rest = record { good = []; last = (Bad, p.1); all = refl; fine = tt; ends = refl }
    by_kind false rest = shaped_more p _ fine.0 rest
within_shaped (suc most) (p ∷ good) last fine ends =
    shaped_more p _ fine.0 (within_shaped (cond (is_comparison p) most (suc most)) good last fine.1 ends)

pub shaped : (text : List ℕ) (ts : List Placed) → HasTokens text ts → Shaped ts
shaped text ts has =
    let s = shaped_tokens 0 text has.placed has.are in
    subst Shaped (sym (has.limited ∙ ap (limited_to 256) s.all)) (within_shaped 256 s.good s.last s.fine s.ends)

-- ---- the language

abbrev pub others_of : List Placed → List Placed
others_of [] = []
others_of (t ∷ ts) = ts

abbrev pub rest_of : List Token → List Token
rest_of [] = []
rest_of (k ∷ ks) = ks

pub split_end : (ts : List Placed) (ks : List Token) (e : Token) → map kind_of ts ≡ ks ++ (e ∷ [])
    → (placed : List Placed) × (at : ℕ) × (ts ≡ placed ++ ((e, at) ∷ [])) × (map kind_of placed ≡ ks)
split_end [] [] e same = absurd (none-some e (ap next same))
split_end [] (k ∷ ks) e same = absurd (none-some k (ap next same))
split_end (t ∷ ts) [] e same = (
  [],
  t.1,
  ap (λ k. (k, t.1) ∷ ts) (same_Some t.0 e (ap next same)) ∙ ap (λ r. (e, t.1) ∷ r) (nothing ts (ap rest_of same)),
  refl,
)
split_end (t ∷ ts) (k ∷ ks) e same =
    let rest = split_end ts ks e (ap rest_of same) in (
      t ∷ rest.0,
      rest.1,
      ap (λ r. t ∷ r) rest.2,
      ap (λ r. t.0 ∷ r) rest.3 ∙ ap (λ k. k ∷ ks) (same_Some t.0 k (ap next same)),
    )

pub fine_kinds : (u : List Placed) → AllByRecursion Fine u → AllByRecursion CanBeWritten (map kind_of u)
fine_kinds [] h = tt
fine_kinds (t ∷ u) h = (h.0, fine_kinds u h.1)

module _ (kind : RowKind) where
  Root : Part Placed (Option Cond)
  Root u r = IsFilter kind u r

  moved : (u w : List Placed) (r : Option Cond) → map kind_of w ≡ map kind_of u → Root u r → Root w r
  unfolding Root
  moved u w None same h = nothing w (same ∙ ap (map kind_of) h)
  moved u w (Some c) same h = replaced Alternatives 32 (has_scopes kind) u c h w same

  root_clean : (u : List Placed) (r : Option Cond) → Root u r → AreOpen ends_text (map kind_of u)
  unfolding Root
  root_clean u None h = subst (λ u. AreOpen ends_text (map kind_of u)) (sym h) tt
  root_clean u (Some c) h = clean Alternatives 32 (has_scopes kind) u c h

  speaks : Speaks kind_of (λ k. (k, 0)) ends_text Fine Root (IsFilterText kind)
  unfolding Root
  speaks = record {
    placed = λ k. refl;
    closed = λ u r fine reads.
        let read = token_laws.again (map kind_of u) (fine_kinds u fine) in
        let parts = split_end read.0 (map kind_of u) End read.2 in
        record {
          text = _;
          placed = parts.0;
          end = parts.1;
          are = subst (AreTokens 0 _) parts.2 read.1;
          same = parts.3;
          root = r;
          reads = moved u parts.0 r parts.3 reads;
        };
    opened = λ u h. (h.root, moved h.placed u h.root (sym h.same) h.reads);
    clean = λ ks h. subst (AreOpen ends_text) h.same (root_clean h.placed h.root h.reads);
  }

  -- ---- how reading a whole filter comes out

  -- what does not end a text goes on
  GoesAny : Placed → Type 0
  GoesAny t = ends_text t.0 ≡ false

  SomeFilter : Part Placed (Option Cond)
  SomeFilter = Made (λ c. Some c) (Reads Alternatives 32 (has_scopes kind))

  to_root : (u : List Placed) (r : Option Cond) → SomeFilter u r → Root u r
  unfolding Root SomeFilter
  to_root u r h =
      let all : u ≡ h.first = h.joined ∙ ap (λ w. h.first ++ w) h.reads_second.0 ∙ append-nil h.first in
      subst (λ r. IsFilter kind u r) (sym h.reads_second.1)
      (subst (λ u. Reads Alternatives 32 (has_scopes kind) u h.value) (sym all) h.reads_first)

  of_root : (t : Placed) → ends_text t.0 ≡ false → Turns GoesAny (Some t) Root SomeFilter
  unfolding Root SomeFilter GoesAny
  of_root t goes u r None h same = inr (went r (subst (λ u. next (u ++ r) ≡ Some t) h same))
    where
      went : (r : List Placed) → next r ≡ Some t → Goes (λ t. ends_text t.0 ≡ false) r
      went [] same = absurd (none-some t same)
      went (s ∷ r) same = ap (λ (s : Placed). ends_text s.0) (same_Some s t same) ∙ goes
  of_root t goes u r (Some c) h same = inl (record {
    first = u;
    second = [];
    value = c;
    joined = sym (append-nil u);
    reads_first = h;
    reads_second = (refl, refl);
  })

  -- no condition begins with a token that ends a text
  nothing_ends : (t : Placed) → ends_text t.0 ≡ true → Turns GoesAny (Some t) Root (Nothing None)
  unfolding Root
  nothing_ends t ends u r None h same = inl (h, refl)
  nothing_ends t ends u r (Some c) h same = absurd (not_begun u c h same)
    where
      not_begun : (u : List Placed) (c : Cond) → Reads Alternatives 32 (has_scopes kind) u c → next (u ++ r) ≡ Some t → ⊥
      not_begun u c h same =
          let b = begun_by Alternatives 32 (has_scopes kind) u c h in
          let first : b.first ≡ t = same_Some b.first t (sym (ap (λ u. next (u ++ r)) b.all) ∙ same) in
          true≢false (sym ends ∙ ap (λ (t : Placed). ends_text t.0) (sym first)
          ∙ (subst (λ u. AreOpen ends_text (map kind_of u)) b.all (clean Alternatives 32 (has_scopes kind) u c h)).0)

  nothing_none : Turns GoesAny None Root (Nothing None)
  unfolding Root
  nothing_none u r None h same = inl (h, refl)
  nothing_none u r (Some c) h same =
      let b = begun_by Alternatives 32 (has_scopes kind) u c h in
      absurd (none-some b.first (sym (sym (ap (λ u. next (u ++ r)) b.all) ∙ same)))

  to_nothing : (u : List Placed) (r : Option Cond) → Nothing None u r → Root u r
  unfolding Root
  to_nothing u r h = subst (λ r. IsFilter kind u r) (sym h.1) h.0

  goes_any : (t : Placed) → GoesOr t → GoesAny t
  unfolding GoesAny
  goes_any (And, at) goes = refl
  goes_any (Or, at) goes = refl
  goes_any _ (inl goes) = absurd (true≢false (sym goes))
  goes_any _ (inr goes) = absurd (true≢false (sym goes))

  decides_some : (ts : List Placed) → Decides Fine SomeFilter SomeFilter GoesOr ts
      (alternatives_by (unit_at 32 (has_scopes kind)) ts >>= λ c. Got (Some c.0) c.1)
  unfolding SomeFilter
  decides_some ts = decides_made Fine (λ c. Some c) (Reads Alternatives 32 (has_scopes kind))
      (Reads Alternatives 32 (has_scopes kind)) GoesOr ts (λ u c h. h) (alternatives_by (unit_at 32 (has_scopes kind)) ts)
      (decides_alternatives 32 (has_scopes kind) (unit_at 32 (has_scopes kind)) (decides_unit 32 (has_scopes kind)) ts)

  by_end : (t : Placed) (ts : List Placed) (b : Bool) → ends_text t.0 ≡ b → Decides Fine Root Root GoesAny (t ∷ ts)
      (cond b (Got None (t ∷ ts)) (alternatives_by (unit_at 32 (has_scopes kind)) (t ∷ ts) >>= λ c. Got (Some c.0) c.1))
  by_end t ts true ends = decides_as Fine Root Root (Nothing None) (Nothing None) GoesAny GoesAny (t ∷ ts) (λ t c. c)
      to_nothing to_nothing (nothing_ends t ends) (nothing_ends t ends) (Got None (t ∷ ts))
      (decides_nothing Fine None GoesAny (t ∷ ts))
  by_end t ts false goes = decides_as Fine Root Root SomeFilter SomeFilter GoesOr GoesAny (t ∷ ts) goes_any to_root to_root
      (of_root t goes) (of_root t goes)
      (alternatives_by (unit_at 32 (has_scopes kind)) (t ∷ ts) >>= λ c. Got (Some c.0) c.1) (decides_some (t ∷ ts))

  decides_root : (ts : List Placed) → Decides Fine Root Root GoesAny ts (root_at (has_scopes kind) ts)
  decides_root [] = decides_as Fine Root Root (Nothing None) (Nothing None) GoesAny GoesAny [] (λ t c. c)
      to_nothing to_nothing nothing_none nothing_none (Got None []) (decides_nothing Fine None GoesAny [])
  decides_root (t ∷ ts) = by_end t ts (ends_text t.0) refl

  plain : (t : Placed) → Fine t → ends_text t.0 ≡ false
  plain (End, at) fine = absurd fine
  plain (Bad, at) fine = absurd fine
  plain _ fine = refl

  is_read : IsRead kind_of (λ k. (k, 0)) ends_text End Fine Root Root GoesAny (IsFilterText kind) (IsFilterText kind)
  unfolding GoesAny
  is_read = record {
    ends = refl;
    plain = plain;
    within = λ u r h. h;
    clean = root_clean;
    goes = λ t goes. goes;
    speaks_bounded = speaks;
    speaks_free = speaks;
  }

  -- the verdict on a text's tokens
  verdict : (text : List ℕ) (ts : List Placed) → HasTokens text ts
      → Verdict kind_of Root Root End (Ended (IsFilterText kind) End) (Ended (IsFilterText kind) End) ts
      (root_at (has_scopes kind) ts)
  verdict text ts has =
      let s = shaped text ts has in
      subst (λ ts. Verdict kind_of Root Root End (Ended (IsFilterText kind) End) (Ended (IsFilterText kind) End) ts
      (root_at (has_scopes kind) ts)) (sym s.all)
      (decides_text kind_of (λ k. (k, 0)) ends_text End Fine Root Root GoesAny (IsFilterText kind) (IsFilterText kind) is_read
      s.good s.last s.fine s.ends (root_at (has_scopes kind) (s.good ++ (s.last ∷ [])))
      (decides_root (s.good ++ (s.last ∷ []))))

  -- ---- what the code reports

  syntax_at : (text : List ℕ) (ts rest : List Placed) → HasTokens text ts
      → WrongAt kind_of (Ended (IsFilterText kind) End) ts rest → (p : Placed) (behind : List Placed) → rest ≡ p ∷ behind
      → SyntaxAt kind text p.1
  syntax_at text ts rest has h p behind first =
      let one : h.token ≡ p = same_Some h.token p (sym (ap next h.token_first) ∙ ap next first) in
      record {
        tokens = ts;
        has = has;
        front = h.front;
        wrong = h.token.0;
        behind = h.behind;
        split = h.split ∙ ap (λ r. h.front ++ r) h.token_first
            ∙ ap (λ (at : ℕ). h.front ++ ((h.token.0, at) ∷ h.behind)) (ap (λ (t : Placed). t.1) one);
        first = h.first;
      }

  -- the tokens from a wrong one on
  pub wrong_told : (text : List ℕ) (ts rest : List Placed) → HasTokens text ts
      → root_at (has_scopes kind) ts ≡ Wrong rest
      → (p : Placed) (behind : List Placed) → rest ≡ p ∷ behind → SyntaxAt kind text p.1
  wrong_told text ts rest has read p behind first = syntax_at text ts rest has
      (subst (Verdict kind_of Root Root End (Ended (IsFilterText kind) End) (Ended (IsFilterText kind) End) ts) read
      (verdict text ts has)) p behind first

  -- the tokens after a filter, of which the first is not the end
  pub early_told : (text : List ℕ) (ts rest : List Placed) (r : Option Cond) → HasTokens text ts
      → root_at (has_scopes kind) ts ≡ Got r rest
      → (p : Placed) (behind : List Placed) → rest ≡ p ∷ behind → (p.0 ≡ End → ⊥) → SyntaxAt kind text p.1
  early_told text ts rest r has read p behind first not =
      let h = subst (Verdict kind_of Root Root End (Ended (IsFilterText kind) End) (Ended (IsFilterText kind) End) ts) read
      (verdict text ts has) in
      let one : h.token ≡ p = same_Some h.token p (sym (ap next h.token_first) ∙ ap next first) in
      syntax_at text ts rest has (h.wrong (λ ends. not (ap (λ (t : Placed). t.0) (sym one) ∙ ends))) p behind first

  -- a filter with the end after it
  pub whole_told : (text : List ℕ) (ts rest : List Placed) (r : Option Cond) → HasTokens text ts
      → root_at (has_scopes kind) ts ≡ Got r rest
      → (p : Placed) (behind : List Placed) → rest ≡ p ∷ behind → p.0 ≡ End → ReadsAs kind text r
  unfolding Root
  whole_told text ts rest r has read p behind first is =
      let h = subst (Verdict kind_of Root Root End (Ended (IsFilterText kind) End) (Ended (IsFilterText kind) End) ts) read
      (verdict text ts has) in
      let one : h.token ≡ p = same_Some h.token p (sym (ap next h.token_first) ∙ ap next first) in
      let whole = h.whole (ap (λ (t : Placed). t.0) one ∙ is) in
      let ends : h.token ≡ (End, h.token.1) = ap (λ (k : Token). (k, h.token.1)) (ap (λ (t : Placed). t.0) one ∙ is) in
      record {
        tokens = whole.before;
        end = h.token.1;
        has = subst (HasTokens text) (whole.split ∙ ap (λ (t : Placed). whole.before ++ (t ∷ [])) ends) has;
        reads = whole.reads;
      }

  -- there is a token there
  pub wrong_some : (text : List ℕ) (ts rest : List Placed) → HasTokens text ts
      → root_at (has_scopes kind) ts ≡ Wrong rest → Begun rest
  wrong_some text ts rest has read =
      let h = subst (Verdict kind_of Root Root End (Ended (IsFilterText kind) End) (Ended (IsFilterText kind) End) ts) read
      (verdict text ts has) in
      record { first = h.token; others = h.behind; all = h.token_first }

  pub got_some : (text : List ℕ) (ts rest : List Placed) (r : Option Cond) → HasTokens text ts
      → root_at (has_scopes kind) ts ≡ Got r rest → Begun rest
  got_some text ts rest r has read =
      let h = subst (Verdict kind_of Root Root End (Ended (IsFilterText kind) End) (Ended (IsFilterText kind) End) ts) read
      (verdict text ts has) in
      record { first = h.token; others = h.behind; all = h.token_first }

  -- ---- each text has one answer

  fine_init : (good tokens : List Placed) (last x : Placed) → good ++ (last ∷ []) ≡ tokens ++ (x ∷ [])
      → AllByRecursion Fine good → AllByRecursion Fine tokens
  fine_init good [] last x same fine = tt
  fine_init [] (t ∷ tokens) last x same fine = absurd (too_long tokens x (ap others_of same))
    where
      too_long : (tokens : List Placed) (x : Placed) → [] ≡ tokens ++ (x ∷ []) → ⊥
      too_long [] x same = none-some x (ap next same)
      too_long (t ∷ tokens) x same = none-some t (ap next same)
  fine_init (g ∷ good) (t ∷ tokens) last x same fine =
      (subst Fine (same_Some g t (ap next same)) fine.0, fine_init good tokens last x (ap others_of same) fine.1)

  -- they can be written
  pub fine_tokens : (text : List ℕ) (r : Option Cond) (h : ReadsAs kind text r) → AllByRecursion Fine h.tokens
  fine_tokens text r h =
      let s = shaped text (h.tokens ++ ((End, h.end) ∷ [])) h.has in
      fine_init s.good h.tokens s.last (End, h.end) (sym s.all) s.fine

  -- the tokens of a filter, with the end, are those of a text that is one
  text_told : (text : List ℕ) (r : Option Cond) (h : ReadsAs kind text r)
      → Ended (IsFilterText kind) End (map kind_of (h.tokens ++ ((End, h.end) ∷ [])))
  unfolding Root
  text_told text r h =
      let s = shaped text (h.tokens ++ ((End, h.end) ∷ [])) h.has in
      record {
        before = map kind_of h.tokens;
        all = map_joined kind_of h.tokens ((End, h.end) ∷ []);
        text = speaks.closed h.tokens r (fine_init s.good h.tokens s.last (End, h.end) (sym s.all) s.fine) h.reads;
      }

  no_wrong : (text : List ℕ) (r : Option Cond) (h : ReadsAs kind text r) (ts rest : List Placed)
      → ts ≡ h.tokens ++ ((End, h.end) ∷ []) → WrongAt kind_of (Ended (IsFilterText kind) End) ts rest → ⊥
  no_wrong text r h ts rest same w = none_in_text (Ended (IsFilterText kind) End) (map kind_of ts) (map kind_of w.front)
      (kind_of w.token) (map kind_of w.behind)
      (subst (λ ts. Ended (IsFilterText kind) End (map kind_of ts)) (sym same) (text_told text r h)) w.first

  abbrev is_end : Token → Bool
  is_end End = true
  is_end _ = false

  the_end : (t : Token) → is_end t ≡ true → t ≡ End
  the_end End is = refl
  the_end _ is = absurd (true≢false (sym is))

  not_end : (t : Token) → is_end t ≡ false → t ≡ End → ⊥
  not_end t is ends = true≢false (sym (ap is_end ends) ∙ is)

  same_init : (a b : List Placed) (x y : Placed) → a ++ (x ∷ []) ≡ b ++ (y ∷ []) → a ≡ b
  same_init [] [] x y same = refl
  same_init [] (t ∷ b) x y same = absurd (too_long b y (ap others_of same))
    where
      too_long : (tokens : List Placed) (x : Placed) → [] ≡ tokens ++ (x ∷ []) → ⊥
      too_long [] x same = none-some x (ap next same)
      too_long (t ∷ tokens) x same = none-some t (ap next same)
  same_init (t ∷ a) [] x y same = absurd (too_long a x (sym (ap others_of same)))
    where
      too_long : (tokens : List Placed) (x : Placed) → [] ≡ tokens ++ (x ∷ []) → ⊥
      too_long [] x same = none-some x (ap next same)
      too_long (t ∷ tokens) x same = none-some t (ap next same)
  same_init (t ∷ a) (s ∷ b) x y same =
      ap (λ a. t ∷ a) (same_init a b x y (ap others_of same)) ∙ ap (λ t. t ∷ b) (same_Some t s (ap next same))

  -- what a filter's tokens read as is one
  one_reading : (text : List ℕ) (r : Option Cond) (h : ReadsAs kind text r)
      → (v : Option Cond) × ((x : Option Cond) → IsFilter kind h.tokens x → x ≡ v)
  unfolding Root
  one_reading text r h = by_outcome (root_at (has_scopes kind) ts) (verdict text ts h.has)
    where
      ts : List Placed
      ts = h.tokens ++ ((End, h.end) ∷ [])

      by_outcome : (o : Outcome Placed (Option Cond))
          → Verdict kind_of Root Root End (Ended (IsFilterText kind) End) (Ended (IsFilterText kind) End) ts o
          → (v : Option Cond) × ((x : Option Cond) → IsFilter kind h.tokens x → x ≡ v)
      by_outcome (Wrong rest) w = absurd (no_wrong text r h ts rest refl w)
      by_outcome (Deep rest) w = absurd (no_wrong text r h ts rest refl w.wrong)
      by_outcome (Got v rest) g = by_kind (is_end (kind_of g.token)) refl
        where
          by_kind : (b : Bool) → is_end (kind_of g.token) ≡ b
              → (v : Option Cond) × ((x : Option Cond) → IsFilter kind h.tokens x → x ≡ v)
          by_kind true is =
              let whole = g.whole (the_end (kind_of g.token) is) in
              let same : h.tokens ≡ whole.before = same_init h.tokens whole.before (End, h.end) g.token whole.split in
              (v, λ x reads. whole.one x (subst (λ u. IsFilter kind u x) same reads))
          by_kind false is = absurd (no_wrong text r h ts rest refl (g.wrong (not_end (kind_of g.token) is)))

  -- a text that is a filter has no fault of syntax
  pub no_syntax : (text : List ℕ) (r : Option Cond) (at : ℕ) (h : ReadsAs kind text r) → (k : SyntaxAt kind text at)
      → k.tokens ≡ h.tokens ++ ((End, h.end) ∷ []) → ⊥
  no_syntax text r at h k same = none_in_text (Ended (IsFilterText kind) End) (map kind_of k.tokens) (map kind_of k.front)
      k.wrong (map kind_of k.behind)
      (subst (λ ts. Ended (IsFilterText kind) End (map kind_of ts)) (sym same) (text_told text r h)) k.first

  pub same_reading : (text : List ℕ) (a b : Option Cond) (h : ReadsAs kind text a) (k : ReadsAs kind text b)
      → h.tokens ++ ((End, h.end) ∷ []) ≡ k.tokens ++ ((End, k.end) ∷ []) → (h.tokens ≡ k.tokens) × (a ≡ b)
  same_reading text a b h k same =
      let one = one_reading text a h in
      let tokens : h.tokens ≡ k.tokens = same_init h.tokens k.tokens (End, h.end) (End, k.end) same in
      (tokens, one.1 a h.reads ∙ sym (one.1 b (subst (λ u. IsFilter kind u b) (sym tokens) k.reads)))

  -- what stands at the start of a text's tokens: a filter and the end, or a fault
  pub some_reading : (text : List ℕ) (ts : List Placed) → HasTokens text ts
      → ((r : Option Cond) × ReadsAs kind text r) ⊎ ((at : ℕ) × SyntaxAt kind text at)
  some_reading text ts has = by_outcome (root_at (has_scopes kind) ts) refl (verdict text ts has)
    where
      at_wrong : (rest : List Placed) → WrongAt kind_of (Ended (IsFilterText kind) End) ts rest
          → (at : ℕ) × SyntaxAt kind text at
      at_wrong rest w = (w.token.1, syntax_at text ts rest has w w.token w.behind w.token_first)

      by_outcome : (o : Outcome Placed (Option Cond)) → root_at (has_scopes kind) ts ≡ o
          → Verdict kind_of Root Root End (Ended (IsFilterText kind) End) (Ended (IsFilterText kind) End) ts o
          → ((r : Option Cond) × ReadsAs kind text r) ⊎ ((at : ℕ) × SyntaxAt kind text at)
      by_outcome (Wrong rest) read w = inr (at_wrong rest w)
      by_outcome (Deep rest) read w = inr (at_wrong rest w.wrong)
      by_outcome (Got r rest) read g = by_kind (is_end (kind_of g.token)) refl
        where
          by_kind : (b : Bool) → is_end (kind_of g.token) ≡ b
              → ((r : Option Cond) × ReadsAs kind text r) ⊎ ((at : ℕ) × SyntaxAt kind text at)
          by_kind true is = inl (
            r,
            whole_told text ts rest r has read g.token g.behind g.token_first
                (the_end (kind_of g.token) is),
          )
          by_kind false is = inr (at_wrong rest (g.wrong (not_end (kind_of g.token) is)))
