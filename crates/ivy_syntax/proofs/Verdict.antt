-- What reading the tokens of a text comes to says of it.
use Rattle.std.specs.Prelude.{◌≡◌, ℕ, true, false, List, [], ◌∷◌, ◌++◌, length, refl}
use Rattle.std.specs.List.{AllByRecursion}
use Rattle.std.proofs.Common.{sym, ap, ◌∙◌, subst, true≢false, arith}
use Rattle.std.proofs.lemmas.Option.{same_Some}
use Rattle.std.proofs.lemmas.List.{append_cancel_right, map-append, length-append}
use mathlib.Core.List.{append_assoc, append-nil}
use Rattle.grammars.specs.Text.{Ended, next}
use Rattle.grammars.specs.Outcome.{Outcome, Got, Wrong, Deep}
use Rattle.grammars.specs.Part.{Part, Completes, Decides}
use Rattle.grammars.specs.Places.{kinds, ending_of}
use Rattle.grammars.specs.Sequence.{all_joined}
use Rattle.grammars.specs.Whole.{Speaks, IsRead, Verdict, decides_text}
use Rattle.grammars.specs.Whole as whole
use Rattle.ivy_syntax.specs.declared.tree.Source.{Source}
use Rattle.ivy_syntax.specs.declared.lexeme.Keyword.TheVariants as keyword
use Rattle.ivy_syntax.specs.Token.{Token, End, Bad}
use Rattle.ivy_syntax.specs.Tokens.{Placed, AreTokens, written, CanBeWritten}
use Rattle.grammars.specs.Tokens.{ends, passes, takes}
use Rattle.grammars.specs.Tokens as tokens
use Rattle.ivy_syntax.specs.Grammar.{File}
use Rattle.ivy_syntax.specs.Descent.{file_at}
use Rattle.ivy_syntax.specs.Texts.{IsSource, IsAnySource, BeginsSource, BeginsWithin}
use Rattle.ivy_syntax.proofs.Pieces.{Fine, word_is}
use Rattle.ivy_syntax.proofs.Parts.{OrContract}
use Rattle.ivy_syntax.proofs.Written.{is_read_back}
use Rattle.ivy_syntax.proofs.Replaced.{file_replaced}
use Rattle.ivy_syntax.proofs.Files.{decides_file_within}
use Rattle.ivy_syntax.proofs.Clean.{stops, AreOpen, file_open}

abbrev pub others_of : List Placed → List Placed
others_of [] = []
others_of (t ∷ ts) = ts

-- ---- a text's tokens

-- tokens that can be written, and one that stops a text
pub record Shaped (ts : List Placed) : Type 0 where
  pub good : List Placed
  pub last : Placed
  pub all : ts ≡ good ++ (last ∷ [])
  pub fine : AllByRecursion Fine good
  pub stop : stops last.0 ≡ true

shaped_more : (t : Placed) (ts : List Placed) → Fine t → Shaped ts → Shaped (t ∷ ts)
shaped_more t ts fine h = record {
  good = t ∷ h.good;
  last = h.last;
  all = ap (λ ts. t ∷ ts) h.all;
  fine = (fine, h.fine);
  stop = h.stop;
}

pub shaped : (at : ℕ) (text : List ℕ) (ts : List Placed) → AreTokens at text ts → Shaped ts
shaped at _ _ (ends _) = record { good = []; last = (End, at); all = refl; fine = tt; stop = refl }
shaped at _ ts (passes _ _ gap rest _ begins h) = shaped _ rest ts h
shaped at text _ (takes _ _ token bytes rest ts none long h) =
    shaped_more (token, at) ts (bytes, long.begins.spelled) (shaped _ rest ts h)
shaped at _ _ (tokens.stops _ b rest solid none) =
    record { good = []; last = (Bad, at); all = refl; fine = tt; stop = refl }

plain : (t : Placed) → Fine t → stops t.0 ≡ false
plain (End, at) fine = absurd fine.1
plain (Bad, at) fine = absurd fine.1
plain _ fine = refl

-- tokens before another of a text's can be written
pub fine_before : (front : List Placed) (first : Placed) (behind good : List Placed) (last : Placed)
    → AllByRecursion Fine good → good ++ (last ∷ []) ≡ front ++ (first ∷ behind) → AllByRecursion Fine front
fine_before [] first behind good last fine split = tt
fine_before (f ∷ front) first behind [] last fine split =
    let size : 1 ≡ length (f ∷ (front ++ (first ∷ behind))) = ap (λ (l : List Placed). length l) split in
    absurd (omega (arith, size, length-append front (first ∷ behind)))
fine_before (f ∷ front) first behind (g ∷ good) last fine split = (
  subst Fine (same_Some g f (ap next split)) fine.0,
  fine_before front first behind good last fine.1 (ap others_of split),
)

-- one that stops a text is its last one
last_stops : (front good : List Placed) (last t : Placed) (behind : List Placed) → AllByRecursion Fine good
    → stops t.0 ≡ true → AreOpen front → stops last.0 ≡ true → good ++ (last ∷ []) ≡ front ++ (t ∷ behind)
    → behind ≡ []
last_stops [] [] last t behind fine stop goes halts same = sym (ap others_of same)
last_stops [] (g ∷ good) last t behind fine stop goes halts same =
    absurd (true≢false (sym stop ∙ ap (λ (t : Placed). stops t.0) (sym (same_Some g t (ap next same)))
    ∙ plain g fine.0))
last_stops (f ∷ front) [] last t behind fine stop goes halts same =
    absurd (true≢false (sym halts ∙ ap (λ (t : Placed). stops t.0) (same_Some last f (ap next same)) ∙ goes.0))
last_stops (f ∷ front) (g ∷ good) last t behind fine stop goes halts same =
    last_stops front good last t behind fine.1 stop goes.1 halts (ap others_of same)

-- ---- the language

fine_kinds : (u : List Placed) → AllByRecursion Fine u → CanBeWritten (kinds u)
fine_kinds [] h = tt
fine_kinds (t ∷ u) h = (h.0, fine_kinds u h.1)

open_kinds : (u : List Placed) → AreOpen u → whole.AreOpen stops (kinds u)
open_kinds [] h = tt
open_kinds (t ∷ u) h = (h.0, open_kinds u h.1)

-- what reads as a file can be written as a source
is_source : (depth : ℕ) (u : List Placed) (s : Source) → AllByRecursion Fine u → File depth u s
    → IsSource depth (kinds u)
is_source depth u s fine reads =
    let read = is_read_back (kinds u) (fine_kinds u fine) in
    let e = ending_of u End 0 read.0 (read.2 ∙ sym (map-append (λ (p : Placed). p.0) u ((End, 0) ∷ []))) in
    let r = file_replaced depth u s reads e.first e.same in
    record {
      text = written (kinds u);
      placed = e.first;
      end = e.place;
      are = subst (AreTokens 0 (written (kinds u))) e.all read.1;
      same = e.same;
      tree = r.0;
      reads = r.1;
    }

source_open : (depth : ℕ) (ks : List Token) → IsSource depth ks → whole.AreOpen stops ks
source_open depth ks h = subst (whole.AreOpen stops) h.same (open_kinds h.placed (file_open h.reads))

abbrev kind_of : Placed → Token
kind_of p = p.0

abbrev place_of : Token → Placed
place_of k = (k, 0)

-- a source, however many stand within one another
abbrev pub AnyFile : Part Placed Source
AnyFile u s = (depth : ℕ) × File depth u s

speaks : Speaks kind_of place_of stops Fine (File 32) (IsSource 32)
speaks = record {
  placed = λ k. refl;
  closed = λ u s fine reads. is_source 32 u s fine reads;
  opened = λ u h. file_replaced 32 h.placed h.tree h.reads u (sym h.same);
  clean = source_open 32;
}

speaks_free : Speaks kind_of place_of stops Fine AnyFile IsAnySource
speaks_free = record {
  placed = λ k. refl;
  closed = λ u s fine reads. (reads.0, is_source reads.0 u s fine reads.1);
  opened = λ u h. (let r = file_replaced h.0 h.1.placed h.1.tree h.1.reads u (sym h.1.same) in (r.0, (h.0, r.1)));
  clean = λ ks h. source_open h.0 ks h.1;
}

contract_goes : (t : Placed) → OrContract t → stops t.0 ≡ false
contract_goes t is = ap (λ (t : Placed). stops t.0) (word_is keyword.Contract t is)

is_read : IsRead kind_of place_of stops End Fine (File 32) AnyFile OrContract (IsSource 32) IsAnySource
is_read = record {
  ends = refl;
  plain = plain;
  within = λ u s h. (32, h);
  clean = λ u s h. open_kinds u (file_open h.1);
  goes = contract_goes;
  speaks_bounded = speaks;
  speaks_free = speaks_free;
}

-- ---- what is told

-- The tokens before the rest, with which a source within the bound begins.
pub record Reached (ts rest : List Placed) : Type 0 where
  pub front : List Placed
  pub token : Placed
  pub behind : List Placed
  pub first : rest ≡ token ∷ behind
  pub split : ts ≡ front ++ (token ∷ behind)
  pub begins : BeginsWithin (kinds front)

-- the tokens up to the first of the rest
abbrev pub upto : {ts rest : List Placed} → Reached ts rest → List Token
upto r = kinds r.front ++ (r.token.0 ∷ [])

-- What reading comes to says of the tokens: after a source stands the end, or the first token with which none goes on;
-- or the first with which one goes on, and none within the bound.
abbrev pub Told : List Placed → Outcome Placed Source → Type 0
Told ts (Got s rest) = (r : Reached ts rest) × (r.token.0 ≡ End → File 32 r.front s × (r.behind ≡ []))
    × ((r.token.0 ≡ End → ⊥) → BeginsSource (upto r) → ⊥)
Told ts (Wrong rest) = (r : Reached ts rest) × (BeginsSource (upto r) → ⊥)
Told ts (Deep rest) = (r : Reached ts rest) × BeginsSource (upto r) × (BeginsWithin (upto r) → ⊥)

-- a source begins with a front that the model completes
begun : (ts front : List Placed) (token : Placed) (behind : List Placed) → Shaped ts → ts ≡ front ++ (token ∷ behind)
    → Completes Fine (File 32) front → BeginsWithin (kinds front)
begun ts front token behind s split h =
    let fine : AllByRecursion Fine front = fine_before front token behind s.good s.last s.fine (sym s.all ∙ split) in (
      kinds h.more ++ (End ∷ []),
      record {
        before = kinds (front ++ h.more);
        all = sym (append_assoc (kinds front) (kinds h.more) (End ∷ []))
            ∙ ap (λ a. a ++ (End ∷ [])) (sym (map-append kind_of front h.more));
        text = is_source 32 (front ++ h.more) h.value (all_joined Fine front h.more fine h.fine) h.reads;
      },
    )

reached : (ts front rest : List Placed) (token : Placed) (behind : List Placed) → Shaped ts → ts ≡ front ++ rest
    → Completes Fine (File 32) front → rest ≡ token ∷ behind → Reached ts rest
reached ts front rest token behind s split h first = record {
  front = front;
  token = token;
  behind = behind;
  first = first;
  split = split ∙ ap (λ r. front ++ r) first;
  begins = begun ts front token behind s (split ∙ ap (λ r. front ++ r) first) h;
}

-- the tokens up to the first of the rest are the same however they are found
same_upto : (ts rest : List Placed) (r : Reached ts rest) (front : List Placed) (token : Placed) (behind : List Placed)
    → rest ≡ token ∷ behind → ts ≡ front ++ rest → kinds front ++ (token.0 ∷ []) ≡ upto r
same_upto ts rest r front token behind first split =
    let fronts : front ≡ r.front = append_cancel_right front r.front rest
    (sym split ∙ r.split ∙ ap (λ b. r.front ++ b) (sym r.first)) in
    let tokens : token ≡ r.token = same_Some token r.token (ap next (sym first ∙ r.first)) in
    (λ i. kinds (fronts i) ++ (kind_of (tokens i) ∷ []))

completed : (front : List Placed) (s : Source) → File 32 front s → Completes Fine (File 32) front
completed front s reads = record {
  more = [];
  value = s;
  fine = tt;
  reads = subst (λ u. File 32 u s) (sym (append-nil front)) reads;
}

by_outcome : (ts : List Placed) → Shaped ts → (o : Outcome Placed Source)
    → Decides Fine (File 32) AnyFile OrContract ts o
    → Verdict kind_of (File 32) AnyFile End (Ended (IsSource 32) End) (Ended IsAnySource End) ts o → Told ts o
unfolding reached
by_outcome ts s (Got v rest) d g =
    let r = reached ts d.used rest g.token g.behind s d.split (completed d.used v d.reads) g.token_first in (
      r,
      λ is. (
        d.reads,
        last_stops d.used s.good s.last g.token g.behind s.fine (ap stops is) (file_open d.reads) s.stop
            (sym s.all ∙ r.split),
      ),
      λ not begins.
          let w = g.wrong not in
          w.first.none (subst BeginsSource (sym (same_upto ts rest r w.front w.token w.behind w.token_first w.split))
          begins),
    )
by_outcome ts s (Wrong rest) d w =
    let r = reached ts d.front rest w.token w.behind s d.split d.begins w.token_first in (
      r,
      λ begins. w.first.none (subst BeginsSource
          (sym (same_upto ts rest r w.front w.token w.behind w.token_first w.split)) begins),
    )
by_outcome ts s (Deep rest) d v =
    let w = v.wrong in
    let r = reached ts d.front rest d.token d.behind s d.split d.begins d.token_first in
    let same = same_upto ts rest r w.front w.token w.behind w.token_first w.split in
    (r, subst BeginsSource same v.begins, λ begins. w.first.none (subst BeginsWithin (sym same) begins))

-- What the model comes to at such tokens is told of them.
pub told_shaped : (ts : List Placed) → Shaped ts → Told ts (file_at 32 ts)
told_shaped ts s = by_outcome ts s (file_at 32 ts) (decides_file_within ts)
    (subst (λ ts. Verdict kind_of (File 32) AnyFile End (Ended (IsSource 32) End) (Ended IsAnySource End) ts
    (file_at 32 ts)) (sym s.all)
    (decides_text kind_of place_of stops End Fine (File 32) AnyFile OrContract (IsSource 32) IsAnySource is_read s.good
    s.last s.fine s.stop (file_at 32 (s.good ++ (s.last ∷ []))) (decides_file_within (s.good ++ (s.last ∷ [])))))

-- and so at a text's tokens
pub told : (text : List ℕ) (ts : List Placed) → AreTokens 0 text ts → Told ts (file_at 32 ts)
told text ts are = told_shaped ts (shaped 0 text ts are)
