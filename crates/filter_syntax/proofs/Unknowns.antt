-- The first unknown name of a list, and the words that a text begins with.
use Rattle.std.proofs.Common.{◌≡◌, ℕ, ◌+◌, ◌<◌, ◌≤◌, Bool, true, false, List, [], ◌∷◌, ◌++◌, length, take, drop, map}
use Rattle.std.proofs.Common.{get_or, suc, arith, sym, ap, ◌∙◌, subst, drop-cons, length-append}
use Rattle.std.proofs.lemmas.Bool.{cond-true, and_from, false≢true}
use Rattle.std.proofs.lemmas.List.{map-append, take-append-drop}
use Rattle.std.proofs.lemmas.List.Sums.{take_while-cons}
use denote.Ref.{Bor}
use Rattle.std.specs.List.{AllByRecursion, list_all, prefix_len, take_while}
use Rattle.filter_syntax.specs.Spelling.{begins_name, is_name_byte, is_word}
use Rattle.filter_syntax.specs.Tokens.{IsApart}
use Rattle.filter_syntax.specs.Attributes.{by_attributes}
use Rattle.wire.specs.Strings.{is_among}
use Rattle.filter_syntax.specs.By.{Names, IsKnown, IsFirstUnknown, before_next}
use Rattle.grammars.specs.Runs.{run_passes, run_stops}
use Rattle.filter_syntax.proofs.WordTokens.{name_byte}

-- ---- a word at the start

word_first : (b : ℕ) (tail : List ℕ) → begins_name b ≡ true → is_name_byte b ≡ true
    → is_word (take_while is_name_byte (b ∷ tail)) ≡ true
word_first b tail starts is =
    ap is_word (take_while-cons is_name_byte b tail
    ∙ cond-true (is_name_byte b) (b ∷ take_while is_name_byte tail) [] is)
    ∙ and_from (begins_name b) (list_all is_name_byte (take_while is_name_byte tail)) starts
    (run_passes is_name_byte tail)

pub word_front : (text : List ℕ) (len : ℕ) → 0 < length text → begins_name (get_or text 0 0) ≡ true
    → len ≡ prefix_len is_name_byte text
    → is_word (take len text) ≡ true
word_front [] len some starts is = absurd (omega arith)
word_front (b ∷ tail) len some starts is =
    ap (λ (n : ℕ). is_word (take n (b ∷ tail))) is ∙ word_first b tail starts (name_byte b starts)

pub word_ends : (text : List ℕ) (len : ℕ) → len ≡ prefix_len is_name_byte text → IsApart (drop len text)
word_ends text len is = subst (λ (n : ℕ). IsApart (drop n text)) (sym is) (run_stops is_name_byte text)

-- ---- the first unknown name

pub split_at : (names : List (Bor (List ℕ))) (i : ℕ) (d : Bor (List ℕ)) → i < length names
    → map (λ name. name.now) names ≡ map (λ name. name.now) (take i names) ++ (get_or names i d).now ∷ map
    (λ name. name.now) (drop (suc i) names)
split_at names i d within =
    ap (λ (l : List (Bor (List ℕ))). map (λ name. name.now) l)
    (sym (take-append-drop i names) ∙ ap (λ (l : List (Bor (List ℕ))). take i names ++ l)
    (drop-cons names i d within))
    ∙ map-append (λ name. name.now) (take i names) (get_or names i d ∷ drop (suc i) names)

pub unknown_here : (names : List (Bor (List ℕ))) (i at : ℕ) (d : Bor (List ℕ)) (test : Bool) → i < length names
    → AllByRecursion IsKnown (map (λ name. name.now) (take i names))
    → at ≡ length (before_next (map (λ name. name.now) (take i names)))
    → test ≡ is_among by_attributes (get_or names i d).now
    → test ≡ false
    → IsFirstUnknown (map (λ name. name.now) names) at
unknown_here names i at d test within known place is fails = record {
  before = map (λ name. name.now) (take i names);
  name = (get_or names i d).now;
  behind = map (λ name. name.now) (drop (suc i) names);
  split = split_at names i d within;
  known = known;
  unknown = λ is_known. false≢true (sym fails ∙ is ∙ is_known);
  place = place;
}

before_split : (front : Names) (name : List ℕ) (behind : Names)
    → length (before_next front) + (length name + 1) ≤ length (before_next (front ++ name ∷ behind))
before_split [] name behind =
    omega (arith, length-append (name ++ 44 ∷ []) (before_next behind), length-append name (44 ∷ []))
before_split (n ∷ front) name behind =
    omega (
      arith,
      before_split front name behind,
      length-append (n ++ 44 ∷ []) (before_next front),
      length-append (n ++ 44 ∷ []) (before_next (front ++ name ∷ behind)),
    )

pub room : (names : List (Bor (List ℕ))) (i at : ℕ) (d : Bor (List ℕ)) → i < length names
    → at ≡ length (before_next (map (λ name. name.now) (take i names)))
    → at + (length (get_or names i d).now + 1) ≤ length (before_next (map (λ name. name.now) names))
room names i at d within place =
    let most = before_split (map (λ name. name.now) (take i names)) (get_or names i d).now
    (map (λ name. name.now) (drop (suc i) names)) in
    let whole = ap (λ (l : Names). length (before_next l)) (split_at names i d within) in
    omega (arith, most, whole, place)
