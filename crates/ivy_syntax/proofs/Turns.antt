-- The turns of a chain, as the code goes over it.
use Rattle.std.specs.Prelude.{◌≡◌, ℕ, zero, suc, ◌≤◌, ◌<◌, Bool, true, List, [], ◌∷◌, ◌++◌, length, cond}
use Rattle.std.specs.Prelude.{refl, Result, Ok, Err}
use Rattle.std.specs.Result.{IsErrAnd}
use Rattle.std.specs.Borrow.{Bor}
use Rattle.std.proofs.Common.{sym, ap, ◌∙◌, subst, arith, le_trans}
use Rattle.std.proofs.lemmas.List.{length-map}
use Rattle.grammars.specs.Outcome.{Outcome, Got, ◌>>=◌}
use Rattle.grammars.specs.Chain.{tail}
use Rattle.grammars.specs.Gathered.{one_item, and_item}
use Rattle.ivy_syntax.specs.declared.lexeme.Lexeme.{Lexeme}
use Rattle.ivy_syntax.specs.declared.reading.Stop.{Stop}
use Rattle.ivy_syntax.specs.declared.reading.Stop.TheVariants as stops
use Rattle.ivy_syntax.specs.Lexeme.{placed, tokens}
use Rattle.ivy_syntax.specs.Tokens.{Placed}
use Rattle.ivy_syntax.specs.Descent.{Reader}
use Rattle.ivy_syntax.specs.Agreement.{Stops, GoesOn, Agrees, Shortens}

-- what is still to be read gives what all gives
pub record Turning {V A : Type 0} (on : Placed → Bool) (read : Placed → Reader V) (join : Placed → A → V → A)
    (all : Outcome Placed A) (a : A) (ts : List Placed) : Type 0 where
  pub fuel : ℕ
  pub enough : length ts ≤ fuel
  pub same : all ≡ tail on read join fuel a ts

module _ {V A : Type 0} (on : Placed → Bool) (read : Placed → Reader V) (join : Placed → A → V → A) where
  -- after the first part
  pub turn_begin : (all : Outcome Placed A) (first : Outcome Placed V) (make : V → A) (v : V) (rest : List Placed)
      → all ≡ (first >>= λ a. tail on read join (length a.1) (make a.0) a.1) → first ≡ Got v rest
      → Turning on read join all (make v) rest
  turn_begin all first make v rest is got = record {
    fuel = length rest;
    enough = omega arith;
    same = is ∙ ap (λ o. o >>= λ a. tail on read join (length a.1) (make a.0) a.1) got;
  }

  turned : (fuel : ℕ) (a : A) (t : Placed) (ts : List Placed) → on t ≡ true
      → tail on read join (suc fuel) a (t ∷ ts) ≡ (read t ts >>= λ b. tail on read join fuel (join t a b.0) b.1)
  turned fuel a t ts is =
      ap (λ b. cond b (read t ts >>= λ b. tail on read join fuel (join t a b.0) b.1) (Got a (t ∷ ts))) is

  ended : (fuel : ℕ) (a : A) (ts : List Placed) → Stops on ts → tail on read join fuel a ts ≡ Got a ts
  ended zero a ts not = refl
  ended (suc fuel) a [] not = refl
  ended (suc fuel) a (t ∷ ts) not =
      ap (λ b. cond b (read t ts >>= λ b. tail on read join fuel (join t a b.0) b.1) (Got a (t ∷ ts))) not

  none_enough : (t : Placed) (ts : List Placed) → length (t ∷ ts) ≤ 0 → ⊥
  none_enough t ts h = omega (arith, h)

  one_turn : (all : Outcome Placed A) (fuel : ℕ) (a : A) (t : Placed) (ts : List Placed) → length (t ∷ ts) ≤ fuel
      → all ≡ tail on read join fuel a (t ∷ ts) → on t ≡ true
      → (left : ℕ) × (length ts ≤ left) × (all ≡ (read t ts >>= λ b. tail on read join left (join t a b.0) b.1))
  one_turn all zero a t ts enough same is = absurd (none_enough t ts enough)
  one_turn all (suc fuel) a t ts enough same is = (fuel, omega (arith, enough), same ∙ turned fuel a t ts is)

  going : (all : Outcome Placed A) (a : A) (ts : List Placed) (t : Placed) (behind : List Placed)
      → Turning on read join all a ts → GoesOn on ts t behind
      → (left : ℕ) × (length behind ≤ left)
      × (all ≡ (read t behind >>= λ b. tail on read join left (join t a b.0) b.1))
  going all a ts t behind turning go = one_turn all turning.fuel a t behind
      (subst (λ ts. length ts ≤ turning.fuel) go.first turning.enough)
      (turning.same ∙ ap (tail on read join turning.fuel a) go.first) go.goes

-- ---- turns over lexemes

goes_shorter : (on : Placed → Bool) (ts : List Placed) (t : Placed) (behind : List Placed) → GoesOn on ts t behind
    → length behind < length ts
goes_shorter on ts t behind go =
    let long : length ts ≡ suc (length behind) = ap length go.first in
    omega (arith, long)

-- A turn leaves fewer tokens.
pub turn_fewer : {V : Type 0} {on : Placed → Bool} {read : Reader V} {t : Placed} {behind : List Placed} {b : V}
    (ts left : List Lexeme) → GoesOn on (tokens ts) t behind → Shortens read → read behind ≡ Got b (tokens left)
    → length left < length ts
turn_fewer {on = on} {t = t} {behind = behind} {b = b} ts left go shortens got =
    omega (
      arith,
      goes_shorter on (tokens ts) t behind go,
      shortens behind (tokens left) b got,
      length-map ts placed,
      length-map left placed,
    )

-- A turn leaves fewer lexemes.
pub fewer_next : {on : Placed → Bool} {t : Placed} (ts behind left : List Lexeme) → GoesOn on (tokens ts) t (tokens behind)
    → length left ≤ length behind → length left < length ts
fewer_next {on} {t} ts behind left go fewer = omega (
  arith,
  fewer,
  goes_shorter on (tokens ts) t (tokens behind) go,
  length-map ts placed,
  length-map behind placed,
)

module _ {V A : Type 0} {on : Placed → Bool} {read : Placed → Reader V} {join : Placed → A → V → A}
    {all : Outcome Placed A} {a : A} {ts : List Placed} (turning : Turning on read join all a ts) where
  -- After it the rest is still to be read.
  pub turn_next : {c : A} {t : Placed} {behind left : List Placed} {b : V} → GoesOn on ts t behind
      → Shortens (read t) → read t behind ≡ Got b left → c ≡ join t a b → Turning on read join all c left
  turn_next {c} {t} {behind} {left} {b} go shortens got is =
      let g = going on read join all a ts t behind turning go in record {
        fuel = g.0;
        enough = le_trans (shortens behind left b got) g.1;
        same = g.2 ∙ ap (λ o. o >>= λ b. tail on read join g.0 (join t a b.0) b.1) got
            ∙ ap (λ a. tail on read join g.0 a left) (sym is);
      }

  pub next_turn : {c : A} {t : Placed} {b : V} (behind left : List Lexeme) → GoesOn on ts t (tokens behind)
      → length left ≤ length behind → read t (tokens behind) ≡ Got b (tokens left) → c ≡ join t a b
      → Turning on read join all c (tokens left)
  next_turn {c} {t} {b} behind left go fewer got is =
      let g = going on read join all a ts t (tokens behind) turning go in record {
        fuel = g.0;
        enough = omega (arith, fewer, g.1, length-map behind placed, length-map left placed);
        same = g.2 ∙ ap (λ o. o >>= λ b. tail on read join g.0 (join t a b.0) b.1) got
            ∙ ap (λ a. tail on read join g.0 a (tokens left)) (sym is);
      }

  -- Where a turn stops, all does, and so does what is passed on.
  turn_stops : {t : Placed} {behind : List Placed} (stop : Stop) → GoesOn on ts t behind
      → Agrees {V = V} (Err stop) (read t behind) → Agrees {V = A} (Err stop) all
  turn_stops {t} {behind} (stops.Wrong rest) go is =
      let g = going on read join all a ts t behind turning go in
      g.2 ∙ ap (λ o. o >>= λ b. tail on read join g.0 (join t a b.0) b.1) is
  turn_stops {t} {behind} (stops.Deep rest) go is =
      let g = going on read join all a ts t behind turning go in
      (g.2 ∙ ap (λ o. o >>= λ b. tail on read join g.0 (join t a b.0) b.1) is.0, is.1)
  turn_stops stops.NoMemory go is = tt

  pub turn_passes : {t : Placed} {behind : List Placed} (stop : Stop)
      (result : Result (A × Bor (List Lexeme)) Stop) → GoesOn on ts t behind
      → Agrees {V = V} (Err stop) (read t behind) → IsErrAnd result (λ e. e ≡ stop) → Agrees result all
  turn_passes stop (Ok found) go is passed = absurd passed
  turn_passes stop (Err e) go is passed =
      subst (λ e. Agrees (Err e) all) (sym passed) (turn_stops stop go is)

  -- Where no token goes on, what there is is all.
  pub turn_ends : Stops on ts → all ≡ Got a ts
  turn_ends not = turning.same ∙ ended on read join turning.fuel a ts not

-- ---- lists

-- A list with its first item, and the rest still to be read.
pub list_begins : {V : Type 0} {on : Placed → Bool} {read : Placed → Reader V} {all : Outcome Placed (List V)}
    {first : Outcome Placed V} {v : V} {rest : List Placed} {none items : List V}
    → all ≡ (first >>= λ a. tail on read and_item (length a.1) (one_item a.0) a.1) → first ≡ Got v rest → none ≡ []
    → items ≡ none ++ (v ∷ []) → Turning on read and_item all items rest
list_begins {on} {read} {all} {first} {v} {rest} is got empty pushed =
    subst (λ items. Turning on read and_item all items rest) (sym (pushed ∙ ap (λ l. l ++ (v ∷ [])) empty))
    (turn_begin on read and_item all first one_item v rest is got)

-- The same, where each item begins with a token that says so.
pub list_opens : {V : Type 0} {on : Placed → Bool} {read : Placed → Reader V} {all : Outcome Placed (List V)}
    {opened : Outcome Placed Placed} {t : Placed} {behind : List Placed} {v : V} {rest : List Placed}
    {none items : List V}
    → all ≡ ((opened >>= λ t. read t.0 t.1) >>= λ a. tail on read and_item (length a.1) (one_item a.0) a.1)
    → opened ≡ Got t behind → read t behind ≡ Got v rest → none ≡ [] → items ≡ none ++ (v ∷ [])
    → Turning on read and_item all items rest
list_opens {read} is opens got empty pushed =
    list_begins is (ap (λ o. o >>= λ t. read t.0 t.1) opens ∙ got) empty pushed
