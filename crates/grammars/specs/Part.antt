-- Parts of texts, and what reading one comes to. Only proofs and contracts of private functions name it.
--
-- A part is what a grammar says of a stretch of tokens and the value that it reads as. It is given twice: X is the part
-- with its nesting bounded, Y the same part without the bound. A part may go on: after `a` stands `+ b`. What it may
-- go on with is given by C, as a condition on the next token; what follows the part elsewhere never meets it.
use Rattle.std.specs.Prelude.{◌≡◌, ◌⊎◌, List, [], ◌∷◌, ◌++◌, refl}
use Rattle.std.specs.List.{AllByRecursion}
use Rattle.std.proofs.Common.{sym, ap, ◌∙◌}
use mathlib.Core.List.{append_assoc, append_cancel_left}
use Rattle.grammars.specs.Text.{next}
use Rattle.grammars.specs.Outcome.{Outcome, Got, Wrong, Deep}

-- these tokens read as this value
abbrev pub Part : Type 0 → Type 0 → Type 1
Part T V = List T → V → Type 0

-- a token of which this holds comes next
abbrev pub Goes : {T : Type 0} → (T → Type 0) → List T → Type 0
Goes C [] = ⊥
Goes C (t ∷ ts) = C t

-- nothing goes on
abbrev pub NoMore : {T : Type 0} → T → Type 0
NoMore t = ⊥

-- a list that begins with these tokens, and goes on with the same token as the rest, or ends as that does
pub record Alike {T : Type 0} (front rest list : List T) : Type 0 where
  pub tail : List T
  pub split : list ≡ front ++ tail
  pub same : next tail ≡ next rest

-- so many tokens that can be written, and this value of the part that they complete
pub record Completes {T V : Type 0} (F : T → Type 0) (X : Part T V) (front : List T) : Type 0 where
  pub more : List T
  pub value : V
  pub fine : AllByRecursion F more
  pub reads : X (front ++ more) value

-- The tokens begin with a part of this value. Of each list that is alike up to the token after the part, the prefix is
-- this part alone, or one that could have gone on.
pub record IsGot {T V : Type 0} (X Y : Part T V) (C : T → Type 0) (ts : List T) (v : V) (rest : List T) : Type 0 where
  pub used : List T
  pub split : ts ≡ used ++ rest
  pub reads : X used v
  pub sure : (u r : List T) (x : V) → Y u x → Alike used rest (u ++ r) → ((u ≡ used) × (x ≡ v)) ⊎ Goes C r

-- A part begins with the prefix. No list that is alike up to the wrong token begins with a part, but one that could
-- have gone on.
pub record IsWrong {T V : Type 0} (F : T → Type 0) (X Y : Part T V) (C : T → Type 0) (ts rest : List T) : Type 0 where
  pub front : List T
  pub split : ts ≡ front ++ rest
  pub begins : Completes F X front
  pub none : (u r : List T) (x : V) → Y u x → Alike front rest (u ++ r) → Goes C r

-- A part within the bound begins with the prefix, and one without with the next token too; none within the bound does.
pub record IsDeep {T V : Type 0} (F : T → Type 0) (X Y : Part T V) (C : T → Type 0) (ts rest : List T) : Type 0 where
  pub front : List T
  pub token : T
  pub behind : List T
  pub token_first : rest ≡ token ∷ behind
  pub split : ts ≡ front ++ rest
  pub begins : Completes F X front
  pub deeper : Completes F Y (front ++ (token ∷ []))
  pub none : (u r : List T) (x : V) → X u x → Alike front rest (u ++ r) → Goes C r

-- what reading a part at the start of these tokens came to
abbrev pub Decides : {T V : Type 0} → (F : T → Type 0) → (X Y : Part T V) → (C : T → Type 0) → List T
    → Outcome T V → Type 0
Decides F X Y C ts (Got v rest) = IsGot X Y C ts v rest
Decides F X Y C ts (Wrong rest) = IsWrong F X Y C ts rest
Decides F X Y C ts (Deep rest) = IsDeep F X Y C ts rest

-- ---- lists that are alike

-- lists that begin alike after a prefix begin alike with it
pub next_behind : {T : Type 0} (front a b : List T) → next a ≡ next b → next (front ++ a) ≡ next (front ++ b)
next_behind [] a b h = h
next_behind (t ∷ front) a b h = refl

pub alike_next : {T : Type 0} {front rest list ts : List T} → Alike front rest list → ts ≡ front ++ rest
    → next list ≡ next ts
alike_next {front = front} {rest = rest} h split = ap next h.split ∙ next_behind front h.tail rest h.same ∙ sym
    (ap next split)

-- the first of two parts of a list
pub alike_first : {T : Type 0} (used front rest u u1 u2 r behind : List T) → u ≡ u1 ++ u2 → behind ≡ front ++ rest
    → Alike (used ++ front) rest (u ++ r) → Alike used behind (u1 ++ (u2 ++ r))
alike_first used front rest u u1 u2 r behind parts split h = record {
  tail = front ++ h.tail;
  split = sym (append_assoc u1 u2 r) ∙ sym (ap (λ w. w ++ r) parts) ∙ h.split ∙ append_assoc used front h.tail;
  same = next_behind front h.tail rest h.same ∙ sym (ap next split);
}

-- the second, where the first is as there
pub alike_second : {T : Type 0} (used front rest u u1 u2 r : List T) → u ≡ u1 ++ u2 → u1 ≡ used
    → Alike (used ++ front) rest (u ++ r) → Alike front rest (u2 ++ r)
alike_second used front rest u u1 u2 r parts one h = record {
  tail = h.tail;
  split = append_cancel_left used (u2 ++ r) (front ++ h.tail)
      (ap (λ w. w ++ (u2 ++ r)) (sym one) ∙ sym (append_assoc u1 u2 r) ∙ sym (ap (λ w. w ++ r) parts) ∙ h.split
      ∙ append_assoc used front h.tail);
  same = h.same;
}
