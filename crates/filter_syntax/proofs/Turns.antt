-- The turns of a chain, as the code goes over it.
use Rattle.std.specs.Prelude.{◌≡◌, ℕ, zero, suc, ◌≤◌, ◌<◌, Bool, true, false, List, [], ◌∷◌, length, cond, map, refl, ◌-◌, get_or, take, drop, slice_range}
use Rattle.std.proofs.Common.{sym, ap, ◌∙◌, subst, arith, le_trans, length-drop}
use Rattle.std.proofs.lemmas.List.{length-map, take_all}
use Rattle.grammars.specs.Outcome.{Outcome, Got, Wrong, ◌>>=◌}
use Rattle.grammars.specs.Chain.{tail, chained, got_shorter}
use Rattle.filter_syntax.specs.declared.tree.Cond.{Cond}
use Rattle.filter_syntax.specs.Tokens.{Placed}
use Rattle.filter_syntax.specs.Grammar.{Reads, Conjunction}
use Rattle.filter_syntax.specs.Grammar as grammar
use Rattle.filter_syntax.specs.Lexing.{seen, token_of}
use Rattle.filter_syntax.specs.Token.{Open, Inputs, Outputs}
use Rattle.filter_syntax.specs.declared.tokens.Lexeme.{Lexeme}
use Rattle.filter_syntax.specs.declared.tokens.Kind.{Kind}
use Rattle.filter_syntax.specs.declared.tokens.Kind.TheVariants as kinds
use Rattle.filter_syntax.specs.Descent.{enclosed_by, scope_by, alternatives_by}
use Rattle.filter_syntax.specs.Descent.{Reader, GoesOn, Stops, unit_at, conjunction_by}
use Rattle.filter_syntax.proofs.Rules.{Fine, goes, decides_conjunction}
use Rattle.filter_syntax.proofs.Units.{decides_unit}

-- what is still to be read gives what all gives
pub record Turning (on : Placed → Bool) (read : Reader) (join : Cond → Cond → Cond) (all : Outcome Placed Cond) (c : Cond)
    (ts : List Placed) : Type 0 where
  pub fuel : ℕ
  pub enough : length ts ≤ fuel
  pub same : all ≡ tail on (λ t. read) (λ t. join) fuel c ts

module _ (on : Placed → Bool) (read : Reader) (join : Cond → Cond → Cond) where
  pub turn_begin : (ts rest : List Placed) (c : Cond) → read ts ≡ Got c rest
      → Turning on read join (chained on (λ t. join) read ts) c rest
  turn_begin ts rest c h = record {
    fuel = length rest;
    enough = omega arith;
    same = ap (λ o. o >>= λ a. tail on (λ t. read) (λ t. join) (length a.1) a.0 a.1) h;
  }

  turned : (fuel : ℕ) (c : Cond) (t : Placed) (ts : List Placed) → on t ≡ true
      → tail on (λ t. read) (λ t. join) (suc fuel) c (t ∷ ts)
      ≡ (read ts >>= λ b. tail on (λ t. read) (λ t. join) fuel (join c b.0) b.1)
  turned fuel c t ts is = ap (λ b. cond b (read ts >>= λ b. tail on (λ t. read) (λ t. join) fuel (join c b.0) b.1)
      (Got c (t ∷ ts))) is

  ended : (fuel : ℕ) (c : Cond) (ts : List Placed) → Stops on ts
      → tail on (λ t. read) (λ t. join) fuel c ts ≡ Got c ts
  ended zero c ts not = refl
  ended (suc fuel) c [] not = refl
  ended (suc fuel) c (t ∷ ts) not = ap (λ b. cond b (read ts >>= λ b. tail on (λ t. read) (λ t. join) fuel (join c b.0) b.1)
      (Got c (t ∷ ts))) not

  none_enough : (t : Placed) (ts : List Placed) → length (t ∷ ts) ≤ 0 → ⊥
  none_enough t ts h = omega (arith, h)

  one_turn : (all : Outcome Placed Cond) (fuel : ℕ) (c : Cond) (t : Placed) (ts : List Placed) → length (t ∷ ts) ≤ fuel
      → all ≡ tail on (λ t. read) (λ t. join) fuel c (t ∷ ts) → on t ≡ true
      → (left : ℕ) × (length ts ≤ left) × (all ≡ (read ts >>= λ b. tail on (λ t. read) (λ t. join) left (join c b.0) b.1))
  one_turn all zero c t ts enough same is = absurd (none_enough t ts enough)
  one_turn all (suc fuel) c t ts enough same is = (fuel, omega (arith, enough), same ∙ turned fuel c t ts is)

  going : (all : Outcome Placed Cond) (c : Cond) (ts behind : List Placed) → Turning on read join all c ts
      → GoesOn on ts behind
      → (left : ℕ) × (length behind ≤ left)
      × (all ≡ (read behind >>= λ b. tail on (λ t. read) (λ t. join) left (join c b.0) b.1))
  going all c ts behind turning go = one_turn all turning.fuel c go.token behind
      (subst (λ ts. length ts ≤ turning.fuel) go.first turning.enough)
      (turning.same ∙ ap (tail on (λ t. read) (λ t. join) turning.fuel c) go.first) go.goes

  pub turn_more : (all : Outcome Placed Cond) (c b : Cond) (ts behind rest : List Placed) → Turning on read join all c ts
      → GoesOn on ts behind → read behind ≡ Got b rest → length rest ≤ length behind
      → Turning on read join all (join c b) rest
  turn_more all c b ts behind rest turning go h shorter =
      let g = going all c ts behind turning go in record {
        fuel = g.0;
        enough = le_trans shorter g.1;
        same = g.2 ∙ ap (λ o. o >>= λ b. tail on (λ t. read) (λ t. join) g.0 (join c b.0) b.1) h;
      }

  pub turn_wrong : (all : Outcome Placed Cond) (c : Cond) (ts behind rest : List Placed) → Turning on read join all c ts
      → GoesOn on ts behind → read behind ≡ Wrong rest → all ≡ Wrong rest
  turn_wrong all c ts behind rest turning go h =
      let g = going all c ts behind turning go in
      g.2 ∙ ap (λ o. o >>= λ b. tail on (λ t. read) (λ t. join) g.0 (join c b.0) b.1) h

  pub turn_end : (all : Outcome Placed Cond) (c : Cond) (ts : List Placed) → Turning on read join all c ts → Stops on ts
      → all ≡ Got c ts
  turn_end all c ts turning not = turning.same ∙ ended turning.fuel c ts not

-- ---- each turn leaves fewer tokens

pub unit_shorter : (depth : ℕ) (scopes : Bool) (ts rest : List Placed) (c : Cond) → unit_at depth scopes ts ≡ Got c rest
    → length rest ≤ length ts
unit_shorter depth scopes ts rest c h = got_shorter Fine (Reads grammar.Unit depth scopes) (Reads grammar.Unit depth scopes)
    (goes grammar.Unit) ts (unit_at depth scopes ts) c rest (decides_unit depth scopes ts) h

pub conjunction_shorter : (depth : ℕ) (scopes : Bool) (ts rest : List Placed) (c : Cond)
    → conjunction_by (unit_at depth scopes) ts ≡ Got c rest → length rest ≤ length ts
conjunction_shorter depth scopes ts rest c h = got_shorter Fine (Reads Conjunction depth scopes)
    (Reads Conjunction depth scopes) (goes Conjunction) ts (conjunction_by (unit_at depth scopes) ts) c rest
    (decides_conjunction depth scopes (unit_at depth scopes) (decides_unit depth scopes) ts) h

pub goes_shorter : (on : Placed → Bool) (ts behind : List Placed) → GoesOn on ts behind → length behind < length ts
goes_shorter on ts behind go =
    let long : length ts ≡ suc (length behind) = ap length go.first in
    omega (arith, long)

-- and so a turn leaves fewer lexemes
pub fewer : {L : Type 0} (see : L → Placed) (on : Placed → Bool) (ts behind rest : List L)
    → GoesOn on (map see ts) (map see behind) → length (map see rest) ≤ length (map see behind)
    → length rest < length ts
fewer see on ts behind rest go shorter =
    omega (arith, goes_shorter on (map see ts) (map see behind) go, shorter, length-map ts see, length-map rest see)

-- ---- units by their first token

module _ (text : List ℕ) where
  -- the tokens of lexemes of which the first is of this kind
  first_seen : (rest : List Lexeme) (default : Lexeme) (kind : Kind) → 1 ≤ length rest
      → (get_or rest 0 default).kind ≡ kind
      → (at : ℕ) × (bytes : List ℕ) × (map (seen text) rest ≡ (token_of kind bytes, at) ∷ map (seen text) (drop 1 rest))
  first_seen [] default kind some is = absurd (none_left some)
    where
      none_left : 1 ≤ 0 → ⊥
      none_left h = omega (arith, h)
  first_seen (l ∷ rest) default kind some is = (
    l.from,
    slice_range text l.from l.to,
    ap (λ k. (token_of k (slice_range text l.from l.to), l.from) ∷ map (seen text) rest) is,
  )

  -- what a slice pattern gives as the others
  all_behind : (rest : List Lexeme) → take (length rest - 1) (drop 1 rest) ≡ drop 1 rest
  all_behind rest = take_all (length rest - 1) (drop 1 rest) (omega (arith, length-drop 1 rest))

  deeper : (depth : ℕ) → 0 < depth → (d : ℕ) × (depth ≡ suc d) × (depth - 1 ≡ d)
  deeper zero some = absurd (no some)
    where
      no : 0 < 0 → ⊥
      no h = omega (arith, h)
  deeper (suc d) some = (d, refl, omega arith)

  pub open_unit : (rest : List Lexeme) (default : Lexeme) (depth : ℕ) (scopes : Bool) → 1 ≤ length rest
      → (get_or rest 0 default).kind ≡ kinds.Open → 0 < depth
      → unit_at depth scopes (map (seen text) rest)
      ≡ enclosed_by (alternatives_by (unit_at (depth - 1) scopes))
      (map (seen text) (take (length rest - 1) (drop 1 rest)))
  open_unit rest default depth scopes some is deep =
      let first = first_seen rest default kinds.Open some is in
      let d = deeper depth deep in
      ap (unit_at depth scopes) first.2 ∙ ap (λ n. unit_at n scopes ((Open, first.0) ∷ map (seen text) (drop 1 rest))) d.1
      ∙ ap (λ n. enclosed_by (alternatives_by (unit_at n scopes)) (map (seen text) (drop 1 rest))) (sym d.2)
      ∙ ap (λ l. enclosed_by (alternatives_by (unit_at (depth - 1) scopes)) (map (seen text) l)) (sym (all_behind rest))

  pub inputs_unit : (rest : List Lexeme) (default : Lexeme) (depth : ℕ) (scopes : Bool) → 1 ≤ length rest
      → (get_or rest 0 default).kind ≡ kinds.Inputs → 0 < depth → scopes ≡ true
      → unit_at depth scopes (map (seen text) rest)
      ≡ scope_by true (alternatives_by (unit_at (depth - 1) false))
      (map (seen text) (take (length rest - 1) (drop 1 rest)))
  inputs_unit rest default depth scopes some is deep may =
      let first = first_seen rest default kinds.Inputs some is in
      let d = deeper depth deep in
      ap (unit_at depth scopes) first.2
      ∙ ap (λ n. unit_at n scopes ((Inputs, first.0) ∷ map (seen text) (drop 1 rest))) d.1
      ∙ ap (λ s. unit_at (suc d.0) s ((Inputs, first.0) ∷ map (seen text) (drop 1 rest))) may
      ∙ ap (λ n. scope_by true (alternatives_by (unit_at n false)) (map (seen text) (drop 1 rest))) (sym d.2)
      ∙ ap (λ l. scope_by true (alternatives_by (unit_at (depth - 1) false)) (map (seen text) l)) (sym (all_behind rest))

  pub outputs_unit : (rest : List Lexeme) (default : Lexeme) (depth : ℕ) (scopes : Bool) → 1 ≤ length rest
      → (get_or rest 0 default).kind ≡ kinds.Outputs → 0 < depth → scopes ≡ true
      → unit_at depth scopes (map (seen text) rest)
      ≡ scope_by false (alternatives_by (unit_at (depth - 1) false))
      (map (seen text) (take (length rest - 1) (drop 1 rest)))
  outputs_unit rest default depth scopes some is deep may =
      let first = first_seen rest default kinds.Outputs some is in
      let d = deeper depth deep in
      ap (unit_at depth scopes) first.2
      ∙ ap (λ n. unit_at n scopes ((Outputs, first.0) ∷ map (seen text) (drop 1 rest))) d.1
      ∙ ap (λ s. unit_at (suc d.0) s ((Outputs, first.0) ∷ map (seen text) (drop 1 rest))) may
      ∙ ap (λ n. scope_by false (alternatives_by (unit_at n false)) (map (seen text) (drop 1 rest))) (sym d.2)
      ∙ ap (λ l. scope_by false (alternatives_by (unit_at (depth - 1) false)) (map (seen text) l)) (sym (all_behind rest))
