-- The token of a word, and what it is written with.
use Rattle.std.proofs.Common.{◌≡◌, ◌≢◌, ℕ, ◌<◌, ◌||◌, Bool, true, false, List, [], ◌∷◌, length, Option, Some}
use Rattle.std.proofs.Common.{None, arith, refl, sym, ap, ◌∙◌, subst, ◌^◌, ◌⊎◌, inl, inr}
use Rattle.std.proofs.lemmas.Fmt.{decimal_nonempty}
use Rattle.std.specs.Prelude.{codes, ◌==◌}
use Rattle.std.specs.Option.{option_map}
use Rattle.std.proofs.lemmas.Slice.Eq.{bytes_eq-Decides}
use Rattle.std.proofs.lemmas.Bool.{cond_both, cond-true, cond-false, and_parts, and_from, false≢true}
use Rattle.std.specs.List.{list_all}
use Rattle.std.specs.Int.{is_in_range}
use Rattle.std.specs.Str.{bytes_eq}
use Rattle.wire.specs.Spelling.{greatest}
use Rattle.wire.specs.Decimal.{decimal_within}
use Rattle.filter_syntax.specs.Spelling.{begins_name, is_name_byte, is_word, IsName}
use Rattle.filter_syntax.specs.Token.{Token, And, Or, Inputs, Outputs, Name, Number, spelling, CanBeWritten}
use Rattle.filter_syntax.specs.Lexing.{word_token, run_token}
use Rattle.filter_syntax.proofs.Numbers.{chosen, number_is}

same : (w v : List ℕ) → bytes_eq w v ≡ true → v ≡ w
same w v is = sym ((bytes_eq-Decides w v).0 is)

other : (w v : List ℕ) → bytes_eq w v ≡ false → w ≢ v
other w v is = λ e. false≢true (sym is ∙ (bytes_eq-Decides w v).1 e)

by_choice : (w : List ℕ) (P : Token → Type 0)
    → (codes "AND" ≡ w → P And) → (codes "OR" ≡ w → P Or) → (codes "inputs" ≡ w → P Inputs)
    → (codes "outputs" ≡ w → P Outputs)
    → (w ≢ codes "AND" → w ≢ codes "OR" → w ≢ codes "inputs" → w ≢ codes "outputs" → P (Name w))
    → P (word_token w)
unfolding word_token
by_choice w P and or inputs outputs name =
    cond_both (bytes_eq w (codes "AND")) And _ P (λ e. and (same w _ e))
    (λ a. cond_both (bytes_eq w (codes "OR")) Or _ P (λ e. or (same w _ e))
    (λ b. cond_both (bytes_eq w (codes "inputs")) Inputs _ P (λ e. inputs (same w _ e))
    (λ c. cond_both (bytes_eq w (codes "outputs")) Outputs _ P (λ e. outputs (same w _ e))
    (λ d. name (other w _ a) (other w _ b) (other w _ c) (other w _ d)))))

pub word_spelled : (w : List ℕ) → spelling (word_token w) ≡ w
word_spelled w = by_choice w (λ t. spelling t ≡ w) (λ e. e) (λ e. e) (λ e. e) (λ e. e) (λ _ _ _ _. refl)

pub word_formed : (w : List ℕ) → is_word w ≡ true → CanBeWritten (word_token w)
word_formed w is = by_choice w CanBeWritten (λ _. tt) (λ _. tt) (λ _. tt) (λ _. tt)
    (λ a b c d. record { formed = is; not_and = a; not_or = b; not_inputs = c; not_outputs = d })

pub name_again : (w : List ℕ) → IsName w → word_token w ≡ Name w
name_again w name = by_choice w (λ t. t ≡ Name w)
    (λ e. absurd (name.not_and (sym e))) (λ e. absurd (name.not_or (sym e)))
    (λ e. absurd (name.not_inputs (sym e))) (λ e. absurd (name.not_outputs (sym e))) (λ _ _ _ _. refl)

pub and_again : word_token (codes "AND") ≡ And
unfolding word_token
and_again = refl

pub or_again : word_token (codes "OR") ≡ Or
unfolding word_token
or_again = refl

pub inputs_again : word_token (codes "inputs") ≡ Inputs
unfolding word_token
inputs_again = refl

pub outputs_again : word_token (codes "outputs") ≡ Outputs
unfolding word_token
outputs_again = refl

-- a letter or `_` may stand in a name
wider : (d u l e : Bool) → ((u || l) || e) ≡ true → (((d || u) || l) || e) ≡ true
wider true u l e is = refl
wider false u l e is = is

pub name_byte : (b : ℕ) → begins_name b ≡ true → is_name_byte b ≡ true
name_byte b is = wider (is_in_range 48 57 b) (is_in_range 65 90 b) (is_in_range 97 122 b) (b == 95) is

pub word_bytes : (w : List ℕ) → is_word w ≡ true → list_all is_name_byte w ≡ true
word_bytes [] is = refl
word_bytes (b ∷ bs) is =
    let parts = and_parts (begins_name b) (list_all is_name_byte bs) is in
    and_from _ _ (name_byte b parts.0) parts.1

pub word_some : (w : List ℕ) → is_word w ≡ true → 0 < length w
word_some [] is = cc
word_some (b ∷ bs) is = omega arith

-- what a run is read as
pub record IsRun (run : List ℕ) (token : Token) : Type 0 where
  pub spelled : spelling token ≡ run
  pub formed : CanBeWritten token
  pub some : 0 < length run

option_map_some : {X Y : Type 0} (f : X → Y) (o : Option X) (y : Y) → option_map f o ≡ Some y
    → (x : X) × (o ≡ Some x) × (f x ≡ y)
option_map_some f (Some x) y is = (x, refl, (cc))
option_map_some f None y is = cc

pub run_is : (run : List ℕ) (token : Token) → run_token run ≡ Some token → IsRun run token
unfolding run_token
run_is run token is = by (chosen (is_word run) (Some (word_token run)) (option_map Number (decimal_within greatest run))
    (Some token) is)
  where
    by_word : is_word run ≡ true → word_token run ≡ token → IsRun run token
    by_word word same = subst (λ (t : Token). IsRun run t) same
        (record { spelled = word_spelled run; formed = word_formed run word; some = word_some run word })

    by_number : option_map Number (decimal_within greatest run) ≡ Some token → IsRun run token
    by_number some =
        let found = option_map_some Number (decimal_within greatest run) token some in
        let number = number_is run found.0 found.1 in
        let low : found.0 < 2 ^ 64 = omega (arith, number.0) in
        subst (λ (t : Token). IsRun run t) found.2
        (record {
          spelled = number.1;
          formed = number.0;
          some =
              subst (λ (r : List ℕ). 0 < length r) number.1 (decimal_nonempty found.0 low);
        })

    by : ((is_word run ≡ true) × (Some (word_token run) ≡ Some token)) ⊎
        ((is_word run ≡ false) × (option_map Number (decimal_within greatest run) ≡ Some token)) → IsRun run token
    by (inl w) = by_word w.0 (cc)
    by (inr n) = by_number n.1

-- A run that is a word is read as the word, and one that is a number as the number.
pub word_run : (run : List ℕ) → is_word run ≡ true → run_token run ≡ Some (word_token run)
unfolding run_token
word_run run is = cond-true (is_word run) (Some (word_token run)) (option_map Number (decimal_within greatest run)) is

pub number_run : (run : List ℕ) (n : ℕ) → is_word run ≡ false → decimal_within greatest run ≡ Some n → run_token run ≡ Some (Number n)
unfolding run_token
number_run run n not is =
    cond-false (is_word run) (Some (word_token run)) (option_map Number (decimal_within greatest run)) not ∙ ap (option_map Number) is

pub no_run : (run : List ℕ) → is_word run ≡ false → decimal_within greatest run ≡ None → run_token run ≡ None
unfolding run_token
no_run run not is =
    cond-false (is_word run) (Some (word_token run)) (option_map Number (decimal_within greatest run)) not ∙ ap (option_map Number) is
