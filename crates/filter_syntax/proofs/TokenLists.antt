-- Each text has one list of tokens, and what is written of tokens has these.
use Rattle.std.proofs.Common.{◌≡◌, ◌<◌, ℕ, true, eqb, cond, List, [], ◌∷◌, ◌++◌, length, None}
use Rattle.std.proofs.Common.{arith, refl, sym, ap, ◌∙◌, subst}
use Rattle.std.specs.List.{AllByRecursion}
use Rattle.std.proofs.lemmas.Bool.{cases_Bool, cond-true, cond-false, eqb-true}
use Rattle.std.proofs.lemmas.Option.{none-some}
use Rattle.std.proofs.lemmas.List.{append-nil}
use Rattle.std.proofs.Common.{◌⊎◌, inl, inr, false}
use Rattle.wire.specs.Decimal.{decimal_within}
use Rattle.grammars.specs.Tokens.{ends}
use Rattle.grammars.specs.Scanner.{Scanner, IsGap, longest_before, one_reading}
use Rattle.grammars.specs.Written.{ReadsAs, StandsBefore, SpaceStands, written_read}
use Rattle.filter_syntax.specs.Token.{Token, End, spelling, CanBeWritten, written}
use Rattle.filter_syntax.specs.Tokens.{IsApart, lexicon}
use Rattle.filter_syntax.specs.Lexing.{first_token, run_token}
use Rattle.filter_syntax.specs.Laws.{TokenLaws}
use Rattle.filter_syntax.proofs.Fronts.{leads, found, reaches, is_found, apart_any}

-- how many bytes are passed over
abbrev pub gap_len : List ℕ → ℕ
gap_len [] = 0
gap_len (b ∷ text) = cond (eqb b 32) 1 0

pub gap_is : (text : List ℕ) → 0 < gap_len text → IsGap lexicon text (gap_len text)
gap_is [] some = absurd (omega arith)
gap_is (b ∷ text) some = by (cases_Bool (eqb b 32))
  where
    by : (eqb b 32 ≡ true) ⊎ (eqb b 32 ≡ false) → IsGap lexicon (b ∷ text) (gap_len (b ∷ text))
    by (inl is) = record {
      gap = 32 ∷ [];
      rest = text;
      begins = (refl, ap (λ (k : ℕ). k ∷ text) (eqb-true b 32 is));
      size = sym (cond-true {A = ℕ} (eqb b 32) 1 0 is);
    }
    by (inr not) = absurd (omega (arith, some, cond-false {A = ℕ} (eqb b 32) 1 0 not))

abbrev pub scanner : Scanner lexicon IsApart
scanner = record {
  gap = gap_len;
  token = found;
  gap_is = gap_is;
  gap_found = λ text gap rest begins. record {
    whole = begins.1 ∙ ap (λ (l : List ℕ). l ++ rest) (sym begins.0);
    some = omega (arith, ap (λ (l : List ℕ). length l) begins.0);
    size = ap (λ (l : List ℕ). length l) begins.0 ∙ sym (ap gap_len begins.1);
  };
  token_is = is_found;
  token_found = reaches;
}

-- ---- what is written of tokens

space_first : (text : List ℕ) → first_token (32 ∷ text) ≡ None
unfolding first_token run_token decimal_within
space_first text = refl

stands : StandsBefore lexicon IsApart spelling CanBeWritten
stands t rest can apart = (
  λ gap behind space.
      (let lead = leads (spelling t ++ rest) t (spelling t) rest
      (record { whole = refl; spelled = (can, refl); ends = apart_any t rest apart }) in
      none-some lead.token (sym (space_first behind) ∙ ap first_token (sym space.1) ∙ lead.is)),
  longest_before lexicon IsApart scanner t (spelling t) rest (can, refl) (apart_any t rest apart) apart,
)

space_stands : SpaceStands lexicon IsApart
space_stands rest = (refl, (refl, refl))

read_again : (tokens : List Token) → AllByRecursion CanBeWritten tokens → ReadsAs lexicon 0 (written tokens) tokens
read_again tokens all =
    subst (λ (l : List ℕ). ReadsAs lexicon 0 l tokens) (append-nil (written tokens))
    (written_read lexicon IsApart spelling CanBeWritten stands space_stands [] tt
    (λ at. ((End, at) ∷ [], ends at, refl)) tokens all 0)

pub token_laws : TokenLaws
token_laws = record {
  some = λ at text. (let one = one_reading lexicon IsApart scanner at text in (one.0, one.1));
  one = λ at text a b h k.
      (let one = one_reading lexicon IsApart scanner at text in sym (one.2 a h) ∙ one.2 b k);
  again = read_again;
}
