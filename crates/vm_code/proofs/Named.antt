-- The table of names: no name stands twice, and none has a colon, a space or a `0x` in front.
use Rattle.std.proofs.Common.{◌≡◌, ℕ, ◌<◌, List, [], ◌∷◌, Bool, true, false, cond, Option, Some, None, refl, ap, sym, ◌∙◌, subst}
use Rattle.std.specs.Prelude.{◌==◌, ◌||◌, ◌&&◌, not, bytes_eq, option_map, is_none}
use Rattle.std.specs.List.{find, list_all}
use Rattle.std.proofs.lemmas.Bool.{agree_below_at, and_parts, eqb-true, not-true}
use Rattle.std.proofs.lemmas.Slice.Eq.{bytes_eq-Decides}
use Rattle.vm_code.specs.Instruction.{is_plain, is_data, is_jump}
use Rattle.vm_code.specs.Names.{names, name_of, code_of}
use Rattle.vm_code.specs.Text.{is_counted}
use Rattle.vm_code.specs.Word.{rest_after_0x}
use Rattle.wire.specs.Decimal.{is_empty}
use Rattle.vm_code.specs.Readings.{plain_small}

-- a text without this byte
abbrev pub free : ℕ → List ℕ → Bool
free x text = list_all (λ c. not (c == x)) text

abbrev pub is_code : ℕ → Option ℕ → Bool
is_code c None = false
is_code c (Some k) = k == c

abbrev name_good : ℕ → List ℕ → Bool
name_good c name = is_code c (code_of name) && (free 58 name && (free 32 name && (is_none (rest_after_0x name) && not (is_empty name))))

-- plain, a jump, or with its count after it
abbrev pub has_name : ℕ → Bool
has_name c = is_plain c || is_jump c || is_counted c

abbrev plain_test : ℕ → Bool
plain_test c = not (is_plain c) || (name_good c (name_of c) && (not (is_data c) && (not (is_counted c) && not (is_jump c))))

plain_tests : (c : ℕ) → c < 256 → plain_test c ≡ true
unfolding name_of code_of names
plain_tests c small = agree_below_at plain_test (λ c. true) 256 c refl small

line_test : ℕ × List ℕ → Bool
line_test line = bytes_eq (name_of line.0) line.1 && has_name line.0

line_tests : list_all line_test names ≡ true
unfolding name_of names line_test
line_tests = refl

-- ---- a code that is alone has a name

pub record Plain (c : ℕ) : Type 0 where
  pub code : code_of (name_of c) ≡ Some c
  pub no_colon : free 58 (name_of c) ≡ true
  pub no_space : free 32 (name_of c) ≡ true
  pub no_0x : rest_after_0x (name_of c) ≡ None
  pub some : is_empty (name_of c) ≡ false
  pub no_data : is_data c ≡ false
  pub no_count : is_counted c ≡ false
  pub no_jump : is_jump c ≡ false

pub code_from : (c : ℕ) (o : Option ℕ) → is_code c o ≡ true → o ≡ Some c
code_from c None is = cc
code_from c (Some k) is = ap Some (eqb-true k c is)

none_from : {X : Type 0} (o : Option X) → is_none o ≡ true → o ≡ None
none_from None is = refl
none_from (Some x) is = cc

pub plain_named : (c : ℕ) → is_plain c ≡ true → Plain c
plain_named c is =
    let rest = name_good c (name_of c) && (not (is_data c) && (not (is_counted c) && not (is_jump c))) in
    let all : rest ≡ true = subst (λ t. not t || rest ≡ true) is (plain_tests c (plain_small c is)) in
    let both = and_parts (name_good c (name_of c)) _ all in
    let a = and_parts (is_code c (code_of (name_of c))) _ both.0 in
    let b = and_parts (free 58 (name_of c)) _ a.1 in
    let e = and_parts (free 32 (name_of c)) _ b.1 in
    let f = and_parts (is_none (rest_after_0x (name_of c))) _ e.1 in
    let g = and_parts (not (is_data c)) _ both.1 in
    let h = and_parts (not (is_counted c)) _ g.1 in
    record {
      code = code_from c (code_of (name_of c)) a.0;
      no_colon = b.0;
      no_space = e.0;
      no_0x = none_from (rest_after_0x (name_of c)) f.0;
      some = not-true (is_empty (name_of c)) f.1;
      no_data = not-true (is_data c) g.0;
      no_count = not-true (is_counted c) h.0;
      no_jump = not-true (is_jump c) h.1;
    }

-- ---- a code that a name is of has this name

-- the line that is found passes, and has what all lines have
found_at : {X : Type 0} (p q : X → Bool) (xs : List X) (x y : X) (t : Bool) → p y ≡ t → q y ≡ true → (find p xs ≡ Some x → (q x ≡ true) × (p x ≡ true)) → cond t (Some y) (find p xs) ≡ Some x → (q x ≡ true) × (p x ≡ true)
found_at p q xs x y true is good more h = let same : y ≡ x = cc in subst (λ z. (q z ≡ true) × (p z ≡ true)) same (good, is)
found_at p q xs x y false is good more h = more h

found : {X : Type 0} (p q : X → Bool) (xs : List X) (x : X) → list_all q xs ≡ true → find p xs ≡ Some x → (q x ≡ true) × (p x ≡ true)
found p q [] x all h = cc
found p q (y ∷ xs) x all h = let both = and_parts (q y) (list_all q xs) all in found_at p q xs x y (p y) refl both.0 (found p q xs x both.1) h

line_from : (o : Option (ℕ × List ℕ)) (c : ℕ) → option_map (λ line. line.0) o ≡ Some c → (line : ℕ × List ℕ) × (o ≡ Some line) × (line.0 ≡ c)
line_from None c h = cc
line_from (Some line) c h = (line, refl, cc)

named_line : (name : List ℕ) (c : ℕ) → code_of name ≡ Some c → (name_of c ≡ name) × (has_name c ≡ true)
unfolding code_of name_of line_test
named_line name c h =
    let at = line_from (find (λ line. bytes_eq line.1 name) names) c h in
    let good = found (λ line. bytes_eq line.1 name) line_test names at.0 line_tests at.1 in
    let both = and_parts (bytes_eq (name_of at.0.0) at.0.1) (has_name at.0.0) good.0 in
    let same : at.0.1 ≡ name = (bytes_eq-Decides at.0.1 name).0 good.1 in
    let is : name_of at.0.0 ≡ at.0.1 = (bytes_eq-Decides (name_of at.0.0) at.0.1).0 both.0 in
    (ap name_of (sym at.2) ∙ (is ∙ same), subst (λ (c : ℕ). has_name c ≡ true) at.2 both.1)

pub named_so : (name : List ℕ) (c : ℕ) → code_of name ≡ Some c → name_of c ≡ name
named_so name c h = (named_line name c h).0

pub one_name : (name : List ℕ) (c : ℕ) → code_of name ≡ Some c → (name_of c ≡ name) × (has_name c ≡ true)
one_name name c h = named_line name c h
