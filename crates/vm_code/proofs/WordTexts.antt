-- A word is read as the instruction whose text it is, and each instruction is read of its text.
use Rattle.std.proofs.Common.{◌≡◌, ℕ, ◌^◌, ◌<◌, ◌≤◌, List, [], ◌∷◌, ◌++◌, length, Bool, true, false, cond, Option, Some, None, refl, ap, sym, ◌∙◌, subst, inl, inr, ◌⊎◌, arith, codes, length-append}
use Rattle.std.specs.Prelude.{◌==◌, ◌&&◌, not, nat_le, nat_lt, option_map, decimal}
use Rattle.std.specs.List.{list_all}
use Rattle.std.proofs.lemmas.List.{append_assoc}
use Rattle.std.specs.Option.{option_and_then}
use Rattle.std.specs.Char.{is_ascii_digit}
use Rattle.std.proofs.lemmas.Bool.{and_parts, and_from, cases_lt, eqb-true, leb-true, le-leb, ltb-true, lt-ltb, cond-true, cond-false, not-true, ne_eqb, not_from_false}
use Rattle.hex.specs.Hex.{encode_lower, IsBytes}
use Rattle.vm_code.specs.Instruction.{Decoded, plain, is_data, is_jump, is_plain}
use Rattle.vm_code.specs.Names.{names, name_of, code_of}
use Rattle.vm_code.specs.Text.{field_len, text_of, is_counted, IsInstruction}
use Rattle.vm_code.specs.Word.{word_read, parts_read, with_argument, without_argument, named, rest_after_0x, at_colon}
use Rattle.vm_code.specs.Word.{data_of, counted, hex_read, place_read, is_lower_digit}
use Rattle.wire.specs.Decimal.{is_empty}
use Rattle.vm_code.specs.Instruction as instructions
use Rattle.vm_code.proofs.Hexes.{hex_written, hex_back, lower_written}
use Rattle.wire.specs.Decimal.{digits_written}
use Rattle.vm_code.proofs.Decimals.{place_written, place_back}
use Rattle.vm_code.proofs.Shapes.{pushing, jumping, Kind, by_length, counted_1, counted_2, counted_4, jump, alone}
use Rattle.vm_code.specs.Readings.{jump_cases}
use Rattle.vm_code.proofs.Splits.{kind_of}
use Rattle.vm_code.proofs.Again.{is_instruction, is_bytes_pushed}
use Rattle.vm_code.proofs.Worded.{counted_worded, jump_worded}
use Rattle.vm_code.proofs.Named.{free, plain_named, named_so}

-- ---- the text of each kind

counted_cases : (c : ℕ) → is_counted c ≡ true → (c ≡ 0x4c) ⊎ ((c ≡ 0x4d) ⊎ (c ≡ 0x4e))
counted_cases c is =
    let both = and_parts (nat_le 0x4c c) (nat_le c 0x4e) is in
    let low = leb-true 0x4c c both.0 in
    let high = leb-true c 0x4e both.1 in
    elim (cases_lt c 77) [ inl below ↦ inl (omega arith) | inr above ↦ elim (cases_lt c 78) [ inl below ↦ inr (inl (omega arith)) | inr last ↦ inr (inr (omega arith)) ] ]

data_code : (n : ℕ) → 0 < n → n ≤ 75 → is_data n ≡ true
data_code n low high = and_from _ _ (le-leb 1 n low) (le-leb n 75 high)

text_data : (p : List ℕ) → 0 < length p → length p ≤ 75 → text_of (pushing (length p) p 0) ≡ codes "0x" ++ encode_lower p
unfolding text_of
text_data p low high = cond-true (is_data (length p)) _ _ (data_code (length p) low high)

text_counted : (c k : ℕ) (p : List ℕ) → is_counted c ≡ true → text_of (pushing c p k) ≡ name_of c ++ codes ":" ++ encode_lower p
text_counted c k p is =
    let both = and_parts (nat_le 0x4c c) (nat_le c 0x4e) is in
    counted_worded (pushing c p k) (leb-true 0x4c c both.0) (leb-true c 0x4e both.1)

text_jump : (c place : ℕ) → is_jump c ≡ true → text_of (jumping c place) ≡ name_of c ++ codes ":" ++ decimal place
text_jump c place is =
    let both = and_parts (nat_le 0x63 c) (nat_le c 0x64) is in
    jump_worded (jumping c place) (leb-true 0x63 c both.0) (leb-true c 0x64 both.1)

text_plain : (c : ℕ) → is_plain c ≡ true → text_of (plain c) ≡ name_of c
unfolding text_of
text_plain c is =
    let n = plain_named c is in
    cond-false (is_data c) _ _ n.no_data ∙ (cond-false (is_counted c) _ _ n.no_count ∙ cond-false (is_jump c) _ _ n.no_jump)

-- ---- colons

no_colon : (text : List ℕ) → free 58 text ≡ true → at_colon text ≡ None
no_colon [] is = refl
no_colon (b ∷ text) is =
    let both = and_parts (not (b == 58)) (free 58 text) is in
    rw (not-true (b == 58) both.0) (rw (no_colon text both.1) refl)

-- a text with a colon is what stands before it, the colon, and what stands after it
same_parts : (p q : List ℕ × List ℕ) → Some p ≡ Some q → (p.0 ≡ q.0) × (p.1 ≡ q.1)
same_parts p q h = let same : p ≡ q = cc in (ap (λ x. x.0) same, ap (λ x. x.1) same)

abbrev no_front : List ℕ → Option (List ℕ × List ℕ)
no_front text = Some ([], text)

joined_at : (b : ℕ) (text front behind : List ℕ) (t : Bool) (o : Option (List ℕ × List ℕ)) → (b == 58) ≡ t → ((f h : List ℕ) → o ≡ Some (f, h) → text ≡ f ++ (58 ∷ h)) → cond t (no_front text) (option_map (λ parts. (b ∷ parts.0, parts.1)) o) ≡ Some (front, behind) → b ∷ text ≡ front ++ (58 ∷ behind)
joined_at b text front behind true o is more h =
    let colon : b ≡ 58 = eqb-true b 58 is in
    let same = same_parts ([], text) (front, behind) h in
    rw colon (rw (sym same.0) (ap (λ l. 58 ∷ l) same.1))
joined_at b text front behind false (Some parts) is more h =
    let same = same_parts (b ∷ parts.0, parts.1) (front, behind) h in
    rw (sym same.0) (rw (sym same.1) (ap (λ l. b ∷ l) (more parts.0 parts.1 refl)))
joined_at b text front behind false None is more h = cc

joined : (text front behind : List ℕ) → at_colon text ≡ Some (front, behind) → text ≡ front ++ (58 ∷ behind)
joined [] front behind h = cc
joined (b ∷ text) front behind h = joined_at b text front behind (b == 58) (at_colon text) refl (λ f h e. joined text f h e) h

-- what stands after a `0x`
after_0x_at : (b c : ℕ) (rest digits : List ℕ) (t : Bool) → (b == 48 && c == 120) ≡ t → cond t (Some rest) None ≡ Some digits → b ∷ c ∷ rest ≡ codes "0x" ++ digits
after_0x_at b c rest digits true is h =
    let both = and_parts (b == 48) (c == 120) is in
    let same : rest ≡ digits = cc in
    rw (eqb-true b 48 both.0) (rw (eqb-true c 120 both.1) (ap (λ l. 48 ∷ 120 ∷ l) same))
after_0x_at b c rest digits false is h = cc

after_0x : (text digits : List ℕ) → rest_after_0x text ≡ Some digits → text ≡ codes "0x" ++ digits
after_0x [] digits h = cc
after_0x (b ∷ []) digits h = cc
after_0x (b ∷ c ∷ rest) digits h = after_0x_at b c rest digits (b == 48 && c == 120) refl h

-- ---- a word is read as the instruction whose text it is

abbrev pub Reads : List ℕ → Decoded → Type 0
Reads text d = IsInstruction d × (text ≡ text_of d)

by_test : {X : Type 0} (t : Bool) (x y : X) → cond t (Some x) None ≡ Some y → (t ≡ true) × (x ≡ y)
by_test true x y h = (refl, cc)
by_test false x y h = cc

named_reads : (text : List ℕ) (d : Decoded) (o : Option ℕ) → code_of text ≡ o → named o ≡ Some d → Reads text d
named_reads text d None is h = cc
named_reads text d (Some c) is h =
    let e = by_test (is_plain c) (plain c) d h in
    subst (Reads text) e.1 (is_instruction (plain c) (alone c e.0) (λ i. omega arith), sym (text_plain c e.0 ∙ named_so text c is))

data_reads : (text digits : List ℕ) (d : Decoded) (o : Option (List ℕ)) → text ≡ codes "0x" ++ digits → hex_read digits ≡ o → option_and_then data_of o ≡ Some d → Reads text d
data_reads text digits d None is hex h = cc
data_reads text digits d (Some p) is hex h =
    let e = by_test (is_data (length p)) (pushing (length p) p 0) d h in
    let both = and_parts (nat_le 1 (length p)) (nat_le (length p) 75) e.0 in
    let low = leb-true 1 (length p) both.0 in
    let high = leb-true (length p) 75 both.1 in
    let written = hex_written digits p hex in
    subst (Reads text) e.1 (is_instruction (pushing (length p) p 0) (by_length p low high) written.1, is ∙ (ap (λ l. codes "0x" ++ l) (sym written.0) ∙ sym (text_data p low high)))

counted_reads : (c : ℕ) (text digits : List ℕ) (d : Decoded) (o : Option (List ℕ)) → is_counted c ≡ true → text ≡ name_of c ++ (58 ∷ digits) → hex_read digits ≡ o → option_and_then (counted c) o ≡ Some d → Reads text d
counted_reads c text digits d None count is hex h = cc
counted_reads c text digits d (Some p) count is hex h =
    let e = by_test (nat_lt (length p) (256 ^ field_len c)) (pushing c p (field_len c)) d h in
    let small : length p < 256 ^ field_len c = ltb-true _ _ e.0 in
    let written = hex_written digits p hex in
    let kind : Kind (pushing c p (field_len c)) = elim (counted_cases c count) [
      | inl e ↦ rw e (counted_1 p (subst (λ (c : ℕ). length p < 256 ^ field_len c) e small))
      | inr more ↦ elim more [
        | inl e ↦ rw e (counted_2 p (subst (λ (c : ℕ). length p < 256 ^ field_len c) e small))
        | inr e ↦ rw e (counted_4 p (subst (λ (c : ℕ). length p < 256 ^ field_len c) e small))
      ]
    ] in
    let says : text ≡ text_of (pushing c p (field_len c)) = is ∙ (ap (λ l. name_of c ++ (58 ∷ l)) (sym written.0) ∙ (sym (append_assoc (name_of c) (codes ":") (encode_lower p)) ∙ sym (text_counted c (field_len c) p count))) in
    subst (Reads text) e.1 (is_instruction (pushing c p (field_len c)) kind written.1, says)

jump_reads : (c : ℕ) (text digits : List ℕ) (d : Decoded) (o : Option ℕ) → is_jump c ≡ true → text ≡ name_of c ++ (58 ∷ digits) → place_read digits ≡ o → option_map (instructions.jump c) o ≡ Some d → Reads text d
jump_reads c text digits d None jumps is place h = cc
jump_reads c text digits d (Some n) jumps is place h =
    let e : jumping c n ≡ d = cc in
    let written = place_written digits n place in
    let says : text ≡ text_of (jumping c n) = is ∙ (ap (λ l. name_of c ++ (58 ∷ l)) (sym written.1) ∙ (sym (append_assoc (name_of c) (codes ":") (decimal n)) ∙ sym (text_jump c n jumps))) in
    subst (Reads text) e (is_instruction (jumping c n) (jump c n jumps written.0) (λ i. omega arith), says)

-- a test and its two ways
by_cases : (t : Bool) (x y r : Option Decoded) → cond t x y ≡ r → ((t ≡ true) × (x ≡ r)) ⊎ ((t ≡ false) × (y ≡ r))
by_cases true x y r h = inl (refl, h)
by_cases false x y r h = inr (refl, h)

argument_reads : (text name digits : List ℕ) (d : Decoded) (o : Option ℕ) → text ≡ name ++ (58 ∷ digits) → code_of name ≡ o → with_argument o digits ≡ Some d → Reads text d
argument_reads text name digits d None is code h = cc
argument_reads text name digits d (Some c) is code h =
    let names_it : text ≡ name_of c ++ (58 ∷ digits) = is ∙ ap (λ l. l ++ (58 ∷ digits)) (sym (named_so name c code)) in
    elim (by_cases (is_counted c) _ _ _ h) [
      | inl e ↦ counted_reads c text digits d (hex_read digits) e.0 names_it refl e.1
      | inr other ↦ elim (by_cases (is_jump c) _ _ _ other.1) [
        | inl e ↦ jump_reads c text digits d (place_read digits) e.0 names_it refl e.1
        | inr none ↦ cc
      ]
    ]

without_reads : (text : List ℕ) (d : Decoded) (o : Option (List ℕ)) → rest_after_0x text ≡ o → without_argument o text ≡ Some d → Reads text d
without_reads text d None is h = named_reads text d (code_of text) refl h
without_reads text d (Some digits) is h = data_reads text digits d (hex_read digits) (after_0x text digits is) refl h

parts_reads : (text : List ℕ) (d : Decoded) (o : Option (List ℕ × List ℕ)) → at_colon text ≡ o → parts_read o text ≡ Some d → Reads text d
parts_reads text d None is h = without_reads text d (rest_after_0x text) refl h
parts_reads text d (Some parts) is h = argument_reads text parts.0 parts.1 d (code_of parts.0) (joined text parts.0 parts.1 is) refl h

pub word_reads : (text : List ℕ) (d : Decoded) → word_read text ≡ Some d → Reads text d
unfolding word_read
word_reads text d h = parts_reads text d (at_colon text) refl h

-- ---- an instruction is read of its text

kept : (x : ℕ) (test : ℕ → Bool) (text : List ℕ) → ((c : ℕ) → test c ≡ true → not (c == x) ≡ true) → list_all test text ≡ true → free x text ≡ true
kept x test [] step all = refl
kept x test (c ∷ text) step all =
    let both = and_parts (test c) (list_all test text) all in
    and_from _ _ (step c both.0) (kept x test text step both.1)

pub hex_free : (x : ℕ) (p : List ℕ) → is_lower_digit x ≡ false → IsBytes p → free x (encode_lower p) ≡ true
hex_free x p apart all = kept x is_lower_digit (encode_lower p) (λ c is. not_from_false (c == x) (ne_eqb c x (λ e. let other : is_lower_digit x ≡ true = subst (λ (c : ℕ). is_lower_digit c ≡ true) e is in cc))) (lower_written p all)

pub decimal_free : (x n : ℕ) → is_ascii_digit x ≡ false → n < 2 ^ 32 → free x (decimal n) ≡ true
decimal_free x n apart small = kept x is_ascii_digit (decimal n) (λ c is. not_from_false (c == x) (ne_eqb c x (λ e. let other : is_ascii_digit x ≡ true = subst (λ (c : ℕ). is_ascii_digit c ≡ true) e is in cc))) (digits_written n (omega (arith, small)))

back_data : (p : List ℕ) → 0 < length p → length p ≤ 75 → IsBytes p → word_read (codes "0x" ++ encode_lower p) ≡ Some (pushing (length p) p 0)
unfolding word_read
back_data p low high all =
    rw (no_colon (encode_lower p) (hex_free 58 p refl all)) (rw (hex_back p all) (cond-true (is_data (length p)) _ _ (data_code (length p) low high)))

back_1 : (p : List ℕ) → length p < 256 ^ 1 → IsBytes p → word_read (name_of 0x4c ++ codes ":" ++ encode_lower p) ≡ Some (pushing 0x4c p 1)
unfolding word_read name_of code_of names
back_1 p small all = rw (hex_back p all) (cond-true (nat_lt (length p) (256 ^ 1)) _ _ (lt-ltb _ _ small))

back_2 : (p : List ℕ) → length p < 256 ^ 2 → IsBytes p → word_read (name_of 0x4d ++ codes ":" ++ encode_lower p) ≡ Some (pushing 0x4d p 2)
unfolding word_read name_of code_of names
back_2 p small all = rw (hex_back p all) (cond-true (nat_lt (length p) (256 ^ 2)) _ _ (lt-ltb _ _ small))

back_4 : (p : List ℕ) → length p < 256 ^ 4 → IsBytes p → word_read (name_of 0x4e ++ codes ":" ++ encode_lower p) ≡ Some (pushing 0x4e p 4)
unfolding word_read name_of code_of names
back_4 p small all = rw (hex_back p all) (cond-true (nat_lt (length p) (256 ^ 4)) _ _ (lt-ltb _ _ small))

back_jump : (c place : ℕ) → is_jump c ≡ true → place < 2 ^ 32 → word_read (name_of c ++ codes ":" ++ decimal place) ≡ Some (jumping c place)
unfolding word_read name_of code_of names
back_jump c place is small = elim (jump_cases c is) [
  | inl e ↦ rw e (rw (place_back place small) refl)
  | inr e ↦ rw e (rw (place_back place small) refl)
]

back_plain : (c : ℕ) → is_plain c ≡ true → word_read (name_of c) ≡ Some (plain c)
unfolding word_read
back_plain c is =
    let n = plain_named c is in
    rw (no_colon (name_of c) n.no_colon) (rw n.no_0x (rw n.code (cond-true (is_plain c) _ _ is)))

back_kind : (d : Decoded) → Kind d → IsBytes d.pushed → word_read (text_of d) ≡ Some d
back_kind d (by_length p low high) all = rw (text_data p low high) (back_data p low high all)
back_kind d (counted_1 p small) all = rw (text_counted 0x4c 1 p refl) (back_1 p small all)
back_kind d (counted_2 p small) all = rw (text_counted 0x4d 2 p refl) (back_2 p small all)
back_kind d (counted_4 p small) all = rw (text_counted 0x4e 4 p refl) (back_4 p small all)
back_kind d (jump code place is small) all = rw (text_jump code place is) (back_jump code place is small)
back_kind d (alone code is) all = rw (text_plain code is) (back_plain code is)

pub word_back : (d : Decoded) → IsInstruction d → word_read (text_of d) ≡ Some d
word_back d i = back_kind d (kind_of d i) (is_bytes_pushed d i)

-- two instructions have no text in common
pub one_instruction : (d e : Decoded) → IsInstruction d → IsInstruction e → text_of d ≡ text_of e → d ≡ e
one_instruction d e i j same =
    let first = word_back d i in
    let second = word_back e j in
    let both : Some d ≡ Some e = sym first ∙ (ap word_read same ∙ second) in
    cc

-- ---- texts are some bytes, and none of them is a space

free_append : (x : ℕ) (a b : List ℕ) → free x a ≡ true → free x b ≡ true → free x (a ++ b) ≡ true
free_append x [] b first second = second
free_append x (c ∷ a) b first second = let both = and_parts (not (c == x)) (free x a) first in and_from _ _ both.0 (free_append x a b both.1 second)

some_of : (text : List ℕ) → is_empty text ≡ false → 0 < length text
some_of [] is = cc
some_of (b ∷ text) is = omega arith

counted_some : (c k : ℕ) (p : List ℕ) → is_counted c ≡ true → 0 < length (text_of (pushing c p k))
counted_some c k p is = rw (text_counted c k p is) (rw length-append (rw length-append (omega arith)))

kind_some : (d : Decoded) → Kind d → 0 < length (text_of d)
kind_some d (by_length p low high) = rw (text_data p low high) (omega arith)
kind_some d (counted_1 p small) = counted_some 0x4c 1 p refl
kind_some d (counted_2 p small) = counted_some 0x4d 2 p refl
kind_some d (counted_4 p small) = counted_some 0x4e 4 p refl
kind_some d (jump code place is small) = rw (text_jump code place is) (rw length-append (rw length-append (omega arith)))
kind_some d (alone code is) = rw (text_plain code is) (some_of (name_of code) (plain_named code is).some)

pub text_some : (d : Decoded) → IsInstruction d → 0 < length (text_of d)
text_some d i = kind_some d (kind_of d i)

space_counted : (c k : ℕ) (p : List ℕ) → is_counted c ≡ true → IsBytes p → free 32 (name_of c) ≡ true → free 32 (text_of (pushing c p k)) ≡ true
space_counted c k p is all name = rw (text_counted c k p is) (free_append 32 (name_of c ++ codes ":") (encode_lower p) (free_append 32 (name_of c) (codes ":") name refl) (hex_free 32 p refl all))

counted_names : (free 32 (name_of 0x4c) ≡ true) × (free 32 (name_of 0x4d) ≡ true) × (free 32 (name_of 0x4e) ≡ true)
unfolding name_of names
counted_names = (refl, refl, refl)

jump_names : (c : ℕ) → is_jump c ≡ true → free 32 (name_of c) ≡ true
unfolding name_of names
jump_names c is = elim (jump_cases c is) [ inl e ↦ rw e refl | inr e ↦ rw e refl ]

kind_free : (d : Decoded) → Kind d → IsBytes d.pushed → free 32 (text_of d) ≡ true
kind_free d (by_length p low high) all = rw (text_data p low high) (free_append 32 (codes "0x") (encode_lower p) refl (hex_free 32 p refl all))
kind_free d (counted_1 p small) all = space_counted 0x4c 1 p refl all counted_names.0
kind_free d (counted_2 p small) all = space_counted 0x4d 2 p refl all counted_names.1
kind_free d (counted_4 p small) all = space_counted 0x4e 4 p refl all counted_names.2
kind_free d (jump code place is small) all =
    rw (text_jump code place is) (free_append 32 (name_of code ++ codes ":") (decimal place) (free_append 32 (name_of code) (codes ":") (jump_names code is) refl) (decimal_free 32 place refl small))
kind_free d (alone code is) all = rw (text_plain code is) (plain_named code is).no_space

pub text_free : (d : Decoded) → IsInstruction d → free 32 (text_of d) ≡ true
text_free d i = kind_free d (kind_of d i) (is_bytes_pushed d i)
