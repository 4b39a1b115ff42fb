-- A program is made of instructions in one way, and so is a text.
use Rattle.std.proofs.Common.{◌≡◌, ℕ, zero, suc, ◌<◌, List, [], ◌∷◌, ◌++◌, length, map, Ok, Result, true, false, refl, sym, ap, ◌∙◌, subst, arith}
use Rattle.std.specs.Prelude.{◌==◌, not, sum_by}
use Rattle.std.specs.List.{AllByRecursion, All, flat_map, join_with_byte}
use Rattle.std.proofs.lemmas.List.{append_assoc, append-nil, append_cancel_left}
use Rattle.std.proofs.lemmas.List.Splits.{slice_split_none, slice_split_at}
use Rattle.std.proofs.lemmas.Bool.{and_parts, not-true}
use Rattle.vm_code.specs.Instruction.{Decoded, Misread, decoded_front, instruction_at}
use Rattle.vm_code.specs.Text.{bytes_of, text_of, IsInstruction}
use Rattle.vm_code.specs.Assembly.{IsAssembly, FirstMisread, FirstBadWord, IsWord, words}
use Rattle.vm_code.specs.Readings.{front_begun}
use Rattle.vm_code.proofs.Named.{free}
use Rattle.vm_code.proofs.WordTexts.{one_instruction, text_some, text_free}
use Rattle.vm_code.proofs.Listing.{some_joined}
use Rattle.vm_code.proofs.Assembling.{parts, span}

-- ---- bytes

-- no instruction stands at the front
abbrev pub Stuck : List ℕ → Type 0
Stuck rest = (d : Decoded) → decoded_front rest ≡ Ok d → ⊥

stuck_none : Stuck []
stuck_none d h = cc

-- an instruction's bytes at the front are read as it
leads : (d : Decoded) (rest : List ℕ) → IsInstruction d → decoded_front (bytes_of d ++ rest) ≡ Ok d
leads d rest i = front_begun (bytes_of d) rest d i.read

abbrev answer : Decoded → Result Decoded Misread
answer d = Ok d

-- an answer has one instruction
one_read : (d e : Decoded) → answer d ≡ answer e → d ≡ e
one_read d e h = cc

pub same_front : (ds es : List Decoded) (r s : List ℕ) → AllByRecursion IsInstruction ds → AllByRecursion IsInstruction es → Stuck r → Stuck s → flat_map bytes_of ds ++ r ≡ flat_map bytes_of es ++ s → (ds ≡ es) × (r ≡ s)
same_front [] [] r s all other stuck halted h = (refl, h)
same_front [] (e ∷ es) r s all other stuck halted h =
    absurd (stuck e (ap decoded_front (h ∙ append_assoc (bytes_of e) (flat_map bytes_of es) s) ∙ leads e (flat_map bytes_of es ++ s) other.0))
same_front (d ∷ ds) [] r s all other stuck halted h =
    absurd (halted d (ap decoded_front (sym h ∙ append_assoc (bytes_of d) (flat_map bytes_of ds) r) ∙ leads d (flat_map bytes_of ds ++ r) all.0))
same_front (d ∷ ds) (e ∷ es) r s all other stuck halted h =
    let a = flat_map bytes_of ds ++ r in
    let b = flat_map bytes_of es ++ s in
    let whole : bytes_of d ++ a ≡ bytes_of e ++ b = sym (append_assoc (bytes_of d) (flat_map bytes_of ds) r) ∙ (h ∙ append_assoc (bytes_of e) (flat_map bytes_of es) s) in
    let both : answer d ≡ decoded_front (bytes_of e ++ b) = sym (leads d a all.0) ∙ ap decoded_front whole in
    let same = one_read d e (both ∙ leads e b other.0) in
    let rest : a ≡ b = append_cancel_left (bytes_of d) a b (whole ∙ ap (λ x. bytes_of x ++ b) (sym same)) in
    let more = same_front ds es r s all.1 other.1 stuck halted rest in
    (ap (λ x. x ∷ ds) same ∙ ap (λ l. e ∷ l) more.0, more.1)

pub one_list : (ds es : List Decoded) → AllByRecursion IsInstruction ds → AllByRecursion IsInstruction es → flat_map bytes_of ds ≡ flat_map bytes_of es → ds ≡ es
one_list ds es all other h = (same_front ds es [] [] all other stuck_none stuck_none (append-nil (flat_map bytes_of ds) ∙ (h ∙ sym (append-nil (flat_map bytes_of es))))).0

misread_stuck : (program : List ℕ) (kind : Misread) → (m : FirstMisread program kind) → Stuck m.rest
unfolding instruction_at
misread_stuck program kind m d h = let e = m.misread in cc

pub not_both : (text program : List ℕ) (kind : Misread) → IsAssembly text program → FirstMisread program kind → ⊥
not_both text program kind a m =
    let same = same_front a.instructions m.instructions [] m.rest a.each m.each stuck_none (misread_stuck program kind m) (append-nil (flat_map bytes_of a.instructions) ∙ (sym a.program_is ∙ m.program_is)) in
    let none : 0 ≡ length m.rest = ap length same.1 in
    omega (arith, m.some)

pub one_kind : (program : List ℕ) (j k : Misread) → FirstMisread program j → FirstMisread program k → j ≡ k
one_kind program j k m n =
    let same = same_front m.instructions n.instructions m.rest n.rest m.each n.each (misread_stuck program j m) (misread_stuck program k n) (sym m.program_is ∙ n.program_is) in
    let read : instruction_at m.rest 0 ≡ instruction_at n.rest 0 = ap (λ l. instruction_at l 0) same.1 in
    let first = m.misread in
    let second = n.misread in
    cc

-- ---- words

no_space : (w : List ℕ) → free 32 w ≡ true → All (λ x. (x == 32) ≡ false) w
no_space [] is k d below = absurd (omega arith)
no_space (b ∷ w) is zero d below = not-true (b == 32) (and_parts (not (b == 32)) (free 32 w) is).0
no_space (b ∷ w) is (suc k) d below = no_space w (and_parts (not (b == 32)) (free 32 w) is).1 k d (omega arith)

abbrev Spaceless : List (List ℕ) → Type 0
Spaceless ws = AllByRecursion (λ w. free 32 w ≡ true) ws

texts_spaceless : (ds : List Decoded) → AllByRecursion IsInstruction ds → Spaceless (map text_of ds)
texts_spaceless [] all = tt
texts_spaceless (d ∷ ds) all = (text_free d all.0, texts_spaceless ds all.1)

split_joined : (w : List ℕ) (ws : List (List ℕ)) → free 32 w ≡ true → Spaceless ws → parts (join_with_byte 32 (w ∷ ws)) ≡ w ∷ ws
split_joined w [] is all = slice_split_none (λ c. c == 32) w (no_space w is)
split_joined w (v ∷ ws) is all =
    slice_split_at (λ c. c == 32) w 32 (join_with_byte 32 (v ∷ ws)) (no_space w is) refl ∙ ap (λ l. w ∷ l) (split_joined v ws all.0 all.1)

words_of : (text : List ℕ) → 0 < length text → words text ≡ parts text
words_of [] some = absurd (omega arith)
words_of (b ∷ text) some = refl

-- the words of a text are the texts of its instructions
pub words_joined : (ds : List Decoded) → AllByRecursion IsInstruction ds → words (join_with_byte 32 (map text_of ds)) ≡ map text_of ds
words_joined [] all = refl
words_joined (d ∷ ds) all =
    words_of (join_with_byte 32 (map text_of (d ∷ ds))) (some_joined (text_of d) (map text_of ds) (text_some d all.0))
    ∙ split_joined (text_of d) (map text_of ds) (text_free d all.0) (texts_spaceless ds all.1)

pub same_texts : (ds es : List Decoded) → AllByRecursion IsInstruction ds → AllByRecursion IsInstruction es → map text_of ds ≡ map text_of es → ds ≡ es
same_texts [] [] all other h = refl
same_texts [] (e ∷ es) all other h = cc
same_texts (d ∷ ds) [] all other h = cc
same_texts (d ∷ ds) (e ∷ es) all other h =
    let first : text_of d ≡ text_of e = cc in
    let more : map text_of ds ≡ map text_of es = cc in
    ap (λ x. x ∷ ds) (one_instruction d e all.0 other.0 first) ∙ ap (λ l. e ∷ l) (same_texts ds es all.1 other.1 more)

pub one_program : (text p q : List ℕ) → IsAssembly text p → IsAssembly text q → p ≡ q
one_program text p q a b =
    let words_same : map text_of a.instructions ≡ map text_of b.instructions =
    sym (words_joined a.instructions a.each) ∙ (ap words (sym a.text_is ∙ b.text_is) ∙ words_joined b.instructions b.each) in
    a.program_is ∙ (ap (flat_map bytes_of) (same_texts a.instructions b.instructions a.each b.each words_same) ∙ sym b.program_is)

pub one_text : (s t program : List ℕ) → IsAssembly s program → IsAssembly t program → s ≡ t
one_text s t program a b =
    let same = one_list a.instructions b.instructions a.each b.each (sym a.program_is ∙ b.program_is) in
    a.text_is ∙ (ap (λ ds. join_with_byte 32 (map text_of ds)) same ∙ sym b.text_is)

texts_words : (ds : List Decoded) → AllByRecursion IsInstruction ds → AllByRecursion IsWord (map text_of ds)
texts_words [] all = tt
texts_words (d ∷ ds) all = ((d, all.0, refl), texts_words ds all.1)

-- of words that all say something none says nothing
none_bad : (ws before : List (List ℕ)) (word : List ℕ) (behind : List (List ℕ)) → AllByRecursion IsWord ws → ws ≡ before ++ (word ∷ behind) → (IsWord word → ⊥) → ⊥
none_bad [] [] word behind all h bad = cc
none_bad [] (w ∷ before) word behind all h bad = cc
none_bad (w ∷ ws) [] word behind all h bad = let same : w ≡ word = cc in bad (subst IsWord same all.0)
none_bad (w ∷ ws) (v ∷ before) word behind all h bad = let more : ws ≡ before ++ (word ∷ behind) = cc in none_bad ws before word behind all.1 more bad

pub not_bad : (text program : List ℕ) (at : ℕ) → IsAssembly text program → FirstBadWord text at → ⊥
not_bad text program at a b =
    let same : map text_of a.instructions ≡ b.before ++ (b.word ∷ b.behind) = sym (words_joined a.instructions a.each) ∙ (ap words (sym a.text_is) ∙ b.words_are) in
    none_bad (map text_of a.instructions) b.before b.word b.behind (texts_words a.instructions a.each) same b.none

same_before : (xs ys : List (List ℕ)) (w v : List ℕ) (us vs : List (List ℕ)) → AllByRecursion IsWord xs → AllByRecursion IsWord ys → (IsWord w → ⊥) → (IsWord v → ⊥) → xs ++ (w ∷ us) ≡ ys ++ (v ∷ vs) → xs ≡ ys
same_before [] [] w v us vs all other bad worse h = refl
same_before [] (y ∷ ys) w v us vs all other bad worse h = let same : y ≡ w = cc in absurd (bad (subst IsWord same other.0))
same_before (x ∷ xs) [] w v us vs all other bad worse h = let same : x ≡ v = cc in absurd (worse (subst IsWord same all.0))
same_before (x ∷ xs) (y ∷ ys) w v us vs all other bad worse h =
    let first : x ≡ y = cc in
    let more : xs ++ (w ∷ us) ≡ ys ++ (v ∷ vs) = cc in
    ap (λ z. z ∷ xs) first ∙ ap (λ l. y ∷ l) (same_before xs ys w v us vs all.1 other.1 bad worse more)

pub one_place : (text : List ℕ) (i j : ℕ) → FirstBadWord text i → FirstBadWord text j → i ≡ j
one_place text i j a b =
    let same = same_before a.before b.before a.word b.word a.behind b.behind a.each b.each a.none b.none (sym a.words_are ∙ b.words_are) in
    a.place ∙ (ap (sum_by span) same ∙ sym b.place)
