-- The words of a text one after the other, and the program of those before one.
use Rattle.std.proofs.Common.{◌≡◌, ℕ, suc, ◌+◌, ◌<◌, ◌≤◌, List, [], ◌∷◌, ◌++◌, length, map, take, drop, get_or, cond, Option, Some, None, Bool, true, false, refl, sym, ap, ◌∙◌, subst, arith}
use Rattle.std.specs.Prelude.{◌==◌, sum_by}
use Rattle.std.specs.List.{AllByRecursion, flat_map, join_with_byte, slice_split, onto_first}
use Rattle.std.proofs.lemmas.List.{append-nil, map-append, take_more, take_all, take-append-drop}
use Rattle.std.proofs.lemmas.List.Sums.{sum_by-cons, sum_by_push, sum_by_more_le}
use Rattle.std.proofs.Math.Seq.{drop-cons}
use Rattle.std.proofs.Math.Numerals.{add-one}
use Rattle.std.proofs.lemmas.List.Concat.{flat_map-append}
use Rattle.std.proofs.lemmas.List.Splits.{join_with_byte-slice_split, length-slice_split}
use Rattle.vm_code.specs.Instruction.{Decoded}
use Rattle.vm_code.specs.Text.{bytes_of, text_of, IsInstruction}
use Rattle.vm_code.specs.Assembly.{IsAssembly, FirstBadWord, IsWord, words}
use Rattle.vm_code.specs.declared.word.Word.{Word}
use Rattle.vm_code.specs.Written.{Says, said as said_of}
use Rattle.vm_code.specs.Word.{word_read}
use Rattle.vm_code.proofs.WordTexts.{word_reads, word_back}
use Rattle.vm_code.proofs.Listing.{all_more}

abbrev pub parts : List ℕ → List (List ℕ)
parts text = slice_split (λ c. c == 32) text

-- the first n words of a text are instructions, and this is their program
pub record Joined (text : List ℕ) (n at : ℕ) (program : List ℕ) : Type 0 where
  pub ds : List Decoded
  pub each : AllByRecursion IsInstruction ds
  pub texts : map text_of ds ≡ take n (parts text)
  pub program_is : program ≡ flat_map bytes_of ds
  pub place : at ≡ sum_by (λ w. length w + 1) (take n (parts text))

pub none_joined : (text : List ℕ) → Joined text 0 0 []
none_joined text = record { ds = []; each = tt; texts = refl; program_is = refl; place = refl }

-- ---- places

abbrev pub span : List ℕ → ℕ
span w = length w + 1

onto_span : (b : ℕ) (ps : List (List ℕ)) → 0 < length ps → sum_by span (onto_first b ps) ≡ 1 + sum_by span ps
onto_span b [] some = absurd (omega arith)
onto_span b (p ∷ ps) some = omega (arith, sum_by-cons span (b ∷ p) ps, sum_by-cons span p ps)

split_span : (b : ℕ) (text : List ℕ) (t : Bool) → sum_by span (parts text) ≡ length text + 1 → sum_by span (cond t ([] ∷ parts text) (onto_first b (parts text))) ≡ suc (length text) + 1
split_span b text true more = omega (arith, sum_by-cons span [] (parts text))
split_span b text false more = omega (arith, onto_span b (parts text) (omega (arith, length-slice_split (λ c. c == 32) text)))

-- the words and a space after each are as long as the text and one space
parts_span : (text : List ℕ) → sum_by span (parts text) ≡ length text + 1
parts_span [] = refl
parts_span (b ∷ text) = split_span b text (b == 32) (parts_span text)

-- so a word ends within the text
pub word_within : (text : List ℕ) (n at : ℕ) (program word : List ℕ) → Joined text n at program → (n < length (parts text)) × (word ≡ get_or (parts text) n word) → at + length word ≤ length text
word_within text n at program word j turn =
    let more = sum_by_more_le span (parts text) n word turn.0 in
    let here : length (get_or (parts text) n word) ≡ length word = ap length (sym turn.1) in
    omega (arith, parts_span text, j.place)

-- ---- one word more, or none

-- a word that says an instruction
says_some : (word : List ℕ) (said : Word) (o : Option Decoded) → Says (Some said) o → (d : Decoded) × (o ≡ Some d) × Says (Some said) (Some d)
says_some word said None says = absurd says
says_some word said (Some d) says = (d, refl, says)

-- its bytes do not depend on the length
same_bytes : (said : Word) (d : Decoded) → Says (Some said) (Some d) → bytes_of (said_of said) ≡ bytes_of d
unfolding bytes_of
same_bytes said d says = rw says.0 (rw says.1 (rw says.2 refl))

pub joined_word : (text : List ℕ) (n at : ℕ) (program after word : List ℕ) (d : Decoded) → Joined text n at program → (n < length (parts text)) × (word ≡ get_or (parts text) n word) → word_read word ≡ Some d → after ≡ program ++ bytes_of d → Joined text (n + 1) (at + (length word + 1)) after
joined_word text n at program after word d j turn read written =
    let reads = word_reads word d read in
    let taken : take (n + 1) (parts text) ≡ take n (parts text) ++ (word ∷ []) = take_more (parts text) n word turn.0 ∙ ap (λ w. take n (parts text) ++ (w ∷ [])) (sym turn.1) in
    record {
      ds = j.ds ++ (d ∷ []);
      each = all_more IsInstruction j.ds d j.each reads.0;
      texts = map-append text_of j.ds (d ∷ []) ∙ (ap (λ l. l ++ (text_of d ∷ [])) j.texts ∙ (ap (λ w. take n (parts text) ++ (w ∷ [])) (sym reads.1) ∙ sym taken));
      program_is = written ∙ (ap (λ l. l ++ bytes_of d) j.program_is ∙ sym (flat_map-append bytes_of j.ds (d ∷ []) ∙ ap (λ l. flat_map bytes_of j.ds ++ l) (append-nil (bytes_of d))));
      place = ap (λ (m : ℕ). m + (length word + 1)) j.place ∙ sym (ap (sum_by span) taken ∙ sum_by_push span (take n (parts text)) word);
    }

pub joined_more : (text : List ℕ) (n at : ℕ) (program after word : List ℕ) (said : Word) → Joined text n at program → (n < length (parts text)) × (word ≡ get_or (parts text) n word) → Says (Some said) (word_read word) → after ≡ program ++ bytes_of (said_of said) → Joined text (n + 1) (at + (length word + 1)) after
joined_more text n at program after word said j turn says written =
    let found = says_some word said (word_read word) says in
    joined_word text n at program after word found.0 j turn found.1 (written ∙ ap (λ l. program ++ l) (same_bytes said found.0 found.2))

pub joined_all : (text program : List ℕ) (n at : ℕ) → Joined text n at program → length (parts text) ≤ n → IsAssembly text program
joined_all text program n at j past = record {
  instructions = j.ds;
  each = j.each;
  text_is = sym (ap (join_with_byte 32) (j.texts ∙ take_all n (parts text) past) ∙ join_with_byte-slice_split 32 text);
  program_is = j.program_is;
}

words_are : (text : List ℕ) → 0 < length text → words text ≡ parts text
words_are [] some = absurd (omega arith)
words_are (b ∷ text) some = refl

texts_are_words : (ds : List Decoded) → AllByRecursion IsInstruction ds → AllByRecursion IsWord (map text_of ds)
texts_are_words [] all = tt
texts_are_words (d ∷ ds) all = ((d, all.0, refl), texts_are_words ds all.1)

are_words : (ds : List Decoded) (ws : List (List ℕ)) → AllByRecursion IsInstruction ds → map text_of ds ≡ ws → AllByRecursion IsWord ws
are_words ds ws all is = subst (AllByRecursion IsWord) is (texts_are_words ds all)

pub bad_word : (text : List ℕ) (n at : ℕ) (program word : List ℕ) → 0 < length text → Joined text n at program → (n < length (parts text)) × (word ≡ get_or (parts text) n word) → word_read word ≡ None → FirstBadWord text at
bad_word text n at program word some j turn none =
    let split : drop n (parts text) ≡ word ∷ drop (n + 1) (parts text) = rw add-one (drop-cons (parts text) n word turn.0 ∙ ap (λ w. w ∷ drop (suc n) (parts text)) (sym turn.1)) in
    record {
      before = take n (parts text);
      word = word;
      behind = drop (n + 1) (parts text);
      words_are = words_are text some ∙ (sym (take-append-drop n (parts text)) ∙ ap (λ l. take n (parts text) ++ l) split);
      each = are_words j.ds (take n (parts text)) j.each j.texts;
      none = λ w. let back : word_read word ≡ Some w.0 = ap word_read w.2 ∙ word_back w.0 w.1 in cc;
      place = j.place;
    }

pub some_bytes : (text : List ℕ) → (length text == 0) ≡ false → 0 < length text
some_bytes [] is = cc
some_bytes (b ∷ text) is = omega arith

pub says_none : (word : List ℕ) (o : Option Decoded) → Says None o → o ≡ None
says_none word None says = refl
says_none word (Some d) says = absurd says
