-- Instructions one after the other: their bytes, and their texts with a space between two.
use Rattle.std.proofs.Common.{◌≡◌, ℕ, ◌+◌, ◌<◌, ◌≤◌, List, [], ◌∷◌, ◌++◌, length, map, drop, Ok, Err, Result, refl, sym, ap, ◌∙◌, subst, arith, length-append, length-drop}
use Rattle.std.specs.Prelude.{IfErr}
use Rattle.std.specs.Result.{IsErrAnd}
use Rattle.std.specs.List.{AllByRecursion, flat_map, join_with_byte}
use Rattle.std.proofs.Math.ListN.{drop_of_length-le}
use Rattle.std.proofs.lemmas.List.{append_assoc, append-nil, drop_at, map-append}
use Rattle.std.proofs.lemmas.List.Concat.{flat_map-append}
use Rattle.hex.specs.Hex.{IsBytes}
use Rattle.vm_code.specs.declared.CodeFault.{CodeFault}
use Rattle.vm_code.specs.declared.CodeFault.TheVariants as faults
use Rattle.vm_code.specs.Seen.{Reads}
use Rattle.vm_code.specs.Instruction.{Decoded, Misread, Short, BadOpcode, instruction_at, decoded_front}
use Rattle.vm_code.specs.Text.{bytes_of, text_of, IsInstruction}
use Rattle.vm_code.specs.Assembly.{IsAssembly, FirstMisread, IsMisread}
use Rattle.vm_code.specs.Written.{with_word}
use Rattle.vm_code.proofs.Splits.{split_front}
use Rattle.vm_code.proofs.Again.{is_instruction, pushed_from, pushed_of, is_bytes_front}
use Rattle.vm_code.proofs.WordTexts.{text_some}

-- ---- what is read is an instruction

pub instruction_read : (b : List ℕ) (d : Decoded) → IsBytes b → decoded_front b ≡ Ok d → IsInstruction d
instruction_read b d all read =
    let s = split_front b d all read in
    let front : IsBytes (bytes_of d) = is_bytes_front (bytes_of d) s.rest (subst IsBytes s.whole all) in
    is_instruction d s.kind (pushed_of d front)

-- ---- texts with a space between two

abbrev AreSome : List (List ℕ) → Type 0
AreSome words = AllByRecursion (λ w. 0 < length w) words

with_word_some : (text word : List ℕ) → 0 < length text → with_word text word ≡ text ++ (32 ∷ word)
with_word_some [] word some = absurd (omega arith)
with_word_some (b ∷ text) word some = refl

pub some_joined : (word : List ℕ) (words : List (List ℕ)) → 0 < length word → 0 < length (join_with_byte 32 (word ∷ words))
some_joined word [] some = some
some_joined word (next ∷ words) some = simp length-append (omega arith)

join_more : (words : List (List ℕ)) (word : List ℕ) → AreSome words → join_with_byte 32 (words ++ (word ∷ [])) ≡ with_word (join_with_byte 32 words) word
join_more [] word all = refl
join_more (first ∷ []) word all = sym (with_word_some first word all.0)
join_more (first ∷ second ∷ words) word all =
    let later : List ℕ = join_with_byte 32 (second ∷ words) in
    let more : join_with_byte 32 (second ∷ words ++ (word ∷ [])) ≡ later ++ (32 ∷ word) = join_more (second ∷ words) word all.1 ∙ with_word_some later word (some_joined second words all.1.0) in
    ap (λ l. first ++ (32 ∷ l)) more ∙ (sym (append_assoc first (32 ∷ later) (32 ∷ word)) ∙ sym (with_word_some (first ++ (32 ∷ later)) word (some_joined first (second ∷ words) all.0)))

pub texts_some : (ds : List Decoded) → AllByRecursion IsInstruction ds → AreSome (map text_of ds)
texts_some [] all = tt
texts_some (d ∷ ds) all = (text_some d all.0, texts_some ds all.1)

pub all_more : {X : Type 0} (P : X → Type 0) (xs : List X) (x : X) → AllByRecursion P xs → P x → AllByRecursion P (xs ++ (x ∷ []))
all_more P [] x all this = (this, tt)
all_more P (y ∷ xs) x all this = (all.0, all_more P xs x all.1 this)

-- ---- a program that is read up to a place, and its text

pub record Reached (program text : List ℕ) (at : ℕ) : Type 0 where
  pub ds : List Decoded
  pub each : AllByRecursion IsInstruction ds
  pub text_is : text ≡ join_with_byte 32 (map text_of ds)
  pub front : program ≡ flat_map bytes_of ds ++ drop at program
  pub at_is : at ≡ length (flat_map bytes_of ds)

pub at_start : (program : List ℕ) → Reached program [] 0
at_start program = record { ds = []; each = tt; text_is = refl; front = refl; at_is = refl }

pub one_more : (program text after : List ℕ) (at : ℕ) (d : Decoded) → IsBytes program → Reached program text at → instruction_at program at ≡ Ok d → after ≡ with_word text (text_of d) → Reached program after (at + d.len)
unfolding instruction_at
one_more program text after at d all r read written =
    let b = drop at program in
    let bytes : IsBytes b = pushed_from (flat_map bytes_of r.ds) b program r.front all in
    let s = split_front b d bytes read in
    let i = instruction_read b d bytes read in
    let done = flat_map bytes_of r.ds in
    let more : flat_map bytes_of (r.ds ++ (d ∷ [])) ≡ done ++ bytes_of d = flat_map-append bytes_of r.ds (d ∷ []) ∙ ap (λ l. done ++ l) (append-nil (bytes_of d)) in
    let long : at + d.len ≡ length (done ++ bytes_of d) = let a = r.at_is in let e = s.len in simp length-append (omega arith) in
    let whole : program ≡ (done ++ bytes_of d) ++ s.rest = r.front ∙ (ap (λ l. done ++ l) s.whole ∙ sym (append_assoc done (bytes_of d) s.rest)) in
    let behind : drop (at + d.len) program ≡ s.rest = ap (drop (at + d.len)) whole ∙ drop_at (done ++ bytes_of d) s.rest (at + d.len) (sym long) in
    let texts : after ≡ join_with_byte 32 (map text_of (r.ds ++ (d ∷ []))) =
    written ∙ (ap (λ t. with_word t (text_of d)) r.text_is ∙ (sym (join_more (map text_of r.ds) (text_of d) (texts_some r.ds r.each)) ∙ ap (join_with_byte 32) (sym (map-append text_of r.ds (d ∷ []))))) in
    record {
      ds = r.ds ++ (d ∷ []);
      each = all_more IsInstruction r.ds d r.each i;
      text_is = texts;
      front = whole ∙ (ap (λ l. l ++ s.rest) (sym more) ∙ ap (λ l. flat_map bytes_of (r.ds ++ (d ∷ [])) ++ l) (sym behind));
      at_is = long ∙ ap length (sym more);
    }

pub at_end : (program text : List ℕ) (at : ℕ) → Reached program text at → length program ≤ at → IsAssembly text program
at_end program text at r past = record {
  instructions = r.ds;
  each = r.each;
  text_is = r.text_is;
  program_is = r.front ∙ (ap (λ l. flat_map bytes_of r.ds ++ l) (drop_of_length-le program past) ∙ append-nil (flat_map bytes_of r.ds));
}

pub stopped : (program text : List ℕ) (at : ℕ) (kind : Misread) → Reached program text at → at < length program → instruction_at program at ≡ Err kind → FirstMisread program kind
unfolding instruction_at
stopped program text at kind r below read = record {
  instructions = r.ds;
  each = r.each;
  rest = drop at program;
  program_is = r.front;
  some = simp length-drop (omega arith);
  misread = read;
}

pub fault_of : (program text : List ℕ) (at : ℕ) (fault : CodeFault) → Reached program text at → at < length program → Reads (Err fault) (instruction_at program at) → IsMisread program fault
fault_of program text at faults.Short r below reads = stopped program text at Short r below reads
fault_of program text at faults.BadOpcode r below reads = stopped program text at BadOpcode r below reads
fault_of program text at faults.NoMemory r below reads = tt

-- a fault that is handed on
pub told_on : {T : Type 0} (program : List ℕ) (result : Result T CodeFault) (fault : CodeFault) → IsErrAnd result (λ e. e ≡ fault) → IsMisread program fault → IfErr result (λ e. IsMisread program e)
told_on program (Ok text) fault is told = absurd is
told_on program (Err e) fault is told = subst (IsMisread program) (sym is) told
