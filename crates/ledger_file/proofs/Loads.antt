-- Bytes are the file of one ledger, or have one fault.
use Rattle.std.proofs.Common.{◌≡◌, ℕ, suc, List, [], ◌∷◌, ◌++◌, length, Option, Some, None, Result, Ok, Err, refl, sym, ◌∙◌, ap, subst, append_assoc}
use Rattle.std.proofs.lemmas.List.{append-nil}
use Rattle.wire.specs.Files.{FileFault}
use Rattle.wire.specs.Spelling.{AreBytes}
use Rattle.data_model.specs.declared.block.Block.{Block}
use Rattle.data_model.specs.Files.{BlocksReadAs, BlockFileLaws}
use Rattle.keyed.specs.Functions.{Check}
use Rattle.ledger_core.specs.declared.refusal.BlockRefusal.{BlockRefusal}
use Rattle.ledger_core.specs.declared.refusal.StartFault.{StartFault}
use Rattle.ledger_core.specs.Refusal.{Refusal, ValidNext}
use Rattle.keyed.specs.Functions.{Hash}
use Rattle.ledger_core.specs.Start.{StartRefusal}
use Rattle.ledger_core.specs.Chain.{GoesOn, Chain}
use Rattle.ledger_core.specs.Laws.{TableLaws, RefusalLaws, ChainLaws}
use Rattle.ledger_file.specs.Laws.{LoadLaws}
use Rattle.ledger_file.specs.Loading.{LoadsAs, empty, no_frames, no_start, no_next, chain}
use Rattle.ledger_file.specs.declared.fault.LoadFault.{LoadFault}
use Rattle.ledger_file.specs.declared.fault.LoadFault.TheVariants as faults

-- ---- chains

one_front : (x y : Block) (xs ys : List Block) → x ∷ xs ≡ y ∷ ys → (x ≡ y) × (xs ≡ ys)
one_front x y xs ys e = (cc, cc)

no_cons : (x : Block) (xs : List Block) → [] ≡ x ∷ xs → ⊥
no_cons x xs e = cc

no_behind : (xs : List Block) (y : Block) (ys : List Block) → [] ≡ xs ++ y ∷ ys → ⊥
no_behind [] y ys e = cc
no_behind (x ∷ xs) y ys e = cc

line_twice : (line : BlockRefusal) → Some line ≡ None → ⊥
line_twice line e = cc

same_line : (m n : BlockRefusal) → Some m ≡ Some n → m ≡ n
same_line m n e = cc

module _ (hash : Hash) (check : Check) (tables : TableLaws hash check) (refusals : RefusalLaws hash check) where
  start_twice : (i : Block) (f : StartFault) → StartRefusal hash i (Some f) → StartRefusal hash i None → ⊥
  start_twice i f some gone = (let e : Some f ≡ None = (tables.start i).one (Some f) None some.first gone.first in cc)

  one_refusal : (bs : List Block) (b : Block) (m n : Option BlockRefusal) → Refusal hash check bs b m → Refusal hash check bs b n → m ≡ n
  one_refusal bs b m n p q = refusals.one bs b m n p q

  -- a block that extends the chain is not refused
  extends_or_not : (bs : List Block) (b c : Block) (m : BlockRefusal) → b ≡ c → ValidNext hash check bs b → Refusal hash check bs c (Some m) → ⊥
  extends_or_not bs b c m same valid why =
      line_twice m (one_refusal bs c (Some m) None why (subst (λ (x : Block). ValidNext hash check bs x) same valid))

  -- what is refused after a front, and what goes on after the front with one block more
  abbrev RefusedBehind : List Block → List Block → Block → BlockRefusal → Type 0
  RefusedBehind front xs b m = Refusal hash check (front ++ xs) b (Some m)

  at_front : (front : List Block) (b : Block) (m : BlockRefusal) → RefusedBehind front [] b m → Refusal hash check front b (Some m)
  at_front front b m why = subst (λ (bs : List Block). Refusal hash check bs b (Some m)) (append-nil front) why

  moved : (front : List Block) (x : Block) (xs : List Block) (b : Block) (m : BlockRefusal) → RefusedBehind front (x ∷ xs) b m → RefusedBehind (front ++ x ∷ []) xs b m
  moved front x xs b m why = subst (λ (bs : List Block). Refusal hash check bs b (Some m)) (sym (append_assoc front (x ∷ []) xs)) why

  -- two blocks that are the first refused ones of a list
  one_bad : (front xs ys : List Block) (b c : Block) (us vs : List Block) (m n : BlockRefusal) → xs ++ b ∷ us ≡ ys ++ c ∷ vs → GoesOn hash check front xs → GoesOn hash check front ys → RefusedBehind front xs b m → RefusedBehind front ys c n → (length xs ≡ length ys) × (m ≡ n)
  one_bad front [] [] b c us vs m n e go on why not =
      let same : b ≡ c = (one_front b c us vs e).0 in
      let here = subst (λ (x : Block). Refusal hash check front x (Some m)) same (at_front front b m why) in
      (refl, same_line m n (one_refusal front c (Some m) (Some n) here (at_front front c n not)))
  one_bad front [] (y ∷ ys) b c us vs m n e go on why not =
      let same : y ≡ b = sym (one_front b y us (ys ++ c ∷ vs) e).0 in
      absurd (extends_or_not front y b m same on.0 (at_front front b m why))
  one_bad front (x ∷ xs) [] b c us vs m n e go on why not =
      let same : x ≡ c = (one_front x c (xs ++ b ∷ us) vs e).0 in
      absurd (extends_or_not front x c n same go.0 (at_front front c n not))
  one_bad front (x ∷ xs) (y ∷ ys) b c us vs m n e go on why not =
      let both = one_front x y (xs ++ b ∷ us) (ys ++ c ∷ vs) e in
      let there : GoesOn hash check (front ++ x ∷ []) ys = subst (λ (z : Block). GoesOn hash check (front ++ z ∷ []) ys) (sym both.0) on.1 in
      let last : RefusedBehind (front ++ x ∷ []) ys c n = subst (λ (z : Block). RefusedBehind (front ++ z ∷ []) ys c n) (sym both.0) (moved front y ys c n not) in
      let rest = one_bad (front ++ x ∷ []) xs ys b c us vs m n both.1 go.1 there (moved front x xs b m why) last in
      (ap suc rest.0, rest.1)

  -- a list that goes on has no refused block
  none_bad : (front xs : List Block) (b : Block) (us : List Block) (m : BlockRefusal) → GoesOn hash check front (xs ++ b ∷ us) → RefusedBehind front xs b m → ⊥
  none_bad front [] b us m go why = extends_or_not front b b m refl go.0 (at_front front b m why)
  none_bad front (x ∷ xs) b us m go why = none_bad (front ++ x ∷ []) xs b us m go.1 (moved front x xs b m why)

  -- a chain has no refused block
  chain_good : (before : List Block) (b : Block) (later : List Block) (m : BlockRefusal) → Chain hash check (before ++ b ∷ later) → Chain hash check before → Refusal hash check before b (Some m) → ⊥
  chain_good [] b later m all front why = front
  chain_good (i ∷ before) b later m all front why = none_bad (i ∷ []) before b later m all.1 why

  chain_starts : (i : Block) (later : List Block) (f : StartFault) → Chain hash check (i ∷ later) → StartRefusal hash i (Some f) → ⊥
  chain_starts i later f all is = start_twice i f is all.0

  -- the first block of what is a chain up to a refused one starts it
  begins : (i : Block) (later before : List Block) (b : Block) (us : List Block) (f : StartFault) → i ∷ later ≡ before ++ b ∷ us → Chain hash check before → StartRefusal hash i (Some f) → ⊥
  begins i later [] b us f e front is = front
  begins i later (j ∷ before) b us f e front is =
      let same : j ≡ i = sym (one_front i j later (before ++ b ∷ us) e).0 in
      start_twice i f is (subst (λ (x : Block). StartRefusal hash x None) same front.0)

  two_bad : (before others : List Block) (b c : Block) (us vs : List Block) (m n : BlockRefusal) → before ++ b ∷ us ≡ others ++ c ∷ vs → Chain hash check before → Chain hash check others → Refusal hash check before b (Some m) → Refusal hash check others c (Some n) → (length before ≡ length others) × (m ≡ n)
  two_bad [] others b c us vs m n e front there why not = absurd front
  two_bad (i ∷ before) [] b c us vs m n e front there why not = absurd there
  two_bad (i ∷ before) (j ∷ others) b c us vs m n e front there why not =
      let both = one_front i j (before ++ b ∷ us) (others ++ c ∷ vs) e in
      let goes : GoesOn hash check (i ∷ []) others = subst (λ (x : Block). GoesOn hash check (x ∷ []) others) (sym both.0) there.1 in
      let last : RefusedBehind (i ∷ []) others c n = subst (λ (x : Block). RefusedBehind (x ∷ []) others c n) (sym both.0) not in
      let rest = one_bad (i ∷ []) before others b c us vs m n both.1 front.1 goes why last in
      (ap suc rest.0, rest.1)

-- ---- loads

module _ (files : BlockFileLaws) (hash : Hash) (check : Check) (tables : TableLaws hash check) (refusals : RefusalLaws hash check) (chains : ChainLaws hash check) (bytes : List ℕ) (are : AreBytes bytes) where
  -- there is one

  go_on : (all before rest : List Block) → BlocksReadAs bytes (Ok all) → all ≡ before ++ rest → Chain hash check before → (r : Result (List Block) LoadFault) × LoadsAs hash check bytes r
  go_on all before [] reads is front = (Ok all, chain reads (subst (Chain hash check) (sym (is ∙ append-nil before)) front))
  go_on all before (block ∷ rest) reads is front =
      by_refusal (refusals.some before block (chains.not_empty before front))
      (λ valid. go_on all (before ++ block ∷ []) rest reads (is ∙ sym (append_assoc before (block ∷ []) rest)) (chains.grows before block front valid))
    where
      by_refusal : (line : Option BlockRefusal) × Refusal hash check before block line → (ValidNext hash check before block → (r : Result (List Block) LoadFault) × LoadsAs hash check bytes r) → (r : Result (List Block) LoadFault) × LoadsAs hash check bytes r
      by_refusal (Some line, first) more = (_, no_next before block rest (subst (λ (bs : List Block). BlocksReadAs bytes (Ok bs)) is reads) front first)
      by_refusal (None, valid) more = more valid

  by_start : (initial : Block) (later : List Block) → BlocksReadAs bytes (Ok (initial ∷ later)) → (fault : Option StartFault) → StartRefusal hash initial fault → (r : Result (List Block) LoadFault) × LoadsAs hash check bytes r
  by_start initial later reads (Some fault) is = (_, no_start initial later reads is)
  by_start initial later reads None is = go_on (initial ∷ later) (initial ∷ []) later reads refl (is, tt)

  by_reading : (reading : Result (List Block) FileFault) → BlocksReadAs bytes reading → (r : Result (List Block) LoadFault) × LoadsAs hash check bytes r
  by_reading (Err f) first = (_, no_frames first)
  by_reading (Ok []) reads = (_, empty reads.1)
  by_reading (Ok (initial ∷ later)) reads = (let one = (tables.start initial).some in by_start initial later reads one.0 (record { first = one.1 }))

  some_load : (r : Result (List Block) LoadFault) × LoadsAs hash check bytes r
  some_load = (let all = files.frames.file.reads bytes are in by_reading all.0 all.1)

  -- and no two

  same_blocks : (xs ys : List Block) → BlocksReadAs bytes (Ok xs) → BlocksReadAs bytes (Ok ys) → xs ≡ ys
  same_blocks xs ys p q = (let e = files.frames.file.one_reading bytes (Ok xs) (Ok ys) are p q in cc)

  same_fault : (f g : FileFault) → BlocksReadAs bytes (Err f) → BlocksReadAs bytes (Err g) → f ≡ g
  same_fault f g p q = (let e = files.frames.file.one_reading bytes (Err f) (Err g) are p q in cc)

  read_twice : (xs : List Block) (f : FileFault) → BlocksReadAs bytes (Ok xs) → BlocksReadAs bytes (Err f) → ⊥
  read_twice xs f p q = (let e = files.frames.file.one_reading bytes (Ok xs) (Err f) are p q in cc)

  -- bytes that are none read as no blocks
  none_read : bytes ≡ [] → BlocksReadAs bytes (Ok [])
  none_read is = (tt, is)

  abbrev frame_fault : FileFault → Result (List Block) LoadFault
  frame_fault f = Err (faults.Frame f.index f.at f.kind)

  one_load : (r s : Result (List Block) LoadFault) → LoadsAs hash check bytes r → LoadsAs hash check bytes s → r ≡ s
  one_load r s (empty is) (empty be) = refl
  one_load r s (empty is) (no_frames {fault = f} first) = absurd (read_twice [] f (none_read is) first)
  one_load r s (empty is) (no_start i later reads why) = absurd (no_cons i later (same_blocks [] (i ∷ later) (none_read is) reads))
  one_load r s (empty is) (no_next before b later reads front why) = absurd (no_behind before b later (same_blocks [] _ (none_read is) reads))
  one_load r s (empty is) (chain {blocks = bs} reads front) = absurd (subst (Chain hash check) (sym (same_blocks [] bs (none_read is) reads)) front)
  one_load r s (no_frames {fault = f} first) (empty be) = absurd (read_twice [] f (none_read be) first)
  one_load r s (no_frames {fault = f} first) (no_frames {fault = g} other) = ap frame_fault (same_fault f g first other)
  one_load r s (no_frames {fault = f} first) (no_start i later reads why) = absurd (read_twice (i ∷ later) f reads first)
  one_load r s (no_frames {fault = f} first) (no_next before b later reads front why) = absurd (read_twice _ f reads first)
  one_load r s (no_frames {fault = f} first) (chain reads front) = absurd (read_twice _ f reads first)
  one_load r s (no_start i later reads why) (empty be) = absurd (no_cons i later (same_blocks [] (i ∷ later) (none_read be) reads))
  one_load r s (no_start i later reads why) (no_frames {fault = f} first) = absurd (read_twice (i ∷ later) f reads first)
  one_load r s (no_start i later {why = f} reads why) (no_start j others {why = g} again not) =
      let first : i ≡ j = (one_front i j later others (same_blocks _ _ reads again)).0 in
      let there : StartRefusal hash j (Some f) = subst (λ (x : Block). StartRefusal hash x (Some f)) first why in
      let alike : Some f ≡ Some g = (tables.start j).one (Some f) (Some g) there.first not.first in
      let same : f ≡ g = cc in
      ap (λ (x : StartFault). Err (faults.Start x)) same
  one_load r s (no_start i later {why = f} reads why) (no_next before b us again front not) = absurd (begins hash check tables refusals i later before b us f (same_blocks _ _ reads again) front why)
  one_load r s (no_start i later {why = f} reads why) (chain {blocks = bs} again front) =
      absurd (chain_starts hash check tables refusals i later f (subst (Chain hash check) (sym (same_blocks (i ∷ later) bs reads again)) front) why)
  one_load r s (no_next before b us reads front why) (empty be) = absurd (no_behind before b us (same_blocks [] _ (none_read be) reads))
  one_load r s (no_next before b us reads front why) (no_frames {fault = f} first) = absurd (read_twice _ f reads first)
  one_load r s (no_next before b us reads front why) (no_start i later {why = f} again not) = absurd (begins hash check tables refusals i later before b us f (same_blocks _ _ again reads) front not)
  one_load r s (no_next before b us {why = m} reads front why) (no_next others c vs {why = n} again there not) =
      let both = two_bad hash check tables refusals before others b c us vs m n (same_blocks _ _ reads again) front there why not in
      ap (λ (k : ℕ). Err (faults.Block k m)) both.0 ∙ ap (λ (x : BlockRefusal). Err (faults.Block (length others) x)) both.1
  one_load r s (no_next before b us {why = m} reads front why) (chain {blocks = bs} again all) =
      absurd (chain_good hash check tables refusals before b us m (subst (Chain hash check) (sym (same_blocks _ _ reads again)) all) front why)
  one_load r s (chain {blocks = bs} reads front) (empty be) = absurd (subst (Chain hash check) (sym (same_blocks [] bs (none_read be) reads)) front)
  one_load r s (chain reads front) (no_frames {fault = f} first) = absurd (read_twice _ f reads first)
  one_load r s (chain {blocks = bs} reads front) (no_start i later {why = f} again why) =
      absurd (chain_starts hash check tables refusals i later f (subst (Chain hash check) (same_blocks bs (i ∷ later) reads again) front) why)
  one_load r s (chain {blocks = bs} reads all) (no_next before b us {why = m} again front why) =
      absurd (chain_good hash check tables refusals before b us m (subst (Chain hash check) (same_blocks _ _ reads again) all) front why)
  one_load r s (chain {blocks = xs} reads front) (chain {blocks = ys} again other) = ap (λ (bs : List Block). Ok bs) (same_blocks xs ys reads again)

-- ---- the laws

pub load_laws : BlockFileLaws → (hash : Hash) (check : Check) → TableLaws hash check → RefusalLaws hash check → ChainLaws hash check → LoadLaws hash check
load_laws files hash check tables refusals chains = record {
  some = λ bytes are. some_load files hash check tables refusals chains bytes are;
  one = λ bytes a b are is be. one_load files hash check tables refusals chains bytes are a b is be;
}
