-- What a crash leaves of a ledger that `apply` appends to.
use Rattle.std.proofs.Common.{◌≡◌, ◌≢◌, ◌⊎◌, ℕ, suc, ◌≤◌, true, false, List, [], ◌∷◌, ◌++◌, length, Some, None, inl, inr, refl, sym, ◌∙◌, ap, subst, append_assoc, arith}
use Rattle.std.specs.List.{All}
use Rattle.std.specs.Str.{bytes_eq}
use Rattle.std.proofs.lemmas.Bool.{MatchBool-at_true, cases_eq}
use Rattle.std.proofs.lemmas.List.{append-nil}
use Rattle.std.proofs.lemmas.List.Elements.{All-nil, All-cons}
use Rattle.data_model.specs.declared.block.Block.{Block}
use Rattle.keyed.specs.Functions.{Check, Hash}
use Rattle.outside.specs.Files.{Content, Write, Append, bytes_in, write_of, IsAppended}
use Rattle.outside.specs.Crash.{State, StepAt, Leads, MayLeave, cut_short, IsMoment}
use Rattle.outside.specs.CrashLaws.{MomentsJoin, OthersStay, StartsKept}
use Rattle.replies.specs.Answer.{done_of}
use Rattle.data_model.specs.Files.{block_frame}
use Rattle.ledger_file.specs.Files.{file_spelling}
use Rattle.chain_top.specs.Growth.{HoldsBlocks, appends, Grows, IsTorn, LeavesFront, ApplyCrash, GrowthLaws, CrashLaws}
use Rattle.replies.specs.Reply.{Reply}
use Rattle.replies.specs.Steps.{writes_of}
use Rattle.word_lines.specs.Word.{Word}
use Rattle.chain_top.proofs.Growing.{same_name}

-- ---- moments

-- a moment of the first of some writes
pub moment_more : (ws vs seen : List Write) → IsMoment ws seen → IsMoment (ws ++ vs) seen
moment_more ws vs seen (inl (rest, e)) = inl (rest ++ vs, ap (λ (x : List Write). x ++ vs) e ∙ append_assoc seen rest vs)
moment_more ws vs seen (inr (before, w, rest, e, s)) = inr (before, w, rest ++ vs, ap (λ (x : List Write). x ++ vs) e ∙ append_assoc before (w ∷ rest) vs, s)

no_write : (w : Write) (ws : List Write) → [] ≡ w ∷ ws → ⊥
no_write w ws e = cc

none_begun : (seen : List Write) → IsMoment [] seen → seen ≡ []
none_begun [] m = refl
none_begun (v ∷ seen) (inl (rest, is)) = absurd (no_write v (seen ++ rest) is)
none_begun (v ∷ seen) (inr ([], w, rest, is, cut)) = absurd (no_write w rest is)
none_begun (v ∷ seen) (inr (b ∷ before, w, rest, is, cut)) = absurd (no_write b (before ++ w ∷ rest) is)

-- a moment of a run with one write more in front: before that write, in it, or after it
abbrev Front : Write → List Write → List Write → Type 0
Front w ws seen = (seen ≡ []) ⊎ ((seen ≡ cut_short w ∷ []) ⊎ ((later : List Write) × IsMoment ws later × (seen ≡ w ∷ later)))

front_of : (w : Write) (ws seen : List Write) → IsMoment (w ∷ ws) seen → Front w ws seen
front_of w ws [] (inl (rest, is)) = inl refl
front_of w ws (v ∷ seen) (inl (rest, is)) =
    let first : v ≡ w = cc in
    let others : ws ≡ seen ++ rest = cc in
    inr (inr (seen, inl (rest, others), ap (λ (x : Write). x ∷ seen) first))
front_of w ws seen (inr ([], v, rest, is, cut)) =
    let first : v ≡ w = cc in
    inr (inl (cut ∙ ap (λ (x : Write). cut_short x ∷ []) first))
front_of w ws seen (inr (b ∷ before, v, rest, is, cut)) =
    let first : b ≡ w = cc in
    let others : ws ≡ before ++ v ∷ rest = cc in
    inr (inr (before ++ cut_short v ∷ [], inr (before, v, rest, others, refl), cut ∙ ap (λ (x : Write). x ∷ (before ++ cut_short v ∷ [])) first))

-- a moment of what had been begun at a moment
nested : MomentsJoin → (ws begun seen : List Write) → IsMoment ws begun → IsMoment begun seen → IsMoment ws seen
nested join ws begun seen (inl (rest, is)) part = subst (λ (xs : List Write). IsMoment xs seen) (sym is) (moment_more begun rest seen part)
nested join ws begun seen (inr (before, w, rest, is, cut)) part =
    by_part ((join before (cut_short w ∷ []) seen).0 (subst (λ (xs : List Write). IsMoment xs seen) cut part))
  where
    in_cut : (later : List Write) → seen ≡ before ++ later → Front (cut_short w) [] later → IsMoment ws seen
    in_cut later front (inl none) = inl (w ∷ rest, is ∙ ap (λ (xs : List Write). xs ++ w ∷ rest) (sym (front ∙ ap (λ (xs : List Write). before ++ xs) none ∙ append-nil before)))
    in_cut later front (inr (inl again)) = inr (before, w, rest, is, front ∙ ap (λ (xs : List Write). before ++ xs) again)
    in_cut later front (inr (inr (more, nothing, whole))) =
        inr (before, w, rest, is, front ∙ ap (λ (xs : List Write). before ++ xs) (whole ∙ ap (λ (xs : List Write). cut_short w ∷ xs) (none_begun more nothing)))

    by_part : IsMoment before seen ⊎ ((later : List Write) × IsMoment (cut_short w ∷ []) later × (seen ≡ before ++ later)) → IsMoment ws seen
    by_part (inl early) = subst (λ (xs : List Write). IsMoment xs seen) (sym is) (moment_more before (w ∷ rest) seen early)
    by_part (inr (later, m, front)) = in_cut later front (front_of (cut_short w) [] later m)

-- ---- the ledger's own name

at_start : List ℕ → State
at_start bytes = record { read = Some bytes; left = Some bytes }

none_torn : (added : List Block) → IsTorn added []
none_torn [] = refl
none_torn (block ∷ added) = omega arith

leaves_all : (bytes : List ℕ) (added : List Block) (left : Content) → left ≡ Some bytes → LeavesFront bytes added 0 left
leaves_all bytes added left is = record {
  kept = [];
  rest = added;
  torn = [];
  parts = refl;
  is_torn = none_torn added;
  all_answered = omega arith;
  leaves = is ∙ ap (λ (x : List ℕ). Some x) (sym (append-nil (bytes ++ []) ∙ append-nil bytes));
}

-- nothing was begun
before_all : (ledger : Word) (bytes : List ℕ) (added : List Block) (seen : List Write) (new : State) → seen ≡ [] → Leads ledger seen (at_start bytes) new → LeavesFront bytes added (done_of seen) new.left
unfolding at_start
before_all ledger bytes added [] new none leads = leaves_all bytes added new.left (ap (λ (s : State). s.left) leads)
before_all ledger bytes added (v ∷ seen) new none leads = absurd (no_write v seen (sym none))

-- the first append was not answered Ok
in_first : (ledger : Word) (bytes : List ℕ) (block : Block) (added : List Block) (new : State) → Leads ledger (cut_short (write_of Append ledger (block_frame block) true) ∷ []) (at_start bytes) new → LeavesFront bytes (block ∷ added) 0 new.left
unfolding at_start
in_first ledger bytes block added new (mid, step, same) = by_torn (MatchBool-at_true _ _ (same_name ledger) step.1)
  where
    by_torn : (torn : List ℕ) × (length torn ≤ length (block_frame block)) × IsAppended (Some bytes) torn mid.left → LeavesFront bytes (block ∷ added) 0 new.left
    by_torn (torn, short, inl is) = record {
      kept = [];
      rest = block ∷ added;
      torn = torn;
      parts = refl;
      is_torn = short;
      all_answered = omega arith;
      leaves = ap (λ (s : State). s.left) same ∙ is ∙ ap (λ (x : List ℕ). Some (x ++ torn)) (sym (append-nil bytes));
    }
    by_torn (torn, short, inr (none, is)) = leaves_all bytes (block ∷ added) new.left (ap (λ (s : State). s.left) same ∙ is)

-- it was
past_first : (ledger : Word) (bytes : List ℕ) (block : Block) (mid : State) → StepAt ledger (write_of Append ledger (block_frame block) true) (at_start bytes) mid → mid ≡ at_start (bytes ++ block_frame block)
unfolding at_start
past_first ledger bytes block mid step =
    let reads : mid.read ≡ Some (bytes ++ block_frame block) = MatchBool-at_true _ _ (same_name ledger) step.0 in
    let leaves : mid.left ≡ Some (bytes ++ block_frame block) = MatchBool-at_true _ _ (same_name ledger) step.1 ∙ reads in
    λ i. record { read = reads i; left = leaves i }

leaves_more : (bytes : List ℕ) (block : Block) (added : List Block) (answered : ℕ) (left : Content) → LeavesFront (bytes ++ block_frame block) added answered left → LeavesFront bytes (block ∷ added) (suc answered) left
leaves_more bytes block added answered left r = record {
  kept = block ∷ r.kept;
  rest = r.rest;
  torn = r.torn;
  parts = ap (λ (bs : List Block). block ∷ bs) r.parts;
  is_torn = r.is_torn;
  all_answered = omega (arith, r.all_answered);
  leaves = r.leaves ∙ ap (λ (x : List ℕ). Some (x ++ r.torn)) (append_assoc bytes (block_frame block) (file_spelling r.kept));
}

leaves_front : (ledger : Word) (added : List Block) (bytes : List ℕ) (seen : List Write) (new : State) → IsMoment (appends ledger added) seen → Leads ledger seen (at_start bytes) new → LeavesFront bytes added (done_of seen) new.left
leaves_front ledger [] bytes seen new m leads = before_all ledger bytes [] seen new (none_begun seen m) leads
leaves_front ledger (block ∷ added) bytes seen new m leads =
    by_front (λ later n there. leaves_front ledger added (bytes ++ block_frame block) later new n there) (front_of _ (appends ledger added) seen m)
  where
    first : Write
    first = write_of Append ledger (block_frame block) true

    behind : ((later : List Write) → IsMoment (appends ledger added) later → Leads ledger later (at_start (bytes ++ block_frame block)) new → LeavesFront (bytes ++ block_frame block) added (done_of later) new.left) → (later : List Write) → IsMoment (appends ledger added) later → Leads ledger (write_of Append ledger (block_frame block) true ∷ later) (at_start bytes) new → LeavesFront bytes (block ∷ added) (suc (done_of later)) new.left
    behind more later n (mid, step, rest) =
        leaves_more bytes block added (done_of later) new.left (more later n (subst (λ (s : State). Leads ledger later s new) (past_first ledger bytes block mid step) rest))

    by_front : ((later : List Write) → IsMoment (appends ledger added) later → Leads ledger later (at_start (bytes ++ block_frame block)) new → LeavesFront (bytes ++ block_frame block) added (done_of later) new.left) → Front (write_of Append ledger (block_frame block) true) (appends ledger added) seen → LeavesFront bytes (block ∷ added) (done_of seen) new.left
    by_front more (inl none) = before_all ledger bytes (block ∷ added) seen new none leads
    by_front more (inr (inl cut)) =
        subst (λ (xs : List Write). LeavesFront bytes (block ∷ added) (done_of xs) new.left) (sym cut)
        (in_first ledger bytes block added new (subst (λ (xs : List Write). Leads ledger xs (at_start bytes) new) cut leads))
    by_front more (inr (inr (later, n, whole))) =
        subst (λ (xs : List Write). LeavesFront bytes (block ∷ added) (done_of xs) new.left) (sym whole)
        (behind more later n (subst (λ (xs : List Write). Leads ledger xs (at_start bytes) new) whole leads))

-- ---- every other name

abbrev Other : List ℕ → Write → Type 0
Other name w = bytes_eq name w.name ≡ false

all_others : (name : List ℕ) (ledger : Word) (added : List Block) (seen : List Write) → bytes_eq name ledger ≡ false → IsMoment (appends ledger added) seen → All (Other name) seen
all_others name ledger [] seen other m = subst (All (Other name)) (sym (none_begun seen m)) (All-nil (Other name))
all_others name ledger (block ∷ added) seen other m =
    by_front (λ later n. all_others name ledger added later other n) (front_of _ (appends ledger added) seen m)
  where
    by_front : ((later : List Write) → IsMoment (appends ledger added) later → All (Other name) later) → Front (write_of Append ledger (block_frame block) true) (appends ledger added) seen → All (Other name) seen
    by_front more (inl none) = subst (All (Other name)) (sym none) (All-nil (Other name))
    by_front more (inr (inl cut)) = subst (All (Other name)) (sym cut) (All-cons (Other name) _ [] other (All-nil (Other name)))
    by_front more (inr (inr (later, n, whole))) = subst (All (Other name)) (sym whole) (All-cons (Other name) _ later other (more later n))

-- ---- runs of `apply`

was_there : (content : Content) (bs : List Block) → HoldsBlocks content bs → content ≡ Some (bytes_in content)
was_there None bs h = absurd h
was_there (Some bytes) bs h = refl

module _ (join : MomentsJoin) (others_stay : OthersStay) (starts : StartsKept) (hash : Hash) (check : Check) (laws : GrowthLaws hash check) where
  module _ (ledger offers : Word) (before left : List ℕ → Content) (reply : Reply) (begun seen : List Write) (crash : ApplyCrash hash check ledger offers before reply begun seen left) where
    seen_of : (ws : List Write) → writes_of reply.steps ≡ ws → IsMoment ws seen
    seen_of ws is = nested join ws begun seen (subst (λ (xs : List Write). IsMoment xs begun) is crash.begins) crash.comes

    torn : (grows : Grows hash check ledger (before ledger) (before offers) reply) → LeavesFront (bytes_in (before ledger)) grows.added (done_of seen) (left ledger)
    unfolding at_start
    torn grows =
        let there = was_there (before ledger) grows.old grows.is_ledger in
        let (read, leads) = crash.leaves ledger in
        let from : Leads ledger seen (at_start (bytes_in (before ledger))) (record { read = read; left = left ledger }) = subst (λ (c : Content). Leads ledger seen (record { read = c; left = c }) (record { read = read; left = left ledger })) there leads in
        leaves_front ledger grows.added (bytes_in (before ledger)) seen (record { read = read; left = left ledger }) (seen_of (appends ledger grows.added) grows.writes) from

    -- nothing is written
    none_left : (name : List ℕ) → writes_of reply.steps ≡ [] → left name ≡ before name
    none_left name none =
        let nothing = none_begun seen (seen_of [] none) in
        (starts name (before name) (left name)).0 (subst (λ (xs : List Write). MayLeave name (before name) xs (left name)) nothing (crash.leaves name))

    stays : reply.status ≢ 0 → left ledger ≡ before ledger
    stays failed = none_left ledger (laws.stays ledger offers crash.is_reply.0 reply crash.is_reply.1 failed)

    others : (name : List ℕ) → bytes_eq name ledger ≡ false → left name ≡ before name
    others name other = by_status (cases_eq reply.status 0)
      where
        by_status : (reply.status ≡ 0) ⊎ (reply.status ≡ 0 → ⊥) → left name ≡ before name
        by_status (inr failed) = none_left name (laws.stays ledger offers crash.is_reply.0 reply crash.is_reply.1 failed)
        by_status (inl done) =
            (let grows = laws.grows_for ledger offers before reply crash.is_reply done in
            let all = all_others name ledger grows.added seen other (seen_of (appends ledger grows.added) grows.writes) in
            let (read, leads) = crash.leaves name in
            ap (λ (s : State). s.left) ((others_stay name seen _ _ all).0 leads))

  pub crash_laws : CrashLaws hash check
  crash_laws = record { torn = torn; stays = stays; others = others }
