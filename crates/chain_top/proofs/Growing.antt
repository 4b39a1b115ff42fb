-- What `apply` makes of the ledger's file.
use Rattle.std.proofs.Common.{◌≡◌, ◌≢◌, ℕ, zero, suc, ◌+◌, ◌<◌, true, List, [], ◌∷◌, ◌++◌, get_or, Option, Some, None, IsSomeAnd, Ok, refl, sym, ◌∙◌, ap, subst, append_assoc, arith}
use Rattle.std.specs.Str.{bytes_eq}
use Rattle.std.proofs.lemmas.Bool.{MatchBool-at_true, MatchBool-at_false}
use Rattle.std.proofs.lemmas.List.{append-nil}
use Rattle.std.proofs.lemmas.Slice.Eq.{bytes_eq-Decides}
use Rattle.wire.specs.Spelling.{AreBytes}
use Rattle.data_model.specs.declared.block.Block.{Block}
use Rattle.entry_ids.specs.Entry.{header_id}
use Rattle.keyed.specs.Functions.{Check}
use Rattle.ledger_core.specs.declared.refusal.BlockRefusal.{BlockRefusal}
use Rattle.ledger_core.specs.Chain.{Chain, Accepted}
use Rattle.keyed.specs.Functions.{Hash}
use Rattle.outside.specs.Files.{Content, Append, bytes_in, write_of, ReadsAt}
use Rattle.outside.specs.Files as files
use Rattle.outside.specs.Steps.{Step, Read, Print}
use Rattle.replies.specs.Answer.{GoesOn}
use Rattle.replies.specs.Asking.{missing, too_long, found, refused as is_refused, goes_on}
use Rattle.data_model.specs.Files.{block_frame, BlocksReadAs}
use Rattle.ledger_file.specs.Files.{AreFramed, file_spelling}
use Rattle.chain_top.specs.Growth.{HoldsBlocks, appends, offers_told, Grows, EndsGrown, ApplyReply, ApplyFor, GrowthLaws}
use Rattle.command_lines.specs.Line.{accepted_line, refused_block}
use Rattle.ledger_file.specs.Loading.{chain}
use Rattle.replies.specs.Asking.{most_bytes}
use Rattle.replies.specs.Recipe.{model}
use Rattle.ledger_file.specs.Loading.{LoadsAs}
use Rattle.chain_top.specs.Commands.{apply}
use Rattle.chain_top.specs.Offers.{OfferOwes, accepted, refused, OffersOwe, none, next}
use Rattle.replies.specs.Plan.{End, Done, Refused, Missing, Plan, done, behind, Given, later, GivenBy}
use Rattle.replies.specs.Reply.{Reply, ended, reply_of}
use Rattle.replies.specs.Steps.{Line, lines_after, lines_of, reads_of, writes_of}
use Rattle.word_lines.specs.Word.{Word}
use Rattle.chain_top.specs.Known.{Known}

-- ---- bytes

AreBytes-append : (xs ys : List ℕ) → AreBytes xs → AreBytes ys → AreBytes (xs ++ ys)
AreBytes-append [] ys hx hy = hy
AreBytes-append (x ∷ xs) ys hx hy = λ i. by_place i (hx 0) (AreBytes-append xs ys (λ j. hx (suc j)) hy)
  where
    by_place : (i : ℕ) → x < 256 → AreBytes (xs ++ ys) → get_or (x ∷ (xs ++ ys)) i 0 < 256
    by_place zero first others = first
    by_place (suc i) first others = others i

no_bytes : AreBytes []
no_bytes i = omega arith

AreBytes-behind : (xs ys : List ℕ) → AreBytes (xs ++ ys) → AreBytes ys
AreBytes-behind [] ys are = are
AreBytes-behind (x ∷ xs) ys are = AreBytes-behind xs ys (λ i. are (suc i))

first_byte : (x : ℕ) (xs : List ℕ) → x < 256 → AreBytes xs → AreBytes (x ∷ xs)
first_byte x xs first others zero = first
first_byte x xs first others (suc i) = others i

AreBytes-front : (xs ys : List ℕ) → AreBytes (xs ++ ys) → AreBytes xs
AreBytes-front [] ys are = no_bytes
AreBytes-front (x ∷ xs) ys are = first_byte x xs (are 0) (AreBytes-front xs ys (λ j. are (suc j)))

-- ---- offers

-- what a list of offers adds, and how it is told
record Adds (hash : Hash) (check : Check) (ledger : Word) (old offers : List Block) (steps : List Step) : Type 0 where
  added : List Block
  verdicts : List (Option BlockRefusal)
  accepted : Accepted hash check old offers (old ++ added) verdicts
  lines_are : (before : ℕ) → lines_after before steps ≡ offers_told hash before offers verdicts
  writes_are : writes_of steps ≡ appends ledger added
  framed : AreFramed offers → AreFramed added
  fit : AreBytes (file_spelling offers) → AreBytes (file_spelling added)

one_more : (n : ℕ) → suc n ≡ n + 1
one_more n = omega arith

module _ (hash : Hash) (check : Check) (ledger : Word) where
  adds_one : (old : List Block) (block : Block) (offers after : List Block) (steps later : List Step) → OfferOwes hash check ledger old block after steps → Adds hash check ledger after offers later → Adds hash check ledger old (block ∷ offers) (steps ++ later)
  adds_one old block offers after steps later (accepted valid) rest =
      let behind : (old ++ block ∷ []) ++ rest.added ≡ old ++ block ∷ rest.added = append_assoc old (block ∷ []) rest.added in
      let line : ℕ → Line = λ n. record { text = accepted_line block.header.height (header_id hash block.header); after = n } in
      record {
        added = block ∷ rest.added;
        verdicts = None ∷ rest.verdicts;
        accepted = (valid, subst (λ (bs : List Block). Accepted hash check (old ++ block ∷ []) offers bs rest.verdicts) behind rest.accepted);
        lines_are = λ before.
            ap (λ (ls : List Line). line (suc before) ∷ ls) (rest.lines_are (suc before))
            ∙ ap (λ (n : ℕ). line n ∷ offers_told hash n offers rest.verdicts) (one_more before);
        writes_are = ap (λ (ws : List files.Write). write_of Append ledger (block_frame block) true ∷ ws) rest.writes_are;
        framed = λ h. (h.0, rest.framed h.1);
        fit = λ h. AreBytes-append (block_frame block) (file_spelling rest.added) (AreBytes-front (block_frame block) (file_spelling offers) h) (rest.fit (AreBytes-behind (block_frame block) (file_spelling offers) h));
      }
  adds_one old block offers after steps later (refused {why = why} not) rest = record {
    added = rest.added;
    verdicts = Some why ∷ rest.verdicts;
    accepted = (not, rest.accepted);
    lines_are = λ before. ap (λ (ls : List Line). record { text = refused_block why; after = before } ∷ ls) (rest.lines_are before);
    writes_are = rest.writes_are;
    framed = λ h. rest.framed h.1;
    fit = λ h. rest.fit (AreBytes-behind (block_frame block) (file_spelling offers) h);
  }

  adds : (old offers : List Block) (steps : List Step) → OffersOwe hash check ledger old offers steps → Adds hash check ledger old offers steps
  adds old offers steps none = record { added = []; verdicts = []; accepted = append-nil old; lines_are = λ before. refl; writes_are = refl; framed = λ h. h; fit = λ h. h }
  adds old offers steps (next after {offers = rest} {block = block} now more owes others) = adds_one old block rest after now more owes (adds after rest more others)

-- ---- a run of `apply`

-- both files were read, and the offers answered
pub record Applied (hash : Hash) (check : Check) (ledger offers : Word) (given : Given) (plan : Plan) : Type 0 where
  pub ledger_bytes : List ℕ
  pub more : List ℕ
  pub old : List Block
  pub offered : List Block
  pub steps : List Step
  pub first : given 0 ≡ Some ledger_bytes
  pub are : AreBytes ledger_bytes
  pub is_ledger : LoadsAs hash check ledger_bytes (Ok old)
  pub second : given 1 ≡ Some more
  pub fit : AreBytes more
  pub are_offers : BlocksReadAs more (Ok offered)
  pub owe : OffersOwe hash check ledger old offered steps
  pub is : plan ≡ done (Read ledger most_bytes ∷ Read offers most_bytes ∷ steps)

-- or the run ended at a file, and wrote nothing
pub record Stopped (plan : Plan) : Type 0 where
  pub ends : plan.end ≢ Done
  pub nothing : writes_of plan.steps ≡ []

pub data ApplyRun (hash : Hash) (check : Check) (ledger offers : Word) (given : Given) (plan : Plan) : Type 0 where
  ran : Applied hash check ledger offers given plan → ApplyRun hash check ledger offers given plan
  ended_at : Stopped plan → ApplyRun hash check ledger offers given plan

not_refused : (line : List ℕ) → Done ≡ Refused line → ⊥
not_refused line e = cc

not_missing : Missing ≡ Done → ⊥
not_missing e = cc

module _ (hash : Hash) (check : Check) (ledger offers : Word) (given : Given) where
  pub apply_run : (plan : Plan) → model (apply hash check ledger offers) given plan → ApplyRun hash check ledger offers given plan
  apply_run plan (missing is) = ended_at (record { ends = λ e. absurd (not_missing e); nothing = refl })
  apply_run plan (too_long bytes is past) = ended_at (record { ends = λ e. absurd (not_refused _ (sym e)); nothing = refl })
  apply_run plan (found ledger_bytes rest is short are (is_refused bad)) = ended_at (record { ends = λ e. absurd (not_refused _ (sym e)); nothing = refl })
  apply_run plan (found ledger_bytes rest is short are (goes_on old good (missing gone))) = ended_at (record { ends = λ e. absurd (not_missing e); nothing = refl })
  apply_run plan (found ledger_bytes rest is short are (goes_on old good (too_long bytes second past))) = ended_at (record { ends = λ e. absurd (not_refused _ (sym e)); nothing = refl })
  apply_run plan (found ledger_bytes rest is short are (goes_on old good (found more others second small fit (is_refused bad)))) = ended_at (record { ends = λ e. absurd (not_refused _ (sym e)); nothing = refl })
  apply_run plan (found ledger_bytes rest is short are (goes_on old good (found more others second small fit (goes_on offered reads (is_refused bad))))) = ended_at (record { ends = λ e. absurd (not_refused _ (sym e)); nothing = refl })
  apply_run plan (found ledger_bytes rest is short are (goes_on old good (found more others second small fit (goes_on offered reads (goes_on u fits (steps, owe, same)))))) = ran (record {
    ledger_bytes = ledger_bytes;
    more = more;
    old = old.blocks;
    offered = offered.blocks;
    steps = steps;
    first = is;
    are = are;
    is_ledger = good.0;
    second = second;
    fit = fit;
    are_offers = reads.0;
    owe = owe;
    is = ap (λ (p : Plan). behind (Read ledger most_bytes ∷ []) (behind (Read offers most_bytes ∷ []) p)) same;
  })

-- what a file that is there reads as
held_reads : (content : Content) (bs : List Block) → HoldsBlocks content bs → AreBytes (bytes_in content) × BlocksReadAs (bytes_in content) (Ok bs)
held_reads None bs h = absurd h
held_reads (Some bytes) bs h = (h.0, h.1)

module _ (laws : Known) (hash : Hash) (check : Check) where
  ledger_reads : (ledger_bytes : List ℕ) (old : List Block) → LoadsAs hash check ledger_bytes (Ok old) → BlocksReadAs ledger_bytes (Ok old) × Chain hash check old
  ledger_reads ledger_bytes old (chain reads front) = (reads, front)

  -- a status of 0 is that of a plan that is done
  done_end : (steps : List Step) (end : End) → (ended steps end).status ≡ 0 → end ≡ Done
  done_end steps Done at_zero = refl
  done_end steps (Refused line) at_zero = absurd (omega (arith, at_zero))
  done_end steps Missing at_zero = absurd (omega (arith, at_zero))

  writes_line : (steps : List Step) (end : End) → writes_of steps ≡ [] → writes_of (ended steps end).steps ≡ []
  writes_line steps Done is = is
  writes_line steps (Refused line) is = laws.steps.writes_both steps (Print line ∷ []) ∙ append-nil (writes_of steps) ∙ is
  writes_line steps Missing is = is

  module _ (ledger offers : Word) where
    grows_ran : (given : Given) (plan : Plan) (reply : Reply) → reply ≡ reply_of plan → Applied hash check ledger offers given plan → Grows hash check ledger (given 0) (given 1) reply
    grows_ran given plan reply same run =
        let a = adds hash check ledger run.old run.offered run.steps run.owe in
        let old = ledger_reads run.ledger_bytes run.old run.is_ledger in
        let holds : HoldsBlocks (given 0) run.old = subst (λ (c : Content). HoldsBlocks c run.old) (sym run.first) (run.are, old.0) in
        let others : HoldsBlocks (given 1) run.offered = subst (λ (c : Content). HoldsBlocks c run.offered) (sym run.second) (run.fit, run.are_offers) in
        let there = held_reads (given 0) run.old holds in
        let framed : AreFramed a.added = a.framed run.are_offers.0 in
        let fit : AreBytes (file_spelling a.added) = a.fit (subst AreBytes run.are_offers.1 run.fit) in
        let steps : reply.steps ≡ Read ledger most_bytes ∷ Read offers most_bytes ∷ run.steps = ap (λ (r : Reply). r.steps) (same ∙ ap reply_of run.is) in
        record {
          old = run.old;
          offers = run.offered;
          added = a.added;
          verdicts = a.verdicts;
          is_ledger = holds;
          are_offers = others;
          is_chain = old.1;
          accepted = a.accepted;
          lines = ap lines_of steps ∙ a.lines_are 0;
          writes = ap writes_of steps ∙ a.writes_are;
          grown = (AreBytes-append (bytes_in (given 0)) (file_spelling a.added) there.0 fit, laws.files.frames.file.joined (bytes_in (given 0)) (file_spelling a.added) run.old a.added there.1 (framed, refl));
          stays_chain = (laws.chains hash check).kept run.old run.offered (run.old ++ a.added) a.verdicts old.1 a.accepted;
        }

    grows_run : (given : Given) (plan : Plan) (reply : Reply) → reply ≡ reply_of plan → ApplyRun hash check ledger offers given plan → reply.status ≡ 0 → Grows hash check ledger (given 0) (given 1) reply
    grows_run given plan reply same (ran run) at_zero = grows_ran given plan reply same run
    grows_run given plan reply same (ended_at stop) at_zero = absurd (stop.ends (done_end plan.steps plan.end (sym (ap (λ (r : Reply). r.status) same) ∙ at_zero)))

    grows : (given : Given) (reply : Reply) → ApplyReply hash check ledger offers given reply → reply.status ≡ 0 → Grows hash check ledger (given 0) (given 1) reply
    grows given reply (plan, is, same) at_zero = grows_run given plan reply same (apply_run hash check ledger offers given plan is) at_zero

    stays_run : (given : Given) (plan : Plan) (reply : Reply) → reply ≡ reply_of plan → ApplyRun hash check ledger offers given plan → reply.status ≢ 0 → writes_of reply.steps ≡ []
    stays_run given plan reply same (ran run) failed = absurd (failed (ap (λ (r : Reply). r.status) (same ∙ ap reply_of run.is)))
    stays_run given plan reply same (ended_at stop) failed = ap (λ (r : Reply). writes_of r.steps) same ∙ writes_line plan.steps plan.end stop.nothing

    stays : (given : Given) (reply : Reply) → ApplyReply hash check ledger offers given reply → reply.status ≢ 0 → writes_of reply.steps ≡ []
    stays given reply (plan, is, same) failed = stays_run given plan reply same (apply_run hash check ledger offers given plan is) failed

    -- for what the files hold by their names

    given_of : (contents : List ℕ → Content) (given : Given) (plan : Plan) (reply : Reply) → reply ≡ reply_of plan → Applied hash check ledger offers given plan → GivenBy (Some contents) (reads_of reply.steps) given → (given 0 ≡ contents ledger) × (given 1 ≡ contents offers)
    given_of contents given plan reply same run agrees =
        let steps : reply.steps ≡ Read ledger most_bytes ∷ Read offers most_bytes ∷ run.steps = ap (λ (r : Reply). r.steps) (same ∙ ap reply_of run.is) in
        let at : GivenBy (Some contents) (reads_of (Read ledger most_bytes ∷ Read offers most_bytes ∷ run.steps)) given = subst (λ (ss : List Step). GivenBy (Some contents) (reads_of ss) given) steps agrees in
        (at.0, at.1.0)

    pub given_reads : (contents : List ℕ → Content) (given : Given) (reply : Reply) → ApplyReply hash check ledger offers given reply → reply.status ≡ 0 → GivenBy (Some contents) (reads_of reply.steps) given → (given 0 ≡ contents ledger) × (given 1 ≡ contents offers)
    given_reads contents given reply (plan, is, same) at_zero agrees = by_run (apply_run hash check ledger offers given plan is)
      where
        by_run : ApplyRun hash check ledger offers given plan → (given 0 ≡ contents ledger) × (given 1 ≡ contents offers)
        by_run (ended_at stop) = absurd (stop.ends (done_end plan.steps plan.end (sym (ap (λ (r : Reply). r.status) same) ∙ at_zero)))
        by_run (ran run) = given_of contents given plan reply same run agrees

    grows_for : (contents : List ℕ → Content) (reply : Reply) → ApplyFor hash check ledger offers contents reply → reply.status ≡ 0 → Grows hash check ledger (contents ledger) (contents offers) reply
    grows_for contents reply (given, at, agrees) at_zero =
        let both = given_reads contents given reply at at_zero agrees in
        subst (λ (c : Content). Grows hash check ledger c (contents offers) reply) both.0
        (subst (λ (c : Content). Grows hash check ledger (given 0) c reply) both.1 (grows given reply at at_zero))

-- ---- what the files hold at the end

some_and : {X : Type 0} (P Q : X → Type 0) (o : Option X) → ((x : X) → P x → Q x) → IsSomeAnd o P → IsSomeAnd o Q
some_and P Q None each h = h
some_and P Q (Some x) each h = each x h

pub same_name : (name : List ℕ) → bytes_eq name name ≡ true
same_name name = (bytes_eq-Decides name name).1 refl

ends_none : (ledger : Word) (before : List ℕ → Content) → EndsGrown ledger [] before before
ends_none ledger before = (sym (append-nil (bytes_in (before ledger))), λ name other. refl)

-- one append more in front
ends_one : (ledger : Word) (block : Block) (added : List Block) (before mid after : List ℕ → Content) → ((name : List ℕ) → ReadsAt (write_of Append ledger (block_frame block) true) name (before name) (mid name)) → EndsGrown ledger added mid after → EndsGrown ledger (block ∷ added) before after
ends_one ledger block added before mid after reads (front, others) =
    let now : mid ledger ≡ Some (bytes_in (before ledger) ++ block_frame block) = MatchBool-at_true _ _ (same_name ledger) (reads ledger) in (
      front ∙ ap (λ (c : Content). bytes_in c ++ file_spelling added) now ∙ append_assoc (bytes_in (before ledger)) (block_frame block) (file_spelling added),
      λ name other. others name other ∙ MatchBool-at_false _ _ other (reads name),
    )

ends : (ledger : Word) (added : List Block) (before : List ℕ → Content) (after : Option (List ℕ → Content)) → GoesOn (appends ledger added) (Some before) after → IsSomeAnd after (EndsGrown ledger added before)
ends ledger [] before after is = subst (λ (o : Option (List ℕ → Content)). IsSomeAnd o (EndsGrown ledger [] before)) (sym is) (ends_none ledger before)
ends ledger (block ∷ added) before after (None, gone, rest) = absurd gone
ends ledger (block ∷ added) before after (Some mid, reads, rest) =
    some_and (EndsGrown ledger added mid) (EndsGrown ledger (block ∷ added) before) after (λ now h. ends_one ledger block added before mid now reads h) (ends ledger added mid after rest)

pub growth_laws : Known → (hash : Hash) (check : Check) → GrowthLaws hash check
growth_laws laws hash check = record { grows = grows laws hash check; grows_for = grows_for laws hash check; stays = stays laws hash check; ends = ends }
