-- What a prefix of steps comes to, of printed bytes, reads, writes and counts.
use Rattle.std.proofs.Common.{◌≡◌, ◌⊎◌, ℕ, suc, ◌+◌, ◌≤◌, Bool, true, false, cond, List, [], ◌∷◌, ◌++◌, take, Option, Some, None, inl, inr, refl, sym, ◌∙◌, ap, subst, append_assoc, arith}
use Rattle.std.specs.Prelude.{IsSomeAnd, IsTrue, IsFalse, option_to_list}
use Rattle.std.proofs.lemmas.List.{append-nil}
use Rattle.outside.specs.Fault.{Rose}
use Rattle.outside.specs.Sink.{output_with}
use Rattle.outside.specs.Files.{Content, AllRead, write_of}
use Rattle.outside.specs.Files as files
use Rattle.outside.specs.Crash.{IsMoment}
use Rattle.outside.specs.Steps.{Step, Read, Write, Print, is_read, joined, WasDone}
use Rattle.outside.specs.World.{World}
use Rattle.replies.specs.Answer.{HasStatus, whole, read_fault, write_fault, no_memory, HasCauses, done_of, Shown, GoesOn, Tells}
use Rattle.replies.specs.Laws.{StepLaws, TellLaws}
use Rattle.replies.specs.Plan.{End, Done, Refused, Missing}
use Rattle.replies.specs.Reply.{Reply, ended}
use Rattle.replies.specs.Steps.{Begun, all_of, AllDone, ThenFailed, Did, IsFront, Line, lines_after, lines_of, reads_of, writes_of, printed_of}
use Rattle.replies.specs.Fronts.{did-all}

-- ---- lists

holding-none : (output : Option (List ℕ)) → output ≡ output_with output []
holding-none None = refl
holding-none (Some h) = ap Some (sym (append-nil h))

holding-both : (output : Option (List ℕ)) (p q : List ℕ) → output_with (output_with output p) q ≡ output_with output (p ++ q)
holding-both None p q = refl
holding-both (Some h) p q = ap Some (append_assoc h p q)

joined-none : {X : Type 0} (old : Option (List X)) → old ≡ joined old []
joined-none None = refl
joined-none (Some xs) = ap Some (sym (append-nil xs))

joined-both : {X : Type 0} (old : Option (List X)) (xs ys : List X) → joined (joined old xs) ys ≡ joined old (xs ++ ys)
joined-both None xs ys = refl
joined-both (Some h) xs ys = ap Some (append_assoc h xs ys)

goes_on-both : (ws vs : List files.Write) (a b c : Option (List ℕ → Content)) → GoesOn ws a b → GoesOn vs b c → GoesOn (ws ++ vs) a c
goes_on-both [] vs a b c same rest = subst (λ (x : Option (List ℕ → Content)). GoesOn vs x c) same rest
goes_on-both (w ∷ ws) vs a b c first rest = (first.0, first.1, goes_on-both ws vs first.0 b c first.2 rest)

pub reads-both : (xs ys : List Step) → reads_of (xs ++ ys) ≡ reads_of xs ++ reads_of ys
reads-both [] ys = refl
reads-both (Read name most ∷ xs) ys = ap (λ (rs : List files.Read). record { name = name; most = most } ∷ rs) (reads-both xs ys)
reads-both (Write kind name bytes ∷ xs) ys = reads-both xs ys
reads-both (Print text ∷ xs) ys = reads-both xs ys

pub writes-both : (xs ys : List Step) → writes_of (xs ++ ys) ≡ writes_of xs ++ writes_of ys
writes-both [] ys = refl
writes-both (Read name most ∷ xs) ys = writes-both xs ys
writes-both (Write kind name bytes ∷ xs) ys = ap (λ (ws : List files.Write). write_of kind name bytes true ∷ ws) (writes-both xs ys)
writes-both (Print text ∷ xs) ys = writes-both xs ys

done_of-both : (ws vs : List files.Write) → done_of (ws ++ vs) ≡ done_of ws + done_of vs
done_of-both [] vs = omega arith
done_of-both (w ∷ ws) vs = by_done w.done _ (done_of ws) (done_of vs) (done_of-both ws vs)
  where
    by_done : (b : Bool) (x y z : ℕ) → x ≡ y + z → cond b (suc x) x ≡ cond b (suc y) y + z
    by_done true x y z h = omega (arith, h)
    by_done false x y z h = h

-- ---- what was done

record Flat (a b : World) (printed : List ℕ) (reads : List files.Read) (begun : List files.Write) : Type 0 where
  output : b.output ≡ output_with a.output printed
  reads_begun : b.reads ≡ joined a.reads reads
  writes_begun : b.writes ≡ joined a.writes begun
  contents : GoesOn begun a.contents b.contents

record SameCounts (a b : World) : Type 0 where
  reads : b.read_faults ≡ a.read_faults
  writes : b.write_faults ≡ a.write_faults
  sink : b.sink_faults ≡ a.sink_faults

flat-none : (a b : World) → b ≡ a → Flat a b [] [] []
flat-none a b is = record {
  output = ap (λ (w : World). w.output) is ∙ holding-none a.output;
  reads_begun = ap (λ (w : World). w.reads) is ∙ joined-none a.reads;
  writes_begun = ap (λ (w : World). w.writes) is ∙ joined-none a.writes;
  contents = ap (λ (w : World). w.contents) is;
}

flat-both : (a b c : World) (p q : List ℕ) (r s : List files.Read) (w v : List files.Write) → Flat a b p r w → Flat b c q s v → Flat a c (p ++ q) (r ++ s) (w ++ v)
flat-both a b c p q r s w v one two = record {
  output = two.output ∙ ap (λ (h : Option (List ℕ)). output_with h q) one.output ∙ holding-both a.output p q;
  reads_begun = two.reads_begun ∙ ap (λ (h : Option (List files.Read)). joined h s) one.reads_begun ∙ joined-both a.reads r s;
  writes_begun = two.writes_begun ∙ ap (λ (h : Option (List files.Write)). joined h v) one.writes_begun ∙ joined-both a.writes w v;
  contents = goes_on-both w v a.contents b.contents c.contents one.contents two.contents;
}

-- of one step that was done
flat-step : (s : Step) (a b : World) → WasDone s a b → Flat a b (printed_of (s ∷ [])) (reads_of (s ∷ [])) (writes_of (s ∷ []))
flat-step (Read name most) a b was = record {
  output = ap (λ (w : World). w.output) was.1 ∙ holding-none a.output;
  reads_begun = ap (λ (w : World). w.reads) was.1;
  writes_begun = ap (λ (w : World). w.writes) was.1 ∙ joined-none a.writes;
  contents = ap (λ (w : World). w.contents) was.1;
}
flat-step (Write kind name bytes) a b was = record {
  output = ap (λ (w : World). w.output) was.1 ∙ holding-none a.output;
  reads_begun = ap (λ (w : World). w.reads) was.1 ∙ joined-none a.reads;
  writes_begun = ap (λ (w : World). w.writes) was.1;
  contents = (b.contents, was.0, refl);
}
flat-step (Print text) a b was = record {
  output = ap (λ (w : World). w.output) was ∙ ap (output_with a.output) (sym (append-nil text));
  reads_begun = ap (λ (w : World). w.reads) was ∙ joined-none a.reads;
  writes_begun = ap (λ (w : World). w.writes) was ∙ joined-none a.writes;
  contents = ap (λ (w : World). w.contents) was;
}

counts-step : (s : Step) (a b : World) → WasDone s a b → SameCounts a b
counts-step (Read name most) a b was = record { reads = ap (λ (w : World). w.read_faults) was.1; writes = ap (λ (w : World). w.write_faults) was.1; sink = ap (λ (w : World). w.sink_faults) was.1 }
counts-step (Write kind name bytes) a b was = record { reads = ap (λ (w : World). w.read_faults) was.1; writes = ap (λ (w : World). w.write_faults) was.1; sink = ap (λ (w : World). w.sink_faults) was.1 }
counts-step (Print text) a b was = record { reads = ap (λ (w : World). w.read_faults) was; writes = ap (λ (w : World). w.write_faults) was; sink = ap (λ (w : World). w.sink_faults) was }

printed-both : (xs ys : List Step) → printed_of (xs ++ ys) ≡ printed_of xs ++ printed_of ys
printed-both [] ys = refl
printed-both (Read name most ∷ xs) ys = printed-both xs ys
printed-both (Write kind name bytes ∷ xs) ys = printed-both xs ys
printed-both (Print text ∷ xs) ys = ap (λ (p : List ℕ). text ++ p) (printed-both xs ys) ∙ sym (append_assoc text (printed_of xs) (printed_of ys))

flat-all : (steps : List Step) (a b : World) → AllDone steps a b → Flat a b (printed_of steps) (reads_of steps) (writes_of steps)
flat-all [] a b is = flat-none a b is
flat-all (s ∷ steps) a b (mid, was, rest) =
    let all = flat-both a mid b _ _ _ _ _ _ (flat-step s a mid was) (flat-all steps mid b rest) in
    subst (λ (p : List ℕ). Flat a b p (reads_of (s ∷ steps)) (writes_of (s ∷ steps))) (sym (printed-both (s ∷ []) steps))
    (subst (λ (r : List files.Read). Flat a b (printed_of (s ∷ []) ++ printed_of steps) r (writes_of (s ∷ steps))) (sym (reads-both (s ∷ []) steps))
    (subst (λ (w : List files.Write). Flat a b (printed_of (s ∷ []) ++ printed_of steps) (reads_of (s ∷ []) ++ reads_of steps) w) (sym (writes-both (s ∷ []) steps)) all))

counts-all : (steps : List Step) (a b : World) → AllDone steps a b → SameCounts a b
counts-all [] a b is = record { reads = ap (λ (w : World). w.read_faults) is; writes = ap (λ (w : World). w.write_faults) is; sink = ap (λ (w : World). w.sink_faults) is }
counts-all (s ∷ steps) a b (mid, was, rest) =
    let one = counts-step s a mid was in
    let two = counts-all steps mid b rest in
    record { reads = two.reads ∙ one.reads; writes = two.writes ∙ one.writes; sink = two.sink ∙ one.sink }

-- ---- what was shown

nothing-shown : (lines : List Line) (done : ℕ) → Shown lines done []
nothing-shown [] done = refl
nothing-shown (line ∷ lines) done = inl refl

shown-behind : (n : ℕ) (steps rest : List Step) (total : ℕ) (p : List ℕ) → n + done_of (writes_of steps) ≤ total → Shown (lines_after (n + done_of (writes_of steps)) rest) total p → Shown (lines_after n (steps ++ rest)) total (printed_of steps ++ p)
shown-behind n [] rest total p le shown = subst (λ (m : ℕ). Shown (lines_after m rest) total p) (omega arith) shown
shown-behind n (Read name most ∷ steps) rest total p le shown = shown-behind n steps rest total p le shown
shown-behind n (Write kind name bytes ∷ steps) rest total p le shown =
    let same : n + suc (done_of (writes_of steps)) ≡ suc n + done_of (writes_of steps) = omega arith in
    shown-behind (suc n) steps rest total p (omega (arith, le)) (subst (λ (m : ℕ). Shown (lines_after m rest) total p) same shown)
shown-behind n (Print text ∷ steps) rest total p le shown =
    inr (omega (arith, le), inr (printed_of steps ++ p, append_assoc text (printed_of steps) p, shown-behind n steps rest total p le shown))

-- ---- a prefix of which the last step perhaps failed

-- what a failed step printed, read and wrote
record Part (failed : Option Step) (rest : List Step) (a b : World) : Type 0 where
  printed : List ℕ
  reads : List files.Read
  begun : List files.Write
  flat : Flat a b printed reads begun
  none_done : done_of begun ≡ 0
  shown : (n : ℕ) → Shown (lines_after n (option_to_list failed ++ rest)) n printed
  in_order : (more : List files.Read) × (reads_of (option_to_list failed ++ rest) ≡ reads ++ more)
  moment : (front : List files.Write) → IsMoment (front ++ writes_of (option_to_list failed ++ rest)) (front ++ begun)

part : (failed : Option Step) (rest : List Step) (a b : World) → ThenFailed failed a b → Part failed rest a b
part None rest a b is = record {
  printed = [];
  reads = [];
  begun = [];
  flat = flat-none a b is;
  none_done = refl;
  shown = λ n. nothing-shown (lines_after n rest) n;
  in_order = (reads_of rest, refl);
  moment = λ front. inl (writes_of rest, ap (λ (ws : List files.Write). ws ++ writes_of rest) (sym (append-nil front)));
}
part (Some (Read name most)) rest a b (rose, is) = record {
  printed = [];
  reads = record { name = name; most = most } ∷ [];
  begun = [];
  flat =
      record {
        output = ap (λ (w : World). w.output) is ∙ holding-none a.output;
        reads_begun = ap (λ (w : World). w.reads) is;
        writes_begun = ap (λ (w : World). w.writes) is ∙ joined-none a.writes;
        contents = ap (λ (w : World). w.contents) is;
      };
  none_done = refl;
  shown = λ n. nothing-shown (lines_after n rest) n;
  in_order = (reads_of rest, refl);
  moment = λ front. inl (writes_of rest, ap (λ (ws : List files.Write). ws ++ writes_of rest) (sym (append-nil front)));
}
part (Some (Write kind name bytes)) rest a b (rose, goes, is) = record {
  printed = [];
  reads = [];
  begun = write_of kind name bytes false ∷ [];
  flat =
      record {
        output = ap (λ (w : World). w.output) is ∙ holding-none a.output;
        reads_begun = ap (λ (w : World). w.reads) is ∙ joined-none a.reads;
        writes_begun = ap (λ (w : World). w.writes) is;
        contents = (b.contents, goes, refl);
      };
  none_done = refl;
  shown = λ n. nothing-shown (lines_after (suc n) rest) n;
  in_order = (reads_of rest, refl);
  moment = λ front. inr (front, write_of kind name bytes true, writes_of rest, refl, refl);
}
part (Some (Print text)) rest a b (rose, (n, output), is) = record {
  printed = take n text;
  reads = [];
  begun = [];
  flat =
      record {
        output = output;
        reads_begun = ap (λ (w : World). w.reads) is ∙ joined-none a.reads;
        writes_begun = ap (λ (w : World). w.writes) is ∙ joined-none a.writes;
        contents = ap (λ (w : World). w.contents) is;
      };
  none_done = refl;
  shown = λ m. inr (omega arith, inl (n, refl));
  in_order = (reads_of rest, refl);
  moment = λ front. inl (writes_of rest, ap (λ (ws : List files.Write). ws ++ writes_of rest) (sym (append-nil front)));
}

-- ---- what it tells

none_more : (n : ℕ) → n ≡ 0 + n
none_more n = omega arith

tells-front : (reply : Reply) (a b : World) (status : ℕ) (begun : Begun) → 3 ≤ status → IsFront reply.steps begun → Did begun a b → Tells reply a b status
tells-front reply a b status begun late (rest, is) did =
    let p = part begun.failed rest did.mid b did.failed in
    let first = flat-all begun.done a did.mid did.done in
    let all = flat-both a did.mid b _ _ _ _ _ _ first p.flat in
    let total : done_of (writes_of begun.done ++ p.begun) ≡ done_of (writes_of begun.done) = omega (arith, done_of-both (writes_of begun.done) p.begun, p.none_done) in
    let tail = option_to_list begun.failed ++ rest in
    let seen : Shown (lines_after 0 (begun.done ++ tail)) (done_of (writes_of begun.done)) (printed_of begun.done ++ p.printed) =
    shown-behind 0 begun.done tail (done_of (writes_of begun.done)) p.printed (omega arith)
    (subst (λ (m : ℕ). Shown (lines_after m tail) (done_of (writes_of begun.done)) p.printed) (none_more (done_of (writes_of begun.done))) (p.shown (done_of (writes_of begun.done)))) in
    record {
      printed = printed_of begun.done ++ p.printed;
      reads = reads_of begun.done ++ p.reads;
      begun = writes_of begun.done ++ p.begun;
      output = all.output;
      reads_begun = all.reads_begun;
      writes_begun = all.writes_begun;
      contents = all.contents;
      shown =
          subst (λ (m : ℕ). Shown (lines_of reply.steps) m (printed_of begun.done ++ p.printed)) (sym total)
          (subst (λ (ss : List Step). Shown (lines_after 0 ss) (done_of (writes_of begun.done)) (printed_of begun.done ++ p.printed)) (sym is) seen);
      reads_in_order = (
        p.in_order.0,
        ap reads_of is ∙ reads-both begun.done tail ∙ ap (λ (rs : List files.Read). reads_of begun.done ++ rs) p.in_order.1 ∙ sym (append_assoc (reads_of begun.done) p.reads p.in_order.0),
      );
      writes_in_order = subst (λ (ws : List files.Write). IsMoment ws (writes_of begun.done ++ p.begun)) (sym (ap writes_of is ∙ writes-both begun.done tail)) (p.moment (writes_of begun.done));
      whole = λ early. absurd (omega (arith, early, late));
    }

tells-whole : (reply : Reply) (a b : World) (status : ℕ) → status ≡ reply.status → AllDone reply.steps a b → Tells reply a b status
tells-whole reply a b status same every =
    let all = flat-all reply.steps a b every in
    let seen : Shown (lines_after 0 (reply.steps ++ [])) (done_of (writes_of reply.steps)) (printed_of reply.steps ++ []) =
    shown-behind 0 reply.steps [] (done_of (writes_of reply.steps)) [] (omega arith) refl in
    record {
      printed = printed_of reply.steps;
      reads = reads_of reply.steps;
      begun = writes_of reply.steps;
      output = all.output;
      reads_begun = all.reads_begun;
      writes_begun = all.writes_begun;
      contents = all.contents;
      shown =
          subst (λ (p : List ℕ). Shown (lines_of reply.steps) (done_of (writes_of reply.steps)) p) (append-nil (printed_of reply.steps))
          (subst (λ (ss : List Step). Shown (lines_after 0 ss) (done_of (writes_of reply.steps)) (printed_of reply.steps ++ [])) (append-nil reply.steps) seen);
      reads_in_order = ([], sym (append-nil (reads_of reply.steps)));
      writes_in_order = inl ([], sym (append-nil (writes_of reply.steps)));
      whole = λ early. (same, refl, refl, refl);
    }

tells : (reply : Reply) (a b : World) (status : ℕ) (begun : Begun) → IsFront reply.steps begun → Did begun a b → HasStatus reply begun status → Tells reply a b status
tells reply a b status begun front did (whole same low all) = tells-whole reply a b status same (did-all reply.steps a b begun all did)
tells reply a b status begun front did (read_fault three failed) = tells-front reply a b status begun (omega (arith, three)) front did
tells reply a b status begun front did (write_fault four failed) = tells-front reply a b status begun (omega (arith, four)) front did
tells reply a b status begun front did (no_memory five none undone) = tells-front reply a b status begun (omega (arith, five)) front did

-- ---- causes

rose_read : (failed : Option Step) (a mid b : World) → SameCounts a mid → ThenFailed failed mid b → IsSomeAnd failed (λ step. IsTrue (is_read step)) → Rose a.read_faults b.read_faults
rose_read None a mid b same failed kind = absurd kind
rose_read (Some (Read name most)) a mid b same failed kind = subst (λ (n : ℕ). Rose n b.read_faults) same.reads failed.0
rose_read (Some (Write k name bytes)) a mid b same failed kind = cc
rose_read (Some (Print text)) a mid b same failed kind = cc

rose_write : (failed : Option Step) (a mid b : World) → SameCounts a mid → ThenFailed failed mid b → IsSomeAnd failed (λ step. IsFalse (is_read step)) → Rose a.write_faults b.write_faults ⊎ Rose a.sink_faults b.sink_faults
rose_write None a mid b same failed kind = absurd kind
rose_write (Some (Read name most)) a mid b same failed kind = cc
rose_write (Some (Write k name bytes)) a mid b same failed kind = inl (subst (λ (n : ℕ). Rose n b.write_faults) same.writes failed.0)
rose_write (Some (Print text)) a mid b same failed kind = inr (subst (λ (n : ℕ). Rose n b.sink_faults) same.sink failed.0)

none_failed : (failed : Option Step) (a mid b : World) → SameCounts a mid → ThenFailed failed mid b → failed ≡ None → SameCounts a b
none_failed None a mid b same is none = subst (SameCounts a) (sym is) same
none_failed (Some s) a mid b same failed none = cc

has_causes : (reply : Reply) (a b : World) (status : ℕ) (begun : Begun) → Did begun a b → HasStatus reply begun status → HasCauses a b status
has_causes reply a b status begun did (whole same low all) =
    let counts = counts-all reply.steps a b (did-all reply.steps a b begun all did) in
    record {
      bound = omega (arith, same, low);
      read_fault = λ three. absurd (omega (arith, same, low, three));
      write_fault = λ four. absurd (omega (arith, same, low, four));
      no_fault = λ no_read no_write. (counts.reads, counts.writes, counts.sink);
    }
has_causes reply a b status begun did (read_fault three failed) = record {
  bound = omega (arith, three);
  read_fault = λ is. rose_read begun.failed a did.mid b (counts-all begun.done a did.mid did.done) did.failed failed;
  write_fault = λ four. absurd (omega (arith, three, four));
  no_fault = λ no_read no_write. absurd (no_read three);
}
has_causes reply a b status begun did (write_fault four failed) = record {
  bound = omega (arith, four);
  read_fault = λ three. absurd (omega (arith, three, four));
  write_fault = λ is. rose_write begun.failed a did.mid b (counts-all begun.done a did.mid did.done) did.failed failed;
  no_fault = λ no_read no_write. absurd (no_write four);
}
has_causes reply a b status begun did (no_memory five none undone) =
    let counts = none_failed begun.failed a did.mid b (counts-all begun.done a did.mid did.done) did.failed none in
    record {
      bound = omega (arith, five);
      read_fault = λ three. absurd (omega (arith, three, five));
      write_fault = λ four. absurd (omega (arith, four, five));
      no_fault = λ no_read no_write. (counts.reads, counts.writes, counts.sink);
    }

-- the writes of steps that were all done
pub goes_on-whole : (steps : List Step) (a b : World) → Did (all_of steps) a b → GoesOn (writes_of steps) a.contents b.contents
goes_on-whole steps a b did = (flat-all steps a b (did-all steps a b (all_of steps) refl did)).contents

-- the line of a refusal reads nothing
reads-ended : (steps : List Step) (end : End) → reads_of (ended steps end).steps ≡ reads_of steps
reads-ended steps Done = refl
reads-ended steps (Refused line) = reads-both steps (Print line ∷ []) ∙ append-nil (reads_of steps)
reads-ended steps Missing = refl

-- ---- laws

pub step_laws : StepLaws
step_laws = record { writes_both = writes-both; reads_ended = reads-ended; goes_on = goes_on-whole }

pub tell_laws : TellLaws
tell_laws = record { tells = tells; causes = has_causes }
