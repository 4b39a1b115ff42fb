-- Plans one after the other, and how far each came. Laws with their proofs.
use Rattle.std.proofs.Common.{◌≡◌, List, [], ◌∷◌, ◌++◌, Bool, false, Option, Some, None, Ok, Err, refl, sym, ◌∙◌}
use Rattle.std.proofs.Common.{ap, subst, append_assoc}
use Rattle.std.specs.Prelude.{ℕ, IsTrue, IsFalse, String, option_to_list, string_bytes}
use Rattle.std.specs.declared.alloc.Global.{Global}
use Rattle.outside.specs.declared.fault.FileFault.{FileFault}
use Rattle.outside.specs.declared.fault.FileFault.TheVariants as fault
use Rattle.outside.specs.Steps.{Step, Read, Print, is_read, HasFailed, Began}
use Rattle.outside.specs.World.{World, Io}
use Rattle.replies.specs.Faults.{read_stop, write_stop}
use Rattle.replies.specs.Laws.{PlanLaws}
use Rattle.replies.specs.Plan.{End, Done, Refused, Missing, Plan, done, refuse, behind, steps_with, Ends, Went, Onward}
use Rattle.replies.specs.Steps.{Begun, all_of, AllDone, Did, IsFront, is_print, last_prints, ends_in_print, NotEmpty}
use Rattle.replies.specs.Steps.{HasMore, IsUndone}
use Rattle.replies.specs.declared.stop.Stop.{Stop}
use Rattle.replies.specs.declared.stop.Stop.TheVariants as stops

-- ---- steps

pub all_done-both : (ps qs : List Step) (a b c : World) → AllDone ps a b → AllDone qs b c → AllDone (ps ++ qs) a c
all_done-both [] qs a b c first second = subst (λ (w : World). AllDone qs w c) first second
all_done-both (p ∷ ps) qs a b c first second = (first.0, first.1, all_done-both ps qs first.0 b c first.2 second)

-- what was begun after these steps
abbrev pub begun_behind : List Step → Begun → Begun
begun_behind steps begun = record { done = steps ++ begun.done; failed = begun.failed }

front-behind : (ps qs : List Step) (begun : Begun) → IsFront qs begun → IsFront (ps ++ qs) (begun_behind ps begun)
front-behind ps qs begun (rest, is) = (rest, ap (λ (xs : List Step). ps ++ xs) is ∙ sym (append_assoc ps begun.done _))

pub front-before : (ps qs : List Step) (begun : Begun) → IsFront ps begun → IsFront (ps ++ qs) begun
front-before ps qs begun (rest, is) = (
  rest ++ qs,
  ap (λ (xs : List Step). xs ++ qs) is
      ∙ append_assoc begun.done (option_to_list begun.failed ++ rest) qs
      ∙ ap (λ (xs : List Step). begun.done ++ xs) (append_assoc (option_to_list begun.failed) rest qs),
)

pub did-all : (steps : List Step) (a b : World) (begun : Begun) → begun ≡ all_of steps → Did begun a b
    → AllDone steps a b
did-all steps a b begun is did =
    let whole : Did (all_of steps) a b = subst (λ (x : Begun). Did x a b) is did in
    subst (λ (w : World). AllDone steps a w) (sym whole.failed) whole.done

pub all-did : (steps : List Step) (a b : World) → AllDone steps a b → Did (all_of steps) a b
all-did steps a b every = record { mid = b; done = every; failed = refl }

-- ---- what is left to do

no_step : (step : Step) (rest : List Step) → ◌≡◌ {A = List Step} [] (step ∷ rest) → ⊥
no_step step rest e = cc

prints-both : (so : Bool) (xs ys : List Step) → last_prints so (xs ++ ys) ≡ last_prints (last_prints so xs) ys
prints-both so [] ys = refl
prints-both so (x ∷ xs) ys = prints-both (is_print x) xs ys

pub no_print : IsTrue false → ⊥
no_print e = cc

-- before the first step
pub undone-none : (steps : List Step) → IsUndone steps []
undone-none [] = λ prints. absurd (no_print prints)
undone-none (step ∷ steps) = λ prints. (step, steps, refl)

-- after these steps
undone-behind : (ps qs done : List Step) → (IsTrue (ends_in_print ps) → NotEmpty qs) → IsUndone qs done
    → IsUndone (ps ++ qs) (ps ++ done)
undone-behind ps [] done some undone = λ prints.
    let is : IsTrue (ends_in_print ps) = subst IsTrue (prints-both false ps []) prints in
    let (step, rest, none) = some is in
    absurd (no_step step rest none)
undone-behind ps (q ∷ qs) done some undone = λ prints.
    let is : IsTrue (ends_in_print (q ∷ qs)) = subst IsTrue (prints-both false ps (q ∷ qs)) prints in
    let more = undone is in
    (more.0, more.1, ap (λ (xs : List Step). ps ++ xs) more.2 ∙ sym (append_assoc ps done (more.0 ∷ more.1)))

more-before : (ps qs done : List Step) → HasMore ps done → HasMore (ps ++ qs) done
more-before ps qs done (step, rest, is) = (
  step,
  rest ++ qs,
  ap (λ (xs : List Step). xs ++ qs) is
      ∙ append_assoc done (step ∷ rest) qs,
)

-- before these steps
undone-before : (ps qs done rest : List Step) → ps ≡ done ++ rest → IsUndone ps done → IsUndone (ps ++ qs) done
undone-before ps [] done rest is undone = λ prints.
    more-before ps [] done (undone (subst IsTrue (prints-both false ps []) prints))
undone-before ps (q ∷ qs) done [] is undone = λ prints.
    (q, qs, ap (λ (xs : List Step). xs ++ q ∷ qs) is ∙ append_assoc done [] (q ∷ qs))
undone-before ps (q ∷ qs) done (r ∷ rest) is undone = λ prints.
    (r, rest ++ q ∷ qs, ap (λ (xs : List Step). xs ++ q ∷ qs) is ∙ append_assoc done (r ∷ rest) (q ∷ qs))

pub with-behind : (ps qs : List Step) (end : End) → steps_with (ps ++ qs) end ≡ ps ++ steps_with qs end
with-behind ps qs Done = refl
with-behind ps qs (Refused line) = append_assoc ps qs (Print line ∷ [])
with-behind ps qs Missing = refl

-- ---- plans

ends-behind : (ps : List Step) (q : Plan) (stop : Option Stop) (begun : Begun) → Onward ps q stop → Ends q stop begun
    → Ends (behind ps q) stop (begun_behind ps begun)
ends-behind ps q None begun on (is, all) = (is, ap (begun_behind ps) all)
ends-behind ps q (Some (stops.Refused line)) begun on (is, all) = (is, ap (begun_behind ps) all)
ends-behind ps q (Some stops.ReadFault) begun on ends = ends
ends-behind ps q (Some stops.WriteFault) begun on ends = ends
ends-behind ps q (Some stops.NoMemory) begun on (none, undone) = (
  none,
  subst (λ (xs : List Step). IsUndone xs (ps ++ begun.done)) (sym (with-behind ps q.steps q.end))
      (undone-behind ps (steps_with q.steps q.end) begun.done on undone),
)

pub not_refused : (line : List ℕ) → Done ≡ Refused line → ⊥
not_refused line e = cc

ends-cut : (p q : Plan) (stop : Stop) (begun : Begun) → p.end ≡ Done → IsFront p.steps begun → Ends p (Some stop) begun
    → Ends (behind p.steps q) (Some stop) begun
ends-cut p q (stops.Refused line) begun is front ends = absurd (not_refused _ (sym is ∙ ends.0))
ends-cut p q stops.ReadFault begun is front ends = ends
ends-cut p q stops.WriteFault begun is front ends = ends
ends-cut p q stops.NoMemory begun is (rest, same) (none, undone) =
    let first : p.steps ≡ begun.done ++ rest = same
    ∙ ap (λ (o : Option Step). begun.done ++ (option_to_list o ++ rest)) none in
    let left : IsUndone p.steps begun.done = subst
    (λ (e : End). IsUndone (steps_with p.steps e) begun.done) is undone in (
      none,
      subst (λ (xs : List Step). IsUndone xs begun.done) (sym (with-behind p.steps q.steps q.end))
          (undone-before p.steps (steps_with q.steps q.end) begun.done rest first left),
    )

-- all of the first and then some of the second
pub went-then : (p q : Plan) (a b c : Io) (stop : Option Stop) → Onward p.steps q stop → Went p a b None
    → Went q b c stop → Went (behind p.steps q) a c stop
went-then p q a b c stop on first second = record {
  begun = begun_behind p.steps second.begun;
  front = front-behind p.steps q.steps second.begun second.front;
  did =
      record {
        mid = second.did.mid;
        done = all_done-both p.steps second.begun.done a.world b.world second.did.mid
            (did-all p.steps a.world b.world first.begun first.ends.1 first.did) second.did.done;
        failed = second.did.failed;
      };
  ends = ends-behind p.steps q stop second.begun on second.ends;
  refs = second.refs ∙ first.refs;
}

-- the first alone, which stopped
pub went-cut : (p q : Plan) (a b : Io) (stop : Stop) → p.end ≡ Done → Went p a b (Some stop)
    → Went (behind p.steps q) a b (Some stop)
went-cut p q a b stop is first = record {
  begun = first.begun;
  front = front-before p.steps q.steps first.begun first.front;
  did = first.did;
  ends = ends-cut p q stop first.begun is first.front first.ends;
  refs = first.refs;
}

-- ---- one step, or none

went-failed : (s : Step) (a b : Io) (stop : Stop) → HasFailed s a.world b.world → b.refs ≡ a.refs
    → Ends (done (s ∷ [])) (Some stop) (record { done = []; failed = Some s }) → Went (done (s ∷ [])) a b (Some stop)
went-failed s a b stop failed refs ends =
    record {
      begun = record { done = []; failed = Some s };
      front = ([], refl);
      did = record { mid = a.world; done = refl; failed = failed };
      ends = ends;
      refs = refs;
    }

-- memory ran out before the first step
pub none_begun : (p : Plan) (a : Io) → Went p a a (Some stops.NoMemory)
none_begun p a = record {
  begun = all_of [];
  front = (p.steps, refl);
  did = record { mid = a.world; done = refl; failed = refl };
  ends = (refl, undone-none (steps_with p.steps p.end));
  refs = refl;
}

pub nothing_to_do : (a : Io) → Went (done []) a a None
nothing_to_do a = record {
  begun = all_of [];
  front = ([], refl);
  did = record { mid = a.world; done = refl; failed = refl };
  ends = (refl, refl);
  refs = refl;
}

pub only_refused : (a : Io) (line : String Global) → Went (refuse (string_bytes line)) a a (Some (stops.Refused line))
only_refused a line = record {
  begun = all_of [];
  front = ([], refl);
  did = record { mid = a.world; done = refl; failed = refl };
  ends = (refl, refl);
  refs = refl;
}

pub keeps : (name : List ℕ) (most : ℕ) (end : End) (a b : Io)
    → Went (record { steps = Read name most ∷ []; end = end }) a b None → b.world.contents ≡ a.world.contents
keeps name most end a b went =
    let all = did-all (Read name most ∷ []) a.world b.world went.begun went.ends.1 went.did in
    ap (λ (w : World). w.contents) all.2 ∙ ap (λ (w : World). w.contents) all.1.1

pub plan_laws : PlanLaws
plan_laws = record {
  then = went-then;
  cut = went-cut;
  keeps = keeps;
}

-- a line may come after any steps
pub onward-print : (steps : List Step) (line : List ℕ) (stop : Option Stop) → Onward steps (done (Print line ∷ [])) stop
onward-print steps line None = tt
onward-print steps line (Some stop) = λ prints. (Print line, [], refl)

-- ---- what a call on the outside gives

pub step-done : (u : Unit {0}) (s : Step) (a b : Io) → Began {T = Unit {0}} s a b (Ok u) → Went (done (s ∷ [])) a b None
step-done u s a b (was, refs) = record {
  begun = all_of (s ∷ []);
  front = ([], refl);
  did = record { mid = b.world; done = (b.world, was, refl); failed = refl };
  ends = (refl, refl);
  refs = refs;
}

module _ (s : Step) (a b : Io) where
  read_stopped : (T : Type 0) (e : FileFault) → Began {T = T} s a b (Err e) → IsTrue (is_read s)
      → Went (done (s ∷ [])) a b (Some (read_stop e))
  read_stopped T fault.Failed began kind = went-failed s a b stops.ReadFault began.0 began.1 kind
  read_stopped T fault.NoMemory began kind =
      subst (λ (x : Io). Went (done (s ∷ [])) a x (Some stops.NoMemory)) (sym began) (none_begun (done (s ∷ [])) a)

  write_stopped : (e : FileFault) → Began {T = Unit {0}} s a b (Err e) → IsFalse (is_read s)
      → Went (done (s ∷ [])) a b (Some (write_stop e))
  write_stopped fault.Failed began kind = went-failed s a b stops.WriteFault began.0 began.1 kind
  write_stopped fault.NoMemory began kind = subst (λ (x : Io). Went (done (s ∷ [])) a x (Some stops.NoMemory))
      (sym began) (none_begun (done (s ∷ [])) a)

pub read-stopped : (T : Type 0) (s : Step) (a b : Io) (e : FileFault) (stop : Stop) → stop ≡ read_stop e
    → Began {T = T} s a b (Err e) → IsTrue (is_read s) → Went (done (s ∷ [])) a b (Some stop)
read-stopped T s a b e stop is began kind =
    subst (λ (x : Stop). Went (done (s ∷ [])) a b (Some x)) (sym is) (read_stopped s a b T e began kind)

pub write-stopped : (s : Step) (a b : Io) (e : FileFault) (stop : Stop) → stop ≡ write_stop e
    → Began {T = Unit {0}} s a b (Err e) → IsFalse (is_read s) → Went (done (s ∷ [])) a b (Some stop)
write-stopped s a b e stop is began kind =
    subst (λ (x : Stop). Went (done (s ∷ [])) a b (Some x)) (sym is) (write_stopped s a b e began kind)
