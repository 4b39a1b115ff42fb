-- How a call ends.
use Rattle.std.proofs.Common.{◌≡◌, ℕ, ◌≤◌, List, [], ◌∷◌, ◌++◌, Some, None, refl, sym, ap, subst}
use Rattle.std.specs.Prelude.{String, string_bytes}
use Rattle.std.specs.declared.alloc.Global.{Global}
use Rattle.outside.specs.Steps.{Step, Print}
use Rattle.outside.specs.World.{Io}
use Rattle.replies.specs.Answer.{HasStatus, whole, no_memory}
use Rattle.replies.specs.Ending.{Stops, Ended}
use Rattle.replies.specs.Plan.{End, Done, Refused, Missing, Plan, done, Ends, Went}
use Rattle.replies.specs.Reply.{Reply, ended, reply_of}
use Rattle.replies.specs.Steps.{Begun, all_of, AllDone, IsFront}
use Rattle.replies.specs.declared.stop.Stop.{Stop}
use Rattle.replies.specs.declared.stop.Stop.TheVariants as stops
use Rattle.replies.specs.Fronts.{undone-none, all-did, did-all, front-before, not_refused, plan_laws}

-- a prefix of the plan is one of the reply
front-ended : (steps : List Step) (end : End) (begun : Begun) → IsFront steps begun → IsFront (ended steps end).steps begun
front-ended steps Done begun front = front
front-ended steps (Refused line) begun front = front-before steps (Print line ∷ []) begun front
front-ended steps Missing begun front = front

module _ (plan : Plan) (a b : Io) where
  -- it stopped, and refused nothing
  pub ended-stopped : (stop : Stop) (status : ℕ) → Went plan a b (Some stop) → ((line : String Global) → stop ≡ stops.Refused line → ⊥) → ((reply : Reply) (begun : Begun) → Stops stop reply begun → HasStatus reply begun status) → Ended (reply_of plan) a b status
  ended-stopped stop status w not has = record { begun = w.begun; front = front-ended plan.steps plan.end w.begun w.front; did = w.did; has_status = has (reply_of plan) w.begun (stops_at stop w.ends not); refs = w.refs }
    where
      stops_at : (s : Stop) → Ends plan (Some s) w.begun → ((line : String Global) → s ≡ stops.Refused line → ⊥) → Stops s (reply_of plan) w.begun
      stops_at (stops.Refused line) ends not = not line refl
      stops_at stops.ReadFault ends not = ends
      stops_at stops.WriteFault ends not = ends
      stops_at stops.NoMemory ends not = ends

  -- its refusal was told
  pub ended-refused : (stop : Stop) (line : String Global) (c : Io) (status : ℕ) → stop ≡ stops.Refused line → Went plan a b (Some stop) → ((steps : List Step) (start : Io) → b.refs ≡ start.refs → AllDone steps start.world b.world → Ended (record { status = 2; steps = steps ++ Print (string_bytes line) ∷ [] }) start c status) → Ended (reply_of plan) a c status
  ended-refused stop line c status same went told =
      (let w : Went plan a b (Some (stops.Refused line)) = subst (λ (s : Stop). Went plan a b (Some s)) same went in
      let is = ap (λ (e : End). ended plan.steps e) w.ends.0 in
      subst (λ (r : Reply). Ended r a c status) (sym is) (told plan.steps a w.refs (did-all plan.steps a.world b.world w.begun w.ends.1 w.did)))

-- memory ran out before the first step
pub ended-none : (reply : Reply) (a : Io) → Ended reply a a 5
ended-none reply a = record { begun = all_of []; front = (reply.steps, refl); did = all-did [] a.world a.world refl; has_status = no_memory refl refl (undone-none reply.steps); refs = refl }

-- ---- the last line

module _ (steps : List Step) (line : List ℕ) (start a b : Io) (same : a.refs ≡ start.refs) (all : AllDone steps start.world a.world) where
  before : Went (done steps) start a None
  before = record { begun = all_of steps; front = ([], ap (λ (xs : List Step). xs) (sym (no_more steps))); did = all-did steps start.world a.world all; ends = (refl, refl); refs = same }
    where
      no_more : (xs : List Step) → xs ++ ([] ++ []) ≡ xs
      no_more [] = refl
      no_more (x ∷ xs) = ap (λ (ys : List Step). x ∷ ys) (no_more xs)

  pub told-all : (status : ℕ) → status ≤ 2 → Went (done (Print line ∷ [])) a b None → Ended (record { status = status; steps = steps ++ Print line ∷ [] }) start b status
  told-all status low said =
      (let w = plan_laws.then (done steps) (done (Print line ∷ [])) start a b None tt before said in
      record { begun = w.begun; front = w.front; did = w.did; has_status = whole refl low w.ends.1; refs = w.refs })

  pub told-not : (status was : ℕ) (stop : Stop) → Went (done (Print line ∷ [])) a b (Some stop) → ((reply : Reply) (begun : Begun) → Stops stop reply begun → HasStatus reply begun was) → Ended (record { status = status; steps = steps ++ Print line ∷ [] }) start b was
  told-not status was stop said has =
      (let w = plan_laws.then (done steps) (done (Print line ∷ [])) start a b (Some stop) (λ prints. (Print line, [], refl)) before said in
      record { begun = w.begun; front = w.front; did = w.did; has_status = has _ w.begun (stops_at stop w.begun w.ends); refs = w.refs })
    where
      stops_at : (stop : Stop) (begun : Begun) → Ends (done (steps ++ Print line ∷ [])) (Some stop) begun → Stops stop (record { status = status; steps = steps ++ Print line ∷ [] }) begun
      stops_at (stops.Refused other) begun ends = absurd (not_refused _ ends.0)
      stops_at stops.ReadFault begun ends = ends
      stops_at stops.WriteFault begun ends = ends
      stops_at stops.NoMemory begun ends = ends
