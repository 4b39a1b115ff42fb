-- What holds of every recipe. Laws with their proofs.
use Rattle.std.proofs.Common.{◌≡◌, ◌⊎◌, inl, inr, ℕ, ◌≤◌, List, [], ◌∷◌, ◌++◌, length, Option, Some, None, Result, Ok}
use Rattle.std.proofs.Common.{Err, refl, sym, ◌∙◌, ap, subst, arith}
use Rattle.std.specs.Prelude.{Vec, IsErrAnd}
use Rattle.std.specs.declared.alloc.Global.{Global}
use Rattle.outside.specs.Bytes.{AreBytes, HoldsBytes}
use Rattle.outside.specs.Files.{Content}
use Rattle.outside.specs.Files as files
use Rattle.outside.specs.Steps.{Step, Read}
use Rattle.outside.specs.World.{Io}
use Rattle.replies.specs.Asking.{missing, too_long, found, checks, refused, goes_on, lined, IsModel}
use Rattle.replies.specs.Asking.{IsCheck, Asked}
use Rattle.replies.specs.Plan.{End, Done, Refused, Plan, done, behind, Given, later, TellsBytes, GivenBy, Onward, Went}
use Rattle.replies.specs.Plan.{WentBy, stop_of}
use Rattle.replies.specs.Reply.{ended, reply_of}
use Rattle.replies.specs.Steps.{reads_of, NotEmpty}
use Rattle.replies.specs.declared.stop.Stop.{Stop}
use Rattle.replies.specs.declared.stop.Stop.TheVariants as stops
use Rattle.replies.specs.Recipe.{Own, checked, owe, Recipe, read, own, File, own_model, model, IsOwed, OwnSound}
use Rattle.replies.specs.Recipe.{Sound, gives, AfterFiles, FilesRead, OwnRefuses, OwnRefusal}
use Rattle.replies.specs.Refused.{RefusesBy}
use Rattle.replies.specs.Runs.{Refuses, Checks, FileRead, OwnRuns, Runs, MayStop, Onto}
use Rattle.replies.specs.Fronts.{went-then, went-cut, keeps, none_begun}
use Rattle.replies.specs.Going.{not_both, asks-model, checks-model, steps-model, asked-then, asked-stopped}
use Rattle.replies.specs.Going.{checked-then, checked-stopped}

-- ---- there is one plan

pub own-one : (part : Own) → OwnSound part → IsModel (own_model part)
own-one (checked is next) sound = checks-model is _ sound.0 (λ v good. own-one (next v) (sound.1 v good))
own-one (owe owes) sound = steps-model owes sound.some sound.one sound.quiet

pub one : (recipe : Recipe) → Sound recipe → IsModel (model recipe)
one (read file next) sound =
    asks-model file.name file.most file.place _
    (λ bytes are. checks-model (file.format file.place bytes) _ (sound.0 file.place bytes are)
    (λ v good. one (next v) (sound.1 bytes v are good)))
one (own part) sound = own-one part sound

-- ---- what ran follows the model

tells_later : (name : List ℕ) (most : ℕ) (end : End) (a b : Io) → TellsBytes a.world
    → Went (record { steps = Read name most ∷ []; end = end }) a b None → TellsBytes b.world
tells_later name most end a b tells went = λ of n is. tells of n (sym (keeps name most end a b went) ∙ is)

own-follows : (part : Own) → OwnSound part → (a c : Io) (stop : Option Stop) → TellsBytes a.world
    → OwnRuns part a c stop → WentBy (own_model part) a c stop
own-follows (checked is next) sound a c stop tells (inl (e, bad, same, was)) =
    let stays : WentBy (own_model (checked is next)) a a (Some e) =
    checked-stopped is _ a e (own-one (checked is next) sound).some_for tells bad in
    subst (λ (s : Option Stop). WentBy (own_model (checked is next)) a c s) (sym was)
    (subst (λ (z : Io). WentBy (own_model (checked is next)) a z (Some e)) (sym same) stays)
own-follows (checked is next) sound a c stop tells (inr (v, good, rest)) =
    checked-then is _ a c v stop good (own-follows (next v) (sound.1 v good) a c stop tells rest)
own-follows (owe owes) sound a c stop tells (ss, owed, went) = record {
  given = λ n. None;
  plan = done ss;
  is_plan = (ss, owed, refl);
  agrees = subst (λ (rs : List files.Read). GivenBy a.world.contents rs (λ n. None)) (sym (sound.quiet ss owed)) tt;
  went = went;
}

module _ {V : Type 0} (file : File V) (next : V → Recipe) (sound : Sound (read file next)) where
  behind_file : (bytes : List ℕ) → AreBytes bytes
      → IsModel (checks (file.format file.place bytes) (λ v. model (next v)))
  behind_file bytes are = checks-model (file.format file.place bytes) _ (sound.0 file.place bytes are)
      (λ v good. one (next v) (sound.1 bytes v are good))

pub follows : (recipe : Recipe) → Sound recipe → (a c : Io) (stop : Option Stop) → TellsBytes a.world
    → Runs recipe a c stop → WentBy (model recipe) a c stop
follows (read file next) sound a c stop tells (inl (e, inl asked, was)) =
    subst (λ (s : Option Stop). WentBy (model (read file next)) a c s) (sym was)
    (asked-stopped file.name file.most file.place _ a c e (behind_file file next sound) tells asked)
follows (read file next) sound a c stop tells (inl (e, inr (bytes, asked, bad), was)) =
    let are : AreBytes bytes.items = subst HoldsBytes asked.gives asked.holds in
    let stays = checked-stopped (file.format file.place bytes.items) _ c e
    (behind_file file next sound bytes.items are).some_for (tells_later _ _ _ a c tells asked.does) bad in
    subst (λ (s : Option Stop). WentBy (model (read file next)) a c s) (sym was)
    (asked-then file.name file.most file.place _ a c c bytes (Some e) asked stays)
follows (read file next) sound a c stop tells (inr (v, mid, (bytes, asked, good), rest)) =
    let are : AreBytes bytes.items = subst HoldsBytes asked.gives asked.holds in
    asked-then file.name file.most file.place _ a mid c bytes stop asked
    (checked-then (file.format file.place bytes.items) _ mid c v stop good
    (follows (next v) (sound.1 bytes.items v are good) mid c stop (tells_later _ _ _ a mid tells asked.does) rest))
follows (own part) sound a c stop tells runs = own-follows part sound a c stop tells runs

-- ---- parts of a command

-- what stopped, as a `?` passes it on
pub passed_on : {T : Type 0} (r : Result T Stop) (e : Stop) → IsErrAnd r (λ y. y ≡ e) → stop_of r ≡ Some e
passed_on (Ok x) e is = absurd is
passed_on (Err y) e is = ap (λ (x : Stop). Some x) is

-- what was done of a plan, where it stopped so
pub went_passed : {T : Type 0} (plan : Plan) (a b : Io) (r : Result T Stop) (e : Stop) → IsErrAnd r (λ y. y ≡ e)
    → Went plan a b (Some e) → Went plan a b (stop_of r)
went_passed plan a b r e is went = subst (λ (stop : Option Stop). Went plan a b stop) (sym (passed_on r e is)) went

-- nothing was done of a plan, where memory ran out before its first step
pub none_passed : {T : Type 0} (plan : Plan) (a : Io) (r : Result T Stop) → IsErrAnd r (λ y. y ≡ stops.NoMemory)
    → Went plan a a (stop_of r)
none_passed plan a r is = went_passed plan a a r stops.NoMemory is (none_begun plan a)

-- a file that was asked for, and then checked
pub file_read : {T V : Type 0} (file : File V) (view : T → V) (a b : Io) (bytes : Vec ℕ Global) (front : List ℕ)
    (r : Result T Stop) → front ≡ bytes.items → Asked file.name file.most file.place a b (Ok bytes)
    → Checks view (file.format file.place front) r → FileRead file view a b r
file_read file view a b bytes front (Ok x) is asked good =
    (bytes, asked, subst (λ (bs : List ℕ). file.format file.place bs (Ok (view x))) is good)
file_read file view a b bytes front (Err e) is asked bad =
    inr (bytes, asked, subst (λ (bs : List ℕ). Refuses (file.format file.place bs) e) is bad)

-- steps in a loop
pub may_stop : (steps : List Step) (one : List Step) (stop : Option Stop) → MayStop steps stop
    → Onward one (done steps) stop
may_stop steps one None may = tt
may_stop steps one (Some stop) may = λ prints. may

may_behind : (one rest : List Step) (stop : Option Stop) → MayStop rest stop → MayStop (one ++ rest) stop
may_behind one rest None may = tt
may_behind [] rest (Some stop) may = may
may_behind (s ∷ ss) rest (Some stop) may = (s, ss ++ rest, refl)

pub onto_next : (all one rest : List Step) (start now b : Io) → Onto all start (one ++ rest) now
    → Went (done one) now b None → Onto all start rest b
onto_next all one rest start now b onto did end stop may went =
    onto end stop (may_behind one rest stop may)
    (went-then (done one) (done rest) now b end stop (may_stop rest one stop may) did went)

pub onto_stop : (all one rest : List Step) (start now b : Io) (e : Stop) → NotEmpty one
    → Onto all start (one ++ rest) now → Went (done one) now b (Some e) → Went (done all) start b (Some e)
onto_stop all one rest start now b e (s, ss, is) onto did =
    onto b (Some e) (s, ss ++ rest, ap (λ (xs : List Step). xs ++ rest) is)
    (went-cut (done one) (done rest) now b e refl did)

-- a check that refuses by a line
pub refuses_by : {V : Type 0} (is : Result V (List ℕ) → Type 0) (line : List ℕ) (e : Stop) → RefusesBy line e
    → is (Err line) → Refuses is e
refuses_by is line (stops.Refused text) same bad = subst (λ (l : List ℕ). is (Err l)) (sym same) bad
refuses_by is line stops.ReadFault same bad = absurd same
refuses_by is line stops.WriteFault same bad = absurd same
refuses_by is line stops.NoMemory same bad = tt

pub empty_list : {X : Type 0} (xs : List X) → length xs ≡ 0 → xs ≡ []
empty_list [] none = refl
empty_list (x ∷ xs) none = absurd (omega (arith, none))

-- ---- what has to hold of formats and steps

pub known_owed : (these : List Step) → reads_of these ≡ [] → IsOwed (λ ss. ss ≡ these)
known_owed these quiet = record {
  some = (these, refl);
  one = λ xs ys p q. p ∙ sym q;
  quiet = λ xs p. ap reads_of p ∙ quiet;
}

-- a check that is computed
pub gives_check : {V : Type 0} (computed : Result V (List ℕ)) → IsCheck (gives computed)
gives_check computed = record { some = (computed, refl); one = λ r s p q. sym p ∙ q }

-- a fault that is reported by its line
pub lined_check : {V F : Type 0} (line_of : F → List ℕ) (is : Result V F → Type 0) → (r : Result V F) × is r
    → ((r s : Result V F) → is r → is s → r ≡ s) → IsCheck (lined line_of is)
lined_check {V = V} {F = F} line_of is some one = record { some = by_result some; one = alike }
  where
    by_result : (r : Result V F) × is r → (r : Result V (List ℕ)) × lined line_of is r
    by_result (Ok v, good) = (Ok v, good)
    by_result (Err fault, bad) = (Err (line_of fault), (fault, bad, refl))

    alike : (r s : Result V (List ℕ)) → lined line_of is r → lined line_of is s → r ≡ s
    alike (Ok v) (Ok w) p q = (let same : ◌≡◌ {A = Result V F} (Ok v) (Ok w) = one (Ok v) (Ok w) p q in
        let values : v ≡ w = cc in ap (λ (x : V). Ok x) values)
    alike (Ok v) (Err line) p (fault, bad, is_line) =
        (let same : ◌≡◌ {A = Result V F} (Ok v) (Err fault) = one (Ok v) (Err fault) p bad in cc)
    alike (Err line) (Ok w) (fault, bad, is_line) q =
        (let same : ◌≡◌ {A = Result V F} (Ok w) (Err fault) = one (Ok w) (Err fault) q bad in cc)
    alike (Err line) (Err other) (f, bad, is_line) (h, worse, be_line) =
        (let same : ◌≡◌ {A = Result V F} (Err f) (Err h) = one (Err f) (Err h) bad worse in
        let faults : f ≡ h = cc in
        ap (λ (l : List ℕ). Err l) (is_line ∙ ap line_of faults ∙ sym be_line))

-- ---- completeness

after-map : (recipe : Recipe) (of : List ℕ → Content) (P Q : Own → List Step → Type 0) → ((part : Own) (ss : List Step)
    → P part ss → Q part ss) → AfterFiles recipe of P → AfterFiles recipe of Q
after-map (read file next) of P Q each (bytes, v, is, small, good, rest) =
    (bytes, v, is, small, good, after-map (next v) of _ _ (λ part ss. each part (Read file.name file.most ∷ ss)) rest)
after-map (own part) of P Q each p = each part [] p

-- done, or refused by a check of the command's own
abbrev OwnEnded : Own → Plan → Type 0
OwnEnded part plan = (plan.end ≡ Done) ⊎ ((line : List ℕ) × OwnRefuses part line
    × (plan ≡ record { steps = []; end = Refused line }))

own-complete : (part : Own) (given : Given) (plan : Plan) → own_model part given plan → OwnEnded part plan
own-complete (checked is next) given _ (refused {line = line} bad) = inr (line, inl bad, refl)
own-complete (checked is next) given plan (goes_on v good rest) = by_rest (own-complete (next v) given plan rest)
  where
    by_rest : OwnEnded (next v) plan → OwnEnded (checked is next) plan
    by_rest (inl ends) = inl ends
    by_rest (inr (line, refuses, same)) = inr (line, inr (v, good, refuses), same)
own-complete (owe owes) given plan (ss, owed, is) = inl (ap (λ (p : Plan). p.end) is)

-- all files were read, and then a check of the command's own refused
abbrev PlanRefusal : Recipe → (List ℕ → Content) → Plan → Type 0
PlanRefusal recipe of plan =
    AfterFiles recipe of (λ part ss. (line : List ℕ) × OwnRefuses part line
    × (plan ≡ record { steps = ss; end = Refused line }))

same_bytes : (x y : List ℕ) (o : Content) → o ≡ Some x → o ≡ Some y → x ≡ y
same_bytes x y o p q = cc

no_bytes : (x : List ℕ) (o : Content) → o ≡ None → o ≡ Some x → ⊥
no_bytes x o p q = cc

-- after a file that was found, where what follows it is complete
found-complete : {V : Type 0} (file : File V) (next : V → Recipe) {more : List ℕ}
    → IsCheck (file.format file.place more) → (of : List ℕ → Content) (given : Given) (plan : Plan) (bytes : List ℕ)
    (v : V) → of file.name ≡ Some bytes → length bytes ≤ file.most → file.format file.place bytes (Ok v)
    → file.format file.place more (Ok v) → checks (file.format file.place more) (λ w. model (next w)) given plan
    → (model (next v) given plan → (plan.end ≡ Done) ⊎ PlanRefusal (next v) of plan)
    → (plan.end ≡ Done) ⊎ PlanRefusal (read file next) of (behind (Read file.name file.most ∷ []) plan)
found-complete file next format of given plan bytes v holds small good fine (refused {line = line} bad) rest =
    absurd (not_both v line (format.one (Ok v) (Err line) fine bad))
found-complete {V = V} file next format of given plan bytes v holds small good fine (goes_on w well m) rest =
    let alike : ◌≡◌ {A = Result V (List ℕ)} (Ok w) (Ok v) = format.one (Ok w) (Ok v) well fine in
    let values : w ≡ v = cc in
    by_rest (rest (subst (λ (x : V). model (next x) given plan) values m))
  where
    by_rest : (plan.end ≡ Done) ⊎ PlanRefusal (next v) of plan
        → (plan.end ≡ Done) ⊎ PlanRefusal (read file next) of (behind (Read file.name file.most ∷ []) plan)
    by_rest (inl ends) = inl ends
    by_rest (inr refusal) =
        inr (
          bytes,
          v,
          holds,
          small,
          good,
          after-map (next v) of _ _
              (λ part ss r. (r.0, r.1, ap (behind (Read file.name file.most ∷ [])) r.2)) refusal,
        )

plan-complete : (recipe : Recipe) → Sound recipe → (of : List ℕ → Content) (given : Given) (plan : Plan)
    → model recipe given plan → GivenBy (Some of) (reads_of plan.steps) given → FilesRead recipe of
    → (plan.end ≡ Done) ⊎ PlanRefusal recipe of plan
plan-complete (read file next) sound of given _ (missing is) agrees (bytes, v, holds, small, good, rest) =
    absurd (no_bytes bytes (of file.name) (sym agrees.0 ∙ is) holds)
plan-complete (read file next) sound of given _ (too_long more is past) agrees (bytes, v, holds, small, good, rest) =
    let same : more ≡ bytes = same_bytes more bytes (of file.name) (sym agrees.0 ∙ is) holds in
    absurd (omega (arith, past, small, ap length same))
plan-complete (read file next) sound of given _ (found more plan is short are n) agrees
    (bytes, v, holds, small, good, rest) =
    let same : more ≡ bytes = same_bytes more bytes (of file.name) (sym agrees.0 ∙ is) holds in
    let fine = subst (λ (bs : List ℕ). file.format file.place bs (Ok v)) (sym same) good in
    found-complete file next (sound.0 file.place more are) of (later given) plan bytes v holds small good fine n
    (λ m. plan-complete (next v) (sound.1 more v are fine) of (later given) plan m agrees.1 rest)
plan-complete (own part) sound of given plan is agrees tt = own-complete part given plan is

-- done, or refused by a check of the command's own
pub complete : (recipe : Recipe) → Sound recipe → (of : List ℕ → Content) (given : Given) (plan : Plan)
    → model recipe given plan → GivenBy (Some of) (reads_of plan.steps) given → FilesRead recipe of
    → ((reply_of plan).status ≡ 0) ⊎ OwnRefusal recipe of (reply_of plan)
complete recipe sound of given plan is agrees files = by_end (plan-complete recipe sound of given plan is agrees files)
  where
    by_end : (plan.end ≡ Done) ⊎ PlanRefusal recipe of plan
        → ((reply_of plan).status ≡ 0) ⊎ OwnRefusal recipe of (reply_of plan)
    by_end (inl ends) = inl (ap (λ (e : End). (ended plan.steps e).status) ends)
    by_end (inr refusal) = inr (after-map recipe of _ _ (λ part ss r. (r.0, r.1, ap reply_of r.2)) refusal)
