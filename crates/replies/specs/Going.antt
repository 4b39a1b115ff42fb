-- Models that read or check and then go on: what follows them, and that each has one plan. Laws with their proofs.
use Rattle.std.proofs.Common.{◌≡◌, ℕ, zero, suc, ◌<◌, ◌≤◌, Bool, true, false, List, [], ◌∷◌, length, Option, Some, None}
use Rattle.std.proofs.Common.{Result, Ok, Err, nat_le, refl, sym, ◌∙◌, ap, subst, arith}
use Rattle.std.specs.Prelude.{IfSome, Vec, string_bytes, if◌then◌else◌}
use Rattle.std.specs.declared.alloc.Global.{Global}
use Rattle.std.proofs.lemmas.Bool.Decides.{nat_tests}
use Rattle.outside.specs.Bytes.{AreBytes, HoldsBytes}
use Rattle.outside.specs.Files.{Content}
use Rattle.outside.specs.Files as files
use Rattle.outside.specs.Steps.{Step, Read}
use Rattle.outside.specs.World.{World, Io}
use Rattle.replies.specs.Asking.{asks, missing, too_long, found, checks, refused, goes_on, HasPlan, OnePlan, PlanFor}
use Rattle.replies.specs.Asking.{PlansFor, OnePlanFor, IsModel, IsCheck, asked_end, Asked}
use Rattle.replies.specs.Line.{refused_size}
use Rattle.replies.specs.Plan.{End, Done, Refused, Missing, Plan, done, refuse, behind, Given, later, TellsBytes}
use Rattle.replies.specs.Plan.{GivenBy, Onward, Went, WentBy}
use Rattle.replies.specs.Runs.{Refuses}
use Rattle.replies.specs.Steps.{reads_of}
use Rattle.replies.specs.declared.stop.Stop.{Stop}
use Rattle.replies.specs.declared.stop.Stop.TheVariants as stops
use Rattle.replies.specs.Fronts.{no_print, went-then, went-cut, keeps, none_begun, only_refused}

-- ---- what is given

-- this to the first read, and the rest to those after it
abbrev pub first_given : Content → Given → Given
first_given content given zero = content
first_given content given (suc n) = given n

pub nothing_told : (reads : List files.Read) (given : Given) → GivenBy None reads given
nothing_told [] given = tt
nothing_told (read ∷ reads) given = (tt, nothing_told reads (later given))

-- a plan for what the files hold, or for no files where they do not say it
pub record PlanAt (model : Given → Plan → Type 0) (w : World) : Type 0 where
  pub given : Given
  pub plan : Plan
  pub is_plan : model given plan
  pub agrees : GivenBy w.contents (reads_of plan.steps) given

pub plan_at : (model : Given → Plan → Type 0) (w : World) → PlansFor model → TellsBytes w → PlanAt model w
plan_at model w plans tells = by_contents w.contents refl
  where
    by_contents : (contents : Option (List ℕ → Content)) → w.contents ≡ contents → PlanAt model w
    by_contents None is =
        let p = plans (λ name. None) (λ name. tt) in
        record {
          given = p.given;
          plan = p.plan;
          is_plan = p.is_plan;
          agrees = subst (λ (o : Option (List ℕ → Content)). GivenBy o (reads_of p.plan.steps) p.given) (sym is)
              (nothing_told _ _);
        }
    by_contents (Some of) is =
        let p = plans of (λ name. tells of name is) in
        record {
          given = p.given;
          plan = p.plan;
          is_plan = p.is_plan;
          agrees = subst (λ (o : Option (List ℕ → Content)). GivenBy o (reads_of p.plan.steps) p.given)
              (sym is) p.agrees;
        }

-- memory ran out before the first step
pub follows-none : (model : Given → Plan → Type 0) (a : Io) → PlansFor model → TellsBytes a.world
    → WentBy model a a (Some stops.NoMemory)
follows-none model a plans tells =
    (let p = plan_at model a.world plans tells in
    record { given = p.given; plan = p.plan; is_plan = p.is_plan; agrees = p.agrees; went = none_begun p.plan a })

-- ---- a file that is asked for

fits_in : (most place : ℕ) (bytes : List ℕ) (fits : Bool) → nat_le (length bytes) most ≡ fits
    → asked_end most place (Some bytes) ≡ Done → length bytes ≤ most
fits_in most place bytes true is ends = grind (arith, nat_tests)
fits_in most place bytes false is ends =
    let long : asked_end most place (Some bytes) ≡ Refused (refused_size place) =
    ap (λ (t : Bool). if t then Done else Refused (refused_size place)) is in
    cc

module _ (name : List ℕ) (most place : ℕ) (next : List ℕ → Given → Plan → Type 0) (a b : Io) where
  on_read : (q : Plan) (stop : Option Stop) → Onward (Read name most ∷ []) q stop
  on_read q None = tt
  on_read q (Some stop) = λ prints. absurd (no_print prints)

  pub asked-then : (c : Io) (v : Vec ℕ Global) (stop : Option Stop) → Asked name most place a b (Ok v)
      → WentBy (next v.items) b c stop → WentBy (asks name most place next) a c stop
  asked-then c v stop asked f =
      let content : asked.content ≡ Some v.items = asked.gives in
      let ends : asked_end most place (Some v.items) ≡ Done =
      subst (λ (o : Content). asked_end most place o ≡ Done) content asked.does.ends.0 in
      let short : length v.items ≤ most = fits_in most place v.items (nat_le (length v.items) most) refl ends in
      let are : AreBytes v.items = subst HoldsBytes content asked.holds in
      let same : b.world.contents ≡ a.world.contents =
      keeps name most (asked_end most place asked.content) a b asked.does in
      record {
        given = first_given (Some v.items) f.given;
        plan = behind (Read name most ∷ []) f.plan;
        is_plan = found v.items f.plan refl short are f.is_plan;
        agrees = (
          subst (λ (o : Content). IfSome a.world.contents (λ of. o ≡ of name)) content asked.agrees,
          subst (λ (o : Option (List ℕ → Content)). GivenBy o (reads_of f.plan.steps) f.given) same f.agrees,
        );
        went = went-then (record { steps = Read name most ∷ []; end = asked_end most place asked.content }) f.plan a b
            c stop (on_read f.plan stop) asked.does f.went;
      }

  pub asked-stopped : (e : Stop) → ((bytes : List ℕ) → AreBytes bytes → IsModel (next bytes)) → TellsBytes a.world
      → Asked name most place a b (Err e) → WentBy (asks name most place next) a b (Some e)
  asked-stopped e models tells asked = by_content asked.content refl
    where
      does_at : (content : Content) (end : End) → asked.content ≡ content → asked_end most place content ≡ end
          → Went (record { steps = Read name most ∷ []; end = end }) a b (Some e)
      does_at content end is ends = subst (λ (x : End). Went (record { steps = Read name most ∷ []; end = x }) a b
          (Some e)) (ap (asked_end most place) is ∙ ends) asked.does

      agrees_at : (content : Content) → asked.content ≡ content → IfSome a.world.contents (λ of. content ≡ of name)
      agrees_at content is = subst (λ (o : Content). IfSome a.world.contents (λ of. o ≡ of name)) is asked.agrees

      by_size : (bytes : List ℕ) → asked.content ≡ Some bytes → (fits : Bool) → nat_le (length bytes) most ≡ fits
          → WentBy (asks name most place next) a b (Some e)
      by_size bytes is false test =
          let past : most < length bytes = grind (arith, nat_tests) in
          record {
            given = first_given (Some bytes) (λ n. None);
            plan = record { steps = Read name most ∷ []; end = Refused (refused_size place) };
            is_plan = too_long bytes refl past;
            agrees = (agrees_at (Some bytes) is, tt);
            went = does_at (Some bytes) (Refused (refused_size place)) is
                (ap (λ (t : Bool). if t then Done else Refused (refused_size place)) test);
          }
      by_size bytes is true test =
          let short : length bytes ≤ most = grind (arith, nat_tests) in
          let fit : AreBytes bytes = subst HoldsBytes is asked.holds in
          let p = plan_at (next bytes) a.world (models bytes fit).some_for tells in
          record {
            given = first_given (Some bytes) p.given;
            plan = behind (Read name most ∷ []) p.plan;
            is_plan = found bytes p.plan refl short fit p.is_plan;
            agrees = (agrees_at (Some bytes) is, p.agrees);
            went = went-cut (done (Read name most ∷ [])) p.plan a b e refl
                (does_at (Some bytes) Done is (ap (λ (t : Bool). if t then Done else Refused (refused_size place))
                test));
          }

      by_content : (content : Content) → asked.content ≡ content → WentBy (asks name most place next) a b (Some e)
      by_content None is = record {
        given = first_given None (λ n. None);
        plan = record { steps = Read name most ∷ []; end = Missing };
        is_plan = missing refl;
        agrees = (agrees_at None is, tt);
        went = does_at None Missing is refl;
      }
      by_content (Some bytes) is = by_size bytes is (nat_le (length bytes) most) refl

-- ---- a check

module _ {V : Type 0} (is : Result V (List ℕ) → Type 0) (next : V → Given → Plan → Type 0) where
  pub checked-then : (a c : Io) (v : V) (stop : Option Stop) → is (Ok v) → WentBy (next v) a c stop
      → WentBy (checks is next) a c stop
  checked-then a c v stop good f = record {
    given = f.given;
    plan = f.plan;
    is_plan = goes_on v good f.is_plan;
    agrees = f.agrees;
    went = f.went;
  }

  pub checked-stopped : (a : Io) (e : Stop) → PlansFor (checks is next) → TellsBytes a.world → Refuses is e
      → WentBy (checks is next) a a (Some e)
  checked-stopped a (stops.Refused line) plans tells bad =
      record {
        given = λ n. None;
        plan = refuse (string_bytes line);
        is_plan = refused bad;
        agrees = tt;
        went = only_refused a line;
      }
  checked-stopped a stops.ReadFault plans tells bad = absurd bad
  checked-stopped a stops.WriteFault plans tells bad = absurd bad
  checked-stopped a stops.NoMemory plans tells bad = follows-none (checks is next) a plans tells

-- ---- one plan

-- what the first read is given
pub read_first : {next : List ℕ → Given → Plan → Type 0} (name : List ℕ) (most place : ℕ) (of : List ℕ → Content)
    (given : Given) (plan : Plan) → asks name most place next given plan
    → GivenBy (Some of) (reads_of plan.steps) given → given 0 ≡ of name
read_first name most place of given _ (missing is) agrees = agrees.0
read_first name most place of given _ (too_long bytes is past) agrees = agrees.0
read_first name most place of given _ (found bytes rest is short are n) agrees = agrees.0

-- files
module _ (name : List ℕ) (most place : ℕ) (next : List ℕ → Given → Plan → Type 0)
    (models : (bytes : List ℕ) → AreBytes bytes → IsModel (next bytes)) where
  asks-some : HasPlan (asks name most place next)
  asks-some given are = by_content (given 0) refl (are 0)
    where
      by_size : (bytes : List ℕ) → given 0 ≡ Some bytes → AreBytes bytes → (fits : Bool)
          → nat_le (length bytes) most ≡ fits → (plan : Plan) × asks name most place next given plan
      by_size bytes is fit false test = (let past : most < length bytes = grind (arith, nat_tests) in
          (_, too_long bytes is past))
      by_size bytes is fit true test =
          let short : length bytes ≤ most = grind (arith, nat_tests) in
          let p = (models bytes fit).some (later given) (λ n. are (suc n)) in
          (_, found bytes p.0 is short fit p.1)

      by_content : (content : Content) → given 0 ≡ content → HoldsBytes (given 0)
          → (plan : Plan) × asks name most place next given plan
      by_content None is fit = (_, missing is)
      by_content (Some bytes) is fit = by_size bytes is (subst HoldsBytes is fit) (nat_le (length bytes) most) refl

  asks-some_for : PlansFor (asks name most place next)
  asks-some_for of are = by_content (of name) refl (are name)
    where
      by_size : (bytes : List ℕ) → Some bytes ≡ of name → AreBytes bytes → (fits : Bool)
          → nat_le (length bytes) most ≡ fits → PlanFor (asks name most place next) of
      by_size bytes is fit false test =
          (let past : most < length bytes = grind (arith, nat_tests) in
          record {
            given = first_given (Some bytes) (λ n. None);
            plan = _;
            is_plan = too_long bytes refl past;
            agrees = (is, tt);
          })
      by_size bytes is fit true test =
          let short : length bytes ≤ most = grind (arith, nat_tests) in
          let p = (models bytes fit).some_for of are in
          record {
            given = first_given (Some bytes) p.given;
            plan = behind (Read name most ∷ []) p.plan;
            is_plan = found bytes p.plan refl short fit p.is_plan;
            agrees = (is, p.agrees);
          }

      by_content : (content : Content) → content ≡ of name → HoldsBytes (of name)
          → PlanFor (asks name most place next) of
      by_content None is fit = record {
        given = first_given None (λ n. None);
        plan = _;
        is_plan = missing refl;
        agrees = (is, tt);
      }
      by_content (Some bytes) is fit = by_size bytes is (subst HoldsBytes (sym is) fit)
          (nat_le (length bytes) most) refl

  -- two plans for one first content, of which the rests are one
  asks-alike : (g h : Given) (p q : Plan) → g 0 ≡ h 0 → asks name most place next g p → asks name most place next h q
      → ((bytes : List ℕ) (x y : Plan) → AreBytes bytes → p ≡ behind (Read name most ∷ []) x
      → q ≡ behind (Read name most ∷ []) y → next bytes (later g) x → next bytes (later h) y → x ≡ y) → p ≡ q
  asks-alike g h p q same (missing is) (missing be) rest = refl
  asks-alike g h p q same (missing is) (too_long bytes be past) rest = cc
  asks-alike g h p q same (missing is) (found bytes plan be short are n) rest = cc
  asks-alike g h p q same (too_long bytes is past) (missing be) rest = cc
  asks-alike g h p q same (too_long bytes is past) (too_long more be long) rest = refl
  asks-alike g h p q same (too_long bytes is past) (found more plan be short are n) rest =
      (let alike : bytes ≡ more = cc in absurd (omega (arith, past, short, ap length alike)))
  asks-alike g h p q same (found bytes plan is short are n) (missing be) rest = cc
  asks-alike g h p q same (found bytes plan is short are n) (too_long more be past) rest =
      (let alike : bytes ≡ more = cc in absurd (omega (arith, past, short, ap length alike)))
  asks-alike g h p q same (found bytes plan is short are n) (found more other be small fit m) rest =
      (let alike : more ≡ bytes = cc in
      ap (behind (Read name most ∷ [])) (rest bytes plan other are refl refl n
      (subst (λ (bs : List ℕ). next bs (later h) other) alike m)))

  asks-one : OnePlan (asks name most place next)
  asks-one given p q is be = asks-alike given given p q refl is be
      (λ bytes x y fit e f n m. (models bytes fit).one (later given) x y n m)

  asks-one_for : OnePlanFor (asks name most place next)
  asks-one_for of p q =
      asks-alike p.given q.given p.plan q.plan (read_first name most place of p.given p.plan p.is_plan p.agrees
      ∙ sym (read_first name most place of q.given q.plan q.is_plan q.agrees)) p.is_plan q.is_plan
      (λ bytes x y fit e f n m.
      let px : GivenBy (Some of) (reads_of (behind (Read name most ∷ []) x).steps) p.given =
      subst (λ (z : Plan). GivenBy (Some of) (reads_of z.steps) p.given) e p.agrees in
      let qy : GivenBy (Some of) (reads_of (behind (Read name most ∷ []) y).steps) q.given =
      subst (λ (z : Plan). GivenBy (Some of) (reads_of z.steps) q.given) f q.agrees in
      (models bytes fit).one_for of (record { given = later p.given; plan = x; is_plan = n; agrees = px.1 })
      (record { given = later q.given; plan = y; is_plan = m; agrees = qy.1 }))

  pub asks-model : IsModel (asks name most place next)
  asks-model = record { some = asks-some; one = asks-one; some_for = asks-some_for; one_for = asks-one_for }

-- checks
pub not_both : {V : Type 0} (v : V) (line : List ℕ) → ◌≡◌ {A = Result V (List ℕ)} (Ok v) (Err line) → ⊥
not_both v line e = cc

module _ {V : Type 0} (is : Result V (List ℕ) → Type 0) (next : V → Given → Plan → Type 0) (check : IsCheck is)
    (models : (v : V) → is (Ok v) → IsModel (next v)) where
  checks-some : HasPlan (checks is next)
  checks-some given are = by_result check.some
    where
      by_result : (r : Result V (List ℕ)) × is r → (plan : Plan) × checks is next given plan
      by_result (Err line, bad) = (_, refused bad)
      by_result (Ok v, good) = (let p = (models v good).some given are in (p.0, goes_on v good p.1))

  checks-some_for : PlansFor (checks is next)
  checks-some_for of are = by_result check.some
    where
      by_result : (r : Result V (List ℕ)) × is r → PlanFor (checks is next) of
      by_result (Err line, bad) = record { given = λ n. None; plan = _; is_plan = refused bad; agrees = tt }
      by_result (Ok v, good) = (let p = (models v good).some_for of are in
          record { given = p.given; plan = p.plan; is_plan = goes_on v good p.is_plan; agrees = p.agrees })

  checks-alike : (g h : Given) (p q : Plan) → checks is next g p → checks is next h q → ((v : V) → is (Ok v)
      → next v g p → next v h q → p ≡ q) → p ≡ q
  checks-alike g h p q (refused {line = line} bad) (refused {line = other} worse) rest =
      (let alike : ◌≡◌ {A = Result V (List ℕ)} (Err line) (Err other) = check.one (Err line) (Err other) bad worse in
      let lines : line ≡ other = cc in ap refuse lines)
  checks-alike g h p q (refused {line = line} bad) (goes_on v good m) rest =
      absurd (not_both v line (check.one (Ok v) (Err line) good bad))
  checks-alike g h p q (goes_on v good n) (refused {line = line} bad) rest =
      absurd (not_both v line (check.one (Ok v) (Err line) good bad))
  checks-alike g h p q (goes_on v good n) (goes_on w fine m) rest =
      (let alike : ◌≡◌ {A = Result V (List ℕ)} (Ok w) (Ok v) = check.one (Ok w) (Ok v) fine good in
      let values : w ≡ v = cc in rest v good n (subst (λ (x : V). next x h q) values m))

  checks-one : OnePlan (checks is next)
  checks-one given p q i j = checks-alike given given p q i j (λ v good n m. (models v good).one given p q n m)

  checks-one_for : OnePlanFor (checks is next)
  checks-one_for of p q =
      checks-alike p.given q.given p.plan q.plan p.is_plan q.is_plan
      (λ v good n m. (models v good).one_for of (record
      { given = p.given; plan = p.plan; is_plan = n; agrees = p.agrees })
      (record { given = q.given; plan = q.plan; is_plan = m; agrees = q.agrees }))

  pub checks-model : IsModel (checks is next)
  checks-model = record { some = checks-some; one = checks-one; some_for = checks-some_for; one_for = checks-one_for }

-- one plan that reads nothing, which some steps make
module _ (owes : List Step → Type 0) (some : (steps : List Step) × owes steps)
    (one : (xs ys : List Step) → owes xs → owes ys → xs ≡ ys)
    (quiet : (xs : List Step) → owes xs → reads_of xs ≡ []) where
  pub steps-model : IsModel (λ given plan. (steps : List Step) × owes steps × (plan ≡ done steps))
  steps-model = record {
    some = λ given are. (done some.0, (some.0, some.1, refl));
    one = λ given p q i j. i.2 ∙ ap done (one i.0 j.0 i.1 j.1) ∙ sym j.2;
    some_for = λ of are. record {
      given = λ n. None;
      plan = done some.0;
      is_plan = (some.0, some.1, refl);
      agrees = subst (λ (rs : List files.Read). GivenBy (Some of) rs (λ n. None)) (sym (quiet some.0 some.1)) tt;
    };
    one_for = λ of p q. p.is_plan.2 ∙ ap done (one p.is_plan.0 q.is_plan.0 p.is_plan.1 q.is_plan.1) ∙ sym q.is_plan.2;
  }
