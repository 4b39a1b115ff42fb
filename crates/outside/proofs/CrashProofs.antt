-- The laws of what a crash may leave.
use Rattle.std.proofs.Common.{◌≡◌, ℕ, Bool, true, false, List, [], ◌∷◌, ◌++◌, refl, sym, ap, ◌∙◌, subst}
use Rattle.std.specs.Bool.{MatchBool}
use Rattle.std.specs.Str.{bytes_eq}
use Rattle.std.specs.List.{All}
use Rattle.std.proofs.lemmas.Bool.{false≢true}
use Rattle.std.proofs.lemmas.List.Elements.{All-head, All-tail}
use Rattle.outside.specs.Files.{Content, Write, WriteKind, Append, Replace, ReadsAfter}
use Rattle.outside.specs.Crash.{State, Leads, LeftAfter}
use Rattle.outside.specs.CrashLaws.{RunsJoin, DoneIsKept, OthersStay, StartsKept}

-- a run taken apart, and put together again
parted : (name : List ℕ) (ws vs : List Write) (old new : State) → Leads name (ws ++ vs) old new → (mid : State) × Leads name ws old mid × Leads name vs mid new
parted name [] vs old new leads = (old, refl, leads)
parted name (w ∷ ws) vs old new leads =
    let (first, step, rest) = leads in
    let (mid, front, back) = parted name ws vs first new rest in
    (mid, (first, step, front), back)

joined : (name : List ℕ) (ws vs : List Write) (old mid new : State) → Leads name ws old mid → Leads name vs mid new → Leads name (ws ++ vs) old new
joined name [] vs old mid new same back = subst (λ s. Leads name vs s new) same back
joined name (w ∷ ws) vs old mid new front back =
    let (first, step, rest) = front in
    (first, step, joined name ws vs first mid new rest back)

pub runs_join_lem : RunsJoin
runs_join_lem name ws vs old new = (parted name ws vs old new, λ (mid, front, back). joined name ws vs old mid new front back)

-- one step, by whether the name is the written one
kept_at : (b : Bool) (kind : WriteKind) (done : Bool) (bytes : List ℕ) (old left read now : Content) → done ≡ true → left ≡ old → MatchBool b (ReadsAfter kind done bytes old read) (read ≡ old) → MatchBool b (LeftAfter kind done bytes old read now) (now ≡ left) → now ≡ read
kept_at true Append true bytes old left read now is same reads leaves = leaves
kept_at true Replace true bytes old left read now is same reads leaves = leaves
kept_at true kind false bytes old left read now is same reads leaves = absurd (false≢true is)
kept_at false kind done bytes old left read now is same reads leaves = leaves ∙ same ∙ sym reads

pub done_is_kept_lem : DoneIsKept
done_is_kept_lem name [] old new all same leads = rw leads same
done_is_kept_lem name (w ∷ ws) old new all same leads =
    let (mid, step, rest) = leads in
    let kept : mid.left ≡ mid.read = kept_at (bytes_eq name w.name) w.kind w.done w.bytes old.read old.left mid.read mid.left (All-head (λ x. x.done ≡ true) w ws all) same step.0 step.1 in
    done_is_kept_lem name ws mid new (All-tail (λ x. x.done ≡ true) w ws all) kept rest

-- a step of another name
other_at : (b : Bool) (kind : WriteKind) (done : Bool) (bytes : List ℕ) (old left read now : Content) → b ≡ false → MatchBool b (ReadsAfter kind done bytes old read) (read ≡ old) → MatchBool b (LeftAfter kind done bytes old read now) (now ≡ left) → (read ≡ old) × (now ≡ left)
other_at true kind done bytes old left read now is reads leaves = absurd (false≢true (sym is))
other_at false kind done bytes old left read now is reads leaves = (reads, leaves)

-- such a step that changes nothing
stays_at : (b : Bool) (kind : WriteKind) (done : Bool) (bytes : List ℕ) (old left : Content) → b ≡ false → MatchBool b (ReadsAfter kind done bytes old old) (old ≡ old) × MatchBool b (LeftAfter kind done bytes old old left) (left ≡ left)
stays_at true kind done bytes old left is = absurd (false≢true (sym is))
stays_at false kind done bytes old left is = (refl, refl)

-- a write of another name
abbrev Other : List ℕ → Write → Type 0
Other name w = bytes_eq name w.name ≡ false

same_state : (s t : State) → s.read ≡ t.read → s.left ≡ t.left → s ≡ t
same_state s t reads leaves = λ i. record { read = reads i; left = leaves i }

-- writes of other names, one after the other
other_stays : (name : List ℕ) (ws : List Write) (old new : State) → All (Other name) ws → Leads name ws old new → new ≡ old
other_stays name [] old new all leads = leads
other_stays name (w ∷ ws) old new all leads =
    let (mid, step, rest) = leads in
    let at = other_at (bytes_eq name w.name) w.kind w.done w.bytes old.read old.left mid.read mid.left (All-head (Other name) w ws all) step.0 step.1 in
    other_stays name ws mid new (All-tail (Other name) w ws all) rest ∙ same_state mid old at.0 at.1

stays_led : (name : List ℕ) (ws : List Write) (old : State) → All (Other name) ws → Leads name ws old old
stays_led name [] old all = refl
stays_led name (w ∷ ws) old all =
    (old, stays_at (bytes_eq name w.name) w.kind w.done w.bytes old.read old.left (All-head (Other name) w ws all), stays_led name ws old (All-tail (Other name) w ws all))

pub others_stay_lem : OthersStay
others_stay_lem name ws old new all =
    (other_stays name ws old new all, λ same. subst (λ s. Leads name ws old s) (sym same) (stays_led name ws old all))

pub starts_kept_lem : StartsKept
starts_kept_lem name start left = (λ (read, same). ap (λ (s : State). s.left) same, λ same. (start, λ i. record { read = start; left = same i }))
