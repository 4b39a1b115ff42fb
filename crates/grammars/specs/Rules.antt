-- Parts with their readers: how each way to put parts together goes with one to put readers together.
-- Only proofs and contracts of private functions name it.
use Rattle.std.specs.Prelude.{◌≡◌, Bool, true, List, [], ◌++◌, Option, Some}
use Rattle.grammars.specs.Text.{next}
use Rattle.grammars.specs.Outcome.{Outcome, Got, ◌>>=◌}
use Rattle.grammars.specs.Part.{Part, Completes, Decides}
use Rattle.grammars.specs.Heads.{Covers, Example, Is, expect, decides_expect}
use Rattle.grammars.specs.Sequence.{Then, Within, HandsOn, decides_then}
use Rattle.grammars.specs.Bits.{Made, Closed, Opened, decides_made, decides_closed, decides_opened}
use Rattle.grammars.specs.Once.{Once, once, decides_once}
use Rattle.grammars.specs.Examples.{some_then, some_made, some_closed, some_opened, some_token, chosen}
use Rattle.grammars.specs.Taken.{made_within}
use Rattle.grammars.specs.Gathered.{Separated, separated, decides_separated, separated_within, some_gathered, one_item}
use Rattle.grammars.specs.Gathered.{and_item, Repeated, repeated, decides_repeated, opened_within, repeated_within}
use Rattle.grammars.specs.Perhaps.{Perhaps, perhaps, closed, closed_within, perhaps_within, some_perhaps}
use Rattle.grammars.specs.Perhaps.{decides_perhaps}
use Rattle.grammars.specs.Paired.{some_once, once_within}

-- A part comes out as this reader reads, some tokens are one, and the part within the bound is one without it.
pub record Rule {T V : Type 0} (F : T → Type 0) (X Y : Part T V) (C : T → Type 0) (read : List T → Outcome T V)
    : Type 0 where
  pub within : Within X Y
  pub some : Completes F X []
  pub comes : (ts : List T) → Decides F X Y C ts (read ts)

pub rule_token : {T V : Type 0} (F : T → Type 0) (meaning : T → Option V) → Example F meaning → (C : T → Type 0)
    → Rule F (Is meaning) (Is meaning) C (expect meaning)
rule_token F meaning example C = record {
  within = λ u v h. h;
  some = some_token F meaning example;
  comes = decides_expect F meaning example C;
}

pub rule_made : {T V W : Type 0} (F : T → Type 0) (make : V → W) (X Y : Part T V) (C : T → Type 0)
    (read : List T → Outcome T V) → Rule F X Y C read
    → Rule F (Made make X) (Made make Y) C (λ ts. read ts >>= λ v. Got (make v.0) v.1)
rule_made F make X Y C read r = record {
  within = made_within make X Y r.within;
  some = some_made F make X r.some;
  comes = λ ts. decides_made F make X Y C ts r.within (read ts) (r.comes ts);
}

pub rule_closed : {T V E : Type 0} (F : T → Type 0) (closes : T → Option E) → Example F closes → (X Y : Part T V)
    (C D : T → Type 0) (read : List T → Outcome T V) → ((t : T) (e : E) → closes t ≡ Some e → C t → ⊥)
    → Rule F X Y C read → Rule F (Closed closes X) (Closed closes Y) D (closed closes read)
rule_closed F closes example X Y C D read apart r = record {
  within = closed_within closes X Y r.within;
  some = some_closed F closes example X r.some;
  comes = λ ts. decides_closed F closes example X Y C D ts r.within apart (read ts) (r.comes ts);
}

pub rule_opened : {T V E : Type 0} (F : T → Type 0) (meaning : T → Option E) → Example F meaning → (X Y : E → Part T V)
    (D : T → Type 0) (read : E → List T → Outcome T V) → ((e : E) → Rule F (X e) (Y e) D (read e))
    → Rule F (Opened meaning X) (Opened meaning Y) D (λ ts. expect meaning ts >>= λ e. read e.0 e.1)
rule_opened F meaning example X Y D read r = record {
  within = opened_within meaning X Y (λ e. (r e).within);
  some = some_opened F meaning example X (λ e. (r e).some);
  comes = λ ts. decides_opened F meaning example X Y D ts (λ e. (r e).within) (λ e. (r e).some)
      (λ e. read e.0 e.1) (λ e rest. (r e).comes rest);
}

pub then_within : {T V W : Type 0} (X1 Y1 : Part T V) (X2 Y2 : V → Part T W) → Within X1 Y1
    → ((v : V) → Within (X2 v) (Y2 v)) → Within (Then X1 X2) (Then Y1 Y2)
then_within X1 Y1 X2 Y2 first second u w h = record {
  first = h.first;
  second = h.second;
  value = h.value;
  joined = h.joined;
  reads_first = first h.first h.value h.reads_first;
  reads_second = second h.value h.second w h.reads_second;
}

pub rule_then : {T V W : Type 0} (F : T → Type 0) (X1 Y1 : Part T V) (X2 Y2 : V → Part T W) (C D : T → Type 0)
    (first : List T → Outcome T V) (second : V → List T → Outcome T W) → Rule F X1 Y1 C first
    → ((v : V) → HandsOn C D (Y2 v)) → ((v : V) → Rule F (X2 v) (Y2 v) D (second v))
    → Rule F (Then X1 X2) (Then Y1 Y2) D (λ ts. first ts >>= λ v. second v.0 v.1)
rule_then F X1 Y1 X2 Y2 C D first second r hands s = record {
  within = then_within X1 Y1 X2 Y2 r.within (λ v. (s v).within);
  some = some_then F X1 X2 r.some (λ v. (s v).some);
  comes = λ ts. decides_then F X1 Y1 X2 Y2 C D ts r.within (λ v. (s v).within) hands (λ v. (s v).some)
      (λ v. second v.0 v.1) (first ts) (r.comes ts) (λ v rest got. (s v).comes rest);
}

pub rule_once : {T V A : Type 0} (F : T → Type 0) (on : T → Bool) (X Y : Part T V) (C D : T → Type 0)
    (read : List T → Outcome T V) (join : T → A → V → A) (a : A) → Rule F X Y C read
    → ((t : T) → on t ≡ true → C t → ⊥) → Covers C D → ((t : T) → on t ≡ true → D t)
    → Rule F (Once on (λ t. X) join a) (Once on (λ t. Y) join a) D (once on (λ t. read) join a)
rule_once F on X Y C D read join a r apart covers ons = record {
  within = once_within on (λ t. X) (λ t. Y) join (λ t. r.within) a;
  some = some_once F on (λ t. X) join a;
  comes = decides_once F on (λ t. X) (λ t. Y) C D (λ t. read) (record {
    within = λ t. r.within;
    some = λ t is. r.some;
    apart = apart;
    covers = covers;
    ons = ons;
    reads = λ t ts is. r.comes ts;
  }) join a;
}

pub rule_perhaps : {T V E : Type 0} (F : T → Type 0) (closes : T → Option E) → Example F closes → (none : V)
    (X Y : Part T V) (C D : T → Type 0) (read : List T → Outcome T V) → Rule F X Y C read
    → ((t : T) (e : E) → closes t ≡ Some e → C t → ⊥)
    → ((u r : List T) (v : V) (t : T) (e : E) → Y u v → next (u ++ r) ≡ Some t → closes t ≡ Some e → ⊥)
    → Rule F (Perhaps closes none X) (Perhaps closes none Y) D (perhaps closes none read)
rule_perhaps F closes example none X Y C D read r apart begins = record {
  within = perhaps_within closes none X Y r.within;
  some = some_perhaps F closes example none X;
  comes = decides_perhaps F closes example none X Y C D read r.within apart begins r.comes;
}

pub rule_separated : {T V : Type 0} (F : T → Type 0) (on : T → Bool) (X Y : Part T V) (C D : T → Type 0)
    (read : List T → Outcome T V) → Rule F X Y C read → ((t : T) → on t ≡ true → C t → ⊥) → Covers C D
    → ((t : T) → on t ≡ true → D t) → Rule F (Separated on X) (Separated on Y) D (separated on read)
rule_separated F on X Y C D read r apart covers ons = record {
  within = separated_within on X Y r.within;
  some = some_gathered F on one_item and_item X (λ t. X) r.some;
  comes = decides_separated F on X Y C D read r.within r.some apart covers ons r.comes;
}

pub rule_repeated : {T V : Type 0} (F : T → Type 0) (on : T → Bool) (X Y : T → Part T V) (C D : T → Type 0)
    (read : T → List T → Outcome T V) → Example F (chosen on) → ((t : T) → Rule F (X t) (Y t) C (read t))
    → ((t : T) → on t ≡ true → C t → ⊥) → Covers C D → ((t : T) → on t ≡ true → D t)
    → Rule F (Repeated on X) (Repeated on Y) D (repeated on read)
rule_repeated F on X Y C D read example r apart covers ons = record {
  within = repeated_within on X Y (λ t. (r t).within);
  some = some_gathered F on one_item and_item (Opened (chosen on) X) X
      (some_opened F (chosen on) example X (λ t. (r t).some));
  comes = decides_repeated F on X Y C D read example (record {
    within = λ t. (r t).within;
    some = λ t is. (r t).some;
    apart = apart;
    covers = covers;
    ons = ons;
    reads = λ t ts is. (r t).comes ts;
  }) (λ t. (r t).some) (λ t. (r t).comes);
}
