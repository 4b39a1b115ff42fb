-- A part and then another, and how reading them one after the other comes out.
-- Only proofs and contracts of private functions name it.
use Rattle.std.specs.Prelude.{◌≡◌, ◌⊎◌, List, [], ◌∷◌, ◌++◌, refl}
use Rattle.std.specs.List.{AllByRecursion}
use Rattle.std.proofs.Common.{sym, ap, ◌∙◌, inl, inr, subst}
use mathlib.Core.List.{append_assoc, append-nil}
use Rattle.grammars.specs.Outcome.{Outcome, Got, Wrong, Deep, ◌>>=◌}
use Rattle.grammars.specs.Part.{Part, Goes, Alike, Completes, IsGot, Decides, alike_first, alike_second}

-- a part, and then the part that its value asks for
pub record Then {T V W : Type 0} (X : Part T V) (Z : V → Part T W) (u : List T) (w : W) : Type 0 where
  pub first : List T
  pub second : List T
  pub value : V
  pub joined : u ≡ first ++ second
  pub reads_first : X first value
  pub reads_second : Z value second w

-- what is within the bound is without it too
abbrev pub Within : {T V : Type 0} → (X Y : Part T V) → Type 0
Within X Y = (u : List _) (v : _) → X u v → Y u v

-- What goes on with the first part does not begin the second, unless that is empty and goes on with it too.
abbrev pub HandsOn : {T W : Type 0} → (C D : T → Type 0) → Part T W → Type 0
HandsOn C D Z = (u r : List _) (w : _) → Z u w → Goes C (u ++ r) → Goes D r

pub all_joined : {T : Type 0} (F : T → Type 0) (a b : List T) → AllByRecursion F a → AllByRecursion F b
    → AllByRecursion F (a ++ b)
all_joined F [] b h k = k
all_joined F (t ∷ a) b h k = (h.0, all_joined F a b h.1 k)

module _ {T V W : Type 0} (F : T → Type 0) where
  -- a prefix of the first part is one of both
  completed : (X : Part T V) (Z : V → Part T W) (front : List T) → Completes F X front
      → ((v : V) → Completes F (Z v) []) → Completes F (Then X Z) front
  completed X Z front h some = let rest = some h.value in record {
    more = h.more ++ rest.more;
    value = rest.value;
    fine = all_joined F h.more rest.more h.fine rest.fine;
    reads = record {
      first = front ++ h.more;
      second = rest.more;
      value = h.value;
      joined = sym (append_assoc front h.more rest.more);
      reads_first = h.reads;
      reads_second = rest.reads;
    };
  }

  -- the first part and a prefix of the second are a prefix of both
  completed_second : (X : Part T V) (Z : V → Part T W) (used front : List T) (v : V) → X used v
      → Completes F (Z v) front → Completes F (Then X Z) (used ++ front)
  completed_second X Z used front v reads h = record {
    more = h.more;
    value = h.value;
    fine = h.fine;
    reads = record {
      first = used;
      second = front ++ h.more;
      value = v;
      joined = append_assoc used front h.more;
      reads_first = reads;
      reads_second = h.reads;
    };
  }

  none_first : (Y : Part T V) (Z : V → Part T W) (C D : T → Type 0) (front rest : List T)
      → ((v : V) → HandsOn C D (Z v))
      → ((u r : List T) (v : V) → Y u v → Alike front rest (u ++ r) → Goes C r)
      → (u r : List T) (w : W) → Then Y Z u w → Alike front rest (u ++ r) → Goes D r
  none_first Y Z C D front rest hands none u r w h alike =
      hands h.value h.second r w h.reads_second (none h.first (h.second ++ r) h.value h.reads_first
      (alike_first front [] rest u h.first h.second r rest h.joined refl
      (subst (λ front. Alike front rest (u ++ r)) (sym (append-nil front)) alike)))

  none_second : (X Y : Part T V) (Z : V → Part T W) (C D : T → Type 0) (ts rest : List T) (v : V)
      → ((v : V) → HandsOn C D (Z v)) → (front behind : List T) → rest ≡ front ++ behind
      → ((u r : List T) (w : W) → Z v u w → Alike front behind (u ++ r) → Goes D r)
      → (got : IsGot X Y C ts v rest) → (u r : List T) (w : W) → Then Y Z u w
      → Alike (got.used ++ front) behind (u ++ r) → Goes D r
  none_second X Y Z C D ts rest v hands front behind split none got u r w h alike =
      elim (got.sure h.first (h.second ++ r) h.value h.reads_first
      (alike_first got.used front behind u h.first h.second r rest h.joined split alike)) [
        | inl one ↦ none h.second r w (subst (λ x. Z x h.second w) one.1 h.reads_second)
            (alike_second got.used front behind u h.first h.second r h.joined one.0 alike)
        | inr goes ↦ hands h.value h.second r w h.reads_second goes
      ]

  sure_second : (X Y : Part T V) (Z : V → Part T W) (C D : T → Type 0) (ts rest : List T) (v : V)
      → ((v : V) → HandsOn C D (Z v)) → (used behind : List T) (x : W) → rest ≡ used ++ behind
      → ((u r : List T) (w : W) → Z v u w → Alike used behind (u ++ r) → ((u ≡ used) × (w ≡ x)) ⊎ Goes D r)
      → (got : IsGot X Y C ts v rest) → (u r : List T) (w : W) → Then Y Z u w
      → Alike (got.used ++ used) behind (u ++ r) → ((u ≡ got.used ++ used) × (w ≡ x)) ⊎ Goes D r
  sure_second X Y Z C D ts rest v hands used behind x split sure got u r w h alike =
      elim (got.sure h.first (h.second ++ r) h.value h.reads_first
      (alike_first got.used used behind u h.first h.second r rest h.joined split alike)) [
        | inl one ↦ elim (sure h.second r w (subst (λ x. Z x h.second w) one.1 h.reads_second)
            (alike_second got.used used behind u h.first h.second r h.joined one.0 alike)) [
              | inl same ↦ inl (h.joined ∙ ap (λ a. a ++ h.second) one.0 ∙ ap (λ b. got.used ++ b) same.0, same.1)
              | inr goes ↦ inr goes
            ]
        | inr goes ↦ inr (hands h.value h.second r w h.reads_second goes)
      ]

  decided_second : (X1 Y1 : Part T V) (X2 Y2 : V → Part T W) (C D : T → Type 0) (ts rest : List T) (v : V)
      → Within X1 Y1 → ((v : V) → Within (X2 v) (Y2 v)) → ((v : V) → HandsOn C D (Y2 v))
      → IsGot X1 Y1 C ts v rest → (o : Outcome T W) → Decides F (X2 v) (Y2 v) D rest o
      → Decides F (Then X1 X2) (Then Y1 Y2) D ts o
  decided_second X1 Y1 X2 Y2 C D ts rest v within within2 hands got (Got w behind) h = record {
    used = got.used ++ h.used;
    split = got.split ∙ ap (λ b. got.used ++ b) h.split ∙ sym (append_assoc got.used h.used behind);
    reads = record {
      first = got.used;
      second = h.used;
      value = v;
      joined = refl;
      reads_first = got.reads;
      reads_second = h.reads;
    };
    sure = sure_second X1 Y1 Y2 C D ts rest v hands h.used behind w h.split h.sure got;
  }
  decided_second X1 Y1 X2 Y2 C D ts rest v within within2 hands got (Wrong behind) h = record {
    front = got.used ++ h.front;
    split = got.split ∙ ap (λ b. got.used ++ b) h.split ∙ sym (append_assoc got.used h.front behind);
    begins = completed_second X1 X2 got.used h.front v got.reads h.begins;
    none = none_second X1 Y1 Y2 C D ts rest v hands h.front behind h.split h.none got;
  }
  decided_second X1 Y1 X2 Y2 C D ts rest v within within2 hands got (Deep behind) h = record {
    front = got.used ++ h.front;
    token = h.token;
    behind = h.behind;
    token_first = h.token_first;
    split = got.split ∙ ap (λ b. got.used ++ b) h.split ∙ sym (append_assoc got.used h.front behind);
    begins = completed_second X1 X2 got.used h.front v got.reads h.begins;
    deeper = subst (λ front. Completes F (Then Y1 Y2) front) (sym (append_assoc got.used h.front (h.token ∷ [])))
        (completed_second Y1 Y2 got.used (h.front ++ (h.token ∷ [])) v (within got.used v got.reads) h.deeper);
    none = λ u r w t alike. none_second X1 Y1 X2 C D ts rest v
        (λ v u r w reads goes. hands v u r w (within2 v u w reads) goes) h.front behind h.split h.none got u r w
        (record {
          first = t.first;
          second = t.second;
          value = t.value;
          joined = t.joined;
          reads_first = within t.first t.value t.reads_first;
          reads_second = t.reads_second;
        }) alike;
  }

  -- Where the first part comes out, and after each value of it the second does, so do both, one after the other.
  pub decides_then : (X1 Y1 : Part T V) (X2 Y2 : V → Part T W) (C D : T → Type 0) (ts : List T)
      → Within X1 Y1 → ((v : V) → Within (X2 v) (Y2 v)) → ((v : V) → HandsOn C D (Y2 v))
      → ((v : V) → Completes F (X2 v) [])
      → (f : V × List T → Outcome T W) → (o : Outcome T V) → Decides F X1 Y1 C ts o
      → ((v : V) (rest : List T) → o ≡ Got v rest → Decides F (X2 v) (Y2 v) D rest (f (v, rest)))
      → Decides F (Then X1 X2) (Then Y1 Y2) D ts (o >>= f)
  decides_then X1 Y1 X2 Y2 C D ts within within2 hands some f (Got v rest) h behind =
      decided_second X1 Y1 X2 Y2 C D ts rest v within within2 hands h (f (v, rest)) (behind v rest refl)
  decides_then X1 Y1 X2 Y2 C D ts within within2 hands some f (Wrong rest) h behind = record {
    front = h.front;
    split = h.split;
    begins = completed X1 X2 h.front h.begins some;
    none = none_first Y1 Y2 C D h.front rest hands h.none;
  }
  decides_then X1 Y1 X2 Y2 C D ts within within2 hands some f (Deep rest) h behind = record {
    front = h.front;
    token = h.token;
    behind = h.behind;
    token_first = h.token_first;
    split = h.split;
    begins = completed X1 X2 h.front h.begins some;
    deeper = completed Y1 Y2 (h.front ++ (h.token ∷ [])) h.deeper (λ v. let s = some v in record {
      more = s.more;
      value = s.value;
      fine = s.fine;
      reads = within2 v s.more s.value s.reads;
    });
    none = none_first X1 X2 C D h.front rest (λ v u r w reads goes. hands v u r w (within2 v u w reads) goes) h.none;
  }
