-- A file that was asked for.
use Rattle.std.proofs.Common.{◌≡◌, ℕ, ◌+◌, ◌<◌, ◌≤◌, Bool, true, false, List, [], ◌∷◌, ◌++◌, length, take, Option, Some, None, Result, Ok, Err, nat_le, refl, sym, ◌∙◌, ap, subst, arith}
use Rattle.std.specs.Prelude.{option_to_list, IfSome, IsErrAnd, IsSomeAnd, String, Vec, string_bytes, if◌then◌else◌}
use Rattle.std.specs.declared.alloc.Global.{Global}
use Rattle.std.proofs.lemmas.Bool.Decides.{nat_tests}
use Rattle.std.proofs.lemmas.List.{take_all, length-take}
use Rattle.outside.specs.Bytes.{AreBytes, HoldsBytes}
use Rattle.outside.specs.Files.{Content, ReadGives}
use Rattle.outside.specs.Steps.{Step, Read, Print}
use Rattle.outside.specs.World.{World, Io}
use Rattle.replies.specs.Asking.{asked_end, Asked}
use Rattle.replies.specs.Line.{refused_size}
use Rattle.replies.specs.Plan.{End, Done, Refused, Missing, TellsBytes, done, steps_with, Went}
use Rattle.replies.specs.Refused.{RefusesBy}
use Rattle.replies.specs.Steps.{Begun, IsUndone}
use Rattle.replies.specs.declared.stop.Stop.{Stop}
use Rattle.replies.specs.declared.stop.Stop.TheVariants as stops
use Rattle.replies.specs.Fronts.{not_refused, no_print, undone-none}

-- what the file holds, where the files tell
held_at : (w : World) (name : List ℕ) → TellsBytes w → (content : Content) × HoldsBytes content × IfSome w.contents (λ of. content ≡ of name)
held_at w name tells = by_contents w.contents refl
  where
    by_contents : (contents : Option (List ℕ → Content)) → w.contents ≡ contents → (content : Content) × HoldsBytes content × IfSome w.contents (λ of. content ≡ of name)
    by_contents None is = (None, tt, subst (λ (o : Option (List ℕ → Content)). IfSome o (λ of. None ≡ of name)) (sym is) tt)
    by_contents (Some of) is = (of name, tells of name is, subst (λ (o : Option (List ℕ → Content)). IfSome o (λ (f : List ℕ → Content). of name ≡ f name)) (sym is) refl)

-- the file of which a read gave the front
gave : (w : World) (name : List ℕ) (most : ℕ) (bytes : List ℕ) → TellsBytes w → AreBytes bytes → length bytes ≤ most + 1 → ReadGives w.contents name most bytes → (whole : List ℕ) × AreBytes whole × IfSome w.contents (λ of. Some whole ≡ of name) × (bytes ≡ take (most + 1) whole)
gave w name most bytes tells are short gives = by_contents w.contents refl gives
  where
    by_content : (of : List ℕ → Content) → w.contents ≡ Some of → (content : Content) → content ≡ of name → HoldsBytes content → IsSomeAnd content (λ whole. bytes ≡ take (most + 1) whole) → (whole : List ℕ) × AreBytes whole × IfSome w.contents (λ of. Some whole ≡ of name) × (bytes ≡ take (most + 1) whole)
    by_content of is None output fit given = absurd given
    by_content of is (Some whole) output fit given =
        (whole, fit, subst (λ (o : Option (List ℕ → Content)). IfSome o (λ (f : List ℕ → Content). Some whole ≡ f name)) (sym is) output, given)

    by_contents : (contents : Option (List ℕ → Content)) → w.contents ≡ contents → ReadGives contents name most bytes → (whole : List ℕ) × AreBytes whole × IfSome w.contents (λ of. Some whole ≡ of name) × (bytes ≡ take (most + 1) whole)
    by_contents None is given = (bytes, are, subst (λ (o : Option (List ℕ → Content)). IfSome o (λ of. Some bytes ≡ of name)) (sym is) tt, sym (take_all (most + 1) bytes short))
    by_contents (Some of) is given = by_content of is (of name) refl (tells of name is) given

-- after a read alone a print is still to be done, if there is one
read_undone : (name : List ℕ) (most : ℕ) (end : End) → IsUndone (steps_with (Read name most ∷ []) end) (Read name most ∷ [])
read_undone name most Done = λ prints. absurd (no_print prints)
read_undone name most (Refused line) = λ prints. (Print line, [], refl)
read_undone name most Missing = λ prints. absurd (no_print prints)

no_second : (name : List ℕ) (most : ℕ) (s t : Step) (rest : List Step) → Read name most ∷ [] ≡ s ∷ t ∷ rest → ⊥
no_second name most s t rest e = cc

read_front : (name : List ℕ) (most : ℕ) (end : End) (done rest : List Step) → Read name most ∷ [] ≡ done ++ rest → IsUndone (steps_with (Read name most ∷ []) end) done
read_front name most end [] rest is = undone-none _
read_front name most end (s ∷ []) rest is =
    let same : s ∷ [] ≡ Read name most ∷ [] = cc in
    subst (λ (xs : List Step). IsUndone (steps_with (Read name most ∷ []) end) xs) (sym same) (read_undone name most end)
read_front name most end (s ∷ t ∷ ts) rest is = absurd (no_second name most s t (ts ++ rest) is)

module _ (name : List ℕ) (most place : ℕ) (a b : Io) (tells : TellsBytes a.world) where
  -- the read stopped
  cut_at : (e : Stop) (end : End) → Went (done (Read name most ∷ [])) a b (Some e) → Went (record { steps = Read name most ∷ []; end = end }) a b (Some e)
  cut_at (stops.Refused line) end d = absurd (not_refused _ d.ends.0)
  cut_at stops.ReadFault end d = record { begun = d.begun; front = d.front; did = d.did; ends = d.ends; refs = d.refs }
  cut_at stops.WriteFault end d = record { begun = d.begun; front = d.front; did = d.did; ends = d.ends; refs = d.refs }
  cut_at stops.NoMemory end d =
      let is : Read name most ∷ [] ≡ d.begun.done ++ d.front.0 = d.front.1 ∙ ap (λ (o : Option Step). d.begun.done ++ (option_to_list o ++ d.front.0)) d.ends.0 in
      record { begun = d.begun; front = d.front; did = d.did; ends = (d.ends.0, read_front name most end d.begun.done d.front.0 is); refs = d.refs }

  pub asked-cut : (e : Stop) → Went (done (Read name most ∷ [])) a b (Some e) → Asked name most place a b (Err e)
  asked-cut e d = (let output = held_at a.world name tells in record { content = output.0; holds = output.1; agrees = output.2; does = cut_at e (asked_end most place output.0) d; gives = tt })

  -- the same, as a `?` passes it on
  pub asked-passed : (r : Result (Vec ℕ Global) Stop) (e : Stop) → IsErrAnd r (λ y. y ≡ e) → Asked name most place a b (Err e) → Asked name most place a b r
  asked-passed (Ok v) e is asked = absurd is
  asked-passed (Err y) e is asked = subst (λ (s : Stop). Asked name most place a b (Err s)) (sym is) asked

  -- it was done, and then memory ran out
  asked_memory : (v : Vec ℕ Global) → Went (done (Read name most ∷ [])) a b None → Asked name most place a b (Err stops.NoMemory)
  asked_memory v d =
      (let output = held_at a.world name tells in
      record {
        content = output.0;
        holds = output.1;
        agrees = output.2;
        does =
            record {
              begun = d.begun;
              front = d.front;
              did = d.did;
              ends = (
                ap (λ (x : Begun). x.failed) d.ends.1,
                subst (λ (x : Begun). IsUndone (steps_with (Read name most ∷ []) (asked_end most place output.0)) x.done) (sym d.ends.1) (read_undone name most (asked_end most place output.0)),
              );
              refs = d.refs;
            };
        gives = tt;
      })

  -- it gave the front of a file
  module _ (v : Vec ℕ Global) (d : Went (done (Read name most ∷ [])) a b None) (are : AreBytes v.items) (short : length v.items ≤ most + 1) (gives : ReadGives a.world.contents name most v.items) where
    asked_long : (line : String Global) → most < length v.items → string_bytes line ≡ refused_size place → Asked name most place a b (Err (stops.Refused line))
    asked_long line past text =
        let (whole, fit, agrees, is) = gave a.world name most v.items tells are short gives in
        let longer : most < length whole = omega (arith, past, ap length is, length-take (most + 1) whole) in
        let test : nat_le (length whole) most ≡ false = grind (arith, nat_tests) in
        let end : asked_end most place (Some whole) ≡ Refused (string_bytes line) = ap (λ (t : Bool). if t then Done else Refused (refused_size place)) test ∙ ap Refused (sym text) in
        record {
          content = Some whole;
          holds = fit;
          agrees = agrees;
          does = record { begun = d.begun; front = d.front; did = d.did; ends = (end, d.ends.1); refs = d.refs };
          gives = tt;
        }

    pub asked-long : (e : Stop) → most < length v.items → RefusesBy (refused_size place) e → Asked name most place a b (Err e)
    asked-long (stops.Refused line) past text = asked_long line past text
    asked-long stops.ReadFault past text = absurd text
    asked-long stops.WriteFault past text = absurd text
    asked-long stops.NoMemory past text = asked_memory v d

    pub asked-found : length v.items ≤ most → Asked name most place a b (Ok v)
    asked-found fits =
        let (whole, fit, agrees, is) = gave a.world name most v.items tells are short gives in
        let less : length whole ≤ most = omega (arith, fits, ap length is, length-take (most + 1) whole) in
        let same : v.items ≡ whole = is ∙ take_all (most + 1) whole (omega (arith, less)) in
        let test : nat_le (length whole) most ≡ true = grind (arith, nat_tests) in
        let end : asked_end most place (Some whole) ≡ Done = ap (λ (t : Bool). if t then Done else Refused (refused_size place)) test in
        record {
          content = Some whole;
          holds = fit;
          agrees = agrees;
          does = record { begun = d.begun; front = d.front; did = d.did; ends = (end, d.ends.1); refs = d.refs };
          gives = ap Some (sym same);
        }
