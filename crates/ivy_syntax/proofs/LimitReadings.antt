-- Tokens read from one state to another, and what it comes to that none of them passes a limit.
use Rattle.std.proofs.Common.{◌≡◌, ◌≤◌, ◌<◌, ◌+◌, ◌-◌, ℕ, true, false, List, [], ◌∷◌, ◌++◌}
use Rattle.std.proofs.Common.{length, refl, ap, sym, ◌∙◌, subst, arith, None}
use Rattle.std.specs.List.{AllByRecursion}
use Rattle.std.proofs.lemmas.List.{length-append}
use Rattle.ivy_syntax.specs.declared.tree.Expr.{Expr}
use Rattle.ivy_syntax.specs.declared.lexeme.Kind.{Kind}
use Rattle.ivy_syntax.specs.Tokens.{Placed}
use Rattle.ivy_syntax.specs.Token.{kind_of}
use Rattle.ivy_syntax.specs.declared.level.Level.{Level}
use Rattle.ivy_syntax.specs.Grammar.{Reads}
use Rattle.ivy_syntax.specs.Limits.{is_contract, is_clause, is_comma, takes_expressions, holds}
use Rattle.ivy_syntax.specs.TreeLimits.{ExprIsWithin}
use Rattle.ivy_syntax.proofs.LimitStates.{State, next, passed, NonePasses, state_after, after_both, first_passes}
use Rattle.ivy_syntax.proofs.LimitStates.{second_passes, both_pass}
use Rattle.ivy_syntax.proofs.LimitExpressions.{behind, TakesExpr, ExprRead, no_entry, is_enclosed}
use Rattle.ivy_syntax.proofs.LimitMembers.{read_expr}

-- The tokens lead from the state to the other one, and none passes a limit exactly where that holds.
pub record Reading (s : State) (u : List Placed) (end : State) (Fits : Type 0) : Type 0 where
  pub runs : state_after s u ≡ end
  pub to : NonePasses s u → Fits
  pub from : Fits → NonePasses s u

pub nothing_read : (s : State) → Reading s [] s (Unit {0})
nothing_read s = record { runs = refl; to = λ h. tt; from = λ f. tt }

pub and_then : (s m end : State) (u w : List Placed) (First Second : Type 0) → Reading s u m First
    → Reading m w end Second → Reading s (u ++ w) end (First × Second)
and_then s m end u w First Second a b = record {
  runs = after_both s u w ∙ ap (λ s. state_after s w) a.runs ∙ b.runs;
  to = λ h. (
    a.to (first_passes s u w h),
    b.to (subst (λ s. NonePasses s w) a.runs (second_passes s u w h)),
  );
  from = λ f. both_pass s u w (a.from f.0) (subst (λ s. NonePasses s w) (sym a.runs) (b.from f.1));
}

-- a token that passes none
pub passing : (s : State) (t : Placed) (end : State) (w : List Placed) (Fits : Type 0)
    → passed s (kind_of t.0) ≡ None → Reading (next s (kind_of t.0)) w end Fits → Reading s (t ∷ w) end Fits
passing s t end w Fits none r = record { runs = r.runs; to = λ h. r.to h.1; from = λ f. (none, r.from f) }

-- a token that passes one unless this holds
pub limited : (s : State) (t : Placed) (end : State) (w : List Placed) (Here Fits : Type 0)
    → (passed s (kind_of t.0) ≡ None → Here) → (Here → passed s (kind_of t.0) ≡ None)
    → Reading (next s (kind_of t.0)) w end Fits → Reading s (t ∷ w) end (Here × Fits)
limited s t end w Here Fits to from r = record {
  runs = r.runs;
  to = λ h. (to h.0, r.to h.1);
  from = λ f. (from f.0, r.from f.1);
}

-- a token at the end that passes none
pub ended : (s m : State) (u : List Placed) (t : Placed) (Fits : Type 0) → passed m (kind_of t.0) ≡ None
    → Reading s u m Fits → Reading s (u ++ (t ∷ [])) (next m (kind_of t.0)) Fits
ended s m u t Fits none r = record {
  runs = after_both s u (t ∷ []) ∙ ap (λ s. state_after s (t ∷ [])) r.runs;
  to = λ h. r.to (first_passes s u (t ∷ []) h);
  from = λ f. both_pass s u (t ∷ []) (r.from f) (subst (λ s. NonePasses s (t ∷ [])) (sym r.runs) (none, tt));
}

pub fits_as : (s end : State) (u : List Placed) (First Second : Type 0) → (First → Second) → (Second → First)
    → Reading s u end First → Reading s u end Second
fits_as s end u First Second to from r =
    record { runs = r.runs; to = λ h. to (r.to h); from = λ f. r.from (from f) }

pub ends_as : (s m end : State) (u : List Placed) (Fits : Type 0) → m ≡ end → Reading s u m Fits → Reading s u end Fits
ends_as s m end u Fits same r = record { runs = r.runs ∙ same; to = r.to; from = r.from }

-- ---- an expression that is counted by itself

pub record OwnExpr (s : State) (u : List Placed) (e : Expr) : Type 0 where
  pub operators : ℕ
  pub last : Kind
  pub params : ℕ
  pub no_comma : is_comma last ≡ false
  pub reads : Reading s u (behind s operators last params) (ExprIsWithin e)

pub own_expr : {level : Level} {depth : ℕ} {u : List Placed} {e : Expr} (s : State) → s.operators ≡ 0
    → holds takes_expressions s.section ≡ true → holds is_contract s.section ≡ false
    → holds is_clause s.section ≡ false → holds is_comma s.last ≡ false → Reads level depth u e → OwnExpr s u e
own_expr {u = u} {e = e} s none takes contract clause no_comma h =
    let at : TakesExpr s
    = record { takes = takes; contract = contract; clause = clause; enclosed = is_enclosed s no_comma } in
    let r : ExprRead s u e = read_expr s at h in
    record {
      operators = (state_after s u).operators;
      last = r.last;
      params = r.params;
      no_comma = r.no_comma;
      reads = record {
        runs = r.runs ∙ ap (λ n. behind s n r.last r.params) (sym (ap (λ (s : State). s.operators) r.runs));
        to = λ h. (let f = r.to h in (omega (arith, f.operators), f.short));
        from = λ f. r.from
            (record { entry = no_entry s no_comma; operators = omega (arith, f.0); short = f.1 });
      };
    }

-- ---- lists of which each item is counted

-- so many at most, where so many stand before, and each within its limits
abbrev pub Many : {X : Type 0} → (X → Type 0) → ℕ → ℕ → List X → Type 0
Many P most before xs = (length xs ≤ most - before) × AllByRecursion P xs

abbrev pub OneMore : {X : Type 0} → (X → Type 0) → ℕ → ℕ → X → Type 0
OneMore P most before x = (before < most) × P x

pub one_is : {X : Type 0} (P : X → Type 0) (most before : ℕ) (x : X) → OneMore P most before x
    → Many P most before (x ∷ [])
one_is P most before x h = (omega (arith, h.0), (h.1, tt))

pub is_one : {X : Type 0} (P : X → Type 0) (most before : ℕ) (x : X) → Many P most before (x ∷ [])
    → OneMore P most before x
is_one P most before x h = (omega (arith, h.0), h.1.0)

all_more : {X : Type 0} (P : X → Type 0) (xs : List X) (x : X) → AllByRecursion P xs → P x
    → AllByRecursion P (xs ++ (x ∷ []))
all_more P [] x all one = (one, tt)
all_more P (y ∷ xs) x all one = (all.0, all_more P xs x all.1 one)

all_less : {X : Type 0} (P : X → Type 0) (xs : List X) (x : X) → AllByRecursion P (xs ++ (x ∷ []))
    → AllByRecursion P xs × P x
all_less P [] x all = (tt, all.0)
all_less P (y ∷ xs) x all = let rest = all_less P xs x all.1 in ((all.0, rest.0), rest.1)

pub more_are : {X : Type 0} (P : X → Type 0) (most before : ℕ) (xs : List X) (x : X)
    → (Many P most before xs × OneMore P most (before + length xs) x) → Many P most before (xs ++ (x ∷ []))
more_are P most before xs x h =
    (omega (arith, h.0.0, h.1.0, length-append xs (x ∷ [])), all_more P xs x h.0.1 h.1.1)

pub are_more : {X : Type 0} (P : X → Type 0) (most before : ℕ) (xs : List X) (x : X)
    → Many P most before (xs ++ (x ∷ [])) → Many P most before xs × OneMore P most (before + length xs) x
are_more P most before xs x h =
    let all = all_less P xs x h.1 in
    let len : length (xs ++ (x ∷ [])) ≡ length xs + 1 = length-append xs (x ∷ []) in
    let few : length (xs ++ (x ∷ [])) ≤ most - before = h.0 in
    ((omega arith, all.0), (omega arith, all.1))
