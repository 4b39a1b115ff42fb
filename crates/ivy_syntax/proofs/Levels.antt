-- Expressions come out as the parser goes, level by level.
use Rattle.std.specs.Prelude.{◌≡◌, ℕ, ◌≤◌, Bool, true, false, List, [], ◌∷◌, ◌++◌, Option, Some, None, refl}
use Rattle.std.proofs.Common.{sym, ap, ◌∙◌, subst, true≢false, arith}
use Rattle.grammars.specs.Part.{Part, Completes, Decides}
use Rattle.grammars.specs.Sequence.{Within}
use Rattle.grammars.specs.Depth.{Any, within_any, together, decides_same}
use Rattle.grammars.specs.Chain.{IsChain, Chained, chained_reads, chained_one, chained_more, decides_chained}
use Rattle.grammars.specs.Paired.{Paired, paired_reads, paired_one, paired_two, decides_paired}
use Rattle.ivy_syntax.specs.declared.tree.Expr.{Expr}
use Rattle.ivy_syntax.specs.declared.tree.Form.TheVariants as forms
use Rattle.ivy_syntax.specs.Token.{Operation, Number}
use Rattle.ivy_syntax.specs.Tokens.{Placed}
use Rattle.ivy_syntax.specs.declared.level.Level.{Level}
use Rattle.ivy_syntax.specs.declared.level.Level.TheVariants.{Or, And, Comparison, Shift, Sum, Term, Unary}
use Rattle.ivy_syntax.specs.Grammar.{below, between, single}
use Rattle.ivy_syntax.specs.Grammar.{Reads, alone, joined, compared, prefixed, one_token, empty_call, call, members}
use Rattle.ivy_syntax.specs.Grammar.{parentheses, a_number}
use Rattle.ivy_syntax.specs.Descent.{Reader, joins, op_of, join, chain_by, compare_by, term_by}
use Rattle.ivy_syntax.specs.Grammar.{rank}
use Rattle.ivy_syntax.specs.Descent.{sum_by, shift_by, comparison_by, and_by, expr_by, level_by}
use Rattle.ivy_syntax.proofs.Pieces.{Fine, zero_fine, HasOperators, binds_more, goes_at, goes_of, joining_is, is_joining}
use Rattle.ivy_syntax.proofs.Growth.{reads_grow}

abbrev pub IsAtLeast : Level → Option Level → Type 0
IsAtLeast level None = ⊥
IsAtLeast level (Some found) = rank level ≤ rank found

-- what an expression of a level goes on with: its operators, those of the levels that bind more, and a call's
-- parenthesis
abbrev pub Goes_on : Level → Placed → Type 0
Goes_on level t = IsAtLeast level (goes_at t.0)

-- an expression of this level comes out as this reader reads
abbrev pub Comes : Level → ℕ → Reader Expr → Type 0
Comes level depth read =
    (ts : List Placed) → Decides Fine (Reads level depth) (Any (Reads level)) (Goes_on level) ts (read ts)

-- ---- `0` is an expression of each level

zero_reads : (level : Level) (depth : ℕ) → Reads level depth ((Number 0, 0) ∷ []) (single 0 (forms.Number 0))
zero_reads Unary depth = one_token 0 (a_number 0)
zero_reads Term depth = alone {level = Term} (one_token 0 (a_number 0))
zero_reads Sum depth = alone {level = Sum} (alone {level = Term} (one_token 0 (a_number 0)))
zero_reads Shift depth = alone {level = Shift} (alone {level = Sum} (alone {level = Term} (one_token 0 (a_number 0))))
zero_reads Comparison depth = alone {level = Comparison}
    (alone {level = Shift} (alone {level = Sum} (alone {level = Term} (one_token 0 (a_number 0)))))
zero_reads And depth = alone {level = And} (alone {level = Comparison}
    (alone {level = Shift} (alone {level = Sum} (alone {level = Term} (one_token 0 (a_number 0))))))
zero_reads Or depth = alone {level = Or} (alone {level = And} (alone {level = Comparison}
    (alone {level = Shift} (alone {level = Sum} (alone {level = Term} (one_token 0 (a_number 0)))))))

pub some_expr : (level : Level) (depth : ℕ) → Completes Fine (Reads level depth) []
some_expr level depth = record {
  more = (Number 0, 0) ∷ [];
  value = single 0 (forms.Number 0);
  fine = (zero_fine, tt);
  reads = zero_reads level depth;
}

pub any_expr : (level : Level) → Completes Fine (Any (Reads level)) []
any_expr level = record {
  more = (Number 0, 0) ∷ [];
  value = single 0 (forms.Number 0);
  fine = (zero_fine, tt);
  reads = (0, zero_reads level 0);
}

-- ---- chains

join_one : (level : Level) → (level ≡ Comparison → ⊥) → (depth : ℕ) (u w : List Placed) (t : Placed)
    (a b : Expr) → Reads level depth u a → joins level t ≡ true → Reads (below level) depth w b
    → Reads level depth (u ++ (t ∷ w)) (join t a b)
join_one level not depth u w t a b h is k =
    let found = joining_is level t is in
    subst (λ t'. Reads level depth (u ++ (t' ∷ w)) (join t a b)) (sym found.1) (joined found.0 t.1 found.2 not h k)

abbrev Joined : Level → Part Placed Expr → Part Placed Expr
Joined level X = Chained (joins level) join X

of_joined : (level : Level) → (level ≡ Comparison → ⊥) → (depth : ℕ)
    → Within (Joined level (Reads (below level) depth)) (Reads level depth)
of_joined level not depth = chained_reads (joins level) join (Reads (below level) depth) (Reads level depth)
    (λ u a h. alone h) (join_one level not depth)

of_any_joined : (level : Level) → (level ≡ Comparison → ⊥)
    → Within (Joined level (Any (Reads (below level)))) (Any (Reads level))
of_any_joined level not = chained_reads (joins level) join (Any (Reads (below level))) (Any (Reads level))
    (λ u a h. (h.0, alone h.1)) (λ u w t a b h is k.
    let both = together (Reads level) (Reads (below level)) (reads_grow level) (reads_grow (below level)) u w a b h k in
    (both.0, join_one level not both.0 u w t a b both.1 is both.2))

to_joined : (level : Level) → HasOperators level → (level ≡ Comparison → ⊥) → (depth : ℕ) (Z : Part Placed Expr)
    → Within (Reads (below level) depth) Z → (u : List Placed) (e : Expr) → Reads level depth u e → Joined level Z u e
to_joined level has not depth Z inside u e (alone h) = chained_one (joins level) join Z u e (inside u e h)
to_joined level has not depth Z inside _ _ (joined {u = u} {w = w} {a = a} {b = b} {op = op} o at is _ h k) =
    subst (λ op. Joined level Z (u ++ ((Operation o, at) ∷ w)) (between at op a b)) (ap op_of is)
    (chained_more (joins level) join Z u w (Operation o, at) a b (to_joined level has not depth Z inside u a h)
    (is_joining level o op at is) (inside w b k))
to_joined _ has not depth Z inside _ _ (compared o at is h k) = absurd (not refl)
to_joined _ has not depth Z inside _ _ (prefixed o at is h) = absurd has
to_joined _ has not depth Z inside _ _ (one_token at is) = absurd has
to_joined _ has not depth Z inside _ _ (empty_call name at first last) = absurd has
to_joined _ has not depth Z inside _ _ (call name at first last h) = absurd has
to_joined _ has not depth Z inside _ _ (members at close h) = absurd has
to_joined _ has not depth Z inside _ _ (parentheses at close h) = absurd has

apart : (level : Level) → HasOperators level → (t : Placed) → joins level t ≡ true → Goes_on (below level) t → ⊥
apart level has t is more =
    let up = binds_more level has in
    let again : rank (below level) ≤ rank level = subst (IsAtLeast (below level)) (goes_of level t is) more in
    omega (arith, up, again)

covers_found : (level : Level) → HasOperators level → (found : Option Level) → IsAtLeast (below level) found
    → IsAtLeast level found
covers_found level has None more = more
covers_found level has (Some found) more = let up = binds_more level has in omega (arith, up, more)

covers : (level : Level) → HasOperators level → (t : Placed) → Goes_on (below level) t → Goes_on level t
covers level has t more = covers_found level has (goes_at t.0) more

ons : (level : Level) (t : Placed) → joins level t ≡ true → Goes_on level t
ons level t is =
    let same : rank level ≤ rank level = omega arith in
    subst (IsAtLeast level) (sym (goes_of level t is)) same

the_chain : (level : Level) → HasOperators level → (depth : ℕ) (operand : Reader Expr) → Comes (below level) depth operand
    → IsChain Fine (joins level) (λ t. Reads (below level) depth) (λ t. Any (Reads (below level)))
    (Goes_on (below level))
    (Goes_on level) (λ t. operand)
the_chain level has depth operand comes = record {
  within = λ t u v h. (depth, h);
  some = λ t is. some_expr (below level) depth;
  apart = apart level has;
  covers = covers level has;
  ons = ons level;
  reads = λ t ts is. comes ts;
}

decides_joined : (level : Level) → HasOperators level → (level ≡ Comparison → ⊥) → (depth : ℕ) (operand : Reader Expr)
    → Comes (below level) depth operand → Comes level depth (chain_by level operand)
decides_joined level has not depth operand comes ts =
    decides_same Fine (Reads level depth) (Any (Reads level)) (Joined level (Reads (below level) depth))
    (Joined level (Any (Reads (below level)))) (Goes_on level) (Goes_on level) ts (λ t c. c)
    (of_joined level not depth) (of_any_joined level not)
    (to_joined level has not depth (Reads (below level) depth) (λ u v h. h))
    (λ u v h. to_joined level has not h.0 (Any (Reads (below level))) (within_any (Reads (below level)) h.0) u v h.1)
    (chain_by level operand ts)
    (decides_chained Fine (joins level) (Reads (below level) depth) (Any (Reads (below level))) (Goes_on (below level))
    (Goes_on level) operand join (the_chain level has depth operand comes) (within_any (Reads (below level)) depth)
    comes ts)

-- ---- comparisons

abbrev Compared : Part Placed Expr → Part Placed Expr
Compared X = Paired (joins Comparison) join X

compare : (depth : ℕ) (u w : List Placed) (t : Placed) (a b : Expr) → Reads Shift depth u a → joins Comparison t ≡ true
    → Reads Shift depth w b → Reads Comparison depth (u ++ (t ∷ w)) (join t a b)
compare depth u w t a b h is k =
    let found = joining_is Comparison t is in
    subst (λ t'. Reads Comparison depth (u ++ (t' ∷ w)) (join t a b)) (sym found.1) (compared found.0 t.1 found.2 h k)

of_compared : (depth : ℕ) → Within (Compared (Reads Shift depth)) (Reads Comparison depth)
of_compared depth = paired_reads (joins Comparison) join (Reads Shift depth) (Reads Comparison depth)
    (λ u a h. alone {level = Comparison} h) (compare depth)

of_any_compared : Within (Compared (Any (Reads Shift))) (Any (Reads Comparison))
of_any_compared = paired_reads (joins Comparison) join (Any (Reads Shift)) (Any (Reads Comparison))
    (λ u a h. (h.0, alone {level = Comparison} h.1)) (λ u w t a b h is k.
    let both = together (Reads Shift) (Reads Shift) (reads_grow Shift) (reads_grow Shift) u w a b h k in
    (both.0, compare both.0 u w t a b both.1 is both.2))

to_compared : (depth : ℕ) (Z : Part Placed Expr) → Within (Reads Shift depth) Z → (u : List Placed) (e : Expr)
    → Reads Comparison depth u e → Compared Z u e
to_compared depth Z inside u e (alone h) = paired_one (joins Comparison) join Z u e (inside u e h)
to_compared depth Z inside _ _ (joined o at is not h k) = absurd (not refl)
to_compared depth Z inside _ _ (compared {u = u} {w = w} {a = a} {b = b} {op = op} o at is h k) =
    subst (λ op. Compared Z (u ++ ((Operation o, at) ∷ w)) (between at op a b)) (ap op_of is)
    (paired_two (joins Comparison) join Z u w (Operation o, at) a b (inside u a h)
    (is_joining Comparison o op at is) (inside w b k))

decides_compared : (depth : ℕ) (operand : Reader Expr) → Comes Shift depth operand
    → Comes Comparison depth (compare_by operand)
decides_compared depth operand comes ts =
    decides_same Fine (Reads Comparison depth) (Any (Reads Comparison)) (Compared (Reads Shift depth))
    (Compared (Any (Reads Shift))) (Goes_on Comparison) (Goes_on Comparison) ts (λ t c. c)
    (of_compared depth) of_any_compared (to_compared depth (Reads Shift depth) (λ u v h. h))
    (λ u v h. to_compared h.0 (Any (Reads Shift)) (within_any (Reads Shift) h.0) u v h.1)
    (compare_by operand ts)
    (decides_paired Fine (joins Comparison) (Reads Shift depth) (Any (Reads Shift)) (Goes_on Shift)
    (Goes_on Comparison) operand join (the_chain Comparison tt depth operand comes)
    (within_any (Reads Shift) depth) comes ts)

-- ---- all levels

abbrev is_comparison : Level → Bool
is_comparison Comparison = true
is_comparison _ = false

other : (level : Level) → is_comparison level ≡ false → level ≡ Comparison → ⊥
other level not same = true≢false (sym (ap is_comparison same) ∙ not)

module _ (depth : ℕ) (operand : Reader Expr) (comes : Comes Unary depth operand) where
  decides_term : Comes Term depth (term_by operand)
  decides_term = decides_joined Term tt (other Term refl) depth operand comes

  decides_sum : Comes Sum depth (sum_by operand)
  decides_sum = decides_joined Sum tt (other Sum refl) depth (term_by operand) decides_term

  decides_shift : Comes Shift depth (shift_by operand)
  decides_shift = decides_joined Shift tt (other Shift refl) depth (sum_by operand) decides_sum

  decides_comparison : Comes Comparison depth (comparison_by operand)
  decides_comparison = decides_compared depth (shift_by operand) decides_shift

  decides_and : Comes And depth (and_by operand)
  decides_and = decides_joined And tt (other And refl) depth (comparison_by operand) decides_comparison

  -- An expression comes out, where what is unary does.
  pub decides_expr : Comes Or depth (expr_by operand)
  decides_expr = decides_joined Or tt (other Or refl) depth (and_by operand) decides_and

  -- And so does one of each level.
  pub decides_level : (level : Level) → Comes level depth (level_by level operand)
  decides_level Or = decides_expr
  decides_level And = decides_and
  decides_level Comparison = decides_comparison
  decides_level Shift = decides_shift
  decides_level Sum = decides_sum
  decides_level Term = decides_term
  decides_level Unary = comes
