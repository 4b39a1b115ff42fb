-- What the grammar reads has no token that ends_text a text, and its places do not count.
use Rattle.std.specs.Prelude.{◌≡◌, ℕ, suc, Bool, true, false, List, [], ◌∷◌, ◌++◌, map, refl}
use Rattle.std.proofs.Common.{sym, ap, ◌∙◌, subst}
use Rattle.std.proofs.lemmas.Option.{none-some, same_Some}
use Rattle.grammars.specs.Text.{next}
use Rattle.grammars.specs.Sequence.{all_joined}
use Rattle.grammars.specs.Whole.{AreOpen}
use Rattle.filter_syntax.specs.declared.tree.Cond.{Cond}
use Rattle.filter_syntax.specs.declared.tree.FilterValue.{FilterValue}
use Rattle.filter_syntax.specs.Token.{Token, Open, Close, Equals, And, Or, Inputs, Outputs, Name}
use Rattle.filter_syntax.specs.Tokens.{Placed}
use Rattle.filter_syntax.specs.Grammar.{Rule, Alternatives, Conjunction, Reads, conjunction, unit, parentheses, inputs}
use Rattle.filter_syntax.specs.Grammar.{outputs, comparison, IsValue, Text, Decimal, Parameter}
use Rattle.filter_syntax.specs.Grammar as grammar
use Rattle.filter_syntax.specs.Descent.{ends_text}

abbrev pub token_of : Placed → Token
token_of p = p.0

pub map_joined : {A B : Type 0} (f : A → B) (a b : List A) → map f (a ++ b) ≡ map f a ++ map f b
map_joined f [] b = refl
map_joined f (x ∷ a) b = ap (λ r. f x ∷ r) (map_joined f a b)

joined_clean : (a b : List Placed) → AreOpen ends_text (map token_of a) → AreOpen ends_text (map token_of b)
    → AreOpen ends_text (map token_of (a ++ b))
joined_clean a b h k = subst (AreOpen ends_text) (sym (map_joined token_of a b))
    (all_joined (λ k. ends_text k ≡ false) (map token_of a) (map token_of b) h k)

value_clean : (t : Token) (v : FilterValue) → IsValue t v → ends_text t ≡ false
value_clean _ _ (Text bytes) = refl
value_clean _ _ (Decimal n) = refl
value_clean _ _ (Parameter n) = refl

-- no token of what is read ends_text a text
pub clean : (rule : Rule) (depth : ℕ) (scopes : Bool) (u : List Placed) (c : Cond) → Reads rule depth scopes u c
    → AreOpen ends_text (map token_of u)
clean _ depth scopes u c (conjunction h) = clean Conjunction depth scopes u c h
clean _ depth scopes _ _ (grammar.or {u = u} {w = w} {a = a} {b = b} at h k) =
    joined_clean u ((Or, at) ∷ w) (clean Alternatives depth scopes u a h) (refl, clean Conjunction depth scopes w b k)
clean _ depth scopes u c (unit h) = clean grammar.Unit depth scopes u c h
clean _ depth scopes _ _ (grammar.and {u = u} {w = w} {a = a} {b = b} at h k) =
    joined_clean u ((And, at) ∷ w) (clean Conjunction depth scopes u a h) (refl, clean grammar.Unit depth scopes w b k)
clean _ (suc depth) scopes _ c (parentheses {u = u} at close h) =
    (refl, joined_clean u ((Close, close) ∷ []) (clean Alternatives depth scopes u c h) (refl, tt))
clean _ (suc depth) _ _ _ (inputs {u = u} {c = c} at first close h) =
    (refl, (refl, joined_clean u ((Close, close) ∷ []) (clean Alternatives depth false u c h) (refl, tt)))
clean _ (suc depth) _ _ _ (outputs {u = u} {c = c} at first close h) =
    (refl, (refl, joined_clean u ((Close, close) ∷ []) (clean Alternatives depth false u c h) (refl, tt)))
clean _ depth scopes _ _ (comparison {token = token} {value = value} at eq place h) =
    (refl, (refl, (value_clean token value h, tt)))

-- ---- other places

-- tokens as these, and the parts of them
pub record Split (w u v : List Placed) : Type 0 where
  pub first : List Placed
  pub second : List Placed
  pub joined : w ≡ first ++ second
  pub as_first : map token_of first ≡ map token_of u
  pub as_second : map token_of second ≡ map token_of v

abbrev rest_of : {T : Type 0} → List T → List T
rest_of [] = []
rest_of (t ∷ ts) = ts

nil_cons : {T : Type 0} (t : T) (ts : List T) → t ∷ ts ≡ [] → ⊥
nil_cons t ts same = none-some t (sym (ap next same))

pub split : (w u v : List Placed) → map token_of w ≡ map token_of (u ++ v) → Split w u v
split w [] v same = record { first = []; second = w; joined = refl; as_first = refl; as_second = same }
split [] (t ∷ u) v same = absurd (nil_cons (token_of t) (map token_of (u ++ v)) (sym same))
split (s ∷ w) (t ∷ u) v same =
    let rest = split w u v (ap rest_of same) in record {
      first = s ∷ rest.first;
      second = rest.second;
      joined = ap (λ w. s ∷ w) rest.joined;
      as_first = ap (λ k. k ∷ map token_of rest.first) (same_Some (token_of s) (token_of t) (ap next same))
          ∙ ap (λ r. token_of t ∷ r) rest.as_first;
      as_second = rest.as_second;
    }

-- tokens that begin as this one
pub record Headed (w : List Placed) (t : Token) (u : List Placed) : Type 0 where
  pub at : ℕ
  pub behind : List Placed
  pub joined : w ≡ (t, at) ∷ behind
  pub same : map token_of behind ≡ map token_of u

pub headed : (w : List Placed) (t : Token) (at : ℕ) (u : List Placed) → map token_of w ≡ map token_of ((t, at) ∷ u)
    → Headed w t u
headed [] t at u same = absurd (nil_cons t (map token_of u) (sym same))
headed (s ∷ w) t at u same = record {
  at = s.1;
  behind = w;
  joined = ap (λ k. (k, s.1) ∷ w) (same_Some (token_of s) t (ap next same));
  same = ap rest_of same;
}

pub nothing : (w : List Placed) → map token_of w ≡ [] → w ≡ []
nothing [] same = refl
nothing (t ∷ w) same = absurd (nil_cons (token_of t) (map token_of w) same)

-- What the same tokens read as at other places is the same.
pub replaced : (rule : Rule) (depth : ℕ) (scopes : Bool) (u : List Placed) (c : Cond) → Reads rule depth scopes u c
    → (w : List Placed) → map token_of w ≡ map token_of u → Reads rule depth scopes w c
replaced _ depth scopes u c (conjunction h) w same = conjunction (replaced Conjunction depth scopes u c h w same)
replaced _ depth scopes _ c (grammar.or {u = u} {w = v} {a = a} {b = b} at h k) w same =
    let s = split w u ((Or, at) ∷ v) same in
    let o = headed s.second Or at v s.as_second in
    subst (λ w. Reads Alternatives depth scopes w c) (sym (s.joined ∙ ap (λ r. s.first ++ r) o.joined))
    (grammar.or o.at (replaced Alternatives depth scopes u a h s.first s.as_first)
    (replaced Conjunction depth scopes v b k o.behind o.same))
replaced _ depth scopes u c (unit h) w same = unit (replaced grammar.Unit depth scopes u c h w same)
replaced _ depth scopes _ c (grammar.and {u = u} {w = v} {a = a} {b = b} at h k) w same =
    let s = split w u ((And, at) ∷ v) same in
    let o = headed s.second And at v s.as_second in
    subst (λ w. Reads Conjunction depth scopes w c) (sym (s.joined ∙ ap (λ r. s.first ++ r) o.joined))
    (grammar.and o.at (replaced Conjunction depth scopes u a h s.first s.as_first)
    (replaced grammar.Unit depth scopes v b k o.behind o.same))
replaced _ (suc depth) scopes _ c (parentheses {u = u} at close h) w same =
    let o = headed w Open at (u ++ ((Close, close) ∷ [])) same in
    let s = split o.behind u ((Close, close) ∷ []) o.same in
    let e = headed s.second Close close [] s.as_second in
    subst (λ w. Reads grammar.Unit (suc depth) scopes w c) (sym (o.joined ∙ ap (λ r. (Open, o.at) ∷ r)
    (s.joined ∙ ap (λ r. s.first ++ r) (e.joined ∙ ap (λ r. (Close, e.at) ∷ r) (nothing e.behind e.same)))))
    (parentheses o.at e.at (replaced Alternatives depth scopes u c h s.first s.as_first))
replaced _ (suc depth) _ _ c' (inputs {u = u} {c = c} at first close h) w same =
    let i = headed w Inputs at ((Open, first) ∷ (u ++ ((Close, close) ∷ []))) same in
    let o = headed i.behind Open first (u ++ ((Close, close) ∷ [])) i.same in
    let s = split o.behind u ((Close, close) ∷ []) o.same in
    let e = headed s.second Close close [] s.as_second in
    subst (λ w. Reads grammar.Unit (suc depth) true w c') (sym (i.joined ∙ ap (λ r. (Inputs, i.at) ∷ r)
    (o.joined ∙ ap (λ r. (Open, o.at) ∷ r)
    (s.joined ∙ ap (λ r. s.first ++ r) (e.joined ∙ ap (λ r. (Close, e.at) ∷ r) (nothing e.behind e.same))))))
    (inputs i.at o.at e.at (replaced Alternatives depth false u c h s.first s.as_first))
replaced _ (suc depth) _ _ c' (outputs {u = u} {c = c} at first close h) w same =
    let i = headed w Outputs at ((Open, first) ∷ (u ++ ((Close, close) ∷ []))) same in
    let o = headed i.behind Open first (u ++ ((Close, close) ∷ [])) i.same in
    let s = split o.behind u ((Close, close) ∷ []) o.same in
    let e = headed s.second Close close [] s.as_second in
    subst (λ w. Reads grammar.Unit (suc depth) true w c') (sym (i.joined ∙ ap (λ r. (Outputs, i.at) ∷ r)
    (o.joined ∙ ap (λ r. (Open, o.at) ∷ r)
    (s.joined ∙ ap (λ r. s.first ++ r) (e.joined ∙ ap (λ r. (Close, e.at) ∷ r) (nothing e.behind e.same))))))
    (outputs i.at o.at e.at (replaced Alternatives depth false u c h s.first s.as_first))
replaced _ depth scopes _ c (comparison {name = name} {token = token} {value = value} at eq place h) w same =
    let n = headed w (Name name) at ((Equals, eq) ∷ (token, place) ∷ []) same in
    let e = headed n.behind Equals eq ((token, place) ∷ []) n.same in
    let v = headed e.behind token place [] e.same in
    subst (λ w. Reads grammar.Unit depth scopes w c) (sym (n.joined ∙ ap (λ r. (Name name, n.at) ∷ r)
    (e.joined ∙ ap (λ r. (Equals, e.at) ∷ r) (v.joined ∙ ap (λ r. (token, v.at) ∷ r) (nothing v.behind v.same)))))
    (comparison n.at e.at v.at h)

-- the first token of what is read, and the others
pub record Begun (u : List Placed) : Type 0 where
  pub first : Placed
  pub others : List Placed
  pub all : u ≡ first ∷ others

begun_more : (u w : List Placed) → Begun u → Begun (u ++ w)
begun_more u w h = record { first = h.first; others = h.others ++ w; all = ap (λ u. u ++ w) h.all }

-- What is read is some token.
pub begun_by : (rule : Rule) (depth : ℕ) (scopes : Bool) (u : List Placed) (c : Cond) → Reads rule depth scopes u c → Begun u
begun_by _ depth scopes u c (conjunction h) = begun_by Conjunction depth scopes u c h
begun_by _ depth scopes _ _ (grammar.or {u = u} {w = w} {a = a} at h k) =
    begun_more u ((Or, at) ∷ w) (begun_by Alternatives depth scopes u a h)
begun_by _ depth scopes u c (unit h) = begun_by grammar.Unit depth scopes u c h
begun_by _ depth scopes _ _ (grammar.and {u = u} {w = w} {a = a} at h k) =
    begun_more u ((And, at) ∷ w) (begun_by Conjunction depth scopes u a h)
begun_by _ (suc depth) scopes _ c (parentheses {u = u} at close h) =
    record { first = (Open, at); others = u ++ ((Close, close) ∷ []); all = refl }
begun_by _ (suc depth) _ _ _ (inputs {u = u} at first close h) =
    record { first = (Inputs, at); others = (Open, first) ∷ (u ++ ((Close, close) ∷ [])); all = refl }
begun_by _ (suc depth) _ _ _ (outputs {u = u} at first close h) =
    record { first = (Outputs, at); others = (Open, first) ∷ (u ++ ((Close, close) ∷ [])); all = refl }
begun_by _ depth scopes _ _ (comparison {name = name} {token = token} at eq place h) =
    record { first = (Name name, at); others = (Equals, eq) ∷ (token, place) ∷ []; all = refl }
