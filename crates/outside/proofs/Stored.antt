-- What a map of texts stores, as contents by name.
use Rattle.std.proofs.Common.{◌≡◌, ℕ, Bool, true, false, cond, List, [], ◌∷◌, Option, Some, map, refl, sym, ap, ◌∙◌, string_bytes, String, Vec}
use Rattle.std.specs.Option.{option_map}
use Rattle.std.specs.Ordering.{nat_cmp, eq_by_cmp}
use Rattle.std.specs.Cmp.{eq_by_cmp_equiv}
use Rattle.std.specs.Cmp.Lexicographic.{slice_cmp, nat_list_cmp_total}
use Rattle.std.specs.Str.{bytes_eq}
use Rattle.std.specs.String.{string_cmp}
use Rattle.std.specs.Map.{lookup}
use Rattle.std.specs.BTreeMap.{BTreeMap, UpdatesBy, get_by_text, is_at}
use Rattle.std.specs.FinMap as finite
use Rattle.std.specs.declared.alloc.Global.{Global}
use Rattle.std.proofs.lemmas.Map.Text.{is_eq-slice_cmp, btree_map_updates_text}
use Rattle.outside.specs.Begun.{contents_of}

-- two names are the same text
abbrev texts : List ℕ → List ℕ → Bool
texts q k = eq_by_cmp (slice_cmp nat_cmp) q k

-- a name finds the same among the entries as a map stores them and as contracts see them
find_viewed : (q : List ℕ) (es : List (String Global × Vec ℕ Global)) → finite.find (slice_cmp nat_cmp) q (map (λ e. (string_bytes e.0, e.1.items)) es) ≡ option_map (λ v. v.items) (lookup (is_at (λ k. slice_cmp nat_cmp q (string_bytes k))) es)
find_viewed q [] = refl
find_viewed q (e ∷ es) =
    elim (texts q (string_bytes e.0)) as (λ b. cond b (Some e.1.items) (finite.find (slice_cmp nat_cmp) q (map (λ x. (string_bytes x.0, x.1.items)) es)) ≡ option_map (λ v. v.items) (cond b (Some e.1) (lookup (is_at (λ k. slice_cmp nat_cmp q (string_bytes k))) es))) [
      | true ↦ refl
      | false ↦ find_viewed q es
    ]

-- what stands at a name
pub get-contents : (m : BTreeMap (String Global) (Vec ℕ Global)) (q : List ℕ) → finite.get (contents_of m) q ≡ option_map (λ v. v.items) (get_by_text m q)
get-contents m q = finite.get-from_entries nat_list_cmp_total _ q ∙ find_viewed q m.entries

-- a function of what a choice gives is a choice of what the function gives
mapped : {A B : Type 0} (f : A → B) (b : Bool) (x : A) (o : Option A) → option_map f (cond b (Some x) o) ≡ cond b (Some (f x)) (option_map f o)
mapped f true x o = refl
mapped f false x o = refl

-- equal bytes, tested one way and the other
same_text : (bs q : List ℕ) → bytes_eq bs q ≡ texts q bs
same_text bs q = sym (is_eq-slice_cmp bs q) ∙ (eq_by_cmp_equiv nat_list_cmp_total).symm bs q

-- after an insert
pub contents-insert : (m n : BTreeMap (String Global) (Vec ℕ Global)) (bs : List ℕ) (v : Vec ℕ Global) → UpdatesBy string_cmp (λ k. slice_cmp nat_cmp bs (string_bytes k)) m n (Some v) → contents_of n ≡ finite.insert (contents_of m) bs v.items
contents-insert m n bs v updates =
    finite.same_map nat_list_cmp_total (finite.slice_cmp-IsAntisymmetric finite.nat_cmp-IsAntisymmetric) _ _ (λ q.
    get-contents n q
    ∙ ap (option_map (λ w. w.items)) (btree_map_updates_text bs m n (Some v) updates q)
    ∙ mapped (λ w. w.items) (bytes_eq bs q) v (get_by_text m q)
    ∙ ap (λ b. cond b (Some v.items) (option_map (λ w. w.items) (get_by_text m q))) (same_text bs q)
    ∙ ap (cond (texts q bs) (Some v.items)) (sym (get-contents m q))
    ∙ sym (finite.get-insert nat_list_cmp_total (contents_of m) bs v.items q))
