use Rattle.std.proofs.Common.{rules, ◌≡◌, ◌+◌, ◌-◌, ◌<◌, ◌/◌, ◌∙◌, ℕ, List, [], length, take, drop, sym, ap, subst, arith}
use Rattle.std.specs.Prelude.{◌⊎◌}
use Rattle.std.specs.List.{All}
use Rattle.std.proofs.lemmas.List.Elements.{All-from_get_or}
use Rattle.std.proofs.lemmas.List.{length-take-le, length-drop, take_rest}
use Rattle.merkle.specs.Agreeing.{AllSameUpTo}
use Rattle.merkle.specs.Roots.{node, root_of_bits, without, IsIncreasing}
use Rattle.merkle.proofs.Sets.{AllRead, all_read, differs_inside, single_by_length}
use Rattle.merkle.proofs.Steps.{Alone, passed_over, split, front_increasing, front_same, back_increasing, back_same}
use Rattle.merkle.proofs.set.+root_from.Goals as goal

pub returns-then-ids-eq1 : goal.returns-then-ids-eq1
returns-then-ids-eq1 g t c =
    c.leaf.ensures ∙ sym (single_by_length (g.H.IdHash.hash_of c.args.hash.now) _ c.args.ids.now c.if-ids-eq1.true)

pub count_without-count-requires : goal.count_without-count-requires
count_without-count-requires g t c =
    let ids = c.args.ids.now in
    let long : All (λ id. length id ≡ 32) ids = All-from_get_or (λ id. length id ≡ 32) ids [] c.told-ids in
    let more : 1 < length ids = omega (arith, c.if-ids-eq1.false, c.requires.some) in
    differs_inside c.args.place ids c.requires.place more c.requires.sorted long c.requires.same

pub root_from-requires : goal.root_from-requires
root_from-requires g t c κs within =
    let hash = g.H.IdHash.hash_of c.args.hash.now in
    let ids = c.args.ids.now in
    let place = c.args.place in
    let long : All (λ id. length id ≡ 32) ids = All-from_get_or (λ id. length id ≡ 32) ids [] c.told-ids in
    let more : 1 < length ids = omega (arith, c.if-ids-eq1.false, c.requires.some) in
    let inside : place < 256 = differs_inside place ids c.requires.place more c.requires.sorted long c.requires.same in
    let read : AllRead (place / 8) ids = all_read (place / 8) ids long c.count_without-count.ensures.bytes in
    let alone : Alone place ids = subst (λ (n : ℕ). (n ≡ 0) ⊎ ((n ≡ 0 → ⊥) × (n ≡ length ids))) c.count_without-count.ensures.count c.then-count-eq0.either in
    let over = passed_over hash place ids inside c.requires.sorted c.requires.same read alone in
    (search rules, (search rules, (c.requires.sorted, (over.0, (c.requires.some, omega arith)))))

pub returns-then-count-eq0 : goal.returns-then-count-eq0
returns-then-count-eq0 g t c =
    let hash = g.H.IdHash.hash_of c.args.hash.now in
    let ids = c.args.ids.now in
    let place = c.args.place in
    let long : All (λ id. length id ≡ 32) ids = All-from_get_or (λ id. length id ≡ 32) ids [] c.told-ids in
    let more : 1 < length ids = omega (arith, c.if-ids-eq1.false, c.requires.some) in
    let inside : place < 256 = differs_inside place ids c.requires.place more c.requires.sorted long c.requires.same in
    let read : AllRead (place / 8) ids = all_read (place / 8) ids long c.count_without-count.ensures.bytes in
    let alone : Alone place ids = subst (λ (n : ℕ). (n ≡ 0) ⊎ ((n ≡ 0 → ⊥) × (n ≡ length ids))) c.count_without-count.ensures.count c.then-count-eq0.either in
    c.root_from.ensures ∙ sym (passed_over hash place ids inside c.requires.sorted c.requires.same read alone).1

pub root_from-left-requires : goal.root_from-left-requires
root_from-left-requires g t c κs within =
    let hash = g.H.IdHash.hash_of c.args.hash.now in
    let ids = c.args.ids.now in
    let place = c.args.place in
    let n = c.count_without-count.result in
    let long : All (λ id. length id ≡ 32) ids = All-from_get_or (λ id. length id ≡ 32) ids [] c.told-ids in
    let more : 1 < length ids = omega (arith, c.if-ids-eq1.false, c.requires.some) in
    let inside : place < 256 = differs_inside place ids c.requires.place more c.requires.sorted long c.requires.same in
    let read : AllRead (place / 8) ids = all_read (place / 8) ids long c.count_without-count.ensures.bytes in
    let count = c.count_without-count.ensures.count in
    let increasing : IsIncreasing (take n ids) = subst (λ (k : ℕ). IsIncreasing (take k ids)) (sym count) (front_increasing hash place ids inside c.requires.sorted c.requires.same read) in
    let same : AllSameUpTo (place + 1) (take n ids) = subst (λ (k : ℕ). AllSameUpTo (place + 1) (take k ids)) (sym count) (front_same hash place ids inside c.requires.sorted c.requires.same read) in
    (search rules, (search rules, (increasing, (same, (omega (arith, length-take-le n ids c.count_without-count.ensures.within, c.if-count-eq0.false), omega arith)))))

pub root_from-right-requires : goal.root_from-right-requires
root_from-right-requires g t c κs within =
    let hash = g.H.IdHash.hash_of c.args.hash.now in
    let ids = c.args.ids.now in
    let place = c.args.place in
    let n = c.count_without-count.result in
    let long : All (λ id. length id ≡ 32) ids = All-from_get_or (λ id. length id ≡ 32) ids [] c.told-ids in
    let more : 1 < length ids = omega (arith, c.if-ids-eq1.false, c.requires.some) in
    let inside : place < 256 = differs_inside place ids c.requires.place more c.requires.sorted long c.requires.same in
    let read : AllRead (place / 8) ids = all_read (place / 8) ids long c.count_without-count.ensures.bytes in
    let count = c.count_without-count.ensures.count in
    let some : 0 < length (drop n ids) = omega (arith, length-drop n ids, c.count_without-count.ensures.within, c.if-count-ids.false) in
    let rest : take (length ids - n) (drop n ids) ≡ drop n ids = take_rest ids n in
    let increasing : IsIncreasing (drop n ids) = subst (λ (k : ℕ). IsIncreasing (drop k ids)) (sym count) (back_increasing hash place ids inside c.requires.sorted c.requires.same read) in
    let same : AllSameUpTo (place + 1) (drop n ids) = subst (λ (k : ℕ). AllSameUpTo (place + 1) (drop k ids)) (sym count) (back_same hash place ids inside c.requires.sorted c.requires.same read) in
    (search rules, (search rules, (subst IsIncreasing (sym rest) increasing, (subst (AllSameUpTo (place + 1)) (sym rest) same, (subst (λ (l : List (List ℕ)). 0 < length l) (sym rest) some, omega arith)))))

pub returns : goal.returns
returns g t c =
    let hash = g.H.IdHash.hash_of c.args.hash.now in
    let ids = c.args.ids.now in
    let place = c.args.place in
    let n = c.count_without-count.result in
    let long : All (λ id. length id ≡ 32) ids = All-from_get_or (λ id. length id ≡ 32) ids [] c.told-ids in
    let more : 1 < length ids = omega (arith, c.if-ids-eq1.false, c.requires.some) in
    let inside : place < 256 = differs_inside place ids c.requires.place more c.requires.sorted long c.requires.same in
    let read : AllRead (place / 8) ids = all_read (place / 8) ids long c.count_without-count.ensures.bytes in
    let count = c.count_without-count.ensures.count in
    let some : 0 < length (without place ids) = omega (arith, count, c.if-count-eq0.false) in
    let less : length (without place ids) < length ids = omega (arith, count, c.count_without-count.ensures.within, c.if-count-ids.false) in
    let root = root_of_bits hash (256 - (place + 1)) in
    let left : c.root_from-left.result ≡ root (take (length (without place ids)) ids) = c.root_from-left.ensures ∙ ap (λ (k : ℕ). root (take k ids)) count in
    let right : c.root_from-right.result ≡ root (drop (length (without place ids)) ids) = c.root_from-right.ensures ∙ ap root (take_rest ids n) ∙ ap (λ (k : ℕ). root (drop k ids)) count in
    c.node.ensures ∙ (λ i. node hash (left i) (right i)) ∙ sym (split hash place ids inside c.requires.sorted c.requires.same read some less)
