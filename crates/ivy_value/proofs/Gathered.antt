-- What a loop has gathered, and what is still to come.
use Rattle.std.proofs.Common.{◌≡◌, List, [], ◌++◌, Option, Some, None, option_map, refl, ap, sym}
use Rattle.std.proofs.lemmas.List.{append_assoc}
use Rattle.ivy_value.specs.Lowered.{followed_by}

-- these, and what is still to come
abbrev pub after : {A : Type 0} → List A → Option (List A) → Option (List A)
after items rest = option_map (λ more. items ++ more) rest

pub nothing_yet : {A : Type 0} (o : Option (List A)) → o ≡ after [] o
nothing_yet None = refl
nothing_yet (Some items) = refl

pub none_after : {A : Type 0} (items : List A) (rest : Option (List A)) → None ≡ after items (followed_by None rest)
none_after items rest = refl

pub one_after : {A : Type 0} (items more : List A) (rest : Option (List A))
    → after items (followed_by (Some more) rest) ≡ after (items ++ more) rest
one_after items more None = refl
one_after items more (Some rest) = ap (λ (l : List _). Some l) (sym (append_assoc items more rest))
