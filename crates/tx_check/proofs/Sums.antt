-- Sums of an asset, one value after the other.
use Rattle.std.proofs.Common.{◌≡◌, ℕ, ◌+◌, ◌*◌, ◌^◌, ◌<◌, ◌≤◌, Bool, true, false, List, [], length, take, refl, sym, ◌∙◌, ap, arith, take_all}
use Rattle.std.specs.Prelude.{bytes_eq, if◌then◌else◌}
use Rattle.std.specs.List.{sum_by}
use Rattle.std.proofs.lemmas.List.Sums.{fold_more}
use Rattle.data_model.specs.declared.input.Input.{Input}
use Rattle.data_model.specs.declared.output.Output.{Output}
use Rattle.tx_check.specs.Parts.{asset_in, amount_in}
use Rattle.tx_check.specs.Table.{units, sum_in, sum_out, asset_out, amount_out}
use Rattle.wire.specs.Lists.{StandsAt}

-- one value more
sum_more : {X : Type 0} (f : X → ℕ) (xs : List X) (i : ℕ) (x : X) → StandsAt xs i x → sum_by f (take (i + 1) xs) ≡ sum_by f (take i xs) + f x
sum_more f xs i x s = fold_more (λ a y. a + f y) 0 xs i x s.there ∙ ap (λ y. sum_by f (take i xs) + f y) (sym s.is)

pub sum_in_more : (asset : List ℕ) (inputs : List Input) (i : ℕ) (input : Input) → StandsAt inputs i input → sum_in asset (take (i + 1) inputs) ≡ sum_in asset (take i inputs) + units asset (asset_in input) (amount_in input)
unfolding sum_in
sum_in_more asset inputs i input s = sum_more (λ x. units asset (asset_in x) (amount_in x)) inputs i input s

pub sum_out_more : (asset : List ℕ) (outputs : List Output) (i : ℕ) (output : Output) → StandsAt outputs i output → sum_out asset (take (i + 1) outputs) ≡ sum_out asset (take i outputs) + units asset (asset_out output) (amount_out output)
unfolding sum_out
sum_out_more asset outputs i output s = sum_more (λ x. units asset (asset_out x) (amount_out x)) outputs i output s

pub sum_in_none : (asset : List ℕ) → sum_in asset [] ≡ 0
unfolding sum_in
sum_in_none asset = refl

pub sum_out_none : (asset : List ℕ) → sum_out asset [] ≡ 0
unfolding sum_out
sum_out_none asset = refl

-- a value of the asset counts, and another one does not
pub counts : (asset held : List ℕ) (amount : ℕ) (t : Bool) → t ≡ bytes_eq held asset → t ≡ true → units asset held amount ≡ amount
counts asset held amount t is e = ap (λ (b : Bool). if b then amount else 0) (sym is ∙ e)

pub counts_not : (asset held : List ℕ) (amount : ℕ) (t : Bool) → t ≡ bytes_eq held asset → t ≡ false → units asset held amount ≡ 0
counts_not asset held amount t is e = ap (λ (b : Bool). if b then amount else 0) (sym is ∙ e)

-- what is summed so far has room for one amount more: there are fewer than 2 ^ 64 values, each below 2 ^ 64
pub room : (sum i n amount : ℕ) → sum ≤ i * 18446744073709551615 → i < n → n < 2 ^ 64 → amount < 2 ^ 64 → sum + amount < 2 ^ 128
room sum i n amount s l m a = omega arith

pub sum_in_all : (asset : List ℕ) (inputs : List Input) (n : ℕ) → length inputs ≤ n → sum_in asset (take n inputs) ≡ sum_in asset inputs
sum_in_all asset inputs n l = ap (sum_in asset) (take_all n inputs l)

pub sum_out_all : (asset : List ℕ) (outputs : List Output) (n : ℕ) → length outputs ≤ n → sum_out asset (take n outputs) ≡ sum_out asset outputs
sum_out_all asset outputs n l = ap (sum_out asset) (take_all n outputs l)

-- one value more, which counts or does not
pub added : (sum before amount given counted : ℕ) → sum ≡ before → amount ≡ given → counted ≡ given → sum + amount ≡ before + counted
added sum before amount given counted s a c = (λ i. s i + (a ∙ sym c) i)

pub kept : (sum before counted : ℕ) → sum ≡ before → counted ≡ 0 → sum ≡ before + counted
kept sum before counted s c = omega arith
