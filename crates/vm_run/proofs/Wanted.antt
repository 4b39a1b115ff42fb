-- What CHECKOUTPUT reads off a data stack.
use Rattle.std.proofs.Common.{◌≡◌, ℕ, ◌≤◌, List, [], length, Bool, Some, refl, sym, arith}
use Rattle.std.specs.Prelude.{slice_get}
use Rattle.std.proofs.lemmas.Bool.{le-leb}
use Rattle.std.proofs.lemmas.Option.{get_or_from_slice_get, slice_get_within}
use Rattle.vm_num.specs.Item.{Item}
use Rattle.vm_stack.specs.Stacks.{item_at}
use Rattle.vm_run.specs.Effect.{Row}
use Rattle.vm_run.specs.Introspection.{on_wanted, on_numbers}

pub record Six (items : List Item) (place refdata amount asset version program : Item) : Type 0 where
  pub there : 6 ≤ length items
  pub is_5 : item_at 5 items ≡ place
  pub is_4 : item_at 4 items ≡ refdata
  pub is_3 : item_at 3 items ≡ amount
  pub is_2 : item_at 2 items ≡ asset
  pub is_1 : item_at 1 items ≡ version
  pub is_0 : item_at 0 items ≡ program

pub six : (items : List Item) (place refdata amount asset version program : Item)
    → Some place ≡ slice_get items 5
    → Some refdata ≡ slice_get items 4
    → Some amount ≡ slice_get items 3
    → Some asset ≡ slice_get items 2
    → Some version ≡ slice_get items 1
    → Some program ≡ slice_get items 0
    → Six items place refdata amount asset version program
six items place refdata amount asset version program e5 e4 e3 e2 e1 e0 = record {
  there = omega (arith, slice_get_within items 5 place (sym e5));
  is_5 = get_or_from_slice_get items 5 place [] (sym e5);
  is_4 = get_or_from_slice_get items 4 refdata [] (sym e4);
  is_3 = get_or_from_slice_get items 3 amount [] (sym e3);
  is_2 = get_or_from_slice_get items 2 asset [] (sym e2);
  is_1 = get_or_from_slice_get items 1 version [] (sym e1);
  is_0 = get_or_from_slice_get items 0 program [] (sym e0);
}

pub on_six : (items : List Item) (place refdata amount asset version program : Item)
    → Six items place refdata amount asset version program
    → (rule : ℕ → Item → ℕ → Item → Bool → Item → Row) (alt : List Item)
    → on_wanted rule items alt ≡ on_numbers (λ p n v. rule p refdata n asset v program) place amount version
unfolding on_wanted
on_six items place refdata amount asset version program s rule alt =
    rw (le-leb 6 (length items) s.there) (rw (s.is_5, s.is_4, s.is_3, s.is_2, s.is_1, s.is_0) refl)
