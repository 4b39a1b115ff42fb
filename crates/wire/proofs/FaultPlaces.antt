-- A fault stands at one of the bytes, or at their end.
use Rattle.std.proofs.Common.{ℕ, zero, suc, Bool, true, false, ◌+◌, ◌≤◌, List, ◌∷◌, ◌++◌, length, Option, ap, inl, inr, arith}
use Rattle.std.proofs.lemmas.List.{length-append}
use Rattle.wire.specs.declared.fault.DataKind.{DataKind}
use Rattle.wire.specs.Spelling.{varint, varstring}
use Rattle.wire.specs.Layout.{Layout, Nothing, Number, Amount, Raw, Text, Then, Many, Kinds, Frame, ByteOf, U32, Given, When, Fits, spelling}
use Rattle.wire.specs.FirstFault.{Faults, FaultHere, BehindValue, RoomFault, FitsRoom, ItemsFault, WholeFault, InFrame, WhenFault, FirstFault, FirstFaultOfAll}

abbrev StandsWithin : Faults → Type 0
StandsWithin F = (bytes : List ℕ) (at : ℕ) (kind : DataKind) → F bytes at kind → at ≤ length bytes

here_within : (F : List ℕ → DataKind → Type 0) → StandsWithin (FaultHere F)
here_within F bytes at why h = omega (arith, h.at_front)

value_within : {X : Type 0} (fits : X → Type 0) (spell : X → List ℕ) (F : X → Faults) → ((x : X) → StandsWithin (F x)) → StandsWithin (BehindValue fits spell F)
value_within fits spell F each bytes at why h =
    let b = h.behind in
    omega (arith, b.further, each h.value h.rest b.place why b.fault, ap length b.spelled, length-append (spell h.value) h.rest)

module _ {X : Type 0} (fits : X → Type 0) (spell : X → List ℕ) (F : Faults) (each : StandsWithin F) where
  items_within : (room : Option ℕ) (n used : ℕ) → StandsWithin (ItemsFault fits spell F room n used)
  items_within room zero used bytes at why h = absurd h
  items_within room (suc n) used bytes at why (inl h) = each bytes at why h
  items_within room (suc n) used bytes at why (inr (inl h)) = here_within (RoomFault fits spell room used) bytes at why h
  items_within room (suc n) used bytes at why (inr (inr h)) =
      value_within (FitsRoom fits spell room used) spell _ (λ x. items_within room n (used + length (spell x))) bytes at why h

  whole_within : StandsWithin (WholeFault fits spell F)
  whole_within bytes at why (inl h) = each bytes at why h
  whole_within bytes at why (inr h) = omega (arith, h.at_end, ap length h.spelled, length-append (spell h.value) (h.first ∷ h.rest))

frame_within : (most : ℕ) (F : Faults) → StandsWithin F → StandsWithin (InFrame most F)
unfolding varstring
frame_within most F each bytes at why h =
    omega (arith, h.further, each h.held h.place why h.fault, ap length h.spelled, length-append (varint (length h.held) ++ h.held) h.rest, length-append (varint (length h.held)) h.held)

when_within : (there : Bool) (F : Faults) → StandsWithin F → StandsWithin (WhenFault there F)
when_within true F each bytes at why h = each bytes at why h
when_within false F each bytes at why h = absurd h

pub fault_within : (layout : Layout) → StandsWithin (FirstFault layout)
fault_within Nothing bytes at why h = absurd h
fault_within (Number most) bytes at why h = here_within _ bytes at why h
fault_within (Amount most) bytes at why h = here_within _ bytes at why h
fault_within (Raw len) bytes at why h = here_within _ bytes at why h
fault_within (Text most) bytes at why h = here_within _ bytes at why h
fault_within (Then first second) bytes at why (inl h) = fault_within first bytes at why h
fault_within (Then first second) bytes at why (inr h) = value_within _ _ _ (λ x. fault_within second) bytes at why h
fault_within (Many most room each) bytes at why (inl h) = here_within _ bytes at why h
fault_within (Many most room each) bytes at why (inr h) =
    value_within _ _ _ (λ n. items_within (Fits each) (spelling each) (FirstFault each) (fault_within each) room n 0) bytes at why h
fault_within (Kinds count kind) bytes at why (inl h) = here_within _ bytes at why h
fault_within (Kinds count kind) bytes at why (inr h) = value_within _ _ _ (λ k. fault_within (kind k)) bytes at why h
fault_within (Frame most held) bytes at why (inl h) = here_within _ bytes at why h
fault_within (Frame most held) bytes at why (inr h) =
    frame_within most _ (whole_within (Fits held) (spelling held) (FirstFault held) (fault_within held)) bytes at why h
fault_within (ByteOf allowed) bytes at why h = here_within _ bytes at why h
fault_within U32 bytes at why h = here_within _ bytes at why h
fault_within (Given most rest) bytes at why (inl h) = here_within _ bytes at why h
fault_within (Given most rest) bytes at why (inr h) = value_within _ _ _ (λ n. fault_within (rest n)) bytes at why h
fault_within (When there field) bytes at why h = when_within there (FirstFault field) (fault_within field) bytes at why h

pub all_within : (layout : Layout) → StandsWithin (FirstFaultOfAll layout)
all_within layout = whole_within (Fits layout) (spelling layout) (FirstFault layout) (fault_within layout)
