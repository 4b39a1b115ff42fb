-- Values of which it is decided whether they are equal.
use Rattle.std.proofs.Common.{◌≡◌, ℕ, List, refl, ap, inl, inr}
use Rattle.data_model.specs.declared.output_body.OutputBody.{OutputBody}
use Rattle.entry_ids.specs.declared.input.Named.{Named}
use Rattle.tx_check.specs.View.{Unspent}
use Rattle.wire.specs.Decisions.{Decided, bytes_decided, nat_decided, both_decided}

pub named_decided : (a b : Named) → Decided (a ≡ b)
named_decided Named.Nothing Named.Nothing = inl refl
named_decided Named.Nothing (Named.Nonce b) = inr (λ e. cc)
named_decided Named.Nothing (Named.Output b) = inr (λ e. cc)
named_decided (Named.Nonce a) Named.Nothing = inr (λ e. cc)
named_decided (Named.Nonce a) (Named.Nonce b) = elim (bytes_decided a b) [
  | inl e ↦ inl (ap (λ (id : List ℕ). Named.Nonce id) e)
  | inr n ↦ inr (λ e. n (cc))
]
named_decided (Named.Nonce a) (Named.Output b) = inr (λ e. cc)
named_decided (Named.Output a) Named.Nothing = inr (λ e. cc)
named_decided (Named.Output a) (Named.Nonce b) = inr (λ e. cc)
named_decided (Named.Output a) (Named.Output b) = elim (bytes_decided a b) [
  | inl e ↦ inl (ap (λ (id : List ℕ). Named.Output id) e)
  | inr n ↦ inr (λ e. n (cc))
]

abbrev SameFields : OutputBody → OutputBody → Type 0
SameFields a b =
    ((a.source ≡ b.source) × (a.position ≡ b.position))
    × (((a.asset ≡ b.asset) × (a.amount ≡ b.amount)) × ((a.program ≡ b.program) × (a.data_hash ≡ b.data_hash)))

made_same : (a b : OutputBody) → SameFields a b → a ≡ b
made_same a b h = λ i. record {
  source = h.0.0 i;
  position = h.0.1 i;
  asset = h.1.0.0 i;
  amount = h.1.0.1 i;
  program = h.1.1.0 i;
  data_hash = h.1.1.1 i;
}

fields_same : (a b : OutputBody) → a ≡ b → SameFields a b
fields_same a b e = (
  (ap (λ (x : OutputBody). x.source) e, ap (λ (x : OutputBody). x.position) e),
  (
    (ap (λ (x : OutputBody). x.asset) e, ap (λ (x : OutputBody). x.amount) e),
    (ap (λ (x : OutputBody). x.program) e, ap (λ (x : OutputBody). x.data_hash) e),
  ),
)

pub body_decided : (a b : OutputBody) → Decided (a ≡ b)
body_decided a b = elim fields [
  | inl h ↦ inl (made_same a b h)
  | inr n ↦ inr (λ e. n (fields_same a b e))
]
  where
    fields : Decided (SameFields a b)
    fields =
        both_decided (both_decided (bytes_decided a.source b.source) (nat_decided a.position b.position))
        (both_decided (both_decided (bytes_decided a.asset b.asset) (nat_decided a.amount b.amount))
        (both_decided (bytes_decided a.program b.program) (bytes_decided a.data_hash b.data_hash)))

pub unspent_decided : (a b : Unspent) → Decided (a ≡ b)
unspent_decided a b = elim (both_decided (bytes_decided a.id b.id) (body_decided a.body b.body)) [
  | inl h ↦ inl (λ i. record { id = h.0 i; body = h.1 i })
  | inr n ↦ inr (λ e. n (ap (λ (x : Unspent). x.id) e, ap (λ (x : Unspent). x.body) e))
]
