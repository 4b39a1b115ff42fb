use Rattle.std.proofs.Common.{◌≡◌, refl}
use Rattle.entry_ids.specs.declared.input.Named.{Named}
use Rattle.wire.specs.Decisions.{failed}
use Rattle.wire.specs.Lists.{read_at}
use Rattle.tx_check.proofs.Everywhere.{not_more, not_contained, contained}
use Rattle.tx_check.proofs.names.has_name.Goals as goal

pub returns-then-same_name : goal.returns-then-same_name
returns-then-same_name c = (
  λ _. contained c.args.named.now c.loop-other.other-index c.args.name.now _
      (read_at c.args.named.now c.loop-other.other-index Named.Nothing c.loop-other-test.true)
      (c.if-same_name.ensures.0 refl),
  λ _. refl,
)

pub loop-other-preserved : goal.loop-other-preserved
loop-other-preserved c =
    not_more (λ other. other ≡ c.args.name.now) c.args.named.now c.loop-other.other-index _ c.loop-other.invariant
    (read_at c.args.named.now c.loop-other.other-index Named.Nothing c.loop-other-test.true)
    (λ e. failed (c.if-same_name.ensures.1 e))

pub returns : goal.returns
returns c =
    (λ e. absurd (failed e), λ h. absurd (not_contained c.args.named.now c.args.name.now c.loop-other.other-index c.loop-other-test.false c.loop-other.invariant h))
