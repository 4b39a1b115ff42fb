use Rattle.vm_run.proofs.Stretches.{held, anywhere, within_stretch, joined}
use Rattle.vm_run.proofs.laws.stretches.Goals as goal

pub returns : goal.returns
returns c = λ context check. record { held = held context check; anywhere = anywhere context check; within = within_stretch context check; joined = joined context check }
