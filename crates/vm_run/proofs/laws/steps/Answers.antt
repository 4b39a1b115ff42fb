use Rattle.vm_run.proofs.Runs.{steps-cost, steps-inside}
use Rattle.vm_run.proofs.Stretches.{and_steps, then_run}
use Rattle.vm_run.proofs.laws.steps.Goals as goal

pub returns : goal.returns
returns c = λ context check program.
    record {
      costs = steps-cost context check program;
      inside = steps-inside context check program;
      joined = and_steps context check program;
      then_run = then_run context check program;
    }
