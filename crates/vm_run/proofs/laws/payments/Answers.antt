use Rattle.std.proofs.Common.{refl}
use Rattle.vm_run.specs.Moves.{short_of_base, short_of_price, goes, short_of_call, opens_child}
use Rattle.vm_run.proofs.laws.payments.Goals as goal

pub returns : goal.returns
returns c = λ behind items alt limit.
    record {
      fails = λ kind. refl;
      short_of_base = short_of_base behind limit items alt;
      short_of_price = short_of_price behind limit items alt;
      goes = goes behind limit items alt;
      short_of_call = short_of_call behind limit items alt;
      opens = opens_child behind limit items alt;
    }
