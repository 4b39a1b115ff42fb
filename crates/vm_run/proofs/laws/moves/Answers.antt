use Rattle.std.proofs.Common.{Ok, Err}
use Rattle.vm_run.specs.Moves.{move-read}
use Rattle.vm_run.proofs.laws.moves.Goals as goal

pub returns : goal.returns
returns c = λ context check program place.
    record {
      read = λ items alt limit i is. move-read context check program place items alt limit (Ok i) is;
      misread = λ items alt limit why is. move-read context check program place items alt limit (Err why) is;
    }
