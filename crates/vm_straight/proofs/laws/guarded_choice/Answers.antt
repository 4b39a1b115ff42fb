use Rattle.vm_straight.proofs.Choices.{only, enough}
use Rattle.vm_straight.proofs.laws.guarded_choice.Goals as goal

pub returns : goal.returns
returns c = λ context check. record {
  only = λ program depth number place pieces items chosen limit s.
      only c.known.ensures context check program s.long depth items chosen s.selects pieces number place limit s.few s.keep s.at;
  enough = λ program depth number place pieces items chosen limit due least s needs ends.
      enough c.known.ensures context check program s.long depth items chosen s.selects pieces number place limit due least s.few
      s.keep needs s.at ends;
}
