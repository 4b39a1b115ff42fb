use Rattle.trials.proofs.Pages.{entry_reader}
use Rattle.trials.proofs.page.EntryRecord.readings.Goals as goal

pub returns : goal.returns
returns c = entry_reader c.layout_readings.ensures
