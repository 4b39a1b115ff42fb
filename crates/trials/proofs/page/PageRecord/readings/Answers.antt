use Rattle.trials.proofs.Pages.{page_reader}
use Rattle.trials.proofs.page.PageRecord.readings.Goals as goal

pub returns : goal.returns
returns c = page_reader c.layout_readings.ensures
