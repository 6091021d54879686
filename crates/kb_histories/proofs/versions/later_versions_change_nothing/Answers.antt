use Rattle.kb_histories.proofs.LaterDues.{dues_stay, fees_stay}
use Rattle.kb_histories.proofs.LaterTotals.{totals_stay}
use Rattle.kb_histories.proofs.versions.later_versions_change_nothing.Goals as goal

pub returns : goal.returns
returns c = record { dues = dues_stay; fees = fees_stay; totals = totals_stay }
