use Rattle.std.proofs.Common.{sym}
use Rattle.kb_lane.proofs.Choices.{chosen_some}
use Rattle.kb_lane.proofs.settlement.Settlements.chosen.Goals as goal

pub returns-in-Some : goal.returns-in-Some
returns-in-Some c = λ machine today account key are. chosen_some machine today account key c.args.self are
    c.one_of.result c.args.answer c.in-Some.place (sym c.in-Some.ensures.place) c.one_of.ensures
