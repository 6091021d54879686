use Rattle.kb_apply.proofs.Beside.{beside}
use Rattle.kb_apply.proofs.lanes.Lanes.look_up_at.Goals as goal

pub returns-clause-looked : goal.returns-clause-looked
returns-clause-looked g c =
    beside _ c.args.place _ c.args.self.now _ c.is_full_step.result _ c.self.view_is c.is_full_step.ensures
    c.look_up_in-step.ensures.looked
