use Rattle.kb_apply.proofs.Beside.{beside}
use Rattle.kb_apply.proofs.lanes.Lanes.drain_at.Goals as goal

pub returns-clause-drained : goal.returns-clause-drained
returns-clause-drained g c =
    beside _ c.args.place _ c.args.self.now _ c.is_full_step.result _ c.self.view_is c.is_full_step.ensures
    c.drain_in-step.ensures.drained
