use Rattle.kb_apply.proofs.Beside.{beside}
use Rattle.kb_apply.proofs.lanes.Lanes.perform_at.Goals as goal

pub returns-clause-performed : goal.returns-clause-performed
returns-clause-performed g c =
    beside _ c.args.place _ c.args.self.now _ c.is_full_reply.result _ c.self.view_is c.is_full_reply.ensures
    c.perform_in-reply.ensures.performed
