use Rattle.std.proofs.Common.{ap, sym, ◌∙◌, length}
use Rattle.kb_journal.specs.Format.{body}
use Rattle.kb_journal.proofs.Bodies.{length-body-nil}
use Rattle.kb_codec.specs.Entries.{History, payloads}
use Rattle.kb_lane.proofs.log.Log.create.Goals as goal

pub opened-requires-clause-measured : goal.opened-requires-clause-measured
opened-requires-clause-measured g c =
    let lanes = c.in-Ok.journal.lanes in
    let lane = c.in-Ok.journal.lane in
    ap (λ journal. journal.gate) c.in-Ok.ensures.made ∙ sym (length-body-nil lanes lane)
    ∙ ap (λ (past : History). length (body lanes lane (payloads past))) (sym c.new.ensures)
