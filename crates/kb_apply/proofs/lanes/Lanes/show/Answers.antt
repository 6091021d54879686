use Rattle.std.proofs.Common.{length, ap, subst, ◌∙◌}
use Rattle.kb_book.specs.Rows.{IsUnprepared}
use Rattle.kb_desk.specs.Lanes.{lane_of}
use Rattle.kb_desk.proofs.GoneOn.{lane_there}
use Rattle.kb_apply.proofs.Served.{shown_memory, shown_refusal, shown_view}
use Rattle.kb_apply.proofs.lanes.Lanes.show.Goals as goal

pub returns-in-Ok : goal.returns-in-Ok
returns-in-Ok g c = rw (← c.self.view_is) (
  c.index.result.now,
  lane_there c.self.inside.lanes.items c.place_of-place.result c.index.result.now _
      (rw (c.count-count.ensures.count, ← c.self.view_is) at c.place_of-place.ensures.within) c.index.ensures
      (rw (← c.self.view_is) at ((rw c.count-count.ensures.count at c.place_of-place.ensures.place)
      ∙ ap (λ account. lane_of account (length c.args.self.now.lanes)) c.account_asked.ensures)),
  shown_view _ c.in-Ok.view c.in-Ok.ensures.shown,
)

pub returns-in-Err-Refused : goal.returns-in-Err-Refused
returns-in-Err-Refused g c = rw (← c.self.view_is) (
  c.index.result.now,
  lane_there c.self.inside.lanes.items c.place_of-place.result c.index.result.now _
      (rw (c.count-count.ensures.count, ← c.self.view_is) at c.place_of-place.ensures.within) c.index.ensures
      (rw (← c.self.view_is) at ((rw c.count-count.ensures.count at c.place_of-place.ensures.place)
      ∙ ap (λ account. lane_of account (length c.args.self.now.lanes)) c.account_asked.ensures)),
  shown_refusal _ c.in-Err-Refused.refusal
      (subst (IsUnprepared _) c.in-Err-Refused.field-0-is c.in-Err-Refused.ensures.refused),
)

pub returns-in-Err-NoMemory : goal.returns-in-Err-NoMemory
returns-in-Err-NoMemory g c = rw (← c.self.view_is) (
  c.index.result.now,
  lane_there c.self.inside.lanes.items c.place_of-place.result c.index.result.now _
      (rw (c.count-count.ensures.count, ← c.self.view_is) at c.place_of-place.ensures.within) c.index.ensures
      (rw (← c.self.view_is) at ((rw c.count-count.ensures.count at c.place_of-place.ensures.place)
      ∙ ap (λ account. lane_of account (length c.args.self.now.lanes)) c.account_asked.ensures)),
  shown_memory _,
)
