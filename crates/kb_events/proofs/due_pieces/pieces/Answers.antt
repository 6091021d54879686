-- The pieces are those of the subscription at the place.
use Rattle.std.proofs.Common.{◌≡◌, Some, map, sym, subst, ◌∙◌}
use Rattle.std.proofs.lemmas.Result.{IfOk-weaker}
use Rattle.kb_days.specs.Calendar.{first_day, end_of_days}
use Rattle.kb_due.specs.Facts.{FactsValue, subscription_at}
use Rattle.kb_due.proofs.DueCells.{due_on-late}
use Rattle.kb_due.specs.CellStretches.{stretch_of}
use Rattle.kb_events.proofs.InCells.{IfOk-both, AreRuns-in_cells}
use Rattle.kb_events.proofs.OwnRuns.{pieces-own, pieces-longest, due_on-early}
use Rattle.kb_events.proofs.due_pieces.pieces.Goals as goal

pub returns : goal.returns
returns c =
    let facts = c.args.facts.now in
    let sub = c.args.sub in
    let billed = c.args.billed in
    let own = c.subscription-subscription.result.now in
    let member = c.subscription-subscription.ensures.member in
    let there = subst (λ (facts : FactsValue). subscription_at facts sub ≡ Some own) c.facts.view_is member in
    let same = sym (pieces-own facts sub billed own there) in
    let value = c.pieces_by.ensures.value in
    record {
      value = IfOk-weaker c.pieces_by.result _ _ (λ found told. told ∙ same) value;
      longest = IfOk-weaker c.pieces_by.result _ _ (λ found told.
          pieces-longest facts sub billed (map stretch_of found.items) (told ∙ same)) value;
      in_cells = IfOk-weaker c.pieces_by.result _ _ (λ found both.
          AreRuns-in_cells facts sub billed first_day end_of_days (map stretch_of found.items)
          (pieces-longest facts sub billed (map stretch_of found.items) (both.0 ∙ same)) both.1)
          (IfOk-both c.pieces_by.result _ _ value c.pieces_by.ensures.short);
      early = IfOk-weaker c.pieces_by.result _ _ (λ found told.
          due_on-early facts sub billed own there c.in_ok-course.ensures.named) value;
      late = IfOk-weaker c.pieces_by.result _ _ (λ found told. due_on-late facts sub billed) value;
    }
