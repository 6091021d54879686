-- The fees are those of the subscription at the place.
use Rattle.std.proofs.Common.{◌≡◌, Some, map, sym, subst, ◌∙◌}
use Rattle.std.proofs.lemmas.Result.{IfOk-weaker}
use Rattle.kb_days.specs.Calendar.{first_day, end_of_days}
use Rattle.kb_due.specs.Facts.{FactsValue, subscription_at}
use Rattle.kb_due.proofs.DueCells.{fee_on-late}
use Rattle.kb_due.specs.CellStretches.{stretch_of}
use Rattle.kb_events.proofs.FeesOfOneDay.{AreRuns-one_day}
use Rattle.kb_events.proofs.InCells.{AreRuns-in_fees}
use Rattle.kb_events.proofs.OwnRuns.{fees-own, fees-longest, fee_on-early}
use Rattle.kb_events.proofs.fee_pieces.fees.Goals as goal

pub returns : goal.returns
returns c =
    let facts = c.args.facts.now in
    let sub = c.args.sub in
    let billed = c.args.billed in
    let own = c.subscription-subscription.result.now in
    let member = c.subscription-subscription.ensures.member in
    let there = subst (λ (facts : FactsValue). subscription_at facts sub ≡ Some own) c.facts.view_is member in
    let same = sym (fees-own facts sub billed own there) in
    let value = c.fees_by.ensures in
    record {
      value = IfOk-weaker c.fees_by.result _ _ (λ found told. told ∙ same) value;
      longest = IfOk-weaker c.fees_by.result _ _ (λ found told.
          fees-longest facts sub billed (map stretch_of found.items) (told ∙ same)) value;
      one_day = IfOk-weaker c.fees_by.result _ _ (λ found told.
          AreRuns-one_day facts sub billed first_day end_of_days (map stretch_of found.items)
          (fees-longest facts sub billed (map stretch_of found.items) (told ∙ same))) value;
      in_cells = IfOk-weaker c.fees_by.result _ _ (λ found told.
          AreRuns-in_fees facts sub billed first_day end_of_days (map stretch_of found.items)
          (fees-longest facts sub billed (map stretch_of found.items) (told ∙ same))) value;
      early = IfOk-weaker c.fees_by.result _ _ (λ found told.
          fee_on-early facts sub billed own there c.in_ok-course.ensures.named) value;
      late = IfOk-weaker c.fees_by.result _ _ (λ found told. fee_on-late facts sub billed) value;
    }
