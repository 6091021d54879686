-- The fees and the pieces are those of the subscription at the place.
use Rattle.std.proofs.Common.{◌≡◌, Some, map, sym, subst, ◌∙◌}
use Rattle.kb_days.specs.Calendar.{first_day, end_of_days}
use Rattle.kb_due.specs.Facts.{FactsValue, subscription_at}
use Rattle.kb_due.proofs.DueCells.{due_on-late, fee_on-late}
use Rattle.kb_due.specs.CellStretches.{stretch_of}
use Rattle.kb_events.proofs.FeesOfOneDay.{AreRuns-one_day}
use Rattle.kb_events.proofs.InCells.{AreRuns-in_cells, AreRuns-in_fees}
use Rattle.kb_events.proofs.OwnRuns.{pieces-own, pieces-longest, due_on-early}
use Rattle.kb_events.proofs.OwnRuns.{fees-own, fees-longest, fee_on-early}
use Rattle.kb_events.proofs.charges.fees_and_pieces.Goals as goal

pub returns : goal.returns
returns c =
    let facts = c.args.facts.now in
    let sub = c.args.sub in
    let billed = c.args.billed in
    let own = c.subscription-subscription.result.now in
    let member = c.subscription-subscription.ensures.member in
    let there = subst (λ (facts : FactsValue). subscription_at facts sub ≡ Some own) c.facts.view_is member in
    let named = c.in_ok-course.ensures.named in
    let once = map stretch_of c.in_ok-fees.fees.items in
    let fees = c.in_ok-fees.ensures ∙ sym (fees-own facts sub billed own there) in
    let fee_runs = fees-longest facts sub billed once fees in
    let found = map stretch_of c.in_ok-pieces.pieces.items in
    let pieces = c.in_ok-pieces.ensures.value ∙ sym (pieces-own facts sub billed own there) in
    let runs = pieces-longest facts sub billed found pieces in
    record {
      fees = fees;
      fees_longest = fee_runs;
      one_day = AreRuns-one_day facts sub billed first_day end_of_days once fee_runs;
      fees_in_cells = AreRuns-in_fees facts sub billed first_day end_of_days once fee_runs;
      fees_early = fee_on-early facts sub billed own there named;
      fees_late = fee_on-late facts sub billed;
      pieces = pieces;
      longest = runs;
      in_cells =
          AreRuns-in_cells facts sub billed first_day end_of_days found runs c.in_ok-pieces.ensures.short;
      early = due_on-early facts sub billed own there named;
      late = due_on-late facts sub billed;
    }
