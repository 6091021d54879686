-- The fees of the days up to the last cut are told.
use Rattle.std.proofs.Common.{map}
use Rattle.kb_due.specs.CellStretches.{stretch_of}
use Rattle.kb_events.proofs.FeeDays.{AreFeesTold}
use Rattle.kb_events.proofs.fee_pieces.fees_by.Given as goal

abbrev pub invariant-loop-cut : goal.invariant-loop-cut
invariant-loop-cut l = AreFeesTold l.facts l.subscription l.fn.billed l.course.cuts.items l.cut-index l.from
    (map stretch_of l.found.items)
