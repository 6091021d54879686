-- The days up to the last cut are told, and it is known how the billing flag stands there.
use Rattle.std.proofs.Common.{map}
use Rattle.kb_due.specs.CellStretches.{stretch_of}
use Rattle.kb_events.specs.Private.Shorts.{AreShort}
use Rattle.kb_events.proofs.ToldDays.{IsTold}
use Rattle.kb_events.proofs.due_pieces.pieces_by.Given as goal

abbrev pub invariant-loop-cut : goal.invariant-loop-cut
invariant-loop-cut l =
    (IsTold l.facts l.subscription l.fn.sub l.fn.billed l.course.cuts.items l.course.turns.items l.course.end
    l.cut-index l.standing.day l.standing.blocked
    l.standing.turn (map stretch_of l.found.items))
    × AreShort (map stretch_of l.found.items)
