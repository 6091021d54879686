-- Each cut so far is before the start or is kept.
use Rattle.kb_events.proofs.KeptCuts.{AreKept}
use Rattle.kb_events.proofs.ending.kept_until.Given as goal

abbrev pub invariant-loop-cut : goal.invariant-loop-cut
invariant-loop-cut l = AreKept l.catalog l.lead l.addon l.fn.start l.cuts l.cut-index
