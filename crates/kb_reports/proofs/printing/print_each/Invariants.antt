-- What was printed and what is left to say give all.
use Rattle.std.proofs.Common.{ℕ, List, ◌≡◌, ◌++◌, drop, map}
use Rattle.std.specs.Io.KnownBytes.{Appends}
use Rattle.kb_lane.specs.Lanes.{machine_of}
use Rattle.kb_reports.specs.Listings.{report_text}
use Rattle.kb_reports.proofs.printing.print_each.Given as goal

abbrev pub invariant-loop-one : goal.invariant-loop-one
invariant-loop-one g l = record {
  said : (done : List ℕ) × Appends (g.O.Sink.written l.fn.output) (g.O.Sink.written l.output) done
      × (done ++ report_text (g.R.Report.said l.report) (map machine_of l.lanes) (drop l.one-index l.listed)
      ≡ report_text (g.R.Report.said l.report) (map machine_of l.lanes) l.listed);
  calm : g.O.Sink.faults l.output ≡ g.O.Sink.faults l.fn.output;
}
