use Rattle.std.proofs.Common.{◌≡◌, ◌-◌, length}
use Rattle.kb_base.specs.Private.Midstream.{IsAt}
use Rattle.kb_runs.specs.Reading.{Transfers, max_input}
use Rattle.kb_runs.proofs.reading.run_lines.Given as goal

abbrev pub invariant-reads : goal.invariant-reads
invariant-reads g l = record {
  answered : Transfers (g.I.Source.left l.fn.input) (g.I.Source.left l.input) (g.O.Sink.written l.fn.output)
      (g.O.Sink.written l.output)
      (λ bytes text. (length bytes ≡ l.seen)
      × IsAt g.M.LineMachine.machine l.fn.machine bytes l.machine l.pending.items text);
  input_calm : g.I.Source.faults l.input ≡ g.I.Source.faults l.fn.input;
  output_calm : g.O.Sink.faults l.output ≡ g.O.Sink.faults l.fn.output;
}

abbrev pub decreases-reads : goal.decreases-reads
decreases-reads g l = max_input - l.seen
