use Rattle.std.proofs.Common.{◌≡◌, ◌≤◌, ◌-◌, length}
use Rattle.kb_http.specs.Private.Reading.{ReadsAhead}
use Rattle.kb_http.proofs.reading.read_to_mark.Given as goal

abbrev pub invariant-reads : goal.invariant-reads
invariant-reads g l = record {
  ahead : ReadsAhead g.L.Link.left g.L.Link.written g.L.Link.output_faults l.fn.link l.link
      l.fn.pending.items l.pending.items;
  before : l.before ≤ length l.pending.items;
  bounded : length l.pending.items ≤ 20480;
  calm : g.L.Link.input_faults l.link ≡ g.L.Link.input_faults l.fn.link;
}

abbrev pub decreases-reads : goal.decreases-reads
decreases-reads g l = 16384 - length l.pending.items
