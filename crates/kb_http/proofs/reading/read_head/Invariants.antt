use Rattle.std.proofs.Common.{◌≡◌, ◌≤◌, ◌-◌, length}
use Rattle.kb_http.specs.Private.Reading.{ReadsAhead}
use Rattle.kb_http.proofs.reading.read_head.Given as goal

abbrev pub invariant-looks : goal.invariant-looks
invariant-looks g l = record {
  ahead : ReadsAhead g.L.Link.left g.L.Link.written g.L.Link.output_faults l.fn.link l.link
      l.fn.pending.items l.pending.items;
  bounded : length l.pending.items ≤ 86016;
  calm : g.L.Link.input_faults l.link ≡ g.L.Link.input_faults l.fn.link;
}

abbrev pub decreases-looks : goal.decreases-looks
decreases-looks g l = 16384 - length l.pending.items
