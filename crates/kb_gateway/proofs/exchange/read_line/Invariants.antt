use Rattle.std.proofs.Common.{◌≡◌, ◌≤◌, ◌-◌, length}
use Rattle.std.specs.Io.KnownBytes.{Consumes}
use Rattle.kb_gateway.specs.Private.FirstLine.{BeginsLine}
use Rattle.kb_gateway.proofs.exchange.read_line.Given as goal

abbrev pub invariant-bytes : goal.invariant-bytes
invariant-bytes g l = record {
  few : length l.line.items ≤ 10;
  heard : Consumes (g.L.Link.left l.fn.link) (g.L.Link.left l.link) l.line.items;
  begins : BeginsLine (g.L.Link.left l.fn.link) (g.L.Link.left l.link) l.line.items;
  calm : g.L.Link.input_faults l.link ≡ g.L.Link.input_faults l.fn.link;
  output : g.L.Link.written l.link ≡ g.L.Link.written l.fn.link;
  output_calm : g.L.Link.output_faults l.link ≡ g.L.Link.output_faults l.fn.link;
}

abbrev pub decreases-bytes : goal.decreases-bytes
decreases-bytes g l = 10 - length l.line.items
