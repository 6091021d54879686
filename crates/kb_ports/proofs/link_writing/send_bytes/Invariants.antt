use Rattle.std.proofs.Common.{length, take, ◌≡◌, ◌-◌, ◌≤◌}
use Rattle.std.specs.Io.KnownBytes.{Appends}
use Rattle.kb_ports.proofs.link_writing.send_bytes.Given as goal

abbrev pub invariant-loop-taken : goal.invariant-loop-taken
invariant-loop-taken g l = record {
  in_range : l.taken ≤ length l.bytes;
  written : Appends (g.L.Link.written l.fn.link) (g.L.Link.written l.link) (take l.taken l.bytes);
  calm : g.L.Link.output_faults l.link ≡ g.L.Link.output_faults l.fn.link;
  input : g.L.Link.left l.link ≡ g.L.Link.left l.fn.link;
  input_calm : g.L.Link.input_faults l.link ≡ g.L.Link.input_faults l.fn.link;
}

abbrev pub decreases-loop-taken : goal.decreases-loop-taken
decreases-loop-taken g l = length l.bytes - l.taken
