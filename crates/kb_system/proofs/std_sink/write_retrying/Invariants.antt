use Rattle.std.specs.Io.KnownBytes.{Keeps}
use Rattle.kb_system.proofs.std_sink.write_retrying.Given as goal

-- an interrupted write put nothing
abbrev pub invariant-loop : goal.invariant-loop
invariant-loop g l = Keeps (g.W.Write.contents l.initial.writer) (g.W.Write.contents l.writer)
