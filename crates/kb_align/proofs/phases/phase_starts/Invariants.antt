-- The starts so far, and those of the phases that are left, are all starts.
use Rattle.std.proofs.Common.{◌≡◌, ◌++◌, drop, Some}
use Rattle.kb_align.specs.Phases.{starts_from}
use Rattle.kb_align.proofs.phases.phase_starts.Given as goal

abbrev pub invariant-loop-span : goal.invariant-loop-span
invariant-loop-span l =
    l.starts.items ++ starts_from l.start (drop l.span-index l.spans) ≡ starts_from (Some l.fn.anchor) l.spans
