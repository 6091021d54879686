use Rattle.std.proofs.Common.{◌≡◌, drop}
use Rattle.std.specs.List.{list_any}
use Rattle.kb_overdue.specs.ConfigRules.{has_name_of}
use Rattle.kb_overdue.proofs.config.has_name_among.Given as goal

abbrev pub invariant-loop-other : goal.invariant-loop-other
invariant-loop-other l =
    list_any (has_name_of l.state) (drop l.other-index l.states) ≡ list_any (has_name_of l.state) l.states
