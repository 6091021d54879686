-- The plans that are left give what all give.
use Rattle.std.proofs.Common.{◌≡◌, drop}
use Rattle.std.specs.List.{position_from}
use Rattle.kb_catalog.specs.Plans.{is_asked}
use Rattle.kb_catalog.proofs.lookup.find_sold.Given as goal

abbrev pub invariant-loop-place : goal.invariant-loop-place
invariant-loop-place l =
    position_from (is_asked l.product l.period l.names) l.place (drop l.place l.plans)
    ≡ position_from (is_asked l.product l.period l.names) 0 l.plans
