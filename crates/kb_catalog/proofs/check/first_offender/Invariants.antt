use Rattle.std.proofs.Common.{◌≡◌, ◌-◌}
use Rattle.kb_base.specs.Offenders.{first_place_from}
use Rattle.kb_catalog.specs.VersionRules.{is_broken_at, places, first_offender}
use Rattle.kb_catalog.proofs.check.first_offender.Given as goal

abbrev pub invariant-loop-place : goal.invariant-loop-place
invariant-loop-place l =
    first_place_from (is_broken_at l.version l.rule) l.place (places l.version l.rule - l.place)
    ≡ first_offender l.version l.rule
