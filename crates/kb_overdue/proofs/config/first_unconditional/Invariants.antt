use Rattle.std.proofs.Common.{◌≡◌, ◌-◌, length}
use Rattle.kb_base.specs.Offenders.{first_place_from}
use Rattle.kb_overdue.specs.declared.config.ConfigRule.TheVariants.{Conditions}
use Rattle.kb_overdue.specs.ConfigRules.{is_broken_at, first_offender}
use Rattle.kb_overdue.proofs.config.first_unconditional.Given as goal

abbrev pub invariant-loop-place : goal.invariant-loop-place
invariant-loop-place l =
    first_place_from (is_broken_at l.states Conditions) l.place (length l.states - l.place)
    ≡ first_offender l.states Conditions
