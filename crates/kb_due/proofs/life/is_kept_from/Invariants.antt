-- The days that are left are kept exactly if all are.
use Rattle.std.proofs.Common.{◌≡◌, ◌+◌, ◌-◌}
use Rattle.std.specs.List.{list_all, range_with_len}
use Rattle.kb_due.specs.Life.{is_kept_on}
use Rattle.kb_due.proofs.life.is_kept_from.Given as goal

abbrev pub invariant-loop-number : goal.invariant-loop-number
invariant-loop-number l =
    list_all (is_kept_on l.catalog l.lead l.addon) (range_with_len l.number (l.fn.day + 1 - l.number))
    ≡ list_all (is_kept_on l.catalog l.lead l.addon) (range_with_len l.fn.first (l.fn.day + 1 - l.fn.first))
