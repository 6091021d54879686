-- What is issued so far, and then for the subscriptions that are left, is all; and all numbers are below the
-- next.
use Rattle.std.proofs.Common.{◌≡◌, ◌+◌, ◌*◌, ◌≤◌, drop, length, All}
use Rattle.kb_days.specs.Calendar.{first_day, charged_days}
use Rattle.kb_tree.specs.Issues.{both_issues, issue_from}
use Rattle.kb_tree.specs.Numbers.{AreBelow}
use Rattle.kb_tree.specs.ItemLines.{IsItemLine}
use Rattle.kb_tree.proofs.issue.issue_due.Given as goal

abbrev pub invariant-loop-items : goal.invariant-loop-items
invariant-loop-items g l =
    (l.sub ≡ l.items-index)
    × (length l.lines.items ≤ 4 * charged_days * l.items-index)
    × (l.steps ≡ l.fn.steps)
    × All (AreBelow (l.first + length l.lines.items)) l.all.items
    × (both_issues (record { lines = l.lines.items; charges = l.all.items })
    (issue_from l.facts l.billed first_day charged_days (l.first + length l.lines.items) l.items-index
    (drop l.items-index l.charges))
    ≡ issue_from l.facts l.billed first_day charged_days l.first 0 l.charges)
    × All IsItemLine l.lines.items
