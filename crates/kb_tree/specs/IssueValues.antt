-- What is issued, as the rules tell it.
use Rattle.std.specs.Arc.{arc_value}
use Rattle.kb_tree.specs.declared.issue.Issue.{Issue}
use Rattle.kb_tree.specs.Issues as told

-- its lines, and what is charged to each subscription with them
abbrev pub issue_of : Issue → told.Issue
issue_of issue = record { lines = issue.lines.items; charges = (arc_value issue.charges).items }
